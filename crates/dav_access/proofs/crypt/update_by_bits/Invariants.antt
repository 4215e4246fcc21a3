use Rattle.std.proofs.Common.{◌≡◌, ℕ, ◌/◌, ◌%◌, ◌^◌, ◌==◌, List, ◌++◌, if◌then◌else◌, length}
use Rattle.std.specs.List.{flat_map, range_with_len}
use Rattle.sha2.specs.Hashers.{Holds256}
use Rattle.dav_access.proofs.crypt.update_by_bits.Given as goal

abbrev pub invariant-loop-i : goal.invariant-loop-i
invariant-loop-i l =
    (l.bits ≡ length l.password / 2 ^ l.i)
    × ((m : List ℕ) → Holds256 l.fn.hasher m
    → Holds256 l.hasher (m ++ flat_map (λ i. if length l.password / 2 ^ i % 2 == 1 then l.digest else l.password) (range_with_len 0 l.i)))
