use Rattle.std.proofs.Common.{List, ℕ, ◌++◌}
use Rattle.std.specs.List.{repeat}
use Rattle.sha2.specs.Hashers.{Holds256}
use Rattle.dav_access.proofs.crypt.update_repeated.Given as goal

abbrev pub invariant-loop-i : goal.invariant-loop-i
invariant-loop-i l = (m : List ℕ) → Holds256 l.fn.hasher m → Holds256 l.hasher (m ++ repeat l.i l.bytes)
