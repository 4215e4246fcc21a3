use Rattle.std.proofs.Common.{◌≡◌, ℕ, ◌<◌, get_or, false}
use Rattle.dav_presented.specs.Types.{ends_type}
use Rattle.dav_presented.proofs.types.essence.Given as goal

abbrev pub invariant-loop-i : goal.invariant-loop-i
invariant-loop-i l = (k : ℕ) → k < l.i → ends_type (get_or l.kind k 0) ≡ false
