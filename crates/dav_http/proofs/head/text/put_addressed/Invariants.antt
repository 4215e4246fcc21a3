-- What was added so far, and what is left to be added, is the whole.
use Rattle.std.proofs.Common.{◌≡◌, ◌++◌, false, length}
use Rattle.dav_http.specs.Kept.{addressed}
use Rattle.dav_http.proofs.head.text.put_addressed.Given as goal

abbrev pub invariant-loop-byte : goal.invariant-loop-byte
invariant-loop-byte l = l.out.items ++ addressed l.quoted l.rest ≡ l.fn.out.items ++ addressed false l.fn.value

abbrev pub decreases-loop-byte : goal.decreases-loop-byte
decreases-loop-byte l = length l.rest
