-- What was passed over are angle brackets.
use Rattle.std.proofs.Common.{◌≡◌, ◌++◌, ℕ, List, All, length}
use denote.Shadow.{shadow}
use denote.Text.{Utf8}
use Rattle.dav_engine.specs.LockToken.{IsAngle}
use Rattle.dav_engine.proofs.lock_token.after_angles.Given as goal

abbrev pub invariant-loop-more : goal.invariant-loop-more
invariant-loop-more l = shadow (Utf8 l.rest) × (front : List ℕ) × All IsAngle front × (l.text ≡ front ++ l.rest)

abbrev pub decreases-loop-more : goal.decreases-loop-more
decreases-loop-more l = length l.rest
