-- What the parts of telling times suppose of each other.
use Rattle.std.specs.Prelude.{⊤, ◌≤◌, IfSome}
use Rattle.dav_core.specs.World.{last_moment}
use Rattle.dav_presented.specs.declared.times.Telling.{Telling}
use Rattle.dav_presented.specs.declared.times.Telling.TheVariants.{Found, Outcome}

-- the time that is told is one that HTTP can write: of the year 9999 or before (RFC 9110, section 5.6.7)
abbrev pub IsDated : Telling → Type 0
IsDated (Found times) = IfSome times (λ times. times.0 ≤ last_moment)
IsDated Outcome = ⊤
