-- The paths at which a request may change something, by what its head asks for (RFC 4918, sections 9.1 to 9.11).
use Rattle.std.specs.Prelude.{◌&&◌, ◌||◌, Bool, true, false, not, Option, Some, None}
use Rattle.dav_core.specs.declared.method.DavMethod.{DavMethod}
use Rattle.dav_core.specs.declared.method.DavMethod.TheVariants.{Copy, Move}
use Rattle.dav_core.specs.Path.{Path, PathText, is_at_or_under, is_same_path, names}
use Rattle.dav_server.specs.Machine.{Exchange, Settings}
use Rattle.dav_confined.specs.Asked.{AskedView, IsAsked, IsUnread}
use Rattle.dav_confined.specs.ConfinedSteps.{KeepsOff, changes_below, changes_target}

-- whether a method changes what is at its destination and below it
abbrev pub changes_destination : DavMethod → Bool
changes_destination Copy = true
changes_destination Move = true
changes_destination _ = false

-- whether a path is at this one or below it, if there is one
abbrev pub is_at_or_under_any : Path → Option PathText → Bool
is_at_or_under_any q None = false
is_at_or_under_any q (Some d) = is_at_or_under q (names d)

-- whether what is asked may change something at a path: at its target, at it or below it, or at its destination or below that, as its
-- method says
abbrev pub reaches : AskedView → Path → Bool
reaches a q =
    (changes_target a.method && is_same_path q (names a.path))
    || ((changes_below a.method && is_at_or_under q (names a.path)) || (changes_destination a.method && is_at_or_under_any q a.destination))

-- A request keeps off each path that what is asked doesn't reach.
abbrev pub KeepsOffUnreached : Type 0
KeepsOffUnreached = (s : Settings) (x : Exchange) (a : AskedView) → IsAsked s x a → KeepsOff (λ q. not (reaches a q)) s x

-- A request that isn't read keeps off all paths.
abbrev pub UnreadKeepsOff : Type 0
UnreadKeepsOff = (covered : Path → Bool) (s : Settings) (x : Exchange) → IsUnread s x → KeepsOff covered s x
