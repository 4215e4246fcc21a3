-- What holds of servers that have some folders alone: their answers tell of what is in these, and of nothing else, and their changes stay
-- in these.
use Rattle.std.specs.Prelude.{◌≡◌, ◌≢◌, ◌≤◌, true, false, not, List, None, Some}
use Rattle.dav_core.specs.Asking.{StoreState}
use Rattle.dav_core.specs.Locks.{Lock}
use Rattle.dav_core.specs.Path.{PathText, star}
use Rattle.dav_core.specs.World.{IsWorld, last_moment}
use Rattle.dav_engine.specs.Plan.{Locks}
use Rattle.dav_engine.specs.Reply.{Reply}
use Rattle.dav_engine.specs.Sparing.{Spared}
use Rattle.dav_server.specs.Machine.{Exchange, Settings, Steps, StepCut}
use Rattle.dav_server.specs.TagLaws.{is_safe}
use Rattle.dav_confined.specs.Asked.{AskedView, IsAsked}
use Rattle.dav_confined.specs.Seen.{AgreeAt, CoverAlike}
use Rattle.dav_shards.specs.Shards.{elsewhere, is_here}

-- the machine reads this in the bytes of a request, and no part of it names what is elsewhere
abbrev pub IsHere : List PathText → Settings → Exchange → AskedView → Type 0
IsHere folders s x a = IsAsked s x a × (elsewhere folders a ≡ None)

-- Two servers that agree at these folders and below them, in what is there and in the locks that cover it, give the same reply, byte for
-- byte, to each GET, HEAD, OPTIONS or PROPFIND that names nothing elsewhere, whatever else they hold: so one that has these folders alone
-- answers as one that has all. The OPTIONS of `*` is left out, which asks for the server itself.
abbrev pub AnswersTellOfHere : Type 0
AnswersTellOfHere =
    (folders : List PathText) (s : Settings) (x : Exchange) (a : AskedView) (old new old' new' : StoreState) (ls ks : List Lock) (ms ns : Locks)
    (reply reply' : Reply)
    → IsHere folders s x a → is_safe a.method ≡ true → a.path.bytes ≢ star → x.moment ≤ last_moment
    → Steps s x old (Some ls) reply new ms → Steps s x old' (Some ks) reply' new' ns
    → new.short ≡ false → new'.short ≡ false → old.refusals ≡ old'.refusals → IsWorld old.world → IsWorld old'.world
    → AgreeAt (is_here folders) old.world old'.world → CoverAlike (is_here folders) ls ks → reply ≡ reply'

-- A request that names nothing elsewhere leaves the content at all paths that are elsewhere, and takes away no folder above them.
abbrev pub ChangesStayHere : Type 0
ChangesStayHere =
    (folders : List PathText) (s : Settings) (x : Exchange) (a : AskedView) (old new : StoreState) (ls : List Lock) (ms : Locks) (reply : Reply)
    → IsHere folders s x a → x.moment ≤ last_moment → IsWorld old.world → Steps s x old (Some ls) reply new ms
    → Spared (λ q. not (is_here folders q)) old.world new.world

-- It leaves it also in a step in which memory runs out.
abbrev pub ChangesStayHereCut : Type 0
ChangesStayHereCut =
    (folders : List PathText) (s : Settings) (x : Exchange) (a : AskedView) (old new : StoreState) (ls : List Lock) (ms : Locks)
    → IsHere folders s x a → x.moment ≤ last_moment → IsWorld old.world → StepCut s x old (Some ls) new ms
    → Spared (λ q. not (is_here folders q)) old.world new.world
