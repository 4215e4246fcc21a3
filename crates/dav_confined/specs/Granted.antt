-- What rules keep: a request with leave changes what its principal may write, and nothing else; and its answer, if it only reads, tells of
-- what its principal may read, and of nothing else; whatever the request is, whatever is locked and whatever the store refuses.
use Rattle.std.specs.Prelude.{◌≡◌, ◌≢◌, ◌≤◌, Bool, true, false, not, List, All, map, Some}
use Rattle.dav_core.specs.Asking.{StoreState}
use Rattle.dav_core.specs.Locks.{Lock}
use Rattle.dav_core.specs.declared.method.DavMethod.{DavMethod}
use Rattle.dav_core.specs.declared.method.DavMethod.TheVariants.{Unlock}
use Rattle.dav_core.specs.Path.{Path, PathText, names}
use Rattle.dav_core.specs.World.{IsWorld, last_moment}
use Rattle.dav_engine.specs.Guard.{folder_of, IsListed, Stands}
use Rattle.dav_engine.specs.Plan.{Locks}
use Rattle.dav_engine.specs.Reply.{Reply}
use Rattle.dav_confined.specs.Seen.{AgreeAt, CoverAlike}
use Rattle.dav_engine.specs.Sparing.{Spared}
use Rattle.dav_server.specs.Head.{Request}
use Rattle.dav_server.specs.Holder.{IsRequestTo}
use Rattle.dav_server.specs.Machine.{Exchange, Settings, Steps, StepCut}
use Rattle.dav_server.specs.Run.{Turn, Runs}
use Rattle.dav_server.specs.TagLaws.{MomentsAreDates, is_safe}
use Rattle.dav_confined.specs.Leave.{HasLeave, MayUnlock}
use Rattle.dav_access.specs.Rules.{Rules, may_admin, may_read, may_write}

-- The content at each path where the principal of a request may not write stays, and folders above it stay folders.
abbrev pub WritesStayInGrants : Type 0
WritesStayInGrants =
    (rules : Rules) (s : Settings) (x : Exchange) (old new : StoreState) (ls : List Lock) (ms : Locks) (reply : Reply)
    → HasLeave rules s x → x.moment ≤ last_moment → IsWorld old.world → Steps s x old (Some ls) reply new ms
    → Spared (λ q. not (may_write rules x.principal q)) old.world new.world

-- It stays also in a step in which memory runs out.
abbrev pub WritesStayInGrantsCut : Type 0
WritesStayInGrantsCut =
    (rules : Rules) (s : Settings) (x : Exchange) (old new : StoreState) (ls : List Lock) (ms : Locks)
    → HasLeave rules s x → x.moment ≤ last_moment → IsWorld old.world → StepCut s x old (Some ls) new ms
    → Spared (λ q. not (may_write rules x.principal q)) old.world new.world

-- A lock on a path where the principal of a request may not write stands after it, perhaps refreshed, where the request doesn't hand in
-- that lock's token for a lock of its own.
abbrev pub LocksStayOutsideGrants : Type 0
LocksStayOutsideGrants =
    (rules : Rules) (s : Settings) (x : Exchange) (old new : StoreState) (ls : List Lock) (ms : Locks) (reply : Reply) (h : Lock)
    → HasLeave rules s x → MayUnlock rules s x ls → may_write rules x.principal (folder_of h) ≡ false → IsListed h ls
    → x.token ≢ Some h.token → Steps s x old (Some ls) reply new ms → Stands h ms

-- A lock of another stands after an UNLOCK by who may not end the locks of others at its path.
abbrev pub LocksOfOthersStand : Type 0
LocksOfOthersStand =
    (rules : Rules) (s : Settings) (x : Exchange) (r : Request) (p : PathText) (old new : StoreState) (ls : List Lock) (ms : Locks) (reply : Reply) (h : Lock)
    → IsRequestTo s x r Unlock p → MayUnlock rules s x ls → h.principal ≢ x.principal → may_admin rules x.principal (folder_of h) ≡ false
    → IsListed h ls → x.token ≢ Some h.token → Steps s x old (Some ls) reply new ms → Stands h ms

-- A turn, and the rules that were in force then.
pub record RuledTurn : Type 0 where
  pub rules : Rules
  pub turn : Turn

-- At none of these paths may who makes this request write, and the request has leave.
pub record IsKeptOut (s : Settings) (covered : Path → Bool) (t : RuledTurn) : Type 0 where
  pub leave : HasLeave t.rules s t.turn.asked
  pub outside : (q : Path) → covered q ≡ true → may_write t.rules t.turn.asked.principal q ≡ false

-- Through a run of requests with leave, each by the rules of its moment, the content at paths where none of those who ask may write stays:
-- rules may change in between, and who asks may be anybody, with any bytes.
abbrev pub RunsStayInGrants : Type 0
RunsStayInGrants =
    (covered : Path → Bool) (s : Settings) (ts : List RuledTurn) (old new : StoreState) (ls : List Lock) (ms : Locks) (replies : List Reply)
    → All (IsKeptOut s covered) ts → MomentsAreDates (map (λ t. t.turn) ts) → IsWorld old.world
    → Runs s (map (λ t. t.turn) ts) old (Some ls) replies new ms
    → Spared covered old.world new.world

-- Whatever these bytes are as a request, it is a GET, HEAD, OPTIONS or PROPFIND of a path that its principal may read.
abbrev pub OnlyReadsThere : Rules → Settings → Exchange → Type 0
OnlyReadsThere rules s x =
    (r : Request) (m : DavMethod) (p : PathText) → IsRequestTo s x r m p → (is_safe m ≡ true) × (may_read rules x.principal (names p) ≡ true)

-- Two servers that agree at all that the principal may read, in what is there and in the locks that cover it, give the same reply, byte
-- for byte, to each such request with leave, whatever else they hold.
abbrev pub AnswersStayInGrants : Type 0
AnswersStayInGrants =
    (rules : Rules) (s : Settings) (x : Exchange) (old new old' new' : StoreState) (ls ks : List Lock) (ms ns : Locks) (reply reply' : Reply)
    → HasLeave rules s x → OnlyReadsThere rules s x → x.moment ≤ last_moment
    → Steps s x old (Some ls) reply new ms → Steps s x old' (Some ks) reply' new' ns
    → new.short ≡ false → new'.short ≡ false → old.refusals ≡ old'.refusals → IsWorld old.world → IsWorld old'.world
    → AgreeAt (may_read rules x.principal) old.world old'.world → CoverAlike (may_read rules x.principal) ls ks → reply ≡ reply'
