-- What a request changes is at its target or below it, or at the path that Destination names or below that: all other paths keep their
-- content, and the locks on them stay, whoever asks for it (RFC 4918, sections 9.1 to 9.11).
use Rattle.std.specs.Prelude.{◌≡◌, ◌≢◌, ◌⊎◌, ◌≤◌, Bool, true, false, List, All, codes, Some, Ok}
use Rattle.http_header.specs.HeaderMap.{get_all}
use Rattle.dav_core.specs.declared.method.DavMethod.{DavMethod}
use Rattle.dav_core.specs.declared.method.DavMethod.TheVariants.{Put, Patch, MkCol, Delete, Copy, Move, PropPatch, Lock as LockMethod, Unlock}
use Rattle.dav_core.specs.Asking.{StoreState}
use Rattle.dav_core.specs.Locks.{Lock}
use Rattle.dav_core.specs.Path.{Path, PathText, names, is_at_or_under}
use Rattle.dav_core.specs.World.{IsWorld, last_moment}
use Rattle.dav_engine.specs.CopyMove.{DestinationNames}
use Rattle.dav_engine.specs.Guard.{folder_of, Stands}
use Rattle.dav_engine.specs.LockToken.{SaysLockToken}
use Rattle.dav_engine.specs.Plan.{Locks}
use Rattle.dav_engine.specs.Reply.{Reply}
use Rattle.dav_engine.specs.Sparing.{NoneUnder, Spared}
use Rattle.dav_server.specs.Head.{Request}
use Rattle.dav_server.specs.Headers.{headers_of}
use Rattle.dav_server.specs.Holder.{IsRequestTo}
use Rattle.dav_server.specs.Machine.{Exchange, Settings, Steps, StepCut}
use Rattle.dav_server.specs.Run.{Turn, Runs}
use Rattle.dav_server.specs.TagLaws.{MomentsAreDates}

-- whether a method changes what is at its target alone
abbrev pub changes_target : DavMethod → Bool
changes_target Put = true
changes_target Patch = true
changes_target MkCol = true
changes_target PropPatch = true
changes_target LockMethod = true
changes_target _ = false

-- Whether a method changes what is at its target and below it. COPY changes its destination alone, and UNLOCK no content.
abbrev pub changes_below : DavMethod → Bool
changes_below Delete = true
changes_below Move = true
changes_below _ = false

-- The request keeps off these paths: none of them is its target, where its method changes what is there, nor below it, where its method
-- changes that too, nor, for COPY and MOVE, at the path that Destination names or below that.
pub record KeepsOff (covered : Path → Bool) (s : Settings) (x : Exchange) : Type 0 where
  pub target : (r : Request) (m : DavMethod) (p : PathText) → IsRequestTo s x r m p → changes_target m ≡ true → covered (names p) ≡ false
  pub below : (r : Request) (m : DavMethod) (p : PathText) → IsRequestTo s x r m p → changes_below m ≡ true → NoneUnder covered (names p)
  pub destination : (r : Request) (m : DavMethod) (p d : PathText) → IsRequestTo s x r m p → (m ≡ Copy) ⊎ (m ≡ Move)
      → DestinationNames p.prefix (get_all (headers_of r.fields) (codes "destination")) (Ok d) → NoneUnder covered (names d)

-- The request is an UNLOCK that names this lock: by its token, at the lock's path or below it (RFC 4918, section 9.11).
pub record UnlocksLock (s : Settings) (x : Exchange) (h : Lock) : Type 0 where
  pub request : Request
  pub path : PathText
  pub to : IsRequestTo s x request Unlock path
  pub says : SaysLockToken (headers_of request.fields) h.token
  pub above : is_at_or_under (names path) (folder_of h) ≡ true

-- A request leaves the content at all paths that it keeps off, whoever makes it, whatever is locked and whatever the store refuses.
abbrev pub StepsLeaveOthers : Type 0
StepsLeaveOthers =
    (covered : Path → Bool) (s : Settings) (x : Exchange) (old new : StoreState) (ls : List Lock) (ms : Locks) (reply : Reply)
    → KeepsOff covered s x → x.moment ≤ last_moment → IsWorld old.world → Steps s x old (Some ls) reply new ms
    → Spared covered old.world new.world

-- A request leaves the content at all paths that it keeps off also in a step in which memory runs out.
abbrev pub StepsLeaveOthersCut : Type 0
StepsLeaveOthersCut =
    (covered : Path → Bool) (s : Settings) (x : Exchange) (old new : StoreState) (ls : List Lock) (ms : Locks)
    → KeepsOff covered s x → x.moment ≤ last_moment → IsWorld old.world → StepCut s x old (Some ls) new ms
    → Spared covered old.world new.world

-- A lock on a path that a request keeps off stands after it, perhaps refreshed, unless the request is an UNLOCK that names the lock, or
-- hands in its token for a lock of its own.
abbrev pub StepsKeepOtherLocks : Type 0
StepsKeepOtherLocks =
    (covered : Path → Bool) (s : Settings) (x : Exchange) (old new : StoreState) (ls ms : Locks) (reply : Reply) (h : Lock)
    → KeepsOff covered s x → covered (folder_of h) ≡ true → Stands h ls → ¬ UnlocksLock s x h → x.token ≢ Some h.token
    → Steps s x old ls reply new ms → Stands h ms

-- In a run each of whose requests keeps off these paths, their content stays.
abbrev pub RunsLeaveOthers : Type 0
RunsLeaveOthers =
    (covered : Path → Bool) (s : Settings) (ts : List Turn) (old new : StoreState) (ls : List Lock) (ms : Locks) (replies : List Reply)
    → All (λ t. KeepsOff covered s t.asked) ts → MomentsAreDates ts → IsWorld old.world → Runs s ts old (Some ls) replies new ms
    → Spared covered old.world new.world
