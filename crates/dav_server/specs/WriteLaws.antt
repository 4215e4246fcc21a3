-- What holds of the requests that write, from the bytes of their heads on.
use Rattle.std.specs.Prelude.{◌≡◌, ◌⊎◌, ℕ, List, codes, Some, Ok}
use Rattle.http_header.specs.HeaderMap.{get_all}
use Rattle.dav_core.specs.declared.method.DavMethod.{DavMethod}
use Rattle.dav_core.specs.declared.method.DavMethod.TheVariants.{Put, Patch, Lock as LockMethod}
use Rattle.dav_core.specs.Asking.{StoreState}
use Rattle.dav_core.specs.Path.{PathText, names}
use Rattle.dav_core.specs.World.{Node, node_at}
use Rattle.dav_headers.specs.ETagList.{star, IsTagList}
use Rattle.dav_engine.specs.LockLaws.{IsUnused}
use Rattle.dav_engine.specs.Plan.{Locks}
use Rattle.dav_engine.specs.Reply.{Reply}
use Rattle.dav_server.specs.Head.{Request, IsHead}
use Rattle.dav_server.specs.Headers.{headers_of}
use Rattle.dav_server.specs.Machine.{Exchange, Settings, Steps}
use Rattle.dav_server.specs.Method.{GivesServed}
use Rattle.dav_server.specs.Target.{TargetNames}

-- The request is a PUT or PATCH of this path, and its If-None-Match is `*` (RFC 9110, section 13.1.2).
abbrev pub IsCreateOnly : Settings → Exchange → PathText → Type 0
IsCreateOnly s x p =
    (r : Request) × (m : DavMethod)
    × IsHead x.head r × GivesServed r.method (Ok m) × ((m ≡ Put) ⊎ (m ≡ Patch)) × TargetNames s.prefix m r.target (Ok p)
    × IsTagList (get_all (headers_of r.fields) (codes "if-none-match")) star

-- A PUT or PATCH with If-None-Match `*`, where something is at its path, leaves the world and the list of locks as they were, whatever
-- its reply is and whatever the store refuses (RFC 9110, section 13.1.2).
abbrev pub CreateOnlyKeeps : Type 0
CreateOnlyKeeps =
    (s : Settings) (x : Exchange) (p : PathText) (n : Node) (old new : StoreState) (ls ms : Locks) (reply : Reply)
    → IsCreateOnly s x p → node_at old.world (names p) ≡ Some n → Steps s x old ls reply new ms
    → (new.world ≡ old.world) × (ms ≡ ls)

-- the status is 412, where a condition fails, or 423, where a lock conflicts (RFC 9110, section 15.5.13; RFC 4918, section 11.3)
abbrev pub IsRefusedStatus : ℕ → Type 0
IsRefusedStatus status = (status ≡ 412) ⊎ (status ≡ 423)

-- the request is a LOCK (RFC 4918, section 9.10)
abbrev pub IsLockRequest : Exchange → Type 0
IsLockRequest x = (r : Request) × IsHead x.head r × GivesServed r.method (Ok LockMethod)

-- no lock of the list has the token that the request hands in, if it hands in one (RFC 4918, section 6.5)
abbrev pub HandsInUnused : Exchange → Locks → Type 0
HandsInUnused x ls = (token : List ℕ) → x.token ≡ Some token → IsUnused token ls

-- the If-None-Match of the request is `*`: nothing may be at its path (RFC 9110, section 13.1.2)
abbrev pub WantsNothingThere : Exchange → Type 0
WantsNothingThere x = (r : Request) × IsHead x.head r × IsTagList (get_all (headers_of r.fields) (codes "if-none-match")) star
