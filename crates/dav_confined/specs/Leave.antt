-- Which requests have leave by rules of access: what each method needs at which path, asked of the very
-- paths that the machine reads in the bytes of a head.
use Rattle.std.specs.Prelude.{◌≡◌, ◌≢◌, ◌⊎◌, ℕ, true, List, All, IfSome, codes, Option, Ok}
use Rattle.http_header.specs.HeaderMap.{get_all}
use Rattle.dav_core.specs.declared.method.DavMethod.{DavMethod}
use Rattle.dav_core.specs.declared.method.DavMethod.TheVariants.{Put, Patch, MkCol, Delete, Copy, Move, PropPatch, Lock as LockMethod}
use Rattle.dav_core.specs.Locks.{Lock}
use Rattle.dav_core.specs.Path.{PathText, names, star}
use Rattle.dav_engine.specs.Conditions.{Addressed, SaysLists}
use Rattle.dav_engine.specs.CopyMove.{DestinationNames}
use Rattle.dav_engine.specs.Guard.{folder_of, IsListed}
use Rattle.dav_server.specs.Head.{Request}
use Rattle.dav_server.specs.Headers.{headers_of}
use Rattle.dav_server.specs.Holder.{IsRequestTo}
use Rattle.dav_server.specs.Machine.{Exchange, Settings}
use Rattle.dav_access.specs.declared.grant.Right.{Right}
use Rattle.dav_access.specs.declared.grant.Right.TheVariants.{Read, Write}
use Rattle.dav_access.specs.Rules.{Rules, has_right, may_admin, may_read, may_write}
use Rattle.dav_confined.specs.ConfinedSteps.{UnlocksLock}

-- The right that a method needs at its target: to write, where it changes what is there or locks it; else
-- to read. COPY reads at its target; for UNLOCK there is a rule of its own besides.
abbrev pub needed : DavMethod → Right
needed Put = Write
needed Patch = Write
needed MkCol = Write
needed Delete = Write
needed Move = Write
needed PropPatch = Write
needed LockMethod = Write
needed _ = Read

-- the lists of an If speak of paths that may be read, where they speak of one (RFC 4918, section 10.4.2)
abbrev pub SpeaksOfReadable : Rules → Option (List ℕ) → List Addressed → Type 0
SpeaksOfReadable rules who lists = All (λ l. IfSome l.path (λ q. may_read rules who q ≡ true)) lists

-- A request has leave by these rules: its principal has the right that its method needs at its target; for
-- COPY and MOVE, may write at the path that Destination names; and may read at each path that its If speaks
-- of. An OPTIONS of `*` needs no right there. A request whose bytes are no head, or whose target or
-- Destination names no path, needs none there: the machine answers it with an error.
pub record HasLeave (rules : Rules) (s : Settings) (x : Exchange) : Type 0 where
  pub target : (r : Request) (m : DavMethod) (p : PathText) → IsRequestTo s x r m p → p.bytes ≢ star
      → has_right rules x.principal (needed m) (names p) ≡ true
  pub destination : (r : Request) (m : DavMethod) (p d : PathText) → IsRequestTo s x r m p → (m ≡ Copy) ⊎ (m ≡ Move)
      → DestinationNames p.prefix (get_all (headers_of r.fields) (codes "destination")) (Ok d)
      → may_write rules x.principal (names d) ≡ true
  pub conditions : (r : Request) (m : DavMethod) (p : PathText) (lists : List Addressed) → IsRequestTo s x r m p
      → SaysLists p.prefix (names p) (get_all (headers_of r.fields) (codes "if")) lists
      → SpeaksOfReadable rules x.principal lists

-- each request with this head, of this principal, has leave below this prefix
abbrev pub Permits : Rules → List ℕ → Option (List ℕ) → List ℕ → Type 0
Permits rules prefix who head =
    (s : Settings) (x : Exchange) → s.prefix ≡ prefix → x.head ≡ head → x.principal ≡ who → HasLeave rules s x

-- A principal may end a lock: its own, where it may write at the lock's path; another's, where it may end
-- the locks of others there.
abbrev pub MayEnd : Rules → Option (List ℕ) → Lock → Type 0
MayEnd rules who l =
    ((l.principal ≡ who) × (may_write rules who (folder_of l) ≡ true)) ⊎ (may_admin rules who (folder_of l) ≡ true)

-- An UNLOCK has leave: its principal may end each lock of the list that it names (RFC 4918, section 9.11).
abbrev pub MayUnlock : Rules → Settings → Exchange → List Lock → Type 0
MayUnlock rules s x ls = (l : Lock) → IsListed l ls → UnlocksLock s x l → MayEnd rules x.principal l
