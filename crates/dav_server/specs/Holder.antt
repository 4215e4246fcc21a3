-- The requests of a lock's holder (RFC 4918, section 7).
use Rattle.std.specs.Prelude.{◌≡◌, ⊤, [], codes, Ok}
use Rattle.http_header.specs.HeaderMap.{get_all}
use Rattle.dav_core.specs.declared.method.DavMethod.{DavMethod}
use Rattle.dav_core.specs.declared.method.DavMethod.TheVariants.{Head, Get, Put, Patch, Options, PropFind, PropPatch, MkCol, Copy, Move, Delete, Lock as LockMethod, Unlock}
use Rattle.dav_core.specs.Locks.{Lock}
use Rattle.dav_core.specs.Path.{PathText, names}
use Rattle.dav_engine.specs.declared.request.Body.TheVariants as body
use Rattle.dav_engine.specs.IsolatedPlans.{SubmitsAlone}
use Rattle.dav_engine.specs.CopyMove.{DestinationNames}
use Rattle.dav_engine.specs.Guard.{IsInReach, IsInside}
use Rattle.dav_engine.specs.Headers.{Headers}
use Rattle.dav_server.specs.Head.{Request, IsHead}
use Rattle.dav_server.specs.Headers.{headers_of}
use Rattle.dav_server.specs.Machine.{Exchange, Settings, body_for, taken_by}
use Rattle.dav_server.specs.Method.{GivesServed}
use Rattle.dav_engine.specs.LockToken.{SaysLockToken}
use Rattle.dav_server.specs.Target.{TargetNames}

-- the Destination, as the method reads it, is strictly below the lock's folder (RFC 4918, section 10.3)
abbrev pub HasDestinationInside : Lock → Headers → PathText → Type 0
HasDestinationInside h headers p = (d : PathText) × DestinationNames p.prefix (get_all headers (codes "destination")) (Ok d) × IsInside h (names d)

-- What keeps a holder's request within the lock's folder, by its method. PUT, PATCH, MKCOL, DELETE and MOVE are of a path strictly below
-- the folder, since on the folder itself they depend on the locks of the folder above it; so is the Destination of COPY and MOVE. A LOCK
-- has no body, so it refreshes. GET, HEAD, OPTIONS, PROPFIND, PROPPATCH and the source of a COPY may be the folder itself. Other methods
-- don't count; UNLOCK has a rule of its own.
abbrev pub StaysInFolder : Lock → Exchange → Headers → PathText → DavMethod → Type 0
StaysInFolder h x headers p Copy = HasDestinationInside h headers p
StaysInFolder h x headers p Move = IsInside h (names p) × HasDestinationInside h headers p
StaysInFolder h x headers p LockMethod = body_for (taken_by LockMethod) x.body ≡ Ok body.None
StaysInFolder h x headers p Get = ⊤
StaysInFolder h x headers p Head = ⊤
StaysInFolder h x headers p PropFind = ⊤
StaysInFolder h x headers p Options = ⊤
StaysInFolder h x headers p Put = IsInside h (names p)
StaysInFolder h x headers p Patch = IsInside h (names p)
StaysInFolder h x headers p MkCol = IsInside h (names p)
StaysInFolder h x headers p Delete = IsInside h (names p)
StaysInFolder h x headers p PropPatch = ⊤
StaysInFolder h x headers p _ = ⊥

-- the request's bytes are this head, its method is this one, and its target names this path
pub record IsRequestTo (s : Settings) (x : Exchange) (r : Request) (m : DavMethod) (p : PathText) : Type 0 where
  pub head : IsHead x.head r
  pub method : GivesServed r.method (Ok m)
  pub target : TargetNames s.prefix m r.target (Ok p)

-- A holder's request: it is made by the lock's principal, at the lock's folder or below it. Either it is an UNLOCK with the lock's token
-- (`unlocks`); or it stays within the folder, its If submits the lock's token alone, and it sets no other condition (`acts`) (RFC 4918,
-- section 7).
pub data IsHolderRequest (s : Settings) (h : Lock) (x : Exchange) : Type 0 where
  unlocks : (r : Request) (p : PathText) → x.principal ≡ h.principal → IsRequestTo s x r Unlock p → IsInReach h (names p) → SaysLockToken (headers_of r.fields) h.token → IsHolderRequest s h x
  acts : (r : Request) (m : DavMethod) (p : PathText) → x.principal ≡ h.principal → IsRequestTo s x r m p → IsInReach h (names p) → StaysInFolder h x (headers_of r.fields) p m
      → SubmitsAlone (headers_of r.fields) p h → get_all (headers_of r.fields) (codes "if-range") ≡ [] → IsHolderRequest s h x
