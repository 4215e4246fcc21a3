-- How the machine of a live server answers (RFC 9110, section 3; RFC 4918, section 8).
use Rattle.std.specs.Prelude.{◌≡◌, ◌⊎◌, ℕ, Bool, false, List, Option, Some, None, codes, length}
use Rattle.std.specs.Str.{IsUtf8}
use Rattle.http_server.specs.declared.response.Response.{Response}
use Rattle.dav_access.specs.Rules.{Rules}
use Rattle.dav_access.specs.declared.limit.Limit.{Limit}
use Rattle.dav_confined.specs.Leave.{MayUnlock}
use Rattle.dav_core.specs.Locks.{Lock}
use Rattle.dav_engine.specs.Caller.{Caller}
use Rattle.dav_engine.specs.Plan.{Locks}
use Rattle.dav_engine.specs.Reply.{Reply}
use Rattle.dav_server.specs.Head.{IsHead, Request}
use Rattle.dav_server.specs.Machine.{Exchange}
use Rattle.dav_server.specs.Server.{Server}
use Rattle.dav_http.specs.Ending.{IsUnlockHead}
use Rattle.dav_http.specs.Holders.{NamesOwn}
use Rattle.dav_http.specs.Kept.{IsKeptOf, Says}
use Rattle.dav_http.specs.Listing.{Listed, ShowsListing}
use Rattle.dav_http.specs.Presented.{IsShown}
use Rattle.dav_http.specs.Refused.{Refuses}
use Rattle.dav_http.specs.Room.{room_of}
use Rattle.dav_http.specs.Sending.{IsSentAs}
use Rattle.dav_http.specs.Steps.{IsStepFor}
use Rattle.dav_kept.specs.Records.{RequestView}
use Rattle.dav_limits.specs.Limits.{IsPast}
use Rattle.dav_core.specs.Path.{Path}
use Rattle.dav_seen.specs.Ways.{IsWayReply}
use Rattle.dav_store.specs.LockEnds.{first_ended}
use Rattle.dav_live.specs.Hosts.{value_of}
use Rattle.dav_live.specs.Locked.{IsTold}

-- who makes a request, when, and the token for a lock that it creates
abbrev pub caller_of : RequestView → Caller
caller_of q = record { principal = q.principal; moment = q.moment; token = q.token }

-- these bytes are a head with this method
abbrev pub HasMethod : List ℕ → List ℕ → Type 0
HasMethod method head = (r : Request) × IsHead head r × (r.method ≡ method)

-- a request with this head asks for a representation (RFC 9110, sections 9.3.1 and 9.3.2)
abbrev pub AsksToSee : List ℕ → Type 0
AsksToSee head = HasMethod (codes "GET") head ⊎ HasMethod (codes "HEAD") head

-- What is sent to a request of a reply to it, which leaves this server: what its client is shown, where so many bytes can still be stored, as
-- the front told last and as limits leave, at a path and below it or everywhere; as it is where the bytes of its head are none. What says that
-- a lock keeps the request out tells which (`IsTold`).
pub data IsSentFor (s : Server) (q : RequestView) (r : Reply) (sent : Response) : Type 0 where
  headless : ((h : Request) → ¬ IsHead q.head h) → IsSentAs false r sent → IsSentFor s q r sent
  presented : (h : Request) (told : Reply) → IsHead q.head h → IsTold s.state.locks s.settings.prefix q.head q.principal r told
      → (place : Option Path) (available : ℕ) → IsShown h q.body q.moment (room_of s place available) told sent → IsSentFor s q r sent

-- What is sent to a PROPFIND of a reply, of which a listing took the multistatus in parts, if it did: what is shown of the whole reply; or
-- the reply, which is whole (RFC 4918, sections 9.1 and 13).
abbrev pub IsListingSent : Server → RequestView → Request → Reply → Option Listed → Response → Type 0
IsListingSent s q h r (Some listing) sent = ShowsListing h r listing sent
IsListingSent s q h r None sent = IsSentFor s q r sent

-- The response to a request, and the server that is left: the reply of a step of the machine, as it is sent; or, where that is 405 to the
-- GET or HEAD of a folder, a page of 200 for a person, and then the server is as it was.
pub data IsAnswer (old : Server) (q : RequestView) (sent : Response) : Server → Type 0 where
  replied : {new : Server} (r : Reply) → IsStepFor q.head q.body (caller_of q) old r new → IsSentFor new q r sent → IsAnswer old q sent new
  shown : (r : Reply) → AsksToSee q.head → IsStepFor q.head q.body (caller_of q) old r old → r.status ≡ 405 → sent.status ≡ 200 → IsAnswer old q sent old

-- The response to a request that looks at a folder on the way to what its principal may read, by rules: the reply, as it is sent; or, where
-- that is 405 to its GET or HEAD, a page of 200 for a person.
pub data IsLook (rules : Rules) (s : Server) (q : RequestView) (sent : Response) : Type 0 where
  told : (r : Reply) → IsWayReply rules s q.head q.body (caller_of q) r → IsSentFor s q r sent → IsLook rules s q sent
  seen : (r : Reply) → AsksToSee q.head → IsWayReply rules s q.head q.body (caller_of q) r → r.status ≡ 405 → sent.status ≡ 200 → IsLook rules s q sent

-- a request is an UNLOCK that names a lock of another than this user, or of nobody: knowing its token gives no right to end it (RFC 4918,
-- sections 6.4 and 9.11.1)
abbrev pub IsForeignUnlock : Locks → Request → List ℕ → Type 0
IsForeignUnlock locks r user =
    (r.method ≡ codes "UNLOCK") × ((text : List ℕ) × (value_of (codes "lock-token") r ≡ Some text) × IsUtf8 text × (¬ NamesOwn locks user text))

-- by rules the principal of a request may end each lock that it names as an UNLOCK
abbrev pub MayUnlockIn : Rules → Server → RequestView → Type 0
MayUnlockIn rules s q =
    (x : Exchange) (ls : List Lock) → x.head ≡ q.head → x.principal ≡ q.principal → s.state.locks ≡ Some ls → MayUnlock rules s.settings x ls

-- A request that came, and would be run as that one, is an UNLOCK of a lock that its user may not end: by rules, where there are any; else
-- one that names a lock of another.
abbrev pub IsBarred : Option Rules → Server → Request → RequestView → Type 0
IsBarred None s came q = (user : List ℕ) × (q.principal ≡ Some user) × IsForeignUnlock s.state.locks came user
IsBarred (Some rules) s came q = (came.method ≡ codes "UNLOCK") × (¬ MayUnlockIn rules s q)

-- the status of an UNLOCK of a lock that its user may not end: nobody is asked for a name (RFC 9110, sections 15.5.2 and 15.5.4)
abbrev pub barred_status : Option (List ℕ) → ℕ
barred_status None = 401
barred_status (Some user) = 403

-- a server refuses a request with this status, for its conditions, or for what it asks
abbrev pub IsRefused : Server → RequestView → ℕ → Type 0
IsRefused s q status = (kept : Request) × IsHead q.head kept × Refuses s kept q.body status

-- A request that came, and would be run as that one, isn't run, and is answered with this status: that of an UNLOCK of a lock that its user
-- may not end; or the status with which the server refuses it for its conditions, or for what it asks; or 507, where it would add more than
-- these limits leave (RFC 4918, section 11.5).
pub data IsNotRun (rules : Option Rules) (limits : List Limit) (s : Server) (came : Request) (q : RequestView) : ℕ → Type 0 where
  barred : IsBarred rules s came q → IsNotRun rules limits s came q (barred_status q.principal)
  refused : {status : ℕ} → ¬ IsBarred rules s came q → IsRefused s q status → IsNotRun rules limits s came q status
  full : ¬ IsBarred rules s came q → ((status : ℕ) → ¬ IsRefused s q status) → IsPast limits s q.head q.body
      → IsNotRun rules limits s came q 507

-- These bytes are the head that is kept of a request that came, whatever the longest time of a lock is, and whatever is left to the machine.
abbrev pub IsKeptFrom : Request → List ℕ → Type 0
IsKeptFrom came head = (most : ℕ) × (strict : Bool) × (kept : Request) × IsKeptOf most strict came kept × Says head kept

-- The request with this head is the UNLOCK of the first lock of a list whose time ended at this moment or before; none where there is no
-- such lock (RFC 4918, sections 6.6 and 9.11).
abbrev pub IsNextEnd : Locks → ℕ → Option (List ℕ) → Type 0
IsNextEnd locks now None = (ls : List Lock) → locks ≡ Some ls → first_ended now ls ≡ None
IsNextEnd locks now (Some head) =
    (l : Lock) × IsUnlockHead l head × ((ls : List Lock) → locks ≡ Some ls → first_ended now ls ≡ Some l)
