-- What the headers of a LOCK say (RFC 4918, section 9.10), and how long the lock is to last.
use Rattle.std.specs.Prelude.{ℕ, min, List, codes, Option, Some, None}
use Rattle.std.specs.List.{slice_get}
use Rattle.std.specs.Option.{option_map, option_and_then}
use Rattle.http_header.specs.HeaderMap.{get_all}
use Rattle.dav_core.specs.Path.{PathText, names}
use Rattle.dav_headers.specs.Depth.{IsDepth}
use Rattle.dav_headers.specs.Timeout.{IsTimeout}
use Rattle.dav_headers.specs.declared.depth.Depth.{Depth}
use Rattle.dav_headers.specs.declared.timeout.DavTimeout.{DavTimeout}
use Rattle.dav_headers.specs.declared.timeout.DavTimeout.TheVariants.{Seconds, Infinite}
use Rattle.dav_engine.specs.declared.lock_scope.LockScope.{LockScope}
use Rattle.dav_engine.specs.declared.lock_scope.LockScope.TheVariants.{Exclusive, Shared}
use Rattle.dav_engine.specs.Conditions.{Conditions, AreConditions}
use Rattle.dav_engine.specs.Headers.{Headers, Decodes}

-- What the headers of a LOCK say: its conditions; how deep the lock goes; and for how long the client wants it, in order of
-- preference (RFC 4918, sections 10.2 and 10.7).
pub record LockHeaders : Type 0 where
  pub conditions : Conditions
  pub depth : Option Depth
  pub timeout : Option (List DavTimeout)

-- What the headers of a LOCK to p say; a header that doesn't decode counts as absent (RFC 4918, sections 10.2 and 10.7).
pub record AreLockHeaders (headers : Headers) (p : PathText) (h : LockHeaders) : Type 0 where
  pub conditions : AreConditions headers p.prefix (names p) h.conditions
  pub depth : Decodes IsDepth (get_all headers (codes "depth")) h.depth
  pub timeout : Decodes IsTimeout (get_all headers (codes "timeout")) h.timeout

-- For how many seconds a lock is granted at most: a day where it is shared, ten minutes where it is exclusive (RFC 4918, section 6.6).
abbrev pub longest : LockScope → ℕ
longest Exclusive = 600
longest Shared = 86400

-- The time that the client prefers: the first that Timeout has (RFC 4918, section 10.7).
abbrev pub preferred : Option (List DavTimeout) → Option DavTimeout
preferred timeout = option_and_then (λ times. slice_get times 0) timeout

-- For how many seconds a new lock is granted where this time is preferred: at most `longest` (RFC 4918, section 10.7).
abbrev pub granted_seconds : LockScope → DavTimeout → ℕ
granted_seconds scope (Seconds n) = min n (longest scope)
granted_seconds scope Infinite = longest scope

-- For how many seconds a new lock is granted; without a preferred time it never ends (RFC 4918, section 10.7).
abbrev pub granted_for : LockScope → Option (List DavTimeout) → Option ℕ
granted_for scope timeout = option_map (granted_seconds scope) (preferred timeout)

-- For how many seconds a lock, shared or not, is refreshed where this time is preferred: at most as long as an exclusive one is
-- granted; where the time is infinite, the lock never ends (RFC 4918, sections 9.10.2 and 10.7).
abbrev pub refreshed_seconds : DavTimeout → Option ℕ
refreshed_seconds (Seconds n) = Some (min n (longest Exclusive))
refreshed_seconds Infinite = None

-- For how many seconds a lock is refreshed; without a preferred time it never ends (RFC 4918, section 9.10.2).
abbrev pub refreshed_for : Option (List DavTimeout) → Option ℕ
refreshed_for timeout = option_and_then refreshed_seconds (preferred timeout)
