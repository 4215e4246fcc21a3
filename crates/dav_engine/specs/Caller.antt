-- The client that makes a request.
use Rattle.std.specs.Prelude.{ℕ, false, List, Option}
use Rattle.dav_core.specs.Locks.{Requester, requester_of}

-- Who makes a request, where that is known; when, in seconds since 1970; and the token for a lock that it creates
-- (RFC 4918, sections 6.4 and 6.5).
pub record Caller : Type 0 where
  pub principal : Option (List ℕ)
  pub moment : ℕ
  pub token : Option (List ℕ)

-- the requester that locks are checked against: the tokens that it submits, and its principal (RFC 4918, section 6.4)
abbrev pub requester : Caller → List (List ℕ) → Requester
requester who tokens = requester_of tokens false who.principal
