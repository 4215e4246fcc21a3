-- Which requests name a token, and which name a lock as its principal (RFC 4918, sections 6.4, 10.4 and 10.5).
use Rattle.std.specs.Prelude.{◌≡◌, ℕ, List, Contains, codes}
use Rattle.http_header.specs.HeaderMap.{get_all}
use Rattle.dav_core.specs.Locks.{Lock}
use Rattle.dav_headers.specs.If.{ConditionList, IsIfHeader, tokens_of}
use Rattle.dav_engine.specs.Headers.{Headers}
use Rattle.dav_engine.specs.LockToken.{SaysLockToken}
use Rattle.dav_server.specs.Head.{Request, IsHead}
use Rattle.dav_server.specs.Headers.{headers_of}
use Rattle.dav_server.specs.Machine.{Exchange}

-- the token is a state token of the If header, perhaps under `Not` (RFC 4918, section 10.4)
abbrev pub SaysIfToken : Headers → List ℕ → Type 0
SaysIfToken headers token = (ls : List ConditionList) × IsIfHeader (get_all headers (codes "if")) ls × Contains (tokens_of ls) token

-- A request names a token: it is a state token of its If, or that of its Lock-Token. Bytes that are no head name nothing (RFC 4918,
-- sections 10.4 and 10.5).
pub data NamesToken (x : Exchange) (token : List ℕ) : Type 0 where
  by_if : (r : Request) → IsHead x.head r → SaysIfToken (headers_of r.fields) token → NamesToken x token
  by_lock_token : (r : Request) → IsHead x.head r → SaysLockToken (headers_of r.fields) token → NamesToken x token

-- a request names a lock's token, and its principal is that of the lock, none where the lock has none (RFC 4918, section 6.4)
pub record NamesLock (h : Lock) (x : Exchange) : Type 0 where
  pub token : NamesToken x h.token
  pub principal : x.principal ≡ h.principal
