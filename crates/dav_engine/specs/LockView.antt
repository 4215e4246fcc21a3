-- What contracts see of the headers of a LOCK and of what its body asks for.
use Rattle.std.specs.Prelude.{◌≡◌, ℕ, ◌+◌, ◌≤◌, Bool, true, false, Result, Ok, Err, IfSome}
use Rattle.std.specs.Option.{option_map}
use Rattle.dav_core.specs.declared.errors.DavError.{DavError}
use Rattle.dav_core.specs.Asking.{StoreState, Asks}
use Rattle.dav_core.specs.Handle.{Opening}
use Rattle.dav_core.specs.Locks.{Lock, ends_at}
use Rattle.dav_core.specs.Numbers.{max_u64}
use Rattle.dav_core.specs.Path.{names}
use Rattle.dav_engine.specs.declared.methods.lock.headers.LockHeaders.TheInside as headers
use Rattle.dav_engine.specs.declared.methods.lock.info.LockInfo.TheInside as info
use Rattle.dav_engine.specs.Follows.{FollowsOnLocks}
use Rattle.dav_engine.specs.Lock.{grant, open_empty}
use Rattle.dav_engine.specs.LockHeaders.{LockHeaders}
use Rattle.dav_engine.specs.LockInfo.{LockInfo}
use Rattle.dav_engine.specs.Plan.{Locks, Ran}

-- The headers of a LOCK as contracts see them.
abbrev pub lock_headers_of : headers.Inside → LockHeaders
lock_headers_of h = record {
  conditions = h.conditions;
  depth = h.depth;
  timeout = option_map (λ t. t.0.items) h.timeout;
}

-- What the body of a LOCK asks for, as contracts see it.
abbrev pub lock_info_of : info.Inside → LockInfo
lock_info_of i = record { scope = i.scope; owner = i.owner }

-- The lock ends after its timeout, counted from this moment, and at a moment of at most 64 bits.
pub record LastsFrom (now : ℕ) (l : Lock) : Type 0 where
  pub end : l.timeout_at ≡ ends_at now l.timeout
  pub small : IfSome l.timeout (λ seconds. now + seconds ≤ max_u64)

-- How a new lock is granted, and where nothing was found at its path an empty file opened there: the grant is refused, and
-- nothing is done; or it is granted, and something was found; or it is granted, and the store is asked for the file.
pub data GrantsNew (new : Lock) (how : Opening) (now : ℕ) (found : Bool) (old : StoreState) (ls : Locks) (result : Result (Unit {0}) DavError) (after : StoreState) (ms : Locks) : Type 0 where
  not_granted : (e : DavError) → result ≡ Err e → FollowsOnLocks (λ (u : Unit {0}). u) (grant new) ls (Err e) ms → ms ≡ ls → after ≡ old → GrantsNew new how now found old ls result after ms
  on_what_is_there : result ≡ Ok tt → found ≡ true → FollowsOnLocks (λ (u : Unit {0}). u) (grant new) ls (Ok tt) ms → after ≡ old → GrantsNew new how now found old ls result after ms
  on_a_new_file : (ks : Locks) → found ≡ false → FollowsOnLocks (λ (u : Unit {0}). u) (grant new) ls (Ok tt) ks → Ran Asks (open_empty how new.token (names new.path) now) old ks result after ms
      → GrantsNew new how now found old ls result after ms
