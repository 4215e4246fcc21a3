use Rattle.std.proofs.Common.{◌≡◌, ℕ, ◌<◌, take, position, None}
use Rattle.dav_core.specs.Path.{names}
use Rattle.dav_core.specs.Locks.{has_token_at}
use Rattle.dav_store.proofs.memls.index.named_by_walk.Given as goal

-- no shorter front has a lock with this token
abbrev pub invariant-loop-len : goal.invariant-loop-len
invariant-loop-len l = (k : ℕ) → k < l.len → position (has_token_at l.token (take k (names l.path))) l.locks ≡ None
