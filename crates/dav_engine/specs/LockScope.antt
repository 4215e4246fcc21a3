-- Whether a lock is exclusive or shared.
use Rattle.std.specs.Prelude.{Bool, true, false}
use Rattle.dav_engine.specs.declared.lock_scope.LockScope.{LockScope}
use Rattle.dav_engine.specs.declared.lock_scope.LockScope.TheVariants.{Exclusive, Shared}

-- whether a scope is that of shared locks (RFC 4918, section 14.13)
abbrev pub is_shared : LockScope → Bool
is_shared Exclusive = false
is_shared Shared = true
