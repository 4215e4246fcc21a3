use Rattle.std.proofs.Common.{◌≡◌, take}
use Rattle.dav_engine.specs.LockTree as spec
use Rattle.dav_engine.proofs.properties.locks.lock_discovery.Given as goal

abbrev pub invariant-loop-lock : goal.invariant-loop-lock
invariant-loop-lock l = l.element ≡ spec.lock_discovery (take l.lock-index l.locks)
