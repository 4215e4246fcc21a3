use Rattle.std.proofs.Common.{◌≡◌, ◌-◌}
use Rattle.dav_saved.specs.Reading.{many_at}
use Rattle.dav_saved.specs.Locks.{lock_at}
use Rattle.dav_saved.proofs.Loop.{with_front}
use Rattle.dav_store.specs.LockIndex.{IsIndexOf}
use Rattle.dav_store.proofs.memls.saved.locks_of.Given as goal

-- what was read so far with what is still read is all, and the index is that of what was read
abbrev pub invariant-loop-grant : goal.invariant-loop-grant
invariant-loop-grant l =
    (with_front l.locks.items (many_at (lock_at l.levels) (l.count - l.grant) l.rest) ≡ many_at (lock_at l.levels) l.count l.bytes)
    × IsIndexOf l.index l.locks.items
