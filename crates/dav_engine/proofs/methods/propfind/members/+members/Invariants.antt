use Rattle.std.proofs.Common.{◌+◌, ◌*◌, map, drop}
use Rattle.dav_engine.specs.ConditionView.{locks_in}
use Rattle.dav_engine.specs.Folder.{room_at}
use Rattle.dav_engine.specs.WalkView.{entry_view}
use Rattle.dav_engine.specs.Reach.{reaches_below}
use Rattle.dav_engine.proofs.TellLemmas.{Rest}
use Rattle.dav_engine.proofs.methods.propfind.members.+members.Given as goal

abbrev pub decreases-tell_members : goal.decreases-tell_members
decreases-tell_members g l = 3 * room_at l.path.now + 1

abbrev pub decreases-tell_entry : goal.decreases-tell_entry
decreases-tell_entry g l = 3 * room_at l.path.now

abbrev pub decreases-tell_below : goal.decreases-tell_below
decreases-tell_below g l = 3 * room_at l.path.now + 2

-- however the rest of the members is told of, so all are
abbrev pub invariant-tell_members-loop-entry : goal.invariant-tell_members-loop-entry
invariant-tell_members-loop-entry g l =
    let state = g.F.DavFileSystem.state in
    let view = entry_view g.F.Entry.DavDirEntry.entry_name g.F.Entry.DavDirEntry.entry_dir in
    Rest g.T.Takes.taken (locks_in g.L.DavLockSystem.locks l.ls) (reaches_below l.reach) l.path (map view l.fn.entries) l.fn.writer (state l.fn.fs) (map view (drop l.entry-index l.entries)) l.writer (state l.fs)
