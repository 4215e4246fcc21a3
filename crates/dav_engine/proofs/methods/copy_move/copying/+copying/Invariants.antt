use Rattle.std.proofs.Common.{◌+◌, ◌*◌, map, drop}
use Rattle.dav_engine.specs.CopyView.{copy_below}
use Rattle.dav_engine.specs.Folder.{room_at}
use Rattle.dav_engine.specs.WalkView.{entry_view}
use Rattle.dav_engine.proofs.CopyLemmas.{Whole, Part}
use Rattle.dav_engine.proofs.methods.copy_move.copying.+copying.Given as goal

abbrev pub decreases-copy_one : goal.decreases-copy_one
decreases-copy_one g l = 4 * room_at l.job.now.source.now + 3

abbrev pub decreases-copy_folder : goal.decreases-copy_folder
decreases-copy_folder g l = 4 * room_at l.job.now.source.now + 2

abbrev pub decreases-copy_each : goal.decreases-copy_each
decreases-copy_each g l = 4 * room_at l.job.now.source.now + 1

abbrev pub decreases-copy_entry : goal.decreases-copy_entry
decreases-copy_entry g l = 4 * room_at l.job.now.source.now

-- however the rest of the members goes, so all go
abbrev pub invariant-copy_each-loop-entry : goal.invariant-copy_each-loop-entry
invariant-copy_each-loop-entry g l =
    let state = g.F.DavFileSystem.state in
    let view = entry_view g.F.Entry.DavDirEntry.entry_name g.F.Entry.DavDirEntry.entry_dir in
    let walk = copy_below l.job.moment l.job.top.now l.job.source.now in
    Whole walk l.job.source.now l.job.destination.now (map view (drop l.entry-index l.entries)) (map view l.fn.entries) (state l.fn.fs) l.fn.errors (state l.fs) l.errors l.last
    × Part walk l.job.source.now l.job.destination.now (map view (drop l.entry-index l.entries)) (map view l.fn.entries) (state l.fn.fs) l.fn.errors (state l.fs) l.errors
