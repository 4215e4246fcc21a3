use Rattle.std.proofs.Common.{◌+◌, ◌*◌, ◌&&◌, Bool, List, map, drop}
use Rattle.dav_core.specs.Asking.{StoreState}
use Rattle.dav_core.specs.Lists.{is_empty}
use Rattle.dav_engine.specs.Multistatus.{PathStatus}
use Rattle.dav_engine.specs.Folder.{room_at}
use Rattle.dav_engine.specs.Removal.{each, remove_member, report_of}
use Rattle.dav_engine.specs.Walked.{Walked, CutShort}
use Rattle.dav_engine.specs.WalkView.{below, entry_view}
use Rattle.dav_engine.proofs.methods.delete.removal.+removal.Given as goal

abbrev pub decreases-remove_each : goal.decreases-remove_each
decreases-remove_each g l = 3 * room_at l.path.now + 1

abbrev pub decreases-remove_entry : goal.decreases-remove_entry
decreases-remove_entry g l = 3 * room_at l.path.now

abbrev pub decreases-remove_one : goal.decreases-remove_one
decreases-remove_one g l = 3 * room_at l.path.now + 2

-- however the rest of the members goes, so all go
abbrev pub invariant-remove_each-loop-entry : goal.invariant-remove_each-loop-entry
invariant-remove_each-loop-entry g l =
    let state = g.F.DavFileSystem.state in
    let view = entry_view g.F.Entry.DavDirEntry.entry_name g.F.Entry.DavDirEntry.entry_dir in
    let f = remove_member (below l.now l.path) l.path in
    ((after : List PathStatus) (rest : Bool) (end : StoreState) → Walked report_of is_empty (each f (map view (drop l.entry-index l.entries))) (state l.fs) l.errors after rest end
    → Walked report_of is_empty (each f (map view l.fn.entries)) (state l.fn.fs) l.fn.errors after (l.clean && rest) end)
    × ((after : List PathStatus) (end : StoreState) → CutShort report_of (each f (map view (drop l.entry-index l.entries))) (state l.fs) l.errors after end
    → CutShort report_of (each f (map view l.fn.entries)) (state l.fn.fs) l.fn.errors after end)
