use Rattle.std.proofs.Common.{refl, rules, ◌≡◌, ◌≢◌, ◌<◌, ◌+◌, ◌&&◌, ◌*◌, map, drop}
use Rattle.dav_core.specs.Path.{star}
use Rattle.dav_engine.specs.Folder.{room_at}
use Rattle.dav_engine.specs.Removal.{remove_member}
use Rattle.dav_engine.specs.WalkView.{below, entry_view}
use Rattle.dav_engine.proofs.RemovalLemmas.{file_gone, file_refused, file_stopped, listing_refused, listing_stopped, folder_left, folder_gone, folder_refused, folder_stopped, emptied_stopped, member_refused, one_stopped, each_more, each_part, told_as, member_walks, looked, child_smaller, child_path, from_place, from_end, all_ended}
use Rattle.dav_engine.proofs.CutWalks.{cut_out}
use Rattle.dav_engine.proofs.methods.delete.removal.+removal.Goals.{remove_each-then-clean, remove_each-else-clean}
use Rattle.dav_engine.proofs.methods.delete.removal.+removal.Goals as goal

pub remove_one-returns-in-Ok : goal.remove_one-returns-in-Ok
remove_one-returns-in-Ok g t c = rw c.if-not-dir.true (file_gone (room_at c.args.path.now) c.args.now c.args.path.now c.in-Ok.ensures)

pub remove_one-returns-in_ok-report-in-Err : goal.remove_one-returns-in_ok-report-in-Err
remove_one-returns-in_ok-report-in-Err g t c = rw c.if-not-dir.true (file_refused (room_at c.args.path.now) c.args.now c.args.path.now c.in-Err.ensures (told_as c.args.path.now _ c.in_ok-report-in-Err.ensures.ok c.status_of.ensures))

pub remove_one-returns-in_err-report-in-Err : goal.remove_one-returns-in_err-report-in-Err
remove_one-returns-in_err-report-in-Err g t c = rw c.if-not-dir.true (cut_out _ _ _ c.from_residual.result c.from_residual.ensures.1 (file_stopped (room_at c.args.path.now) c.args.now c.args.path.now c.in-Err.ensures c.in_err-report-in-Err.ensures.err))

pub remove_one-returns-in_err-report-in-Err-read_dir : goal.remove_one-returns-in_err-report-in-Err-read_dir
remove_one-returns-in_err-report-in-Err-read_dir g t c = rw c.if-not-dir.false (cut_out _ _ _ c.from_residual-in_err-report-in-Err-read_dir.result c.from_residual-in_err-report-in-Err-read_dir.ensures.1 (listing_stopped c.args.now c.args.path.now c.names_fit.ensures c.in-Err-read_dir.ensures.asks c.in_err-report-in-Err-read_dir.ensures.err))

pub remove_one-returns-in-Err-read_dir : goal.remove_one-returns-in-Err-read_dir
remove_one-returns-in-Err-read_dir g t c = rw c.if-not-dir.false (listing_refused c.args.now c.args.path.now c.names_fit.ensures c.in-Err-read_dir.ensures.asks (told_as c.args.path.now _ c.in_ok-report-in-Err-read_dir.ensures.ok c.status_of-in-Err-read_dir.ensures))

pub remove_one-returns-in_err-remove_each : goal.remove_one-returns-in_err-remove_each
remove_one-returns-in_err-remove_each g t c = rw c.if-not-dir.false (cut_out _ _ _ c.from_residual-in_err-remove_each.result c.from_residual-in_err-remove_each.ensures.1 (folder_stopped c.args.now c.args.path.now c.names_fit.ensures c.in-Ok-read_dir.ensures.asks (rw c.deref.ensures.value at c.in_err-remove_each.ensures)))

pub remove_one-returns-then-not-branch : goal.remove_one-returns-then-not-branch
remove_one-returns-then-not-branch g t c = rw c.if-not-dir.false (folder_left c.args.now c.args.path.now c.names_fit.ensures c.in-Ok-read_dir.ensures.asks (rw (c.deref.ensures.value, c.if-not-branch.true) at c.in_ok-remove_each.ensures))

pub remove_one-returns-in-Ok-remove_dir : goal.remove_one-returns-in-Ok-remove_dir
remove_one-returns-in-Ok-remove_dir g t c = rw c.if-not-dir.false (folder_gone c.args.now c.args.path.now c.names_fit.ensures c.in-Ok-read_dir.ensures.asks (rw (c.deref.ensures.value, c.if-not-branch.false) at c.in_ok-remove_each.ensures) c.in-Ok-remove_dir.ensures)

pub remove_one-returns-in_err-report-in-Err-remove_dir : goal.remove_one-returns-in_err-report-in-Err-remove_dir
remove_one-returns-in_err-report-in-Err-remove_dir g t c = rw c.if-not-dir.false (cut_out _ _ _ c.from_residual-in_err-report-in-Err-remove_dir.result c.from_residual-in_err-report-in-Err-remove_dir.ensures.1 (emptied_stopped c.args.now c.args.path.now c.names_fit.ensures c.in-Ok-read_dir.ensures.asks (rw (c.deref.ensures.value, c.if-not-branch.false) at c.in_ok-remove_each.ensures) c.in-Err-remove_dir.ensures c.in_err-report-in-Err-remove_dir.ensures.err))

pub remove_one-returns : goal.remove_one-returns
remove_one-returns g t c = rw c.if-not-dir.false (folder_refused c.args.now c.args.path.now c.names_fit.ensures c.in-Ok-read_dir.ensures.asks (rw (c.deref.ensures.value, c.if-not-branch.false) at c.in_ok-remove_each.ensures) c.in-Err-remove_dir.ensures (told_as c.args.path.now _ c.in_ok-report-in-Err-remove_dir.ensures.ok c.status_emptied.ensures))

pub remove_entry-returns-in_err-report-in-Err : goal.remove_entry-returns-in_err-report-in-Err
remove_entry-returns-in_err-report-in-Err g t c = cut_out _ _ _ c.from_residual.result c.from_residual.ensures.1 (looked c.args.now c.args.path.now (g.F.Entry.DavDirEntry.entry_name c.args.entry.now, g.F.Entry.DavDirEntry.entry_dir c.args.entry.now) (rw c.requires.folder at c.in-Err.ensures.asks) c.in_err-report-in-Err.ensures.err)

pub remove_entry-returns-in-Err : goal.remove_entry-returns-in-Err
remove_entry-returns-in-Err g t c = member_refused c.args.now c.args.path.now (g.F.Entry.DavDirEntry.entry_name c.args.entry.now, g.F.Entry.DavDirEntry.entry_dir c.args.entry.now) (rw c.requires.folder at c.in-Err.ensures.asks) (told_as c.args.path.now _ c.in_ok-report-in-Err.ensures.ok c.status_of.ensures)

pub remove_entry-returns-in_err-child : goal.remove_entry-returns-in_err-child
remove_entry-returns-in_err-child g t c = cut_out _ _ _ c.from_residual-in_err-child.result c.from_residual-in_err-child.ensures.1 (looked c.args.now c.args.path.now (g.F.Entry.DavDirEntry.entry_name c.args.entry.now, g.F.Entry.DavDirEntry.entry_dir c.args.entry.now) (rw c.requires.folder at c.in-Ok.ensures.asks) refl)

pub remove_entry-returns : goal.remove_entry-returns
remove_entry-returns g t c =
    member_walks c.args.now c.args.path.now c.in_ok-child.child (g.F.Entry.DavDirEntry.entry_name c.args.entry.now, g.F.Entry.DavDirEntry.entry_dir c.args.entry.now) c.name.result.now c.remove_one.result _ _ _ c.requires.path c.name.ensures.segment c.name.ensures.value c.in_ok-child.ensures
    (rw c.requires.folder at c.in-Ok.ensures.asks) c.remove_one.ensures

pub remove_each-returns-in_err-inside : goal.remove_each-returns-in_err-inside
remove_each-returns-in_err-inside g t c =
    let view = entry_view g.F.Entry.DavDirEntry.entry_name g.F.Entry.DavDirEntry.entry_dir in
    let es = c.args.entries.now in
    let i = c.loop-entry.entry-index in
    let x = c.entry-item.result in
    let here = from_place view es i x c.loop-entry-test.true c.entry-item.is in
    let f = remove_member (below c.args.now c.args.path.now) c.args.path.now in
    cut_out _ _ _ c.from_residual.result c.from_residual.ensures.1 (c.loop-entry.invariant.1 _ _ (rw here (one_stopped f (view x) (map view (drop (i + 1) es)) c.in_err-inside.ensures)))

pub remove_each-returns : goal.remove_each-returns
remove_each-returns g t c =
    let view = entry_view g.F.Entry.DavDirEntry.entry_name g.F.Entry.DavDirEntry.entry_dir in
    let es = c.args.entries.now in
    let i = c.loop-entry.entry-index in
    all_ended (remove_member (below c.args.now c.args.path.now) c.args.path.now) (map view (drop i es)) (map view es) c.loop-entry.clean (from_end view es i c.loop-entry-test.false) c.loop-entry.invariant.0

pub remove_each-loop-entry-init : goal.remove_each-loop-entry-init
remove_each-loop-entry-init g t c = (λ after rest end more. more, λ after end more. more)

pub remove_each-loop-entry-preserved : goal.remove_each-loop-entry-preserved
remove_each-loop-entry-preserved g t c =
    let view = entry_view g.F.Entry.DavDirEntry.entry_name g.F.Entry.DavDirEntry.entry_dir in
    let es = c.args.entries.now in
    let i = c.loop-entry.entry-index in
    let x = c.entry-item.result in
    let here = from_place view es i x c.loop-entry-test.true c.entry-item.is in
    let f = remove_member (below c.args.now c.args.path.now) c.args.path.now in
    let both : c.if-clean.clean ≡ (c.loop-entry.clean && c.in_ok-inside.inside) = elim c.if-clean.branch [
      | remove_each-then-clean w ↦ rw (w.clean-is, w.if-clean.true)
      | remove_each-else-clean w ↦ rw (w.clean-is, w.if-clean.false)
    ] in (
      each_more f (view x) (map view (drop (i + 1) es)) (map view (drop i es)) (map view es) c.loop-entry.clean c.if-clean.clean here both c.loop-entry.invariant.0 c.in_ok-inside.ensures,
      each_part f (view x) (map view (drop (i + 1) es)) (map view (drop i es)) (map view es) here c.loop-entry.invariant.1 c.in_ok-inside.ensures,
    )

pub remove_entry-remove_one-requires : goal.remove_entry-remove_one-requires
remove_entry-remove_one-requires g t c κs within =
    let p = c.args.path.now in
    let child = c.in_ok-child.child in
    let name = c.name.result.now in
    let dir = c.in-Ok.meta.dir in
    let fall : 3 * room_at child + 2 < 3 * room_at p = child_smaller p child name dir c.names_fit.ensures c.name.ensures.segment c.requires.path c.in_ok-child.ensures in
    let path : child.bytes ≢ star = child_path p child name dir c.in_ok-child.ensures in
    search (rules, fall, path)
