use Rattle.std.proofs.Common.{rules, ◌≡◌, ◌≢◌, ◌<◌, ◌^◌, ◌+◌, ◌*◌, ◌&&◌, true, map, drop, length, ap, ◌∙◌}
use Rattle.std.proofs.lemmas.Result.{err_from_is_err_and}
use Rattle.dav_core.specs.Path.{star}
use Rattle.dav_engine.specs.FindView.{told_below, told_entry}
use Rattle.dav_engine.specs.Folder.{child_of, room_at}
use Rattle.dav_engine.specs.Follows.{as_is}
use Rattle.dav_engine.specs.Propfind.{tell_below, tell_members}
use Rattle.dav_engine.specs.WalkView.{entry_view}
use Rattle.dav_engine.specs.Reach.{reaches_below}
use Rattle.dav_engine.proofs.RemovalLemmas.{child_smaller, child_path, from_place, from_end}
use Rattle.dav_engine.proofs.RoomLemmas.{room_child}
use Rattle.dav_engine.proofs.TellLemmas.{tells_by, not_wanted, folder_stopped, folder_refused, folder_told, rest_told, entry_stopped, all_told, entry_refused, entry_cut, member_stopped, member_told, below_stopped}
use Rattle.dav_engine.proofs.methods.propfind.members.+members.Goals.{tell_entry-then-meta, tell_entry-else-meta}
use Rattle.dav_engine.proofs.methods.propfind.members.+members.Goals as goal

pub tell_below-returns-then-not-wanted : goal.tell_below-returns-then-not-wanted
tell_below-returns-then-not-wanted g t c = rw c.if-not-wanted.true (not_wanted g.T.Takes.taken _ (reaches_below c.args.reach) c.args.path.now c.args.writer.now)

pub tell_below-returns-in-Ok : goal.tell_below-returns-in-Ok
tell_below-returns-in-Ok g t c =
    let small : length c.args.path.now.bytes < 2 ^ 64 = c.names_fit.ensures in
    let view = entry_view g.F.Entry.DavDirEntry.entry_name g.F.Entry.DavDirEntry.entry_dir in
    let w = c.args.writer.now in
    rw c.if-not-wanted.false (tells_by g.T.Takes.taken as_is as_is (tell_below (reaches_below c.args.reach) (room_at c.args.path.now) w.writer c.args.path.now true)
    (λ known. tell_members (told_below (reaches_below c.args.reach) c.args.path.now w.writer) w.writer c.args.path.now known (map view c.in-Ok.entries.items)) w w
    c.tell_members.result (rw c.deref.ensures.value at c.tell_members.ensures)
    (λ u. folder_told g.T.Takes.taken _ (reaches_below c.args.reach) c.args.path.now c.args.writer.now c.tell_members.new.writer small c.in-Ok.ensures.asks)
    (folder_stopped g.T.Takes.taken _ (reaches_below c.args.reach) c.args.path.now c.args.writer.now.writer c.args.writer.now.quota small c.in-Ok.ensures.asks))

pub tell_below-returns-in-Err : goal.tell_below-returns-in-Err
tell_below-returns-in-Err g t c =
    let small : length c.args.path.now.bytes < 2 ^ 64 = c.names_fit.ensures in
    rw c.if-not-wanted.false (folder_refused g.T.Takes.taken _ (reaches_below c.args.reach) c.args.path.now c.args.writer.now small c.in-Err.ensures.asks)

pub tell_entry-returns-in_default : goal.tell_entry-returns-in_default
tell_entry-returns-in_default g t c =
    entry_refused g.T.Takes.taken _ (reaches_below c.args.reach) c.args.path.now (g.F.Entry.DavDirEntry.entry_name c.args.entry.now) c.args.writer.now (rw c.requires.folder at c.in_default.ensures.asks)

pub tell_entry-returns-in_err-child : goal.tell_entry-returns-in_err-child
tell_entry-returns-in_err-child g t c =
    let p = err_from_is_err_and c.from_residual.result c.from_residual.ensures.1 in
    rw p.1 (entry_cut g.T.Takes.taken _ (reaches_below c.args.reach) c.args.path.now (g.F.Entry.DavDirEntry.entry_name c.args.entry.now) c.args.writer.now.writer c.args.writer.now.quota
    (rw c.requires.folder at c.in-Ok.ensures.asks))

pub tell_entry-returns-in_err-tell : goal.tell_entry-returns-in_err-tell
tell_entry-returns-in_err-tell g t c =
    let name = g.F.Entry.DavDirEntry.entry_name c.args.entry.now in
    let path = c.in_ok-child.ensures ∙ ap (λ n. child_of c.args.path.now n c.in-Ok.meta.dir) c.name.ensures.value in
    let p = err_from_is_err_and c.from_residual-in_err-tell.result c.from_residual-in_err-tell.ensures.1 in
    rw p.1 (member_stopped g.T.Takes.taken _ (reaches_below c.args.reach) c.args.path.now name c.args.writer.now.writer c.args.writer.now.quota c.in_ok-child.child c.in-Ok.meta path
    (rw c.requires.folder at c.in-Ok.ensures.asks) c.in_err-tell.ensures)

pub tell_entry-tell_below-requires : goal.tell_entry-tell_below-requires
tell_entry-tell_below-requires g t c κs within =
    let p = c.args.path.now in
    let child = c.in_ok-child.child in
    let name = c.name.result.now in
    let dir = c.in-Ok.meta.dir in
    let small : length p.bytes < 2 ^ 64 = c.names_fit.ensures in
    let fall : 3 * room_at child + 2 < 3 * room_at p = child_smaller p child name dir small c.name.ensures.segment c.requires.path c.in_ok-child.ensures in
    let path : child.bytes ≢ star = child_path p child name dir c.in_ok-child.ensures in
    search (rules, fall, path)

pub tell_entry-returns : goal.tell_entry-returns
tell_entry-returns g t c =
    let name = g.F.Entry.DavDirEntry.entry_name c.args.entry.now in
    let path = c.in_ok-child.ensures ∙ ap (λ n. child_of c.args.path.now n c.in-Ok.meta.dir) c.name.ensures.value in
    let room = ap room_at c.in_ok-child.ensures ∙ room_child c.args.path.now c.name.result.now c.in-Ok.meta.dir c.name.ensures.segment c.requires.path in
    let both : c.if-meta.wanted ≡ (c.in-Ok.meta.dir && reaches_below c.args.reach) = elim c.if-meta.branch [
      | tell_entry-then-meta w ↦ rw w.if-meta.true (w.wanted-is ∙ w.reaches_below-wanted.ensures)
      | tell_entry-else-meta w ↦ rw w.if-meta.false (w.wanted-is ∙ w.if-meta.false)
    ] in
    let child = c.in_ok-child.child in
    let mid = c.tell.new.self in
    tells_by g.T.Takes.taken as_is as_is (told_entry (reaches_below c.args.reach) c.args.path.now c.args.writer.now.writer name) (tell_below (reaches_below c.args.reach) (room_at child) mid.writer child c.if-meta.wanted) c.args.writer.now mid
    c.tell_below.result c.tell_below.ensures
    (λ u. member_told g.T.Takes.taken _ (reaches_below c.args.reach) c.args.path.now name c.args.writer.now mid c.tell_below.new.writer child child c.if-meta.wanted c.in-Ok.meta path path room both
    (rw c.requires.folder at c.in-Ok.ensures.asks) c.in_ok-tell.ensures)
    (below_stopped g.T.Takes.taken _ (reaches_below c.args.reach) c.args.path.now name c.args.writer.now mid child child c.if-meta.wanted c.in-Ok.meta path path room both
    (rw c.requires.folder at c.in-Ok.ensures.asks) c.in_ok-tell.ensures)

pub tell_members-returns-in_err-tell_entry : goal.tell_members-returns-in_err-tell_entry
tell_members-returns-in_err-tell_entry g t c =
    let view = entry_view g.F.Entry.DavDirEntry.entry_name g.F.Entry.DavDirEntry.entry_dir in
    let es = c.args.entries.now in
    let i = c.loop-entry.entry-index in
    let x = c.entry-item.result in
    let p = err_from_is_err_and c.from_residual.result c.from_residual.ensures.1 in
    rw p.1 (entry_stopped g.T.Takes.taken _ (reaches_below c.args.reach) c.args.path.now (map view es) (map view (drop (i + 1) es)) (map view (drop i es)) (view x) c.args.writer.now c.loop-entry.writer
    (from_place view es i x c.loop-entry-test.true c.entry-item.is) c.in_err-tell_entry.ensures c.loop-entry.invariant)

pub tell_members-loop-entry-preserved : goal.tell_members-loop-entry-preserved
tell_members-loop-entry-preserved g t c =
    let view = entry_view g.F.Entry.DavDirEntry.entry_name g.F.Entry.DavDirEntry.entry_dir in
    let es = c.args.entries.now in
    let i = c.loop-entry.entry-index in
    let x = c.entry-item.result in
    rest_told g.T.Takes.taken _ (reaches_below c.args.reach) c.args.path.now (map view es) (map view (drop (i + 1) es)) (map view (drop i es)) (view x) c.args.writer.now c.loop-entry.writer _
    (from_place view es i x c.loop-entry-test.true c.entry-item.is) c.in_ok-tell_entry.ensures c.loop-entry.invariant

pub tell_members-returns : goal.tell_members-returns
tell_members-returns g t c =
    let view = entry_view g.F.Entry.DavDirEntry.entry_name g.F.Entry.DavDirEntry.entry_dir in
    let es = c.args.entries.now in
    let i = c.loop-entry.entry-index in
    all_told g.T.Takes.taken _ (reaches_below c.args.reach) c.args.path.now (map view es) (map view (drop i es)) c.args.writer.now c.loop-entry.writer (from_end view es i c.loop-entry-test.false) c.loop-entry.invariant
