use Rattle.std.proofs.Common.{rules, ◌≡◌, ◌≢◌, ◌<◌, ◌+◌, ◌*◌, true, false, map, drop, sym, subst, ◌∙◌}
use Rattle.dav_core.specs.Path.{names, star, are_equal}
use Rattle.dav_engine.specs.CopyView.{copy_below}
use Rattle.dav_engine.specs.Folder.{room_at}
use Rattle.dav_engine.specs.WalkView.{entry_view}
use Rattle.dav_engine.specs.Reach.{reaches_below}
use Rattle.dav_engine.proofs.CopyLemmas.{none_made, is_file, is_dir, top_skipped, look_told, kind_walks, alone_walks, deep_walks, folder_told, list_told, inside_walks, whole_first, unseen_told, part_member, whole_more, part_more, whole_ended, entry_walks, source_smaller}
use Rattle.dav_engine.proofs.CutWalks.{cut_out}
use Rattle.dav_engine.proofs.RemovalLemmas.{from_place, from_end, child_path}
use Rattle.dav_engine.proofs.methods.copy_move.copying.+copying.Goals as goal

pub copy_each-loop-entry-init : goal.copy_each-loop-entry-init
copy_each-loop-entry-init g t c =
    let view = entry_view g.F.Entry.DavDirEntry.entry_name g.F.Entry.DavDirEntry.entry_dir in
    let job = c.args.job.now in
    let walk = copy_below job.moment job.top.now job.source.now in
    (whole_first walk job.source.now job.destination.now (map view c.args.entries.now) (g.F.DavFileSystem.state c.args.fs.now) c.args.errors.now, λ after end stop. stop)

pub copy_each-returns-in-Err : goal.copy_each-returns-in-Err
copy_each-returns-in-Err g t c =
    let view = entry_view g.F.Entry.DavDirEntry.entry_name g.F.Entry.DavDirEntry.entry_dir in
    let job = c.args.job.now in
    let walk = copy_below job.moment job.top.now job.source.now in
    let es = c.args.entries.now in
    let i = c.loop-entry.entry-index in
    let x = c.entry-item.result in
    let here = from_place view es i x c.loop-entry-test.true c.entry-item.is in
    let folder = subst (λ e. g.F.Entry.DavDirEntry.entry_folder e ≡ names job.source.now) (sym c.entry-item.is) (c.requires.folder i x c.loop-entry-test.true) in
    unseen_told walk job.source.now job.destination.now (view x) (map view (drop (i + 1) es)) (map view (drop i es)) (map view es) here c.refused.result _ c.loop-entry.invariant.0 c.loop-entry.invariant.1
    (rw folder at c.in-Err.ensures.asks) c.refused.ensures.ok c.refused.ensures.err

pub copy_each-returns-in_err-inside : goal.copy_each-returns-in_err-inside
copy_each-returns-in_err-inside g t c =
    let view = entry_view g.F.Entry.DavDirEntry.entry_name g.F.Entry.DavDirEntry.entry_dir in
    let job = c.args.job.now in
    let walk = copy_below job.moment job.top.now job.source.now in
    let es = c.args.entries.now in
    let i = c.loop-entry.entry-index in
    let x = c.entry-item.result in
    let here = from_place view es i x c.loop-entry-test.true c.entry-item.is in
    let folder = subst (λ e. g.F.Entry.DavDirEntry.entry_folder e ≡ names job.source.now) (sym c.entry-item.is) (c.requires.folder i x c.loop-entry-test.true) in
    cut_out _ _ _ c.from_residual.result c.from_residual.ensures.1
    (part_member walk job.source.now job.destination.now (view x) (map view (drop (i + 1) es)) (map view (drop i es)) (map view es) here (rw folder at c.in-Ok.ensures.asks) c.loop-entry.invariant.1 c.in_err-inside.ensures)

pub copy_each-loop-entry-preserved : goal.copy_each-loop-entry-preserved
copy_each-loop-entry-preserved g t c =
    let view = entry_view g.F.Entry.DavDirEntry.entry_name g.F.Entry.DavDirEntry.entry_dir in
    let job = c.args.job.now in
    let walk = copy_below job.moment job.top.now job.source.now in
    let es = c.args.entries.now in
    let i = c.loop-entry.entry-index in
    let x = c.entry-item.result in
    let here = from_place view es i x c.loop-entry-test.true c.entry-item.is in
    let folder = subst (λ e. g.F.Entry.DavDirEntry.entry_folder e ≡ names job.source.now) (sym c.entry-item.is) (c.requires.folder i x c.loop-entry-test.true) in
    let one = rw folder at c.in-Ok.ensures.asks in (
      whole_more walk job.source.now job.destination.now (view x) (map view (drop (i + 1) es)) (map view (drop i es)) (map view es) here one c.in_ok-inside.ensures c.or-last.ensures c.loop-entry.invariant.0,
      part_more walk job.source.now job.destination.now (view x) (map view (drop (i + 1) es)) (map view (drop i es)) (map view es) here one c.in_ok-inside.ensures c.loop-entry.invariant.1,
    )

pub copy_each-returns : goal.copy_each-returns
copy_each-returns g t c =
    let view = entry_view g.F.Entry.DavDirEntry.entry_name g.F.Entry.DavDirEntry.entry_dir in
    let job = c.args.job.now in
    let walk = copy_below job.moment job.top.now job.source.now in
    let es = c.args.entries.now in
    let i = c.loop-entry.entry-index in
    whole_ended walk job.source.now job.destination.now (map view (drop i es)) (map view es) (from_end view es i c.loop-entry-test.false) c.loop-entry.invariant.0

pub copy_entry-returns-in_err-from : goal.copy_entry-returns-in_err-from
copy_entry-returns-in_err-from g t c =
    cut_out _ _ _ c.from_residual.result c.from_residual.ensures.1 (none_made _)

pub copy_entry-returns-in_err-to : goal.copy_entry-returns-in_err-to
copy_entry-returns-in_err-to g t c =
    cut_out _ _ _ c.from_residual-in_err-to.result c.from_residual-in_err-to.ensures.1 (none_made _)

pub copy_entry-copy_one-requires : goal.copy_entry-copy_one-requires
copy_entry-copy_one-requires g t c κs within =
    let from = c.in_ok-from.from in
    let s = c.args.job.now.source.now in
    let name = c.name-name.result.now in
    let fall : 4 * room_at from + 3 < 4 * room_at s = source_smaller s from name c.args.dir c.names_fit.ensures c.name-name.ensures.segment c.requires.path c.in_ok-from.ensures in
    let path : from.bytes ≢ star = child_path s from name c.args.dir c.in_ok-from.ensures in
    search (rules, fall, path)

pub copy_entry-returns : goal.copy_entry-returns
copy_entry-returns g t c =
    let job = c.args.job.now in
    entry_walks job.moment job.top.now job.source.now job.destination.now c.in_ok-from.from c.in_ok-to.to c.name-name.result.now (g.F.Entry.DavDirEntry.entry_name c.args.entry.now) c.args.dir c.requires.path c.name-name.ensures.segment c.name-name.ensures.value c.in_ok-from.ensures c.in_ok-to.ensures
    c.copy_one.result _ _ _ _ c.copy_one.ensures

pub copy_folder-returns-in-Err : goal.copy_folder-returns-in-Err
copy_folder-returns-in-Err g t c =
    let job = c.args.job.now in
    folder_told (copy_below job.moment job.top.now job.source.now) job.moment job.source.now job.destination.now c.refused.result _ _ c.in-Err.ensures c.refused.ensures.ok c.refused.ensures.err

pub copy_folder-returns-in-Ok-read_dir : goal.copy_folder-returns-in-Ok-read_dir
copy_folder-returns-in-Ok-read_dir g t c =
    let job = c.args.job.now in
    inside_walks (copy_below job.moment job.top.now job.source.now) job.moment job.source.now job.destination.now c.in-Ok.ensures c.copy_each.result _ _ _ c.in-Ok-read_dir.ensures.asks (rw c.deref.ensures.value at c.copy_each.ensures)

pub copy_folder-returns-in-Err-read_dir : goal.copy_folder-returns-in-Err-read_dir
copy_folder-returns-in-Err-read_dir g t c =
    let job = c.args.job.now in
    list_told (copy_below job.moment job.top.now job.source.now) job.moment job.source.now job.destination.now c.in-Ok.ensures c.refused-in-Err-read_dir.result _ _ c.in-Err-read_dir.ensures.asks c.refused-in-Err-read_dir.ensures.ok c.refused-in-Err-read_dir.ensures.err

pub copy_one-returns-then-eq : goal.copy_one-returns-then-eq
copy_one-returns-then-eq g t c =
    let job = c.args.job.now in
    top_skipped (reaches_below job.reach) job.moment job.top.now job.source.now job.destination.now c.names_fit.ensures (sym c.eq.ensures ∙ c.if-eq.true)

pub copy_one-returns-in-Err : goal.copy_one-returns-in-Err
copy_one-returns-in-Err g t c =
    let job = c.args.job.now in
    let other : are_equal job.source.now job.top.now ≡ false = sym c.eq.ensures ∙ c.if-eq.false in
    look_told (reaches_below job.reach) job.moment job.top.now job.source.now job.destination.now c.names_fit.ensures other c.refused.result _ _ c.in-Err.ensures.asks c.refused.ensures.ok c.refused.ensures.err

pub copy_one-returns-then-not-meta : goal.copy_one-returns-then-not-meta
copy_one-returns-then-not-meta g t c =
    let job = c.args.job.now in
    let other : are_equal job.source.now job.top.now ≡ false = sym c.eq.ensures ∙ c.if-eq.false in
    kind_walks (reaches_below job.reach) job.moment job.top.now job.source.now job.destination.now c.names_fit.ensures other c.in-Ok.ensures.asks c.copy_file.result _ _ _ false (is_file c.in-Ok.meta.dir c.if-not-meta.true) c.copy_file.ensures

pub copy_one-returns-then-not-reaches_below : goal.copy_one-returns-then-not-reaches_below
copy_one-returns-then-not-reaches_below g t c =
    let job = c.args.job.now in
    let other : are_equal job.source.now job.top.now ≡ false = sym c.eq.ensures ∙ c.if-eq.false in
    kind_walks (reaches_below job.reach) job.moment job.top.now job.source.now job.destination.now c.names_fit.ensures other c.in-Ok.ensures.asks c.copy_alone.result _ _ _ true (is_dir c.in-Ok.meta.dir c.if-not-meta.false)
    (alone_walks (reaches_below job.reach) _ job.moment job.source.now job.destination.now c.copy_alone.result _ _ _ _ (sym c.reaches_below.ensures ∙ c.if-not-reaches_below.true) c.copy_alone.ensures)

pub copy_one-returns : goal.copy_one-returns
copy_one-returns g t c =
    let job = c.args.job.now in
    let other : are_equal job.source.now job.top.now ≡ false = sym c.eq.ensures ∙ c.if-eq.false in
    kind_walks (reaches_below job.reach) job.moment job.top.now job.source.now job.destination.now c.names_fit.ensures other c.in-Ok.ensures.asks c.copy_folder.result _ _ _ true (is_dir c.in-Ok.meta.dir c.if-not-meta.false)
    (deep_walks (reaches_below job.reach) job.moment job.top.now job.source.now job.destination.now c.copy_folder.result _ _ _ _ (sym c.reaches_below.ensures ∙ c.if-not-reaches_below.false) c.copy_folder.ensures)
