use Rattle.std.proofs.Common.{◌≡◌, ◌&&◌, ◌∙◌}
use Rattle.std.proofs.lemmas.Result.{err_from_is_err_and}
use Rattle.dav_engine.specs.Follows.{as_is}
use Rattle.dav_engine.specs.Propfind.{tell_itself, tells_itself, tells_members}
use Rattle.dav_engine.specs.ResponseWriter.{started}
use Rattle.dav_engine.proofs.CutPlans.{cut_first}
use Rattle.dav_engine.proofs.FindLemmas.{itself_told, itself_untold, itself_stopped, below_cut, both_told}
use Rattle.dav_engine.proofs.TellLemmas.{Told}
use Rattle.dav_engine.proofs.methods.propfind.told.Goals.{then-tells_itself+in_ok-tell, else-tells_itself, then-found, else-found}
use Rattle.dav_engine.proofs.methods.propfind.told.Goals as goal

pub returns-in_err-writer : goal.returns-in_err-writer
returns-in_err-writer g c =
    let p = err_from_is_err_and c.from_residual.result c.from_residual.ensures.1 in
    rw p.1 cut_first

pub returns-in_err-tell : goal.returns-in_err-tell
returns-in_err-tell g c =
    let p = err_from_is_err_and c.from_residual-in_err-tell.result c.from_residual-in_err-tell.ensures.1 in
    rw p.1 (itself_stopped _ c.args.headers.now c.args.writer c.args.found.path.now c.args.found.meta.now g.T.Takes.opened g.T.Takes.taken c.args.to _ c.if-tells_itself.ensures c.in_ok-writer.ensures c.in_err-tell.ensures)

pub returns-in_err-tell_below : goal.returns-in_err-tell_below
returns-in_err-tell_below g c =
    let first : Told g.T.Takes.taken _ as_is (λ known. tell_itself (tells_itself c.args.headers.now.depth) c.args.writer c.args.found.path.now c.args.found.meta.now) (started g.T.Takes.opened c.args.writer c.args.to) c.if-tells_itself.writer _ _ = elim c.if-tells_itself.branch [
      | then-tells_itself+in_ok-tell w ↦ rw (w.writer-is, w.fs-is) (itself_told _ c.args.headers.now c.args.writer c.args.found.path.now c.args.found.meta.now g.T.Takes.opened g.T.Takes.taken c.args.to _ _ w.if-tells_itself.ensures c.in_ok-writer.ensures w.in_ok-tell.ensures)
      | else-tells_itself w ↦ rw (w.writer-is, w.fs-is) (itself_untold _ c.args.headers.now c.args.writer c.args.found.path.now c.args.found.meta.now g.T.Takes.opened g.T.Takes.taken c.args.to _ w.if-tells_itself.ensures c.in_ok-writer.ensures)
    ] in
    let both : c.if-found.wanted ≡ (c.args.found.meta.now.dir && tells_members c.args.headers.now.depth) = elim c.if-found.branch [
      | then-found w ↦ rw w.if-found.true (w.wanted-is ∙ w.tells_members-wanted.ensures)
      | else-found w ↦ rw w.if-found.false (w.wanted-is ∙ w.if-found.false)
    ] in
    let p = err_from_is_err_and c.from_residual-in_err-tell_below.result c.from_residual-in_err-tell_below.ensures.1 in
    rw p.1 (below_cut _ c.args.headers.now c.args.writer c.args.found.path.now c.args.found.meta.now g.T.Takes.opened g.T.Takes.taken c.args.to _ _ _ c.member_reach-reach.ensures both first c.in_err-tell_below.ensures)

pub returns : goal.returns
returns g c =
    let first : Told g.T.Takes.taken _ as_is (λ known. tell_itself (tells_itself c.args.headers.now.depth) c.args.writer c.args.found.path.now c.args.found.meta.now) (started g.T.Takes.opened c.args.writer c.args.to) c.if-tells_itself.writer _ _ = elim c.if-tells_itself.branch [
      | then-tells_itself+in_ok-tell w ↦ rw (w.writer-is, w.fs-is) (itself_told _ c.args.headers.now c.args.writer c.args.found.path.now c.args.found.meta.now g.T.Takes.opened g.T.Takes.taken c.args.to _ _ w.if-tells_itself.ensures c.in_ok-writer.ensures w.in_ok-tell.ensures)
      | else-tells_itself w ↦ rw (w.writer-is, w.fs-is) (itself_untold _ c.args.headers.now c.args.writer c.args.found.path.now c.args.found.meta.now g.T.Takes.opened g.T.Takes.taken c.args.to _ w.if-tells_itself.ensures c.in_ok-writer.ensures)
    ] in
    let both : c.if-found.wanted ≡ (c.args.found.meta.now.dir && tells_members c.args.headers.now.depth) = elim c.if-found.branch [
      | then-found w ↦ rw w.if-found.true (w.wanted-is ∙ w.tells_members-wanted.ensures)
      | else-found w ↦ rw w.if-found.false (w.wanted-is ∙ w.if-found.false)
    ] in
    both_told _ c.args.headers.now c.args.writer c.args.found.path.now c.args.found.meta.now g.T.Takes.opened g.T.Takes.taken c.args.to _ _ _ _ c.member_reach-reach.ensures both first c.in_ok-tell_below.ensures
