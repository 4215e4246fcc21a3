use Rattle.std.proofs.Common.{Ok, ap, sym, ◌∙◌}
use Rattle.std.proofs.lemmas.Result.{err_from_is_err_and}
use Rattle.dav_engine.specs.Proppatch.{all_done}
use Rattle.dav_engine.proofs.Following.{follows_up_to}
use Rattle.dav_engine.proofs.ProppatchLemmas.{had, were_judged, refused_is, none_made, not_made, all_made, made_untold}
use Rattle.dav_engine.proofs.methods.proppatch.change_properties.Goals as goal

pub returns-in_err-judged : goal.returns-in_err-judged
returns-in_err-judged g c ls =
    let p = err_from_is_err_and c.from_residual.result c.from_residual.ensures.1 in
    rw (p.1, p.2) (had c.args.path.now c.args.changes.items _ _ c.have_props-has.ensures.1 c.have_props-has.ensures.2 follows_up_to)

pub returns-in_err-all_failed : goal.returns-in_err-all_failed
returns-in_err-all_failed g c ls =
    let p = err_from_is_err_and c.from_residual-in_err-all_failed.result c.from_residual-in_err-all_failed.ensures.1 in
    rw (p.1, p.2) (had c.args.path.now c.args.changes.items _ _ c.have_props-has.ensures.1 c.have_props-has.ensures.2 follows_up_to)

pub returns-then-has_refused : goal.returns-then-has_refused
returns-then-has_refused g c ls =
    had c.args.path.now c.args.changes.items _ _ c.have_props-has.ensures.1 c.have_props-has.ensures.2
    (were_judged c.args.path.now c.args.changes.items c.have_props-has.result _ _ c.in_ok-judged.ensures.answered c.in_ok-judged.ensures.stored
    (none_made c.args.path.now c.in_ok-judged.judged.answered.items c.in_ok-judged.judged.stored.items
    (refused_is _ _ _ _ c.deref.ensures.value c.has_refused.ensures c.if-has_refused.true) (ap Ok c.in_ok-all_failed.ensures)))

pub returns-in_err-done : goal.returns-in_err-done
returns-in_err-done g c ls =
    let p = err_from_is_err_and c.from_residual-in_err-done.result c.from_residual-in_err-done.ensures.1 in
    rw (p.1, p.2) (had c.args.path.now c.args.changes.items _ _ c.have_props-has.ensures.1 c.have_props-has.ensures.2
    (were_judged c.args.path.now c.args.changes.items c.have_props-has.result _ _ c.in_ok-judged.ensures.answered (c.deref-2.ensures.value ∙ c.in_ok-judged.ensures.stored)
    (not_made c.args.path.now c.in_ok-judged.judged.answered.items c.deref-2.result.now _
    (refused_is _ _ _ _ c.deref.ensures.value c.has_refused.ensures c.if-has_refused.false) (c.in_err-done.ensures ls))))

pub returns-in_err-all_done : goal.returns-in_err-all_done
returns-in_err-all_done g c ls =
    let p = err_from_is_err_and c.from_residual-in_err-all_done.result c.from_residual-in_err-all_done.ensures.1 in
    rw (p.1, p.2) (had c.args.path.now c.args.changes.items _ _ c.have_props-has.ensures.1 c.have_props-has.ensures.2
    (were_judged c.args.path.now c.args.changes.items c.have_props-has.result _ _ c.in_ok-judged.ensures.answered (c.deref-2.ensures.value ∙ c.in_ok-judged.ensures.stored)
    (made_untold c.args.path.now c.in_ok-judged.judged.answered.items c.deref-2.result.now c.in_ok-done.done
    (refused_is _ _ _ _ c.deref.ensures.value c.has_refused.ensures c.if-has_refused.false) (c.in_ok-done.ensures ls))))

pub returns : goal.returns
returns g c ls =
    had c.args.path.now c.args.changes.items _ _ c.have_props-has.ensures.1 c.have_props-has.ensures.2
    (were_judged c.args.path.now c.args.changes.items c.have_props-has.result _ _ (c.deref-3.ensures.value ∙ c.in_ok-judged.ensures.answered) (c.deref-2.ensures.value ∙ c.in_ok-judged.ensures.stored)
    (all_made c.args.path.now c.deref-3.result.now c.deref-2.result.now c.in_ok-done.done
    (refused_is _ _ _ _ (c.deref.ensures.value ∙ sym c.deref-3.ensures.value) c.has_refused.ensures c.if-has_refused.false) (c.in_ok-done.ensures ls)
    (ap Ok (c.in_ok-all_done.ensures ∙ ap (all_done c.deref-3.result.now) c.deref-4.ensures.value))))
