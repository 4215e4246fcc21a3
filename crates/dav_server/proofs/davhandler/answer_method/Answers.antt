use Rattle.std.proofs.Common.{rules, ap, sym, ◌∙◌, refl, inl, inr, Ok, Err}
use Rattle.std.proofs.lemmas.Result.{err_from_is_err_and}
use Rattle.dav_core.specs.Method.{Has}
use Rattle.dav_engine.specs.Follows.{not_begun}
use Rattle.dav_engine.specs.Lock.{is_absent}
use Rattle.dav_server.specs.Machine.{caller, PlanOf, not_allowed, no_path, no_body, body_for, taken_by}
use Rattle.dav_server.proofs.HandingLemmas.{handing_by, handing_err, handing_is}
use Rattle.dav_server.proofs.StepLemmas.{serves_by, serves_error, path_at, handed_at}
use Rattle.dav_server.proofs.TargetLemmas.{target_is_path}
use Rattle.dav_server.proofs.UngrantedLemmas.{lock_body}
use Rattle.dav_server.proofs.davhandler.answer_method.Goals as goal

pub returns-then-not-contains-clause-serves : goal.returns-then-not-contains-clause-serves
returns-then-not-contains-clause-serves g c =
    let hidden : ¬ (Has c.args.handler.now.server.settings.allowed c.args.method) = search (rules, c.handler.view_is) in
    handing_err g.T.Takes.opened g.T.Takes.taken c.args.to _ (serves_error _ (not_allowed hidden))

pub returns-in_err-path-clause-serves : goal.returns-in_err-path-clause-serves
returns-in_err-path-clause-serves g c =
    let p = err_from_is_err_and c.from_residual.result c.from_residual.ensures.1 in
    let has : Has c.args.handler.now.server.settings.allowed c.args.method = search (rules, c.handler.view_is) in
    let named = path_at c.args.method (Err c.in_err-path.field-0.0) (c.deref.ensures ∙ ap (λ h. h.server.settings.prefix) c.handler.view_is) c.target.ensures c.in_err-path.ensures.path in
    elim named [
      | inl memory ↦ handing_is g.T.Takes.opened g.T.Takes.taken c.args.to _ (p.1 ∙ ap Err (p.2 ∙ memory)) (not_begun refl refl refl)
      | inr none ↦ rw (p.1, p.2) (handing_err g.T.Takes.opened g.T.Takes.taken c.args.to _ (serves_error _ (no_path _ has none)))
    ]

pub returns-in_err-body-clause-serves : goal.returns-in_err-body-clause-serves
returns-in_err-body-clause-serves g c =
    let p = err_from_is_err_and c.from_residual-in_err-body.result c.from_residual-in_err-body.ensures.1 in
    let has : Has c.args.handler.now.server.settings.allowed c.args.method = search (rules, c.handler.view_is) in
    let named = path_at c.args.method (Ok c.in_ok-path.path) (c.deref.ensures ∙ ap (λ h. h.server.settings.prefix) c.handler.view_is) c.target.ensures c.in_ok-path.ensures.path in
    let refused = c.in_err-body.ensures ∙ ap (λ x. body_for (taken_by c.args.method) x.body) c.exchange.view_is in
    rw (p.1, p.2) (handing_err g.T.Takes.opened g.T.Takes.taken c.args.to _ (serves_error _ (no_body c.in_ok-path.path _ has named (sym refused))))

pub returns-in_err-headers-clause-serves : goal.returns-in_err-headers-clause-serves
returns-in_err-headers-clause-serves g c =
    let p = err_from_is_err_and c.from_residual-in_err-headers.result c.from_residual-in_err-headers.ensures.1 in
    handing_is g.T.Takes.opened g.T.Takes.taken c.args.to _ (p.1 ∙ ap Err p.2) (not_begun refl refl refl)

pub returns-clause-serves : goal.returns-clause-serves
returns-clause-serves g c =
    let has : Has c.args.handler.now.server.settings.allowed c.args.method = search (rules, c.handler.view_is) in
    let named = path_at c.args.method (Ok c.in_ok-path.path) (c.deref.ensures ∙ ap (λ h. h.server.settings.prefix) c.handler.view_is) c.target.ensures c.in_ok-path.ensures.path in
    let taken = c.in_ok-body.ensures ∙ ap (λ x. body_for (taken_by c.args.method) x.body) c.exchange.view_is in
    handing_by g.T.Takes.opened g.T.Takes.taken c.args.to _ (λ whole one. handed_at has named taken c.in_ok-headers.ensures (serves_by (ap (λ b. PlanOf c.args.handler.now.server.settings.allowed c.in_ok-headers.headers c.in_ok-path.path b (caller c.args.exchange.now) c.args.method) c.as_body.ensures) one)) c.serve_to.ensures.serves

-- the target of another method than OPTIONS names a path
pub serve_to-requires : goal.serve_to-requires
serve_to-requires g c =
    let named = path_at c.args.method (Ok c.in_ok-path.path) (c.deref.ensures ∙ ap (λ h. h.server.settings.prefix) c.handler.view_is) c.target.ensures c.in_ok-path.ensures.path in
    record { path = target_is_path named; served = c.requires }

pub returns-clause-ungranted : goal.returns-clause-ungranted
returns-clause-ungranted g c = λ memory lock has.
    let taken = c.in_ok-body.ensures ∙ ap (λ x. body_for (taken_by c.args.method) x.body) c.exchange.view_is in
    c.serve_to.ensures.ungranted memory lock (ap is_absent c.as_body.ensures ∙ lock_body c.args.exchange.now.body taken lock has)
