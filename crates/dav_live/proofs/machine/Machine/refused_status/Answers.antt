use Rattle.std.proofs.Common.{subst, sym, true≢false, ◌∙◌}
use Rattle.std.proofs.lemmas.Result.{IfOk-weaker}
use Rattle.dav_kept.specs.Records.{RequestView}
use Rattle.dav_server.specs.Head.{IsHead}
use Rattle.dav_http.specs.Refused.{MayBeRefused}
use Rattle.dav_live.proofs.MachineLemmas.{headless_unrefused, refused_of, unrefused_method}
use Rattle.dav_live.proofs.machine.Machine.refused_status.Goals as goal

pub returns-then-not-may_be_refused : goal.returns-then-not-may_be_refused
returns-then-not-may_be_refused c =
    unrefused_method c.args.self.now c.args.head.now c.args.request.now c.requires
    (λ may. true≢false (sym (c.may_be_refused.ensures.1 (subst MayBeRefused (sym c.method.ensures) may)) ∙ c.if-not-may_be_refused.true))

pub returns-in-Some : goal.returns-in-Some
returns-in-Some c =
    IfOk-weaker c.refusal.result _ _
    (refused_of c.in-Some.kept c.as_slice.result.now c.self.view_is c.request.view_is c.in-Some.ensures c.as_slice.ensures)
    c.refusal.ensures

pub returns-in-None : goal.returns-in-None
returns-in-None c =
    headless_unrefused c.args.self.now c.args.request.now
    (λ r is. c.in-None.ensures r (subst (λ (q : RequestView). IsHead q.head r) (sym c.request.view_is) is))
