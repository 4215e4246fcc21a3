use Rattle.std.proofs.Common.{◌∙◌, subst, sym, true≢false, None}
use Rattle.dav_http.specs.Refused.{AsksForTooMany, MayChange, many}
use Rattle.dav_http.proofs.RefusedLemmas.{not_refused, refused_crowded, refused_unmet}
use Rattle.dav_http.proofs.handler.Handler.refusal.Goals as goal

pub returns-then-branch : goal.returns-then-branch
returns-then-branch c = many (c.in_ok-asks_for_too_many.ensures.0 c.if-branch.true)

pub returns-in-Some : goal.returns-in-Some
returns-in-Some c =
    refused_unmet c.args.self.now.server c.args.head.now c.args.body.now (λ asks. true≢false (sym (c.in_ok-asks_for_too_many.ensures.1 asks) ∙ c.if-branch.false))
    (subst MayChange c.method.ensures (c.may_change.ensures.0 c.if-not-may_change.false)) c.in_ok-status.field-0 c.in-Some.status c.in-Some.is c.in_ok-status.ensures

pub returns-then-branch-2 : goal.returns-then-branch-2
returns-then-branch-2 c =
    refused_crowded c.args.self.now.server c.args.head.now c.args.body.now (λ asks. true≢false (sym (c.in_ok-asks_for_too_many.ensures.1 asks) ∙ c.if-branch.false))
    (subst MayChange c.method.ensures (c.may_change.ensures.0 c.if-not-may_change.false)) c.in_ok-status.field-0 c.in_default.is c.in_ok-status.ensures
    (c.in_ok-is_crowded.ensures.0 c.if-branch-2.true)

pub returns : goal.returns
returns c =
    not_refused c.args.self.now.server c.args.head.now c.args.body.now (λ asks. true≢false (sym (c.in_ok-asks_for_too_many.ensures.1 asks) ∙ c.if-branch.false))
    (subst MayChange c.method.ensures (c.may_change.ensures.0 c.if-not-may_change.false)) c.in_ok-status.field-0 c.in_default.is c.in_ok-status.ensures
    (λ is. true≢false (sym (c.in_ok-is_crowded.ensures.1 is) ∙ c.if-branch-2.false))
