use Rattle.std.proofs.Common.{ℕ, ap, min, refl, subst, sym, ◌∙◌}
use Rattle.dav_core.specs.World.{last_moment}
use Rattle.dav_server.specs.Machine.{Exchange}
use Rattle.dav_http.specs.Steps.{IsBodyOf, IsTokenOf}
use Rattle.dav_engine.specs.Caller.{Caller}
use Rattle.dav_http.specs.Sent.{IsSendableTextIfAny}
use Rattle.dav_http.proofs.handler.exchange_of.Goals as goal

pub returns-in-Ok-clause-asked : goal.returns-in-Ok-clause-asked
returns-in-Ok-clause-asked c =
    let value = c.in-Ok.ensures.value in
    let seen = c.caller.view_is in
    record {
      head_is = ap (λ (x : Exchange). x.head) value;
      method = c.method_of.result.now;
      is_method = λ request is. c.method_of.ensures request is;
      body = subst (λ (n : ℕ). IsBodyOf c.method_of.result.now n c.args.body c.in-Ok.exchange.body) (sym (ap (λ (x : Exchange). x.moment) value))
          (subst (IsBodyOf c.method_of.result.now c.min-moment.result c.args.body) (sym (ap (λ (x : Exchange). x.body) value)) c.in_ok-body.ensures);
      principal = ap (λ (x : Exchange). x.principal) value ∙ ap (λ (r : Caller). r.principal) seen;
      moment = ap (λ (x : Exchange). x.moment) value ∙ c.min-moment.ensures ∙ ap (λ (r : Caller). min r.moment last_moment) seen;
      token = subst (λ t. IsTokenOf t c.in-Ok.exchange.token) (ap (λ (r : Caller). r.token) seen) (subst (IsTokenOf _) (sym (ap (λ (x : Exchange). x.token) value)) c.in_ok-token.ensures);
    }

pub returns-in-Ok-clause-sendable : goal.returns-in-Ok-clause-sendable
returns-in-Ok-clause-sendable c = subst IsSendableTextIfAny (sym (ap (λ (x : Exchange). x.principal) c.in-Ok.ensures.value)) (c.if-not-is_sendable_if_any.ensures.0 refl)
