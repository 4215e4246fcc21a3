use Rattle.std.proofs.Common.{List, subst, sym, ℕ}
use Rattle.std.proofs.lemmas.Result.{IfOk-weaker}
use Rattle.dav_http.specs.Leaves.{Leaves}
use Rattle.dav_http.proofs.SentRequests.{given_request}
use Rattle.dav_http.proofs.handler.Handler.handle_to.Goals as goal

pub answer-requires-clause-sendable : goal.answer-requires-clause-sendable
answer-requires-clause-sendable g c =
    given_request c.args.head.now c.args.body c.args.caller.now c.in_ok-exchange.exchange c.in_ok-exchange.ensures.asked c.in_ok-exchange.ensures.sendable

pub returns-clause-step : goal.returns-clause-step
returns-clause-step g c =
    IfOk-weaker c.answer.result _ _ (λ told parts. record {
      whole = parts.whole;
      step = record {
        exchange = c.in_ok-exchange.exchange;
        is_exchange = c.in_ok-exchange.ensures.asked;
        answers = parts.answers;
        same = parts.same;
        ample = parts.ample;
        told = parts.sendable;
      };
      handed = parts.handed;
    }) c.answer.ensures.parts

pub returns-clause-left : goal.returns-clause-left
returns-clause-left g c =
    IfOk-weaker c.answer.result _ _
    (λ told left leaves. left (subst (λ (h : List ℕ). Leaves h told.0) (sym c.in_ok-exchange.ensures.asked.head_is) leaves))
    c.answer.ensures.left
