use Rattle.std.proofs.Common.{ℕ, subst}
use Rattle.dav_live.specs.Serving.{IsDated}
use Rattle.dav_live.proofs.ServingLemmas.{on_ok}
use Rattle.dav_live.proofs.service.answering.ServiceAnswerer.answer.Goals as goal

pub returns : goal.returns
returns g c =
    on_ok c.add_date.result
    (λ dated. record {
      own = c.respond.new.response;
      replies = c.in_ok-respond.ensures.replies;
      said = c.explain.new.response;
      explained = c.in_ok-explain.ensures;
      dated = subst (λ (n : ℕ). IsDated n c.explain.new.response c.add_date.new.response) c.moment-moment.ensures.is dated;
      same = c.in_ok-respond.ensures.same;
      goes_on = c.in_ok-respond.ensures.goes_on;
    })
    c.add_date.ensures
