use Rattle.std.proofs.Common.{ℕ, refl, subst}
use Rattle.std.proofs.lemmas.Result.{IfOk-weaker}
use Rattle.http_server.specs.declared.response.Response.{Response}
use Rattle.dav_live.specs.Serving.{IsRun, admission_of, held_of, kept_of, own_request, stuck}
use Rattle.dav_live.proofs.RunLemmas.{goes_on_same}
use Rattle.dav_live.proofs.ServingLemmas.{ends_at, not_both}
use Rattle.dav_live.proofs.service.Service.end_lock.Goals as goal

pub returns-in-Some-clause-ended : goal.returns-in-Some-clause-ended
returns-in-Some-clause-ended g c =
    let ends = ends_at g.H.Ends.ends _ _ _ _ c.in_ok-head.field-0 c.in-Some.head c.as_bytes.result.now c.in_ok-head.ensures c.handler.ensures c.moment-now.ensures.is c.in-Some.is c.as_bytes.ensures.value in
    let run_at : (sent : Response) → IsRun g.H.Handles.answers (held_of c.args.self.now) (own_request c.moment-now.result c.as_bytes.result.now) sent (held_of c.unlock.new.self)
    → IsRun g.H.Handles.answers (held_of c.args.self.now) (own_request (admission_of c.args.self.now).moment c.as_bytes.result.now) sent (held_of c.unlock.new.self) =
    λ sent run. subst (λ (n : ℕ). IsRun g.H.Handles.answers (held_of c.args.self.now) (own_request n c.as_bytes.result.now) sent (held_of c.unlock.new.self)) c.moment-now.ensures.is run in
    IfOk-weaker c.unlock.result _ _ (λ is run yes. (c.as_bytes.result.now, run.0, ends, run_at run.0 run.1, run.2.0 yes)) c.unlock.ensures.run

pub returns-in-Some-clause-last : goal.returns-in-Some-clause-last
returns-in-Some-clause-last g c =
    let ends = ends_at g.H.Ends.ends _ _ _ _ c.in_ok-head.field-0 c.in-Some.head c.as_bytes.result.now c.in_ok-head.ensures c.handler.ensures c.moment-now.ensures.is c.in-Some.is c.as_bytes.ensures.value in
    let run_at : (sent : Response) → IsRun g.H.Handles.answers (held_of c.args.self.now) (own_request c.moment-now.result c.as_bytes.result.now) sent (held_of c.unlock.new.self)
    → IsRun g.H.Handles.answers (held_of c.args.self.now) (own_request (admission_of c.args.self.now).moment c.as_bytes.result.now) sent (held_of c.unlock.new.self) =
    λ sent run. subst (λ (n : ℕ). IsRun g.H.Handles.answers (held_of c.args.self.now) (own_request n c.as_bytes.result.now) sent (held_of c.unlock.new.self)) c.moment-now.ensures.is run in
    IfOk-weaker c.unlock.result _ _ (λ is run no. stuck c.as_bytes.result.now run.0 ends (run_at run.0 run.1) (λ e. not_both is no (run.2.1 e))) c.unlock.ensures.run

pub returns-in-None-clause-goes_on : goal.returns-in-None-clause-goes_on
returns-in-None-clause-goes_on g c = goes_on_same g.H.Handles.answers g.J.Keeps.is_clean g.J.Keeps.kept (kept_of c.args.self.now) c.args.self.now.kept refl
