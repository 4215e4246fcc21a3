use Rattle.std.proofs.Common.{subst}
use Rattle.dav_live.specs.Admission.{AdmissionView}
use Rattle.dav_live.specs.Serving.{IsTimed, held_of, kept_of}
use Rattle.dav_live.proofs.RunLemmas.{goes_on_then}
use Rattle.dav_live.proofs.ServingLemmas.{on_ok}
use Rattle.dav_live.proofs.service.Service.run_whole.Goals as goal

pub returns-clause-run : goal.returns-clause-run
returns-clause-run g c =
    on_ok c.set_time.result
    (λ timed. record {
      own = c.run.new.response;
      mid = held_of c.run.new.self;
      run = c.in_ok-run.ensures.run;
      timed = subst (λ (a : AdmissionView). IsTimed g.H.Handles.answers a (held_of c.run.new.self) c.args.request.now c.run.new.response c.set_time.new.response (held_of c.set_time.new.self)) c.in_ok-run.ensures.same timed;
    })
    c.set_time.ensures.timed

pub returns-clause-goes_on : goal.returns-clause-goes_on
returns-clause-goes_on g c =
    on_ok c.set_time.result
    (λ goes. goes_on_then g.H.Handles.answers g.J.Keeps.is_clean g.J.Keeps.kept (kept_of c.args.self.now) (kept_of c.run.new.self) (kept_of c.set_time.new.self) c.in_ok-run.ensures.goes_on goes)
    c.set_time.ensures.goes_on
