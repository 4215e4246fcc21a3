-- A run of records is a run of the machine.
use Rattle.std.proofs.Common.{List, [], ◌∷◌, sym, subst}
use Rattle.http_server.specs.declared.response.Response.{Response}
use Rattle.dav_engine.specs.Reply.{Reply}
use Rattle.dav_server.specs.Machine.{Settings}
use Rattle.dav_server.specs.Run.{Runs, no_more, one_more}
use Rattle.dav_server.specs.Server.{AnswersAll, Server, turns}
use Rattle.dav_http.specs.Steps.{IsStepFor}
use Rattle.dav_kept.specs.Records.{RecordView, RequestView}
use Rattle.dav_live.specs.Answers.{IsAnswer, caller_of, replied, shown}
use Rattle.dav_live.specs.Life.{IsMachineRun, RunsAreTheMachines}

-- the step of an answer
pub step_of : (old new : Server) (q : RequestView) (sent : Response) → IsAnswer old q sent new → (reply : Reply) × IsStepFor q.head q.body (caller_of q) old reply new
step_of old new q sent (replied r step is_sent) = (r, step)
step_of old _ q sent (shown r sees step status page) = (r, step)

-- one step, and then a run
one_then : (first mid last : Server) (r : RecordView) (rs : List RecordView) → (reply : Reply) × IsStepFor r.request.head r.request.body (caller_of r.request) first reply mid
    → IsMachineRun mid rs last → IsMachineRun first (r ∷ rs) last
one_then first mid last r rs (reply, step) later =
    let runs : Runs first.settings (turns later.exchanges) mid.state.store mid.state.locks later.replies last.state.store last.state.locks =
    subst (λ (s : Settings). Runs s (turns later.exchanges) mid.state.store mid.state.locks later.replies last.state.store last.state.locks) step.same later.runs in
    record {
      exchanges = step.exchange ∷ later.exchanges;
      replies = reply ∷ later.replies;
      asked = (step.is_exchange, later.asked);
      runs = one_more step.answers runs;
    }

pub runs_are_the_machines : RunsAreTheMachines
runs_are_the_machines first last [] same = record {
  exchanges = [];
  replies = [];
  asked = tt;
  runs = subst (λ (s : Server). AnswersAll first [] [] s) (sym same) no_more;
}
runs_are_the_machines first last (r ∷ rs) (mid, (sent, status, is), rest) =
    one_then first mid last r rs (step_of first mid r.request sent is) (runs_are_the_machines mid last rs rest)
