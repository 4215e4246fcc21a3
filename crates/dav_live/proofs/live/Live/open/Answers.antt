use Rattle.std.proofs.Common.{subst, sym, ap, string_bytes, ◌≡◌, ◌∙◌}
use Rattle.std.proofs.lemmas.Result.{IfOk-weaker}
use Rattle.dav_journal.specs.Pair.{HasReadPair, IsCleanPair}
use Rattle.dav_journal.specs.declared.pair.Pair.{Pair}
use Rattle.dav_http.specs.Saved.{Loads}
use Rattle.dav_http.specs.Steps.{new_server}
use Rattle.dav_kept.specs.Kept.{journal_of}
use Rattle.dav_server.specs.Server.{Server}
use Rattle.dav_live.specs.Answers.{IsAnswer}
use Rattle.dav_live.specs.Runs.{IsOpened}
use Rattle.dav_live.specs.Serving.{kept_of}
use Rattle.dav_live.specs.declared.service.Service.{Service}
use Rattle.dav_live.proofs.live.Live.open.Goals as goal

pub returns : goal.returns
returns g c =
    let service = c.in_ok-service.service in
    let prefix = string_bytes c.args.settings.prefix in
    let first : c.new-machine.result ≡ new_server prefix =
    c.new-machine.ensures ∙ c.in_ok-handler.ensures.new ∙ ap new_server c.as_str-2.ensures.value in
    let run = c.in_ok-service.ensures.run in
    let opened : IsCleanPair g.D.Disk (journal_of (kept_of service)) → IsOpened IsAnswer Loads (λ j bs. HasReadPair g.D.Disk j bs) (new_server prefix) run.0 run.1 (kept_of service) =
    λ clean.
    subst (λ (s : Server). IsOpened IsAnswer Loads (λ j bs. HasReadPair g.D.Disk j bs) s run.0 run.1 (kept_of service)) first
    (run.2 clean (c.in_ok-journal.ensures (c.in_ok-service.ensures.clean clean))) in
    record {
      run = IfOk-weaker c.live_of.result _ _
          (λ l is. (
            run.0,
            run.1,
            subst (λ (s : Service Server (Pair g.row.D.Denot)). IsCleanPair g.D.Disk (journal_of (kept_of s))
                → IsOpened IsAnswer Loads (λ j bs. HasReadPair g.D.Disk j bs) (new_server prefix) run.0 run.1 (kept_of s)) (sym is) opened,
          ))
          c.live_of.ensures;
    }
