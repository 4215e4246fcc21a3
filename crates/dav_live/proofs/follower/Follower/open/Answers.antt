use Rattle.std.proofs.Common.{subst, sym, ap, string_bytes, ◌≡◌, ◌∙◌}
use Rattle.dav_journal.specs.Pair.{HasAllPair}
use Rattle.dav_journal.specs.declared.pair.Pair.{Pair}
use Rattle.dav_http.specs.Saved.{Loads}
use Rattle.dav_http.specs.Steps.{new_server}
use Rattle.dav_kept.specs.Followed.{followed_by}
use Rattle.dav_kept.specs.Kept.{journal_of}
use Rattle.dav_kept.specs.declared.followed.Followed.{Followed}
use Rattle.dav_server.specs.Server.{Server}
use Rattle.dav_live.specs.Answers.{IsAnswer}
use Rattle.dav_live.specs.Behind.{IsCleanBehind}
use Rattle.dav_live.specs.Runs.{IsOpened}
use Rattle.dav_live.specs.Serving.{kept_of}
use Rattle.dav_live.specs.declared.service.Service.{Service}
use Rattle.dav_live.proofs.follower.Follower.open.Goals as goal

pub returns-clause-run : goal.returns-clause-run
returns-clause-run g c =
    let service = c.in_ok-service.service in
    let prefix = string_bytes c.args.settings.prefix in
    let first : c.new-machine.result ≡ new_server prefix =
    c.new-machine.ensures ∙ c.in_ok-handler.ensures.new ∙ ap new_server (c.as_str.ensures.value ∙ c.in_ok-prefix.ensures.cases) in
    let run = c.in_ok-service.ensures.run in
    let opened : IsCleanBehind g.D.Disk (journal_of (kept_of service))
    → IsOpened IsAnswer Loads (λ j bs. HasAllPair g.D.Disk (followed_by j) bs) (new_server prefix) run.0 run.1 (kept_of service) =
    λ clean.
    subst (λ (s : Server). IsOpened IsAnswer Loads (λ j bs. HasAllPair g.D.Disk (followed_by j) bs) s run.0 run.1 (kept_of service)) first
    (run.2 clean (c.in_ok-journal.ensures (c.in_ok-service.ensures.clean clean))) in (
      run.0,
      run.1,
      subst (λ (s : Service Server (Followed (Pair g.row.D.Denot))). IsCleanBehind g.D.Disk (journal_of (kept_of s))
          → IsOpened IsAnswer Loads (λ j bs. HasAllPair g.D.Disk (followed_by j) bs) (new_server prefix) run.0 run.1 (kept_of s)) (sym c.new-3.ensures.keeper) opened,
    )
