use Rattle.std.proofs.Common.{subst, ap, ◌≡◌, ◌∙◌}
use Rattle.dav_journal.specs.Pair.{HasAllPair}
use Rattle.dav_http.specs.Saved.{Loads}
use Rattle.dav_http.specs.Steps.{new_server}
use Rattle.dav_kept.specs.Followed.{followed_by}
use Rattle.dav_server.specs.Server.{Server}
use Rattle.dav_live.specs.Answers.{IsAnswer}
use Rattle.dav_live.specs.Behind.{prefix_behind}
use Rattle.dav_live.specs.Runs.{IsOpened}
use Rattle.dav_live.specs.Serving.{kept_of}
use Rattle.dav_live.proofs.follower.Follower.open_anew.Goals as goal

pub returns-clause-run : goal.returns-clause-run
returns-clause-run g c =
    let prefix = prefix_behind c.args.self.now in
    let first : c.new-machine.result ≡ new_server prefix =
    c.new-machine.ensures ∙ c.in_ok-handler.ensures.new ∙ ap new_server c.as_str.ensures.value in
    let run = c.in_ok-open_anew.ensures.run in (
      run.0,
      run.1,
      λ clean.
          subst (λ (s : Server). IsOpened IsAnswer Loads (λ j bs. HasAllPair g.D.Disk (followed_by j) bs) s run.0 run.1 (kept_of c.open_anew.new.self)) first
          (run.2 clean (c.in_ok-journal.ensures (c.in_ok-open_anew.ensures.clean clean))),
    )
