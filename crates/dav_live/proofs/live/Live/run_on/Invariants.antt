use Rattle.std.proofs.Common.{◌≡◌}
use Rattle.dav_journal.specs.Pair.{IsCleanPair, IsKeptPair}
use Rattle.dav_http.specs.Saved.{IsSaveable, saved_bytes}
use Rattle.dav_live.specs.Answers.{IsAnswer}
use Rattle.dav_live.specs.Runs.{RunGoesOn}
use Rattle.dav_live.specs.LiveRun.{ServesOn, doing, kept_in, server_of, turns_of}
use Rattle.dav_live.proofs.live.Live.run_on.Given as goal

abbrev pub invariant-loop : goal.invariant-loop
invariant-loop g l =
    RunGoesOn IsAnswer saved_bytes IsSaveable (λ j. IsCleanPair g.D.Disk j) (λ j bs. IsKeptPair g.D.Disk j bs) (kept_in l.fn.self) (kept_in l.self)
    × ServesOn (doing g.D.Disk) (turns_of l.fn.self).config (g.R.Read.remaining l.fn.reader) (g.R.Read.remaining l.reader)
    (g.W.Write.contents l.fn.writer) (g.W.Write.contents l.writer) (server_of l.fn.self) (server_of l.self) l.fn.pipe l.pipe
    × ((turns_of l.self).config ≡ (turns_of l.fn.self).config)
