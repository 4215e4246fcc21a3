use Rattle.std.proofs.Common.{ℕ, List, Option, inl, inr}
use Rattle.dav_journal.specs.Pair.{IsCleanPair, IsKeptPair}
use Rattle.dav_http.specs.Saved.{IsSaveable, saved_bytes}
use Rattle.dav_server.specs.Server.{Server}
use Rattle.dav_turns.proofs.Carried.{turn_carries}
use Rattle.dav_live.specs.Answers.{IsAnswer, IsLook, IsNextEnd, IsNotRun}
use Rattle.dav_live.specs.Runs.{RunGoesOn}
use Rattle.dav_live.specs.LiveRun.{doing}
use Rattle.dav_live.specs.Serving.{kept_of}
use Rattle.dav_live.proofs.TurnRuns.{run_carries}
use Rattle.dav_live.proofs.live.Live.turn.Goals as goal

pub returns-in-Ok-clause-run : goal.returns-in-Ok-clause-run
returns-in-Ok-clause-run g c =
    turn_carries (doing g.D.Disk) (λ a b. RunGoesOn IsAnswer saved_bytes IsSaveable (λ j. IsCleanPair g.D.Disk j) (λ j bs. IsKeptPair g.D.Disk j bs) (kept_of a) (kept_of b))
    (run_carries IsAnswer saved_bytes IsSaveable (λ j. IsCleanPair g.D.Disk j) (λ j bs. IsKeptPair g.D.Disk j bs) IsNotRun IsLook (λ (s : Server) (now : ℕ) (head : Option (List ℕ)). IsNextEnd s.state.locks now head))
    c.args.reports.now c.in-Ok.used c.args.self.now.turns c.serve.new.self c.args.self.now.service c.serve.new.keeper c.in-Ok.ensures.turn.0 c.in-Ok.ensures.turn.1

pub returns-in-Ok-clause-held : goal.returns-in-Ok-clause-held
returns-in-Ok-clause-held g c =
    inr (turn_carries (doing g.D.Disk) (λ a b. RunGoesOn IsAnswer saved_bytes IsSaveable (λ j. IsCleanPair g.D.Disk j) (λ j bs. IsKeptPair g.D.Disk j bs) (kept_of a) (kept_of b))
    (run_carries IsAnswer saved_bytes IsSaveable (λ j. IsCleanPair g.D.Disk j) (λ j bs. IsKeptPair g.D.Disk j bs) IsNotRun IsLook (λ (s : Server) (now : ℕ) (head : Option (List ℕ)). IsNextEnd s.state.locks now head))
    c.args.reports.now c.in-Ok.used c.args.self.now.turns c.serve.new.self c.args.self.now.service c.serve.new.keeper c.in-Ok.ensures.turn.0 c.in-Ok.ensures.turn.1)

pub returns-in-Err-clause-held : goal.returns-in-Err-clause-held
returns-in-Err-clause-held g c =
    elim c.in-Err.ensures.held [
      | inl same ↦ inl same
      | inr turn ↦ inr (turn_carries (doing g.D.Disk) (λ a b. RunGoesOn IsAnswer saved_bytes IsSaveable (λ j. IsCleanPair g.D.Disk j) (λ j bs. IsKeptPair g.D.Disk j bs) (kept_of a) (kept_of b))
          (run_carries IsAnswer saved_bytes IsSaveable (λ j. IsCleanPair g.D.Disk j) (λ j bs. IsKeptPair g.D.Disk j bs) IsNotRun IsLook (λ (s : Server) (now : ℕ) (head : Option (List ℕ)). IsNextEnd s.state.locks now head))
          c.args.reports.now turn.0 c.args.self.now.turns c.serve.new.self c.args.self.now.service c.serve.new.keeper turn.1 turn.2)
    ]
