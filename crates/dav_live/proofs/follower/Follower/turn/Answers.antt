use Rattle.std.proofs.Common.{ℕ, List, Option}
use Rattle.dav_http.specs.Saved.{Loads}
use Rattle.dav_server.specs.Server.{Server}
use Rattle.dav_live.specs.Answers.{IsAnswer, IsLook, IsNextEnd, IsNotRun}
use Rattle.dav_live.specs.Behind.{IsCleanBehind, KeepsNone}
use Rattle.dav_live.proofs.BehindRuns.{turn_is_still}
use Rattle.dav_live.proofs.follower.Follower.turn.Goals as goal

pub returns-in-Ok-clause-still : goal.returns-in-Ok-clause-still
returns-in-Ok-clause-still g c =
    turn_is_still IsAnswer (λ j. IsCleanBehind g.D.Disk j) (λ j blocks. KeepsNone j blocks) IsNotRun IsLook
    (λ (s : Server) (now : ℕ) (head : Option (List ℕ)). IsNextEnd s.state.locks now head) Loads
    c.args.reports.now c.in-Ok.used c.args.self.now.turns c.serve.new.self c.args.self.now.following c.serve.new.keeper c.in-Ok.ensures.turn.0 c.in-Ok.ensures.turn.1
