use Rattle.std.proofs.Common.{List, ℕ, subst, sym}
use Rattle.dav_turns.specs.Frames.{BeginsWith}
use Rattle.dav_turns.proofs.pipe.Pipe.read_more.Goals as goal

pub returns-clause-still : goal.returns-clause-still
returns-clause-still g c = λ t begins.
    absurd (c.has_report.ensures.none c.if-has_report.false t (subst (λ (bytes : List ℕ). BeginsWith bytes t) (sym c.unheard.ensures) begins))
