use Rattle.std.proofs.Common.{◌≡◌, ◌≢◌, ℕ}
use Rattle.dav_wire.specs.declared.state.State.TheVariants.{Open, Aborted}
use Rattle.dav_wire.specs.History.{Acts}
use Rattle.dav_wire.specs.declared.state.State.TheVariants.{Closing}
use Rattle.dav_wire.specs.declared.state.Reason.TheVariants.{Refused}
use Rattle.dav_wire.specs.declared.state.Refusal.TheVariants.{NoRoom}
use Rattle.dav_wire.specs.Place.{place, work, history_of, KeepsLine, FitsIn}
use Rattle.dav_wire.proofs.peer.Peer.advance.Given as goal

abbrev pub invariant-loop-spans : goal.invariant-loop-spans
invariant-loop-spans g l = record {
  keeps : KeepsLine l.fn.self.line l.self.line;
  acts : l.self.line.state ≢ Aborted
      → Acts g.S.Answerer.judges g.S.Answerer.answers l.fn.answerer l.answerer (history_of l.fn.self.line) (history_of l.self.line);
  settled : l.fn.self.line.state ≢ Open → l.self.line ≡ l.fn.self.line;
  fits : FitsIn l.room l.fn.self.line.intake → FitsIn l.room l.self.line.intake;
  told : (told : ℕ) → l.fn.self.line.state ≡ Open → l.self.line.state ≡ Closing (Refused (NoRoom told)) → told ≡ l.room;
}

abbrev pub decreases-loop-spans : goal.decreases-loop-spans
decreases-loop-spans g l = work (place l.self.line.intake)
