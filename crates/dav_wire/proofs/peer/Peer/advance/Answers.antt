use Rattle.std.proofs.Common.{◌≢◌, length, sym, ap, ◌∙◌, arith}
use Rattle.std.proofs.Math.Nat.{le-max_left, le-max_right, max-le}
use Rattle.std.proofs.Math.Logic.{∥∥₁_map, ∥∥₁_elim}
use denote.Struct.Props.{props}
use Rattle.dav_wire.specs.declared.line.Line.{Line}
use Rattle.dav_wire.specs.declared.state.State.TheVariants.{Aborted}
use Rattle.dav_wire.specs.Place.{history_of}
use Rattle.dav_wire.proofs.Runs.{served, settled, tells}
use Rattle.dav_wire.proofs.Streams.{acts_on}
use Rattle.dav_wire.proofs.peer.Peer.advance.Goals as goal

pub invariant_of-self : goal.invariant_of-self
invariant_of-self g c = record { holds = ∥∥₁_map c.loop-spans.self.holds (λ x. (c.step.ensures.reaches x).holds) }

pub loop-spans-smaller : goal.loop-spans-smaller
loop-spans-smaller g c =
    ∥∥₁_elim c.loop-spans.self.holds (search props) (λ x. (c.step.ensures.reaches x).less c.loop-spans-test.true)

pub loop-spans-preserved : goal.loop-spans-preserved
loop-spans-preserved g c =
    let before = c.loop-spans.invariant in
    let kept = c.step.ensures.keeps in
    record {
      keeps = record {
        config = kept.config ∙ before.keeps.config;
        ended = kept.ended ∙ before.keeps.ended;
        reads = kept.reads ∙ before.keeps.reads;
        writes = kept.writes ∙ before.keeps.writes;
      };
      acts = λ alive.
          let was : c.loop-spans.self.line.state ≢ Aborted =
          λ dead. alive (ap (λ (l : Line). l.state) (c.step.ensures.settled (λ still. let wrong = sym still ∙ dead in cc)) ∙ dead) in
          acts_on g.S.Answerer.judges g.S.Answerer.answers _ _ _ (history_of c.args.self.now.line) (history_of c.loop-spans.self.line) (history_of c.step.new.self) (before.acts was) (c.step.ensures.acts alive);
      fits = λ fit. c.step.ensures.fits (before.fits fit);
      told = λ told was is. tells c.loop-spans.self.line c.step.new.self c.args.room c.step.ensures.settled c.step.ensures.told told
          (λ now. before.told told was now) is;
      settled = λ over. c.step.ensures.settled (λ still. over (sym (ap (λ (l : Line). l.state) (before.settled over)) ∙ still)) ∙ before.settled over;
    }

pub returns-clause-served : goal.returns-clause-served
returns-clause-served g c = ∥∥₁_map c.loop-spans.self.holds (λ x. served c.step.new.self (c.step.ensures.reaches x).holds)

pub returns-clause-acts : goal.returns-clause-acts
returns-clause-acts g c =
    let before = c.loop-spans.invariant in
    let alive : c.step.new.self.state ≢ Aborted = λ dead. let wrong = c.is_aborted.ensures.1 dead in cc in
    let was : c.loop-spans.self.line.state ≢ Aborted =
    λ dead. alive (ap (λ (l : Line). l.state) (c.step.ensures.settled (λ still. let wrong = sym still ∙ dead in cc)) ∙ dead) in
    acts_on g.S.Answerer.judges g.S.Answerer.answers _ _ _ (history_of c.args.self.now.line) (history_of c.loop-spans.self.line) (history_of c.step.new.self) (before.acts was) (c.step.ensures.acts alive)

pub returns-clause-rests : goal.returns-clause-rests
returns-clause-rests g c =
    settled c.step.new.self.intake.config (history_of c.step.new.self)
    (∥∥₁_map c.loop-spans.self.holds (λ x. (c.step.ensures.reaches x).rests c.loop-spans-test.false))

pub returns-clause-fits : goal.returns-clause-fits
returns-clause-fits g c = λ fits.
    let h = history_of c.args.self.now.line in
    let now = c.step.ensures.fits (c.loop-spans.invariant.fits (record {
      stated = omega (arith, le-max_left h.stated (length h.body), fits);
      body = omega (arith, le-max_right h.stated (length h.body), fits);
    })) in
    max-le now.stated now.body

pub returns-clause-told : goal.returns-clause-told
returns-clause-told g c = λ told was is.
    tells c.loop-spans.self.line c.step.new.self c.args.room c.step.ensures.settled c.step.ensures.told told
    (λ now. c.loop-spans.invariant.told told was now) is
