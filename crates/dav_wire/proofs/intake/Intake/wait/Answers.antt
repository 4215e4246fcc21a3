use Rattle.std.proofs.Common.{inl, inr}
use Rattle.dav_wire.specs.Place.{place}
use Rattle.dav_wire.proofs.Events.{starved_some, ends_between}
use Rattle.dav_wire.proofs.intake.Intake.wait.Goals as goal

pub returns-clause-finds : goal.returns-clause-finds
returns-clause-finds c = λ stream interim before x. (
  (c.if-not-self.false, starved_some (place c.args.self.now) stream interim x (c.is_between.ensures.within c.if-is_between.false), x.unfinished),
  inr (inl c.if-not-self.false),
  tt,
)

pub returns-then-is_between-clause-finds : goal.returns-then-is_between-clause-finds
returns-then-is_between-clause-finds c = λ stream interim before x.
    let none = c.is_between.ensures.between c.if-is_between.true in
    let ends = ends_between (place c.args.self.now) stream interim x none.0 none.1 in
    (c.if-not-self.false, ends.0, ends.1)
