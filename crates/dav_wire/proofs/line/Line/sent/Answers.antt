use Rattle.std.proofs.Common.{◌≡◌, sym, subst, arith}
use Rattle.std.proofs.lemmas.Grind.{common_steps}
use Rattle.dav_wire.specs.History.{after_sent}
use Rattle.dav_wire.specs.Place.{place, history_of, HoldsAt}
use Rattle.dav_wire.proofs.Runs.{sends}
use Rattle.dav_wire.proofs.line.Line.sent.Goals as goal

pub returns-clause-holds : goal.returns-clause-holds
returns-clause-holds c = λ x.
    let l = c.args.self.now in
    let after : history_of (record l { output = c.advance.new.self; writes = c.and-self.result }) ≡ after_sent (history_of l) c.args.count =
    grind (arith, common_steps) in
    subst (HoldsAt l.state (place l.intake)) (sym after) (sends (place l.intake) (history_of l) c.args.count l.state x)
