use Rattle.std.proofs.Common.{◌≡◌, ◌++◌, sym, ap, subst₂, arith}
use Rattle.std.proofs.lemmas.Grind.{common_steps}
use Rattle.dav_wire.specs.Place.{place, history_of, HoldsAt}
use Rattle.dav_wire.proofs.Runs.{takes, more}
use Rattle.dav_wire.proofs.line.Line.take.Goals as goal

pub returns-clause-holds : goal.returns-clause-holds
returns-clause-holds c = λ x.
    let l = c.args.self.now in
    let i = record (l.intake) { input = c.extend_from_slice.new.self; ended = c.is_empty-self.result } in
    let at : place i ≡ record (place l.intake) { unread = l.intake.input.items ++ c.args.bytes.now } =
    ap (λ u. record (place l.intake) { unread = u }) c.in_ok-extend_from_slice.ensures.ok in
    let came : history_of (record l { intake = i; reads = c.and-self.result })
    ≡ more l.intake.config (history_of l) c.args.bytes.now c.is_empty-self.result c.if-self.false =
    grind (arith, common_steps) in
    subst₂ (λ p h. HoldsAt l.state p h) (sym at) (sym came)
    (takes (place l.intake) (history_of l) c.args.bytes.now c.is_empty-self.result c.if-self.false l.state x)
