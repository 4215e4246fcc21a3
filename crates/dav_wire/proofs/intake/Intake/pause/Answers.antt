use Rattle.std.proofs.Common.{◌≡◌, drop, length, ap, subst, ◌∙◌, arith}
use Rattle.dav_wire.specs.Place.{Finds, judged_at, place, work}
use Rattle.dav_wire.proofs.Events.{refused_pausing, starves}
use Rattle.dav_wire.proofs.intake.Intake.pause.Goals as goal

pub returns-in-Some-clause-finds : goal.returns-in-Some-clause-finds
returns-in-Some-clause-finds c = λ stream interim x.
    let followed = c.follow.ensures in
    let left = c.advance.ensures.items ∙ ap (λ k. drop c.args.count k.input.items) followed in
    refused_pausing x (record (place c.follow.new.self) { unread = c.advance.new.self.items }) (place c.weigh.new.self) c.len-len.result
    (λ i. record (place (followed i)) { unread = left i }) (omega (arith, c.len-len.ensures, ap (λ k. length k.body.items) followed)) c.in-Some.why c.args.room
    c.args.self.now.ended (ap place c.in-Some.ensures.1) c.in-Some.ensures.0

pub returns-in-None-clause-finds : goal.returns-in-None-clause-finds
returns-in-None-clause-finds c = λ stream interim x.
    let followed = c.follow.ensures in
    let left = c.advance.ensures.items ∙ ap (λ k. drop c.args.count k.input.items) followed in
    let is =
    starves x (record (place c.follow.new.self) { unread = c.advance.new.self.items }) (place c.weigh.new.self) c.len-len.result
    (λ i. record (place (followed i)) { unread = left i }) (omega (arith, c.len-len.ensures, ap (λ k. length k.body.items) followed))
    (ap place c.in-None.ensures.2) c.in-None.ensures.0 in
    let ended : c.weigh.new.self.ended ≡ c.args.self.now.ended = ap (λ k. k.ended) c.in-None.ensures.2 ∙ ap (λ k. k.ended) followed in
    let before = work (place c.args.self.now) in
    subst (λ b. Finds c.wait.result b (judged_at (place c.args.self.now)) before (place c.weigh.new.self) stream interim) ended
    (subst (λ j. Finds c.wait.result c.weigh.new.self.ended j before (place c.weigh.new.self) stream interim) is.1
    (c.wait.ensures.finds stream interim before is.0))

pub returns-in-None-clause-told : goal.returns-in-None-clause-told
returns-in-None-clause-told c = c.wait.ensures.told c.args.room
