use Rattle.std.proofs.Common.{string_bytes, ◌++◌, ◌∙◌, ap}
use Rattle.dav_headers.proofs.LoopLemmas.{joined_start, joined_turn, joined_end}
use Rattle.dav_headers.proofs.elements.joined.Goals as goal

pub loop-next-init : goal.loop-next-init
loop-next-init c =
    joined_start string_bytes c.args.texts.now c.in-Some.rest.now c.in-Some.first.now _ (c.in_ok-text.ensures.ok ∙ c.deref.ensures) c.in-Some.ensures.cases.0

pub loop-next-preserved : goal.loop-next-preserved
loop-next-preserved c =
    let text = string_bytes c.push_str.new.self in
    let next = c.in_ok-push_str-2.ensures.bytes ∙ ap (λ y. text ++ y) c.deref-in-loop-next.ensures in
    joined_turn string_bytes c.in-Some.rest.now c.loop-next.next-index c.next-item.result _ text _ _ c.loop-next-test.true c.next-item.is c.in_ok-push_str.ensures.bytes next c.loop-next.invariant

pub returns : goal.returns
returns c = joined_end string_bytes c.in-Some.rest.now c.loop-next.next-index _ _ c.loop-next-test.false c.loop-next.invariant
