use Rattle.std.proofs.Common.{ap, ◌∙◌, sym, Some, None, rules}
use Rattle.dav_core.proofs.NodeLemmas.{and_text, texts_turn}
use Rattle.dav_core.proofs.element.children.joined_texts.Goals as goal

pub loop-child-preserved-in_default : goal.loop-child-preserved-in_default
loop-child-preserved-in_default c =
    c.loop-child.invariant
    ∙ sym (texts_turn c.args.children.now c.loop-child.child-index c.child-item.result None c.loop-child-test.true c.child-item.is (search rules))

pub loop-child-preserved : goal.loop-child-preserved
loop-child-preserved c =
    ap Some c.in_ok-joined_with.ensures
    ∙ ap (λ o. and_text o (Some c.in-Some.text.now)) c.loop-child.invariant
    ∙ sym (texts_turn c.args.children.now c.loop-child.child-index c.child-item.result (Some c.in-Some.text.now) c.loop-child-test.true c.child-item.is (search rules))
