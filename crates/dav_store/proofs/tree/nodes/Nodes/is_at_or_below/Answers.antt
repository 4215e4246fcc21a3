use Rattle.std.proofs.Common.{◌≡◌, ◌+◌, ◌-◌, ◌∙◌, Some, ap, arith}
use Rattle.std.proofs.lemmas.Grind.{common_steps}
use Rattle.dav_store.specs.Tree.{node, is_within}
use Rattle.dav_store.proofs.TreeSteps.{climbed}
use Rattle.dav_store.proofs.tree.nodes.Nodes.is_at_or_below.Goals as goal

-- src/tree/nodes.rt
pub loop-preserved : goal.loop-preserved
loop-preserved g c =
    let found : node c.args.self.now c.loop.at ≡ Some c.in-Some.n.now = grind (arith, common_steps) in
    ap (λ p. is_within (c.len-end.result - (c.loop.counter + 1)) c.args.self.now c.args.top p) c.parent-at.ensures
    ∙ climbed c.args.self.now c.args.top c.loop.at c.in-Some.n.now c.loop.counter c.len-end.result c.loop-test.true found (grind (arith, common_steps))
    ∙ c.loop.invariant
