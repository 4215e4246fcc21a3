use Rattle.std.proofs.Common.{◌+◌, ℕ, min, ap, ◌∙◌, map}
use Rattle.dav_core.specs.Element.{trees}
use Rattle.dav_core.specs.ElementView.{node_tree}
use Rattle.dav_core.specs.Numbers.{max_u64}
use Rattle.dav_store.specs.Sizes.{tree_len, trees_len}
use Rattle.dav_store.proofs.SizeLemmas.{children_all, sum_turn}
use Rattle.dav_store.proofs.properties.size.+sizes.Goals as goal

pub and_children-loop-child-preserved : goal.and_children-loop-child-preserved
and_children-loop-child-preserved t c =
    c.and_node-total.ensures
    ∙ sum_turn (λ n. tree_len (node_tree n)) c.deref-child-items.result.now c.loop-child.child-index c.child-item.result c.args.sum c.loop-child.total c.loop-child-test.true c.child-item.is c.loop-child.invariant

pub and_children-returns : goal.and_children-returns
and_children-returns t c =
    c.loop-child.invariant
    ∙ ap (λ (n : ℕ). min (c.args.sum + n) max_u64) (children_all c.deref-child-items.result.now c.loop-child.child-index c.loop-child-test.false)
    ∙ ap (λ xs. min (c.args.sum + trees_len (trees (map node_tree xs))) max_u64) c.deref-child-items.ensures.value
