use Rattle.std.proofs.Common.{◌≡◌, ◌<◌, true, length, ap, sym, subst, ◌∙◌}
use Rattle.std.specs.Option.{IsSome}
use Rattle.dav_store.specs.Tree.{IsRooted, node, has_children, is_at_or_below, deleted, subtree_deleted}
use Rattle.dav_store.proofs.TreeHangs.{rooted_deleted}
use Rattle.dav_store.proofs.TreeBelow.{shrinks, last_goes, below_on}
use Rattle.dav_store.proofs.tree.nodes.Nodes.delete_below.Goals as goal

-- src/tree/nodes.rt
pub lowest-leaf-requires-in-loop-leaf-clause-rooted :
    goal.lowest-leaf-requires-in-loop-leaf-clause-rooted
lowest-leaf-requires-in-loop-leaf-clause-rooted g c =
    let i = c.loop-leaf.invariant in
    let s = shrinks c.loop-leaf.self c.args.id c.loop-leaf.leaf i.rooted i.there c.requires.other i.below c.loop-leaf-test.true i.bare in
    subst IsRooted (sym c.delete.ensures) s.rooted

pub lowest-leaf-requires-in-loop-leaf-clause-there :
    goal.lowest-leaf-requires-in-loop-leaf-clause-there
lowest-leaf-requires-in-loop-leaf-clause-there g c =
    let i = c.loop-leaf.invariant in
    let s = shrinks c.loop-leaf.self c.args.id c.loop-leaf.leaf i.rooted i.there c.requires.other i.below c.loop-leaf-test.true i.bare in
    subst (λ t. IsSome (node t c.parent-parent.result)) (sym c.delete.ensures)
    (subst (λ p. IsSome (node (deleted c.loop-leaf.self c.loop-leaf.leaf) p)) (sym c.parent-parent.ensures) s.parent)

pub loop-leaf-smaller : goal.loop-leaf-smaller
loop-leaf-smaller g c =
    let i = c.loop-leaf.invariant in
    let s = shrinks c.loop-leaf.self c.args.id c.loop-leaf.leaf i.rooted i.there c.requires.other i.below c.loop-leaf-test.true i.bare in
    subst (λ t. length t.nodes < length c.loop-leaf.self.nodes) (sym c.delete.ensures) s.fewer

pub loop-leaf-preserved : goal.loop-leaf-preserved
loop-leaf-preserved g c =
    let i = c.loop-leaf.invariant in
    let s = shrinks c.loop-leaf.self c.args.id c.loop-leaf.leaf i.rooted i.there c.requires.other i.below c.loop-leaf-test.true i.bare in
    let t = c.delete.new.self in
    let there : IsSome (node t c.args.id) = subst (λ u. IsSome (node u c.args.id)) (sym c.delete.ensures) s.there in
    let parent : is_at_or_below t c.args.id c.parent-parent.result ≡ true =
    subst (λ u. is_at_or_below u c.args.id c.parent-parent.result ≡ true) (sym c.delete.ensures)
    (ap (is_at_or_below (deleted c.loop-leaf.self c.loop-leaf.leaf) c.args.id) c.parent-parent.ensures ∙ s.below) in
    record {
      rooted = subst IsRooted (sym c.delete.ensures) s.rooted;
      there = there;
      below = below_on t c.args.id c.parent-parent.result c.lowest-leaf-in-loop-leaf.result there parent c.lowest-leaf-in-loop-leaf.ensures.below;
      bare = c.lowest-leaf-in-loop-leaf.ensures.bare;
      left = ap (λ u. subtree_deleted u c.args.id) c.delete.ensures ∙ s.left ∙ i.left;
    }

pub returns-clause-left : goal.returns-clause-left
returns-clause-left g c =
    let i = c.loop-leaf.invariant in
    c.delete-2.ensures
    ∙ last_goes c.loop-leaf.self c.args.id i.rooted i.there c.requires.other (ap (has_children c.loop-leaf.self) (sym c.loop-leaf-test.false) ∙ i.bare)
    ∙ i.left

pub returns-clause-rooted : goal.returns-clause-rooted
returns-clause-rooted g c =
    let i = c.loop-leaf.invariant in
    subst IsRooted (sym c.delete-2.ensures)
    (rooted_deleted c.loop-leaf.self c.args.id i.rooted i.there c.requires.other (ap (has_children c.loop-leaf.self) (sym c.loop-leaf-test.false) ∙ i.bare))
