use Rattle.std.proofs.Common.{map, subst}
use Rattle.dav_core.specs.Element.{ElementTree}
use Rattle.dav_core.specs.ElementView.{node_tree}
use Rattle.dav_run.specs.TreeData.{Adds, tokens_of, tree_data}
use Rattle.dav_run.proofs.TreeLemmas.{adds_all, adds_both, adds_children, adds_one, ends}
use Rattle.dav_run.proofs.tree.+trees.Goals as goal

pub write_children-returns : goal.write_children-returns
write_children-returns t c =
    let all = adds_all (λ t. tokens_of (tree_data t)) node_tree c.args.children.now c.loop-child.child-index c.loop-child-test.false c.loop-child.invariant in
    ends c.end_array.result c.end_array.ensures (λ last. adds_children (map node_tree c.args.children.now) (adds_one c.in_ok-begin_array.ensures) all last)

pub write_tree-returns : goal.write_tree-returns
write_tree-returns t c =
    ends c.end_object.result c.end_object.ensures (λ last.
    let end = adds_both (adds_one c.in_ok-key-5.ensures) (adds_both c.in_ok-write_text-2.ensures last) in
    let texts = adds_both (adds_one c.in_ok-string.ensures) (adds_both (adds_one c.in_ok-key-4.ensures) (adds_both c.in_ok-write_text.ensures end)) in
    let children = adds_both (adds_one c.in_ok-key-2.ensures) (adds_both c.in_ok-write_children.ensures (adds_both (adds_one c.in_ok-key-3.ensures) texts)) in
    let all = adds_both (adds_one c.in_ok-begin_object.ensures) (adds_both (adds_one c.in_ok-key.ensures) (adds_both c.in_ok-write_attributes.ensures children)) in
    subst (λ (e : ElementTree). Adds c.args.out.now c.end_object.new.self (tokens_of (tree_data e))) c.tree.view_is (rw (← c.deref.ensures.value, ← c.deref-2.ensures.value, ← c.deref-3.ensures) all))
