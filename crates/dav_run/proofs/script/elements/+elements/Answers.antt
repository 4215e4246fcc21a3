use Rattle.std.proofs.Common.{arith, codes, map, subst, sym, refl}
use Rattle.std.specs.Prelude.{Option, IsSomeAnd, option_map, string_bytes}
use Rattle.serde_json.specs.Data.{Data}
use Rattle.serde_json.specs.Find.{get}
use Rattle.serde_json.specs.View.{view, items_view}
use Rattle.dav_core.specs.Element.{children_of, trees}
use Rattle.dav_core.specs.ElementView.{attribute_bytes, node_tree}
use Rattle.dav_run.specs.Script.{IsText, IsTextOrNone, AreAttributes, IsNode, AreNodes, child_items}
use Rattle.dav_run.specs.declared.script.ScriptError.TheVariants.{NotScript}
use Rattle.dav_run.proofs.Refusals.{handed_on}
use Rattle.dav_run.proofs.Items.{item_at, seen_more}
use Rattle.dav_run.proofs.ScriptTrees.{member_below, items_below, item_at_most, children_in, no_children, some_children}
use Rattle.dav_run.proofs.script.elements.+elements.Goals as goal
use Rattle.dav_run.proofs.script.elements.+elements.Goals.{read_element-in-None, read_element-in-Some-get+in_ok-list_of-in-Some-get+in_ok-children-in-Some-get}

pub read_element-read_nodes-requires : goal.read_element-read_nodes-requires
read_element-read_nodes-requires t c =
    let list = view c.in-Some-get.list.now in
    let inside = items_below list (items_view c.in_ok-list_of-in-Some-get.field-0.now) c.in_ok-list_of-in-Some-get.ensures.ok in
    let below = member_below (codes "children") (view c.args.value.now) list (sym c.in-Some-get.ensures) in
    (omega arith, tt)

pub read_element-returns-in_err-children-in-Some-get-clause-none :
    goal.read_element-returns-in_err-children-in-Some-get-clause-none
read_element-returns-in_err-children-in-Some-get-clause-none t c = λ e tree is.
    let refused = handed_on c.from_residual-in_err-children-in-Some-get.result c.in_err-children-in-Some-get.field-0.0 NotScript c.from_residual-in_err-children-in-Some-get.ensures.1 e in
    c.in_err-children-in-Some-get.ensures.none refused (children_of tree)
    (children_in (view c.args.value.now) (view c.in-Some-get.list.now) (items_view c.in_ok-list_of-in-Some-get.field-0.now) tree
    c.in-Some-get.ensures c.in_ok-list_of-in-Some-get.ensures.ok is)

pub read_element-returns-clause-ok : goal.read_element-returns-clause-ok
read_element-returns-clause-ok t c =
    let d = view c.args.value.now in
    let name = subst (λ (o : Option Data). IsSomeAnd o (λ n. IsText n (string_bytes c.in_ok-name.name))) c.in-Some.ensures c.in_ok-name.ensures.ok in
    let prefix = subst (λ (o : Option Data). IsTextOrNone o (option_map string_bytes c.in_ok-prefix.prefix)) c.get-2.ensures c.in_ok-prefix.ensures.ok in
    let namespace = subst (λ (o : Option Data). IsTextOrNone o (option_map string_bytes c.in_ok-namespace.namespace)) c.get-3.ensures c.in_ok-namespace.ensures.ok in
    let attributes = subst (λ (o : Option Data). AreAttributes o (map attribute_bytes c.in_ok-attributes.attributes.items)) c.get-4.ensures c.in_ok-attributes.ensures.ok in
    let children : AreNodes (child_items (get (codes "children") d)) (trees (map node_tree c.match-get-2.children.items)) =
    elim c.match-get-2.branch [
      | read_element-in-None w ↦ rw w.children-is (no_children d w.new-children.result.items w.in-None.ensures w.new-children.ensures.items)
      | read_element-in-Some-get+in_ok-list_of-in-Some-get+in_ok-children-in-Some-get w ↦
          rw w.children-is (some_children d (view w.in-Some-get.list.now) (items_view w.in_ok-list_of-in-Some-get.field-0.now)
          w.in_ok-children-in-Some-get.children.items w.in-Some-get.ensures w.in_ok-list_of-in-Some-get.ensures.ok w.in_ok-children-in-Some-get.ensures.ok)
    ] in
    ((c.in_ok-check_members.ensures.ok, name, prefix, namespace, attributes, children), refl)

pub read_nodes-read_node-requires : goal.read_nodes-read_node-requires
read_nodes-read_node-requires t c =
    let at_most = item_at_most c.args.list.now c.loop-item.item-index c.item-item.result c.loop-item-test.true c.item-item.is in
    (omega arith, tt)

pub read_nodes-returns-in_err-read_node-clause-none : goal.read_nodes-returns-in_err-read_node-clause-none
read_nodes-returns-in_err-read_node-clause-none t c = λ e nodes are.
    let refused = handed_on c.from_residual.result c.in_err-read_node.field-0.0 NotScript c.from_residual.ensures.1 e in
    let (node, is) = item_at IsNode c.args.list.now c.loop-item.item-index c.item-item.result nodes c.loop-item-test.true c.item-item.is are in
    c.in_err-read_node.ensures.none refused node is

pub read_nodes-loop-item-preserved : goal.read_nodes-loop-item-preserved
read_nodes-loop-item-preserved t c =
    seen_more IsNode node_tree c.args.list.now c.loop-item.item-index c.item-item.result c.loop-item.nodes.items c.in_ok-read_node.field-0 c.push.new.self.items
    c.loop-item-test.true c.item-item.is c.in_ok-push.ensures.items c.loop-item.invariant c.in_ok-read_node.ensures.ok
