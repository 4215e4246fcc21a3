use Rattle.std.proofs.Common.{rules, subst, length, ◌<◌, ◌^◌, ◌++◌, ap, ◌∙◌, map, string_bytes, option_map}
use Rattle.dav_core.specs.ElementView.{attribute_bytes, node_tree}
use Rattle.dav_core.specs.Element.{trees}
use Rattle.dav_saved.specs.Trees.{tree, forest, IsSaveable, AreSaveable}
use Rattle.dav_saved.proofs.Puts.{child_turn, all_put, element_put, front_by, saveable_turn, all_saveable, saveable_element}
use Rattle.dav_saved.proofs.elements.+puts.Goals as goal

pub put_children-loop-child-preserved : goal.put_children-loop-child-preserved
put_children-loop-child-preserved t c =
    let items = c.deref-child-items.result.now in (
      child_turn c.loop-child.out.items c.put_node.new.out.items (c.args.out.now.items ++ forest (trees (map node_tree items))) items c.loop-child.child-index c.child-item.result c.loop-child-test.true c.child-item.is c.in_ok-put_node.ensures.added c.loop-child.invariant.0,
      saveable_turn items c.loop-child.child-index c.child-item.result c.loop-child-test.true c.child-item.is c.in_ok-put_node.ensures.saveable c.loop-child.invariant.1,
    )

pub put_children-returns-clause-added : goal.put_children-returns-clause-added
put_children-returns-clause-added t c =
    let items = c.deref-child-items.result.now in
    all_put c.loop-child.out.items (c.args.out.now.items ++ forest (trees (map node_tree items))) items c.loop-child.child-index c.loop-child-test.false c.loop-child.invariant.0
    ∙ ap (λ xs. c.args.out.now.items ++ forest (trees (map node_tree xs))) c.deref-child-items.ensures.value

pub put_element-returns-clause-added : goal.put_element-returns-clause-added
put_element-returns-clause-added t c =
    let i = c.element.inside in
    element_put c.args.out.now.items c.push.new.self.items c.put_front.new.out.items c.put_number.new.out.items c.put_children.new.out.items (string_bytes i.name) (option_map string_bytes i.prefix) (option_map string_bytes i.namespace) (map attribute_bytes i.attributes.items) i.children.items c.len.result
    c.in_ok-push.ensures.items (front_by c.push.new.self.items c.put_front.new.out.items (string_bytes i.name) c.as_str-name.result.now (option_map string_bytes i.prefix) (option_map string_bytes i.namespace) (map attribute_bytes i.attributes.items) (map attribute_bytes c.as_slice-attributes.result.now) c.as_str-name.ensures.value (ap (map attribute_bytes) c.as_slice-attributes.ensures.value) c.in_ok-put_front.ensures.added)
    (search (rules, c.len.ensures)) c.in_ok-put_number.ensures c.in_ok-put_children.ensures.added
    ∙ ap (λ e. c.args.out.now.items ++ tree e) c.element.view_is

pub put_children-returns-clause-saveable : goal.put_children-returns-clause-saveable
put_children-returns-clause-saveable t c =
    let items = c.deref-child-items.result.now in
    subst (λ xs. AreSaveable (trees (map node_tree xs))) c.deref-child-items.ensures.value (all_saveable items c.loop-child.child-index c.loop-child-test.false c.loop-child.invariant.1)

pub put_element-returns-clause-saveable : goal.put_element-returns-clause-saveable
put_element-returns-clause-saveable t c =
    let i = c.element.inside in
    let f = c.in_ok-put_front.ensures.saveable in
    let few : length i.attributes.items < 2 ^ 64 = search rules in
    let short : length i.children.items < 2 ^ 64 = search rules in
    subst IsSaveable c.element.view_is (saveable_element (string_bytes i.name) c.as_str-name.result.now (option_map string_bytes i.prefix) (option_map string_bytes i.namespace) i.attributes.items c.as_slice-attributes.result.now i.children.items
    c.as_str-name.ensures.value c.as_slice-attributes.ensures.value f few short c.in_ok-put_children.ensures.saveable)
