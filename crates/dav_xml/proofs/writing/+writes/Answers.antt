use Rattle.std.proofs.Common.{◌≡◌, ◌++◌, [], None, true, ap, sym, ◌∙◌, length, map, string_bytes, option_map, ◌==◌}
use Rattle.std.proofs.lemmas.Bool.{eqb-true}
use Rattle.std.proofs.lemmas.List.{nil_from_length}
use Rattle.dav_core.specs.Element.{element, trees}
use Rattle.dav_core.specs.ElementView.{attribute_bytes, node_tree}
use Rattle.dav_xml.specs.Scopes.{pair_bytes}
use Rattle.dav_xml.specs.Spelling.{spellings}
use Rattle.dav_xml.specs.Flat.{flat, flats}
use Rattle.dav_xml.specs.PlaceView.{place_view}
use Rattle.dav_xml.specs.Written.{is_in_scope, name_with, or_empty, place_of, wanted, written, written_after}
use Rattle.dav_xml.proofs.Spellings.{begins, by_parts, child_turn, all_pushed, children_are, children_in, written_as_it_is}
use Rattle.dav_xml.proofs.writing.+writes.Goals as goal

pub push_children-loop-child-preserved : goal.push_children-loop-child-preserved
push_children-loop-child-preserved t c =
    let items = c.deref-child-items.result.now in
    let scope = map pair_bytes c.args.scope.now in
    child_turn scope c.loop-child.out.items c.push_node.new.out.items (c.args.out.now.items ++ spellings (flats (children_in scope items))) items c.loop-child.child-index c.child-item.result c.loop-child-test.true c.child-item.is c.in_ok-push_node.ensures c.loop-child.invariant

pub push_children-returns : goal.push_children-returns
push_children-returns t c =
    let items = c.deref-child-items.result.now in
    let scope = map pair_bytes c.args.scope.now in
    all_pushed scope c.loop-child.out.items (c.args.out.now.items ++ spellings (flats (children_in scope items))) items c.loop-child.child-index c.loop-child-test.false c.loop-child.invariant
    ∙ ap (λ ts. c.args.out.now.items ++ spellings (flats ts)) (children_are scope items)
    ∙ ap (λ xs. c.args.out.now.items ++ spellings (flats (trees (written_after scope [] (trees (map node_tree xs)))))) c.deref-child-items.ensures.value

pub push_element-returns-then-is_placed : goal.push_element-returns-then-is_placed
push_element-returns-then-is_placed t c =
    let i = c.tree.inside in
    let scope = map pair_bytes c.args.scope.now in
    let out = c.args.out.now.items in
    let items = i.children.items in
    let attributes = c.as_slice-attributes.result.now in
    let prefix = c.prefix_of-prefix.ensures in
    let name = c.as_str-name.ensures.value in
    let none : map attribute_bytes i.attributes.items ≡ [] =
    ap (map attribute_bytes) (sym c.as_slice-attributes.ensures.value ∙ nil_from_length attributes (eqb-true (length attributes) 0 (sym c.is_empty.ensures ∙ c.if-is_empty.true))) in
    let placed : is_in_scope scope (or_empty (option_map string_bytes i.prefix)) (wanted scope (or_empty (option_map string_bytes i.prefix)) (option_map string_bytes i.namespace)) ≡ true =
    sym (λ k. is_in_scope scope (prefix k) (wanted scope (prefix k) (c.namespace_of-namespace.ensures k))) ∙ sym c.is_placed.ensures ∙ c.if-is_placed.true in
    by_parts scope out c.push_begin.new.out.items c.push_children.new.out.items c.push_end.new.out.items (name_with c.prefix_of-prefix.result.now c.as_str-name.result.now) (map attribute_bytes attributes) items c.is_empty-is_empty.result
    (c.is_empty-is_empty.ensures ∙ ap (λ xs. length xs == 0) c.as_slice.ensures.value) c.in_ok-push_begin.ensures c.in_ok-push_children.ensures c.in_ok-push_end.ensures
    ∙ (λ k. out ++ spellings (flat (element (name_with (prefix k) (name k)) None None (map attribute_bytes (c.as_slice-attributes.ensures.value k)) (trees (written_after scope [] (trees (map node_tree items)))))))
    ∙ ap (λ e. out ++ spellings (flat e)) (written_as_it_is scope (string_bytes i.name) (option_map string_bytes i.prefix) (option_map string_bytes i.namespace) (map attribute_bytes i.attributes.items) (trees (map node_tree items)) none placed)
    ∙ ap (λ e. out ++ spellings (flat (written scope e))) c.tree.view_is

pub push_element-returns : goal.push_element-returns
push_element-returns t c =
    let i = c.tree.inside in
    let scope = map pair_bytes c.args.scope.now in
    let out = c.args.out.now.items in
    let items = i.children.items in
    let prefix = c.prefix_of-prefix.ensures in
    let name = c.as_str-name.ensures.value in
    let inner = map pair_bytes c.in_ok-place.place.scope.items in
    let place : place_view c.in_ok-place.place ≡ place_of scope (or_empty (option_map string_bytes i.prefix)) (option_map string_bytes i.namespace) (map attribute_bytes i.attributes.items) =
    c.in_ok-place.ensures ∙ (λ k. place_of scope (prefix k) (c.namespace_of-namespace.ensures k) (map attribute_bytes (c.as_slice-attributes.ensures.value k))) in
    by_parts inner out c.push_begin-2.new.out.items c.push_children-2.new.out.items c.push_end-2.new.out.items (name_with c.prefix_of-prefix.result.now c.as_str-name.result.now) (map attribute_bytes c.in_ok-place.place.attributes.items) items c.is_empty-is_empty.result
    (c.is_empty-is_empty.ensures ∙ ap (λ xs. length xs == 0) c.as_slice.ensures.value)
    (c.in_ok-push_begin-2.ensures ∙ ap (λ xs. out ++ begins c.is_empty-is_empty.result (name_with c.prefix_of-prefix.result.now c.as_str-name.result.now) (map attribute_bytes xs)) c.deref.ensures.value)
    (c.in_ok-push_children-2.ensures ∙ ap (λ xs. c.push_begin-2.new.out.items ++ spellings (flats (trees (written_after (map pair_bytes xs) [] (trees (map node_tree items)))))) c.deref-2.ensures.value)
    c.in_ok-push_end-2.ensures
    ∙ (λ k. out ++ spellings (flat (element (name_with (prefix k) (name k)) None None (place k).0 (trees (written_after (place k).1 [] (trees (map node_tree items)))))))
    ∙ ap (λ e. out ++ spellings (flat (written scope e))) c.tree.view_is
