use Rattle.std.proofs.Common.{◌≡◌, ◌-◌, refl, ◌∙◌, ◌++◌, ◌∷◌, [], map}
use Rattle.std.proofs.lemmas.Result.{err_from_is_err_and}
use Rattle.std.proofs.lemmas.List.{map_push}
use Rattle.dav_core.specs.ElementView.{node_tree}
use Rattle.dav_saved.specs.Front.{front_view}
use Rattle.dav_saved.specs.Reading.{many_at}
use Rattle.dav_saved.specs.Trees.{tree_at}
use Rattle.dav_saved.proofs.Loop.{goes_on, ends, is_done}
use Rattle.dav_saved.proofs.ReadSteps.{front_stopped, count_stopped, children_stopped, element_read, tag_stopped, at_text, too_deep, at_element}
use Rattle.dav_saved.proofs.trees.+reads.Goals as goal

pub children_at-returns-in_err-child : goal.children_at-returns-in_err-child
children_at-returns-in_err-child t c =
    let p = err_from_is_err_and c.from_residual.result c.from_residual.ensures.1 in
    rw (p.1, p.2) (ends (tree_at c.args.levels) c.in_err-child.field-0.0 (map node_tree c.loop.children.items) c.args.count c.loop.counter c.loop.rest.now (many_at (tree_at c.args.levels) c.args.count c.args.bytes.now) c.loop-test.true c.in_err-child.ensures c.loop.invariant)

pub children_at-loop-preserved : goal.children_at-loop-preserved
children_at-loop-preserved t c =
    let n = c.in_ok-child.child in
    let e : map node_tree c.push.new.self.items ≡ map node_tree c.loop.children.items ++ node_tree n ∷ [] = rw c.in_ok-push.ensures.items (map_push _ c.loop.children.items n) in
    rw e (goes_on (tree_at c.args.levels) (map node_tree c.loop.children.items) c.args.count c.loop.counter c.loop.rest.now (node_tree n) c.in_ok-child.after.now (many_at (tree_at c.args.levels) c.args.count c.args.bytes.now) c.loop-test.true c.in_ok-child.ensures c.loop.invariant)

pub children_at-returns : goal.children_at-returns
children_at-returns t c = is_done (tree_at c.args.levels) (map node_tree c.loop.children.items) c.args.count c.loop.counter c.loop.rest.now (many_at (tree_at c.args.levels) c.args.count c.args.bytes.now) c.loop-test.false c.loop.invariant

pub element_at-returns-in_err-front : goal.element_at-returns-in_err-front
element_at-returns-in_err-front t c =
    let p = err_from_is_err_and c.from_residual.result c.from_residual.ensures.1 in
    rw (p.1, p.2) (front_stopped (tree_at c.args.levels) c.args.bytes.now c.in_err-front.field-0.0 c.in_err-front.ensures)

pub element_at-returns-in_err-count : goal.element_at-returns-in_err-count
element_at-returns-in_err-count t c =
    let p = err_from_is_err_and c.from_residual-in_err-count.result c.from_residual-in_err-count.ensures.1 in
    rw (p.1, p.2) (count_stopped (tree_at c.args.levels) c.args.bytes.now (front_view c.in_ok-front.front) c.in_ok-front.rest.now c.in_err-count.field-0.0 c.in_ok-front.ensures c.in_err-count.ensures)

pub element_at-returns-in_err-children : goal.element_at-returns-in_err-children
element_at-returns-in_err-children t c =
    let p = err_from_is_err_and c.from_residual-in_err-children.result c.from_residual-in_err-children.ensures.1 in
    rw (p.1, p.2) (children_stopped (tree_at c.args.levels) c.args.bytes.now (front_view c.in_ok-front.front) c.in_ok-front.rest.now c.in_ok-count.count c.in_ok-count.rest.now c.in_err-children.field-0.0 c.in_ok-front.ensures c.in_ok-count.ensures c.in_err-children.ensures)

pub element_at-returns : goal.element_at-returns
element_at-returns t c =
    element_read (tree_at c.args.levels) c.args.bytes.now (front_view c.in_ok-front.front) c.in_ok-front.rest.now c.in_ok-count.count c.in_ok-count.rest.now (map node_tree c.in_ok-children.children.items) c.in_ok-children.rest.now c.joined.result
    c.in_ok-front.ensures c.in_ok-count.ensures c.in_ok-children.ensures c.joined.ensures

pub node_at-returns-in_err-is_element : goal.node_at-returns-in_err-is_element
node_at-returns-in_err-is_element t c =
    let p = err_from_is_err_and c.from_residual.result c.from_residual.ensures.1 in
    rw (p.1, p.2) (tag_stopped c.args.levels c.args.bytes.now c.in_err-is_element.field-0.0 c.in_err-is_element.ensures)

pub node_at-returns-then-not-is_element : goal.node_at-returns-then-not-is_element
node_at-returns-then-not-is_element t c =
    rw (at_text c.args.levels c.args.bytes.now c.in_ok-is_element.is_element c.in_ok-is_element.rest.now c.in_ok-is_element.ensures c.if-not-is_element.true) c.text_node.ensures

pub node_at-returns-then-levels-eq0 : goal.node_at-returns-then-levels-eq0
node_at-returns-then-levels-eq0 t c = too_deep c.args.levels c.args.bytes.now c.in_ok-is_element.is_element c.in_ok-is_element.rest.now c.in_ok-is_element.ensures c.if-not-is_element.false c.if-levels-eq0.true

pub node_at-returns-in_err-element : goal.node_at-returns-in_err-element
node_at-returns-in_err-element t c =
    let p = err_from_is_err_and c.from_residual-in_err-element.result c.from_residual-in_err-element.ensures.1 in
    rw (p.1, p.2, at_element c.args.levels (c.args.levels - 1) c.args.bytes.now c.in_ok-is_element.is_element c.in_ok-is_element.rest.now c.in_ok-is_element.ensures c.if-not-is_element.false c.if-levels-eq0.false refl) c.in_err-element.ensures

pub node_at-returns : goal.node_at-returns
node_at-returns t c =
    at_element c.args.levels (c.args.levels - 1) c.args.bytes.now c.in_ok-is_element.is_element c.in_ok-is_element.rest.now c.in_ok-is_element.ensures c.if-not-is_element.false c.if-levels-eq0.false refl ∙ c.in_ok-element.ensures
