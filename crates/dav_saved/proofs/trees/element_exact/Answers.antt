use Rattle.std.proofs.Common.{◌≡◌, true, ap, sym, refl}
use Rattle.std.proofs.lemmas.Result.{err_from_is_err_and}
use Rattle.dav_core.specs.Element.{is_element}
use Rattle.dav_core.specs.ElementView.{node_tree}
use Rattle.dav_saved.proofs.ReadSteps.{element_stopped, element_found, text_refused}
use Rattle.dav_saved.proofs.trees.element_exact.Goals as goal

pub returns-in_err-node : goal.returns-in_err-node
returns-in_err-node c =
    let p = err_from_is_err_and c.from_residual.result c.from_residual.ensures.1 in
    rw (p.1, p.2) (element_stopped c.args.levels c.args.bytes.now c.in_err-node.field-0.0 c.in_err-node.ensures)

pub returns-in-Element : goal.returns-in-Element
returns-in-Element c =
    let is : is_element c.in-Element.element ≡ true = ap is_element (sym c.element.view_is) in
    element_found c.args.levels c.args.bytes.now c.in-Element.element c.in_ok-node.rest.now (rw c.in-Element.is at c.in_ok-node.ensures) is

pub returns : goal.returns
returns c = text_refused c.args.levels c.args.bytes.now (node_tree c.in_ok-node.node) c.in_ok-node.rest.now c.in_ok-node.ensures (rw c.in-Text.is refl)
