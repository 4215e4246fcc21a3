use Rattle.std.proofs.Common.{rules}
use Rattle.dav_core.proofs.NodeLemmas.{none_taken, one_taken, element_taken}
use Rattle.dav_core.proofs.element.Element.take_child.Goals as goal

pub returns-in_err-index-clause-taken : goal.returns-in_err-index-clause-taken
returns-in_err-index-clause-taken c = search (rules, none_taken)

pub returns-in_err-index-clause-left : goal.returns-in_err-index-clause-left
returns-in_err-index-clause-left c = search (rules, none_taken)

pub returns-in-Element-clause-taken : goal.returns-in-Element-clause-taken
returns-in-Element-clause-taken c =
    element_taken c.self.inside c.args.self.now c.self.view_is c.args.name.now c.in_ok-index.index c.remove.result c.in-Element.child c.in-Element.is
    (search rules) (search rules) (search rules) c.remove.ensures.value

pub returns-in-Element-clause-left : goal.returns-in-Element-clause-left
returns-in-Element-clause-left c = search (rules, one_taken)
