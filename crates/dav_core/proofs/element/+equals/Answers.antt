use Rattle.std.proofs.Common.{sym}
use Rattle.dav_core.specs.ElementView.{node_tree}
use Rattle.dav_core.proofs.ElementLemmas.{trees_eq_length}
use Rattle.dav_core.proofs.element.+equals.Goals as goal

pub children::are_equal-returns-then-left-right : goal.children::are_equal-returns-then-left-right
children::are_equal-returns-then-left-right t c = sym (trees_eq_length node_tree c.args.left.now c.args.right.now c.if-left-right.true)
