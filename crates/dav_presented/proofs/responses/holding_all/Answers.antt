use Rattle.dav_core.specs.Element.{named_by}
use Rattle.dav_presented.proofs.TreeLemmas.{child_more}
use Rattle.dav_presented.proofs.responses.holding_all.Goals as goal

pub loop-child-preserved : goal.loop-child-preserved
loop-child-preserved c = child_more (named_by c.args.name.now) c.loop-child.yielded c.in-Some.child c.loop-child.invariant c.in_ok-push_element.ensures.ok
