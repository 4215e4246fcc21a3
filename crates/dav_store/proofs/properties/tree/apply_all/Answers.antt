use Rattle.dav_store.proofs.PropertyLemmas.{patched_more, answered_more}
use Rattle.dav_store.proofs.properties.tree.apply_all.Goals as goal

pub loop-set-preserved : goal.loop-set-preserved
loop-set-preserved c = (
  answered_more c.loop-set.yielded (c.in-Some.set, c.in-Some.property) c.loop-set.answers.items c.push.new.self.items c.apply.new.property
      c.loop-set.invariant.0 c.in_ok-apply.ensures.property c.in_ok-push.ensures.items,
  patched_more c.loop-set.yielded (c.in-Some.set, c.in-Some.property) c.args.tree.now.entries c.loop-set.tree.entries c.apply.new.tree.entries
      c.loop-set.invariant.1 c.in_ok-apply.ensures.tree,
)
