use Rattle.dav_store.proofs.PropertyLemmas.{patched_more, answered_more}
use Rattle.dav_store.proofs.properties.patched_in_any_order.Goals as goal

pub loop-set-preserved : goal.loop-set-preserved
loop-set-preserved c = (
  answered_more c.loop-set.yielded (c.in-Some.set, c.in-Some.property) c.loop-set.answers.items c.push.new.self.items c.apply.new.property
      c.loop-set.invariant.0 c.in_ok-apply.ensures.property c.in_ok-push.ensures.items,
  patched_more c.loop-set.yielded (c.in-Some.set, c.in-Some.property) c.args.entries.now.items c.loop-set.entries.items c.apply.new.entries.items
      c.loop-set.invariant.1 c.in_ok-apply.ensures.entries,
)
