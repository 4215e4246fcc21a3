use Rattle.std.proofs.Common.{◌∙◌}
use Rattle.dav_store.specs.Sizes.{property_len}
use Rattle.dav_store.proofs.SizeLemmas.{sum_turn}
use Rattle.dav_store.proofs.properties.Properties.size_from.Goals as goal

pub loop-entry-preserved : goal.loop-entry-preserved
loop-entry-preserved c =
    c.and_property-total.ensures
    ∙ sum_turn property_len c.deref-entry-items.result.now c.loop-entry.entry-index c.entry-item.result c.args.sum c.loop-entry.total c.loop-entry-test.true c.entry-item.is c.loop-entry.invariant
