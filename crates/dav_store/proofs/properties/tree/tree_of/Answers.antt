use Rattle.std.proofs.Common.{rules}
use Rattle.dav_core.specs.Property.{key_cmp}
use Rattle.dav_store.specs.KeyOrder.{key_total}
use Rattle.dav_store.proofs.KeyTree.{grows}
use Rattle.dav_store.proofs.properties.tree.tree_of.Goals as goal

pub loop-key-preserved : goal.loop-key-preserved
loop-key-preserved c =
    grows key_cmp key_total c.args.entries.now c.loop-key.tree.entries c.insert.new.self.entries c.loop-key.key-index c.loop-key-item.result c.in_ok-clone.field-0 c.in_ok-clone-2.field-0
    c.requires c.loop-key-test.true c.loop-key-item.is c.loop-key.invariant (search rules) (search rules) c.in_ok-insert.ensures.entries
