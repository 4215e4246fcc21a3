use Rattle.std.proofs.Common.{◌∙◌}
use Rattle.dav_core.specs.Property.{key_cmp}
use Rattle.dav_store.proofs.KeyTree.{insert_is_put}
use Rattle.dav_store.proofs.properties.tree.put_in.Goals as goal

pub returns : goal.returns
returns c = c.in_ok-insert.ensures.entries ∙ insert_is_put key_cmp c.args.key c.args.xml c.args.tree.now.entries
