use Rattle.std.proofs.Common.{sym, ap, ◌∙◌}
use Rattle.std.specs.BTreeMap.{is_at}
use Rattle.std.specs.Map.{lookup}
use Rattle.dav_core.specs.Property.{key_cmp}
use Rattle.dav_store.proofs.KeyTree.{remove_is_filter}
use Rattle.dav_store.proofs.properties.tree.remove_from.Goals as goal

pub returns : goal.returns
returns c =
    let is = is_at (key_cmp c.args.key.now) in
    c.remove.ensures.entries ∙ remove_is_filter key_cmp is c.args.tree.now.entries (sym (ap (lookup is) c.remove.ensures.entries) ∙ c.remove.ensures.updates.1)
