use Rattle.std.proofs.Common.{ap, ◌∙◌}
use Rattle.std.specs.Ordering.{nat_cmp}
use Rattle.std.specs.BTreeMap.{insert_entry}
use Rattle.dav_store.proofs.NumberedLemmas.{in_order_put}
use Rattle.dav_store.proofs.tree.numbered.Numbered.insert.Goals as goal

pub returns-clause-ok : goal.returns-clause-ok
returns-clause-ok g c =
    in_order_put c.self.inside.values.entries c.insert.new.self.entries c.args.number c.args.value c.in_ok-insert.ensures.updates.0
    ∙ ap (λ es. insert_entry nat_cmp es c.args.number c.args.value) c.self.view_is
