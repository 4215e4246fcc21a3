use Rattle.std.proofs.Common.{ap, ◌∙◌}
use Rattle.std.specs.Map.{remove_entry}
use Rattle.dav_store.proofs.TreeNodes.{same}
use Rattle.dav_store.proofs.NumberedLemmas.{in_order_taken, found_in_order}
use Rattle.dav_store.proofs.tree.numbered.Numbered.remove.Goals as goal

pub returns-clause-left : goal.returns-clause-left
returns-clause-left g c =
    in_order_taken c.self.inside.values.entries c.remove.new.self.entries c.args.number c.remove.ensures.updates.0
    ∙ ap (remove_entry (same c.args.number)) c.self.view_is

pub returns-clause-gone : goal.returns-clause-gone
returns-clause-gone g c = found_in_order c.args.number c.remove.new.self.entries ∙ c.remove.ensures.updates.1
