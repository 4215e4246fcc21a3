use Rattle.std.proofs.Common.{sym, ap, ◌∙◌}
use Rattle.std.specs.Map.{lookup}
use Rattle.dav_store.proofs.TreeNodes.{same}
use Rattle.dav_store.proofs.NumberedLemmas.{found_in_order}
use Rattle.dav_store.proofs.tree.numbered.Numbered.get.Goals as goal

pub returns : goal.returns
returns g c = c.get.ensures.value ∙ sym (found_in_order c.args.number c.self.inside.values.entries) ∙ ap (lookup (same c.args.number)) c.self.view_is
