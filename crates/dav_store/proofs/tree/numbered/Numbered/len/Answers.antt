use Rattle.std.proofs.Common.{length, sym, ap, ◌∙◌}
use Rattle.dav_store.proofs.NumberedLemmas.{length_in_order}
use Rattle.dav_store.proofs.tree.numbered.Numbered.len.Goals as goal

pub returns : goal.returns
returns g c = c.len.ensures.len ∙ sym (length_in_order c.self.inside.values.entries c.len.ensures.unique) ∙ ap length c.self.view_is
