use Rattle.std.proofs.Common.{refl, sym, ap, ◌∙◌}
use Rattle.std.specs.Map.{lookup, set_value}
use Rattle.dav_store.specs.Numbered.{in_order}
use Rattle.dav_store.proofs.TreeNodes.{same}
use Rattle.dav_store.proofs.NumberedLemmas.{found_in_order, in_order_written}
use Rattle.dav_store.proofs.tree.numbered.Numbered.get_mut.Goals as goal

pub returns : goal.returns
returns g c = (
  (
    refl,
    λ w. ap in_order (c.get_mut.follows.holds w).0 ∙ in_order_written c.self.inside.values.entries c.args.number w ∙ ap (λ es. set_value (same c.args.number) es w) c.self.view_is,
    ap (λ m. in_order m.entries) c.get_mut.follows.holds-at-none ∙ c.self.view_is,
  ),
  record {
    writes_back = tt;
    value = c.get_mut.ensures.value ∙ sym (found_in_order c.args.number c.self.inside.values.entries) ∙ ap (lookup (same c.args.number)) c.self.view_is;
  },
)
