use Rattle.std.proofs.Common.{sym, ap, ◌∙◌}
use Rattle.std.proofs.lemmas.Map.Entries.{entries_from_clone}
use Rattle.dav_store.specs.Placed.{placed}
use Rattle.dav_store.proofs.BareTrees.{bare_cloned}
use Rattle.dav_store.proofs.KeptCalls.{kept_cloned, items_cloned}
use Rattle.dav_store.proofs.EntryLemmas.{held}
use Rattle.dav_store.proofs.entries.EntriesClone.clone.Goals as goal

pub invariant_of-result : goal.invariant_of-result
invariant_of-result c =
    kept_cloned c.self.inside.tree c.in_ok-clone.field-0 c.self.inside.made c.in_ok-clone-2.field-0 c.self.invariant
    (bare_cloned _ _ (λ a b h. items_cloned _ (λ x y e. cc) a.items b.items h.0) (λ a b h. cc) c.self.inside.tree c.in_ok-clone.field-0 c.in_ok-clone.ensures.cases)
    (entries_from_clone _ _ (λ x y e. cc) (λ x y e. cc) c.self.inside.made.entries c.in_ok-clone-2.field-0.entries c.in_ok-clone-2.ensures.cases)

pub returns : goal.returns
returns c = record {
  cases = sym c.self.view_is
      ∙ held (ap placed (sym (bare_cloned _ _ (λ a b h. items_cloned _ (λ x y e. cc) a.items b.items h.0) (λ a b h. cc) c.self.inside.tree c.in_ok-clone.field-0 c.in_ok-clone.ensures.cases))) (sym c.in_ok-clone.ensures.cases.0);
}
