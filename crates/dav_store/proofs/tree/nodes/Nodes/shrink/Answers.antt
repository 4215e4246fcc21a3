use Rattle.std.proofs.Common.{ap, ◌∙◌, arith, ⊎_elim}
use Rattle.std.specs.Map.{lookup}
use Rattle.std.proofs.lemmas.Bool.{cases_eq}
use Rattle.dav_store.proofs.TreeNodes.{same}
use Rattle.dav_store.proofs.TreeNumbers.{miss_remove_entry}
use Rattle.dav_store.proofs.tree.nodes.Nodes.shrink.Goals as goal

-- src/tree/nodes.rt
pub invariant_of-self : goal.invariant_of-self
invariant_of-self g c =
    let last = c.self.inside.last in
    λ n above. ⊎_elim
    (λ is. ap (λ q. lookup (same q) c.remove.new.self) is ∙ c.remove.ensures.gone)
    (λ ne. ap (lookup (same n)) c.remove.ensures.left ∙ miss_remove_entry n last c.self.inside.by_number (c.self.invariant n (omega (arith, above, ne))))
    (cases_eq n last)
