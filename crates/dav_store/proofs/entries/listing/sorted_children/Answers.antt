use Rattle.std.proofs.Common.{◌≡◌, ℕ, Ok, refl, subst, IsPermutation}
use Rattle.std.proofs.lemmas.Iterator.{items_from_collect}
use Rattle.std.proofs.lemmas.Iterator.Consumers.{YieldsList-from_first}
use Rattle.dav_core.specs.declared.errors.FsError.TheVariants.{InsufficientStorage}
use Rattle.dav_store.specs.Tree.{node}
use Rattle.dav_store.proofs.KeptCalls.{items_cloned, some_given}
use Rattle.dav_store.proofs.ListedMembers.{children_listed}
use Rattle.dav_store.proofs.entries.listing.sorted_children.Goals as goal

pub returns-clause-children : goal.returns-clause-children
returns-clause-children c =
    let gathered = items_from_collect {E = ℕ} (Ok c.in_ok-children.children) c.in_ok-children.ensures.ran (YieldsList-from_first (λ x. x) (λ rest. rest) c.in-Ok.children refl) in
    children_listed c.args.tree.now c.args.id _ (λ a b h. items_cloned _ (λ x y e. cc) a.items b.items h.0) c.in-Ok.children c.sort_unstable.new.self.items
    c.in-Ok.ensures.listed (subst (λ l. IsPermutation l c.sort_unstable.new.self.items) gathered c.sort_unstable.ensures.permutation)

pub want_of_memory-requires : goal.want_of_memory-requires
want_of_memory-requires c = some_given (node c.args.tree.now c.args.id) (c.in-Err.e ≡ InsufficientStorage) c.requires c.in-Err.ensures.lacking
