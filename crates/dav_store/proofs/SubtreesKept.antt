-- The nodes of a store are in order, and above each there is a node.
use Rattle.std.proofs.Common.{◌≡◌, T, ℕ, List, ◌++◌, Option, Some, None, refl, sym, ap, subst, ◌∙◌}
use Rattle.std.specs.Option.{option_and_then}
use Rattle.std.specs.FinMap.{is_sorted}
use Rattle.dav_core.specs.Path.{Path, path_cmp}
use Rattle.dav_core.specs.World.{Node as Seen, Nodes}
use Rattle.dav_store.specs.Tree.{Tree, value_of}
use Rattle.dav_store.specs.Placed.{placed, found, stands, IsGrown}
use Rattle.dav_store.specs.Subtrees.{IsClosed}
use Rattle.dav_store.proofs.Placing.{find-placed, sorted-placed}
use Rattle.dav_store.proofs.TreePaths.{none-below, found_there, some_is}

stands_above : (t : Tree (List ℕ) Seen) → IsGrown t → (a b : Path) (m : Seen) (o : Option ℕ) → found t a ≡ o → stands t (a ++ b) ≡ Some m → (k : Seen) × (stands t a ≡ Some k)
stands_above t grown a b m None at h = let clash : None ≡ Some m = sym (ap (option_and_then (value_of t)) (none-below t a b at)) ∙ h in cc
stands_above t grown a b m (Some n) at h =
    let (k, there) = some_is (value_of t n) (found_there t grown a n at) in
    (k, ap (option_and_then (value_of t)) at ∙ there)

closed_placed : (t : Tree (List ℕ) Seen) → IsGrown t → IsClosed (placed t)
closed_placed t grown a b m h =
    let (k, there) = stands_above t grown a b m (found t a) refl (sym (find-placed t grown (a ++ b)) ∙ h) in
    (k, find-placed t grown a ∙ there)

pub sorted_kept : (t : Tree (List ℕ) Seen) (ns : Nodes) → IsGrown t → placed t ≡ ns → T (is_sorted path_cmp ns)
sorted_kept t ns grown view = subst (λ (xs : Nodes). T (is_sorted path_cmp xs)) view (sorted-placed t grown)

pub closed_kept : (t : Tree (List ℕ) Seen) (ns : Nodes) → IsGrown t → placed t ≡ ns → IsClosed ns
closed_kept t ns grown view = subst IsClosed view (closed_placed t grown)
