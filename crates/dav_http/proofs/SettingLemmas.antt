-- Sums over the children of an element, as far as they are counted.
use Rattle.std.proofs.Common.{◌≡◌, ℕ, ◌+◌, ◌*◌, ◌<◌, ◌≤◌, min, map, length, take, List, [], ◌∷◌, refl, ap, sym, ◌∙◌, arith, slice_index_or}
use Rattle.std.proofs.lemmas.Grind.{take_at_read}
use Rattle.std.proofs.lemmas.List.Sums.{sum_by_push}
use Rattle.std.specs.List.{sum_by}
use Rattle.dav_core.specs.declared.element.XmlNode.{XmlNode}
use Rattle.dav_core.specs.Element.{ElementTree, tree_list, trees}
use Rattle.dav_core.specs.ElementView.{node_tree}
use Rattle.dav_core.specs.Numbers.{max_u64}
use Rattle.dav_core.proofs.ElementLemmas.{tree_list_trees}
use Rattle.dav_store.proofs.SizeLemmas.{sum_all}

both_capped : (s k m : ℕ) → min (min s m + min k m) m ≡ min (s + k) m
both_capped s k m = omega arith

same_capped : (s k m : ℕ) → s ≤ m → min (s + k) m ≡ min (s + min k m) m
same_capped s k m fits = omega (arith, fits)

-- a sum with one more
pub sum_turn : (f : ElementTree → ℕ) (nodes : List XmlNode) (i : ℕ) (x : XmlNode) (s k : ℕ) → i < length nodes → x ≡ slice_index_or nodes i x
    → s ≡ min (sum_by (λ n. f (node_tree n)) (take i nodes)) max_u64 → k ≡ min (f (node_tree x)) max_u64
    → min (s + k) max_u64 ≡ min (sum_by (λ n. f (node_tree n)) (take (i + 1) nodes)) max_u64
sum_turn f nodes i x s k lt is so_far this =
    let g : XmlNode → ℕ = λ n. f (node_tree n) in
    (λ j. min (so_far j + this j) max_u64) ∙ both_capped (sum_by g (take i nodes)) (g x) max_u64
    ∙ ap (λ (m : ℕ). min m max_u64) (
    ap (λ (y : XmlNode). sum_by g (take i nodes) + g y) is
    ∙ sym (sum_by_push g (take i nodes) (slice_index_or nodes i x))
    ∙ ap (sum_by g) (sym (take_at_read nodes i x lt).1)
    )

-- a sum with one more, which is counted whole
pub sum_turn_whole : (f : ElementTree → ℕ) (nodes : List XmlNode) (i : ℕ) (x : XmlNode) (s k : ℕ) → i < length nodes → x ≡ slice_index_or nodes i x
    → s ≡ min (sum_by (λ n. f (node_tree n)) (take i nodes)) max_u64 → k ≡ f (node_tree x)
    → min (s + k) max_u64 ≡ min (sum_by (λ n. f (node_tree n)) (take (i + 1) nodes)) max_u64
sum_turn_whole f nodes i x s k lt is so_far this =
    same_capped s k max_u64 (omega (arith, so_far)) ∙ sum_turn f nodes i x s (min k max_u64) lt is so_far (ap (λ (m : ℕ). min m max_u64) this)

-- how many children an element has
pub children_count : (nodes : List XmlNode) → length (tree_list (trees (map node_tree nodes))) ≡ length nodes
children_count [] = refl
children_count (n ∷ nodes) = omega (arith, children_count nodes)

-- all of them
pub sum_end : (f : ElementTree → ℕ) (nodes : List XmlNode) (i : ℕ) → length nodes ≤ i → sum_by (λ n. f (node_tree n)) (take i nodes) ≡ sum_by f (tree_list (trees (map node_tree nodes)))
sum_end f nodes i end = sum_all node_tree f nodes i end ∙ ap (sum_by f) (sym (tree_list_trees (map node_tree nodes)))

pub twice : (s b m : ℕ) → b ≡ min s m → min (b * 2) m ≡ min (2 * s) m
twice s b m is = omega (arith, is)
