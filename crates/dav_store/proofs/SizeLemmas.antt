-- Sums of 64 bits, one length after another.
use Rattle.std.proofs.Common.{◌≡◌, ℕ, ◌+◌, ◌<◌, ◌≤◌, min, map, length, take, List, [], ◌∷◌, refl, ap, sym, ◌∙◌, arith, slice_index_or}
use Rattle.std.proofs.lemmas.Grind.{take_at_read}
use Rattle.std.proofs.lemmas.List.{take_all}
use Rattle.std.proofs.lemmas.List.Sums.{sum_by_push, sum_by-cons}
use Rattle.std.specs.List.{sum_by}
use Rattle.dav_core.specs.declared.element.XmlNode.{XmlNode}
use Rattle.dav_core.specs.Element.{ElementTree, trees}
use Rattle.dav_core.specs.ElementView.{node_tree}
use Rattle.dav_core.specs.Numbers.{max_u64}
use Rattle.dav_store.specs.Sizes.{tree_len, trees_len}

pub capped : (s k m : ℕ) → min (min s m + k) m ≡ min (s + k) m
capped s k m = omega arith

-- a sum and one length, where the sum was capped
pub then_one : (n s a b : ℕ) → s ≡ min (n + a) max_u64 → min (s + b) max_u64 ≡ min (n + (a + b)) max_u64
then_one n s a b is = ap (λ (m : ℕ). min (m + b) max_u64) is ∙ capped (n + a) b max_u64 ∙ ap (λ (m : ℕ). min m max_u64) (omega arith)

pub and_one : (s a b : ℕ) → s ≡ min a max_u64 → min (s + b) max_u64 ≡ min (a + b) max_u64
and_one s a b is = ap (λ (m : ℕ). min (m + b) max_u64) is ∙ capped a b max_u64

-- a sum of lengths with one more
pub sum_turn : {X : Type 0} (f : X → ℕ) (xs : List X) (i : ℕ) (x : X) (n s : ℕ) → i < length xs → x ≡ slice_index_or xs i x
    → s ≡ min (n + sum_by f (take i xs)) max_u64 → min (s + f x) max_u64 ≡ min (n + sum_by f (take (i + 1) xs)) max_u64
sum_turn {X} f xs i x n s lt is so_far =
    then_one n s (sum_by f (take i xs)) (f x) so_far
    ∙ ap (λ (m : ℕ). min (n + m) max_u64) (
    ap (λ (y : X). sum_by f (take i xs) + f y) is
    ∙ sym (sum_by_push f (take i xs) (slice_index_or xs i x))
    ∙ ap (sum_by f) (sym (take_at_read xs i x lt).1)
    )

sum_mapped : {X Y : Type 0} (g : X → Y) (f : Y → ℕ) (xs : List X) → sum_by f (map g xs) ≡ sum_by (λ x. f (g x)) xs
sum_mapped g f [] = refl
sum_mapped {X} g f (x ∷ xs) = sum_by-cons f (g x) (map g xs) ∙ ap (λ (m : ℕ). f (g x) + m) (sum_mapped g f xs) ∙ sym (sum_by-cons (λ (y : X). f (g y)) x xs)

-- all of them, once there are no more
pub sum_all : {X Y : Type 0} (g : X → Y) (f : Y → ℕ) (xs : List X) (i : ℕ) → length xs ≤ i → sum_by (λ x. f (g x)) (take i xs) ≡ sum_by f (map g xs)
sum_all {X} g f xs i end = ap (λ (ys : List X). sum_by (λ x. f (g x)) ys) (take_all i xs (omega (arith, end))) ∙ sym (sum_mapped g f xs)

trees_sum : (ts : List ElementTree) → sum_by tree_len ts ≡ trees_len (trees ts)
trees_sum [] = refl
trees_sum (t ∷ ts) = sum_by-cons tree_len t ts ∙ ap (λ (m : ℕ). tree_len t + m) (trees_sum ts)

pub children_all : (nodes : List XmlNode) (i : ℕ) → length nodes ≤ i → sum_by (λ n. tree_len (node_tree n)) (take i nodes) ≡ trees_len (trees (map node_tree nodes))
children_all nodes i end = sum_all node_tree tree_len nodes i end ∙ trees_sum (map node_tree nodes)
