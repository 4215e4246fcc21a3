-- Element trees: children as lists, and what is found among them.
use Rattle.std.proofs.Common.{◌≡◌, ◌≢◌, ℕ, max, suc, zero, ◌+◌, ◌<◌, ◌||◌, not, cond, Bool, true, false, List, [], ◌∷◌, ◌++◌, length, map, take, drop, Some, None, refl, ap, ◌∙◌, sym, append_assoc, arith, slice_index_or}
use Rattle.std.proofs.lemmas.List.{append-nil}
use Rattle.std.proofs.lemmas.List.Folds.{list_any_more}
use Rattle.std.specs.List.{find, concat, list_any, position_or_len}
use Rattle.std.specs.Option.{unwrap_or}
use Rattle.dav_core.specs.ElementEq.{tree_eq, trees_eq}
use Rattle.dav_core.specs.Element.{ElementTree, ElementTrees, no_trees, tree_then, tree_list, trees, joined_texts, depth_of, depth_among}
use Rattle.dav_core.specs.Lists.{without_first}
use Rattle.std.proofs.lemmas.Bool.{or_parts, and_right}

pub tree_list_trees : (ts : List ElementTree) → tree_list (trees ts) ≡ ts
tree_list_trees [] = refl
tree_list_trees (t ∷ ts) = ap (λ us. t ∷ us) (tree_list_trees ts)

pub trees_tree_list : (ts : ElementTrees) → trees (tree_list ts) ≡ ts
trees_tree_list no_trees = refl
trees_tree_list (tree_then t ts) = ap (λ us. tree_then t us) (trees_tree_list ts)

past : (b : Bool) (m n : ℕ) (rest : Bool) → cond (not b) (1 + m) 0 ≡ suc n → (m ≡ n → rest ≡ false) → (b || rest) ≡ false
past false m n rest e h = h (omega (arith, e))
past true m n rest e h = absurd (omega (arith, e))

-- where the first place of an item that passes is the length, none passes
pub list_any_past : {X : Type 0} (p : X → Bool) (xs : List X) → position_or_len p xs ≡ length xs → list_any p xs ≡ false
list_any_past p [] e = refl
list_any_past p (x ∷ xs) e = past (p x) (position_or_len p xs) (length xs) (list_any p xs) e (list_any_past p xs)

-- none passes so far, and not this one either
pub none_more : {X : Type 0} (p : X → Bool) (xs : List X) (i : ℕ) (d : X) → i < length xs → list_any p (take i xs) ≡ false → p (slice_index_or xs i d) ≡ false
    → list_any p (take (i + 1) xs) ≡ false
none_more p xs i d lt none here = list_any_more p xs i d lt ∙ rw (none, here) refl

-- what is found at the first place, and what is left
pub find_at : {X Y : Type 0} (f : X → Y) (p : Y → Bool) (xs : List X) (i : ℕ) (d : X) → i < length xs → list_any (λ x. p (f x)) (take i xs) ≡ false → p (f (slice_index_or xs i d)) ≡ true
    → (find p (map f xs) ≡ Some (f (slice_index_or xs i d))) × (without_first p (map f xs) ≡ map f (take i xs ++ drop (suc i) xs))
find_at f p [] i d lt none hit = absurd (omega arith)
find_at f p (x ∷ xs) zero d lt none hit = (rw hit refl, rw hit refl)
find_at f p (x ∷ xs) (suc i) d lt none hit =
    let here = or_parts (p (f x)) (list_any (λ y. p (f y)) (take i xs)) none in
    let rest = find_at f p xs i d (omega (arith, lt)) here.1 hit in
    (rw here.0 rest.0, rw here.0 (ap (λ ys. f x ∷ ys) rest.1))

pub find_none : {X Y : Type 0} (f : X → Y) (p : Y → Bool) (xs : List X) → list_any (λ x. p (f x)) xs ≡ false → (find p (map f xs) ≡ None) × (without_first p (map f xs) ≡ map f xs)
find_none f p [] none = (refl, refl)
find_none f p (x ∷ xs) none =
    let here = or_parts (p (f x)) (list_any (λ y. p (f y)) xs) none in
    let rest = find_none f p xs here.1 in
    (rw here.0 rest.0, rw here.0 (ap (λ ys. f x ∷ ys) rest.1))

-- the depth with one more child
pub depth_among_more : (ts : List ElementTree) (t : ElementTree) → depth_among (trees (ts ++ t ∷ [])) ≡ max (depth_among (trees ts)) (depth_of t)
depth_among_more [] t = omega arith
depth_among_more (u ∷ ts) t = omega (arith, depth_among_more ts t)

concat_more : (xs : List (List ℕ)) (x : List ℕ) → concat (xs ++ x ∷ []) ≡ concat xs ++ x
concat_more [] x = append-nil x
concat_more (y ∷ ys) x = ap (λ zs. y ++ zs) (concat_more ys x) ∙ sym (append_assoc y (concat ys) x)

-- the texts with one more child
pub joined_texts_more : (xs : List (List ℕ)) (x : List ℕ) → joined_texts (xs ++ x ∷ []) ≡ Some (unwrap_or (joined_texts xs) [] ++ x)
joined_texts_more [] x = search (append-nil)
joined_texts_more (y ∷ ys) x = ap Some (concat_more (y ∷ ys) x)

-- lists of trees of different lengths are not equal
pub trees_eq_length : {X : Type 0} (f : X → ElementTree) (xs ys : List X) → length xs ≢ length ys → trees_eq (trees (map f xs)) (trees (map f ys)) ≡ false
trees_eq_length f [] [] ne = absurd (ne refl)
trees_eq_length f [] (y ∷ ys) ne = refl
trees_eq_length f (x ∷ xs) [] ne = refl
trees_eq_length f (x ∷ xs) (y ∷ ys) ne = and_right (tree_eq (f x) (f y)) _ (trees_eq_length f xs ys (λ e. ne (ap suc e)))
