-- Lists as they are saved, item by item.
use Rattle.std.proofs.Common.{◌≡◌, ℕ, zero, suc, ◌+◌, ◌<◌, ◌≤◌, length, drop, get_or, arith, List, [], ◌∷◌, ◌++◌, sym, ap, subst, ◌∙◌, append_assoc}
use Rattle.std.proofs.lemmas.List.{append-nil, drop_more, nil_from_length, length-drop}
use Rattle.std.specs.List.{flat_map, AllByRecursion}
use Rattle.std.proofs.lemmas.List.Concat.{flat_map-cons}
use Rattle.dav_saved.specs.Spelling.{number, many}

-- the count of the items is added, and none of them
pub begins : {A : Type 0} (spell : A → List ℕ) (a b : List ℕ) (items : List A) → b ≡ a ++ number (length items) → b ++ flat_map spell items ≡ a ++ many spell items
begins spell a b items e = ap (λ (x : List ℕ). x ++ flat_map spell items) e ∙ append_assoc a (number (length items)) (flat_map spell items)

-- one item more is added
pub turn : {A : Type 0} (spell : A → List ℕ) (before now all : List ℕ) (items : List A) (i : ℕ) (x : A) → i < length items → x ≡ get_or items i x → now ≡ before ++ spell x
    → before ++ flat_map spell (drop i items) ≡ all → now ++ flat_map spell (drop (i + 1) items) ≡ all
turn {A} spell before now all items i x lt is e so_far =
    let split : drop i items ≡ x ∷ drop (i + 1) items = drop_more items i x lt ∙ ap (λ (y : A). y ∷ drop (i + 1) items) (sym is) in
    let rest = flat_map spell (drop (i + 1) items) in
    ap (λ (bs : List ℕ). bs ++ rest) e ∙ append_assoc before (spell x) rest
    ∙ ap (λ (bs : List ℕ). before ++ bs) (sym (flat_map-cons spell x (drop (i + 1) items)))
    ∙ ap (λ (ys : List A). before ++ flat_map spell ys) (sym split) ∙ so_far

-- all items are added
pub ends : {A : Type 0} (spell : A → List ℕ) (before all : List ℕ) (items : List A) (i : ℕ) → length items ≤ i → before ++ flat_map spell (drop i items) ≡ all → before ≡ all
ends {A} spell before all items i le so_far =
    let nil : drop i items ≡ [] = nil_from_length (drop i items) (omega (arith, length-drop i items)) in
    sym (append-nil before) ∙ ap (λ (ys : List A). before ++ flat_map spell ys) (sym nil) ∙ so_far

-- what holds of all items holds of one
pub all_at : {A : Type 0} (P : A → Type 0) (items : List A) (i : ℕ) (x : A) → i < length items → x ≡ get_or items i x → AllByRecursion P items → P x
all_at P [] i x lt is h = absurd (omega (arith, lt))
all_at P (y ∷ ys) zero x lt is h = subst P (sym is) h.0
all_at P (y ∷ ys) (suc i) x lt is h = all_at P ys i x (omega (arith, lt)) is h.1

-- it holds of one item more
pub all_turn : {A : Type 0} (P : A → Type 0) (items : List A) (i : ℕ) (x : A) → i < length items → x ≡ get_or items i x → P x
    → (AllByRecursion P (drop i items) → AllByRecursion P items) → AllByRecursion P (drop (i + 1) items) → AllByRecursion P items
all_turn {A} P items i x lt is one so_far rest =
    let split : drop i items ≡ x ∷ drop (i + 1) items = drop_more items i x lt ∙ ap (λ (y : A). y ∷ drop (i + 1) items) (sym is) in
    so_far (subst (λ (ys : List A). AllByRecursion P ys) (sym split) (one, rest))

-- it holds of all items
pub all_done : {A : Type 0} (P : A → Type 0) (items : List A) (i : ℕ) → length items ≤ i → (AllByRecursion P (drop i items) → AllByRecursion P items) → AllByRecursion P items
all_done {A} P items i le so_far =
    let nil : drop i items ≡ [] = nil_from_length (drop i items) (omega (arith, length-drop i items)) in
    so_far (subst (λ (ys : List A). AllByRecursion P ys) (sym nil) tt)
