-- The turns of loops over iterators whose list is known, and over slices.
use Rattle.std.proofs.Common.{◌+◌, arith, ◌≡◌, ℕ, ◌<◌, ◌≤◌, List, [], ◌∷◌, ◌++◌, length, map, drop, take, get_or, append_assoc, Option, Some, None, sym, ◌∙◌, ap, suc, drop-cons, take-suc, refl, append-nil, subst, All}
use Rattle.std.proofs.lemmas.List.Elements.{All-push}
use Rattle.std.specs.Iterator.{Yields}
use Rattle.std.specs.List.{flat_map}
use Rattle.std.proofs.lemmas.Iterator.{YieldsList}
use Rattle.std.proofs.lemmas.Iterator.Consumers.{YieldsList-turn, YieldsList-so_far, YieldsList-end}
use Rattle.std.proofs.lemmas.List.{take-append-drop, drop_all, map_push, map-append}
use Rattle.dav_headers.specs.Elements.{joined}
use Rattle.std.proofs.lemmas.List.Concat.{flat_map-append}

-- at a turn the list is the items so far, this one, and a rest
pub turn_parts : {S A B : Type 0} {steps : S → Option A → S → Type 0} {v : A → B} {s : S} {all : List B} (xs : List A) (t : S) (y : Yields steps s xs t) (e : YieldsList steps v s all) → (r : Option A) (u : S) (x : A) → r ≡ Some x → steps t r u → (rest : List B) × (all ≡ map v xs ++ v x ∷ rest)
turn_parts {v = v} {all = all} xs t y e r u x is step =
    let turn = YieldsList-turn e xs t y r u x is step in
    let front = YieldsList-so_far e xs t y in
    let here = drop-cons all (length xs) (v x) turn.0 in
    (drop (suc (length xs)) all, sym (take-append-drop (length xs) all) ∙ rw (here, ← front, ← turn.1) refl)

-- what a function gives for the list at a turn
pub turn_mapped : {S A B C : Type 0} {steps : S → Option A → S → Type 0} {v : A → B} {s : S} {all : List B} (f : B → C) (xs : List A) (t : S) (y : Yields steps s xs t) (e : YieldsList steps v s all) → (r : Option A) (u : S) (x : A) → r ≡ Some x → steps t r u → (rest : List C) × (map f all ≡ map f (map v xs) ++ f (v x) ∷ rest)
turn_mapped {v = v} f xs t y e r u x is step =
    let (rest, parts) = turn_parts xs t y e r u x is step in (map f rest, ap (map f) parts ∙ map-append f (map v xs) (v x ∷ rest))

-- at the end the items are the list
pub end_parts : {S A B : Type 0} {steps : S → Option A → S → Type 0} {v : A → B} {s : S} {all : List B} (xs : List A) (t : S) (y : Yields steps s xs t) (e : YieldsList steps v s all) → (r : Option A) (u : S) → r ≡ None → steps t r u → map v xs ≡ all
end_parts xs t y e r u is step = let end = YieldsList-end e xs t y r u is step in end.0

one_more : (i : ℕ) → i + 1 ≡ suc i
one_more i = omega arith

-- the elements up to this one
pub take_turn : {X : Type 0} (xs : List X) (i : ℕ) (x : X) → i < length xs → x ≡ get_or xs i x → take (i + 1) xs ≡ take i xs ++ x ∷ []
take_turn xs i x lt is = ap (λ k. take k xs) (one_more i) ∙ take-suc xs i x lt ∙ ap (λ y. take i xs ++ y ∷ []) (sym is)

-- what the elements up to this one give
pub flat_map_turn : {X Y : Type 0} (f : X → List Y) (xs : List X) (i : ℕ) (x : X) → i < length xs → x ≡ get_or xs i x → flat_map f (take (i + 1) xs) ≡ flat_map f (take i xs) ++ f x
flat_map_turn f xs i x lt is = ap (flat_map f) (take_turn xs i x lt is) ∙ flat_map-append f (take i xs) (x ∷ []) ∙ ap (λ ys. flat_map f (take i xs) ++ ys) (append-nil (f x))

-- the element at this place and those after it
pub drop_turn : {X : Type 0} (xs : List X) (i : ℕ) (x : X) → i < length xs → x ≡ get_or xs i x → drop i xs ≡ x ∷ drop (i + 1) xs
drop_turn xs i x lt is =
    drop-cons xs i x lt ∙ ap (λ k. get_or xs i x ∷ drop k xs) (sym (one_more i)) ∙ ap (λ y. y ∷ drop (i + 1) xs) (sym is)

-- what holds of all elements, at this place
pub all_at : {X : Type 0} (P : X → Type 0) (xs : List X) (i : ℕ) (x : X) → i < length xs → x ≡ get_or xs i x → All P xs → P x
all_at P xs i x lt is h = subst P (sym is) (h i x lt)

-- what holds of the elements before this place and of this one
pub all_turn : {X : Type 0} (P : X → Type 0) (xs : List X) (i : ℕ) (x : X) → i < length xs → x ≡ get_or xs i x → All P (take i xs) → P x → All P (take (i + 1) xs)
all_turn P xs i x lt is h here = subst (All P) (sym (take_turn xs i x lt is)) (All-push P (take i xs) x h here)

-- what a function gives for one more item
pub mapped_push : {A B C : Type 0} (f : B → C) (v : A → B) (xs : List A) (x : A) → map f (map v xs) ++ f (v x) ∷ [] ≡ map f (map v (xs ++ x ∷ []))
mapped_push f v xs x = sym (ap (map f) (map_push v xs x) ∙ map_push f (map v xs) (v x))

-- ---- a copy, element by element

pub copy_turn : {X : Type 0} (xs copies pushed : List X) (i : ℕ) (x y : X) → i < length xs → x ≡ get_or xs i x → y ≡ x → pushed ≡ copies ++ y ∷ [] → copies ++ drop i xs ≡ xs → pushed ++ drop (i + 1) xs ≡ xs
copy_turn xs copies pushed i x y lt is same e h =
    ap (λ ys. ys ++ drop (i + 1) xs) e ∙ append_assoc copies (y ∷ []) (drop (i + 1) xs) ∙ ap (λ z. copies ++ z ∷ drop (i + 1) xs) same
    ∙ ap (λ ys. copies ++ ys) (sym (drop_turn xs i x lt is)) ∙ h

pub copy_end : {X : Type 0} (xs copies : List X) (i : ℕ) → length xs ≤ i → copies ++ drop i xs ≡ xs → copies ≡ xs
copy_end xs copies i le h = sym (append-nil copies) ∙ ap (λ ys. copies ++ ys) (sym (drop_all i xs le)) ∙ h

-- ---- what a copy is seen as, element by element

pub seen_turn : {X Y Z : Type 0} (f : X → Z) (g : Y → Z) (xs : List X) (ys pushed : List Y) (i : ℕ) (x : X) (y : Y) → i < length xs → x ≡ get_or xs i x → g y ≡ f x → pushed ≡ ys ++ y ∷ [] → map g ys ++ map f (drop i xs) ≡ map f xs → map g pushed ++ map f (drop (i + 1) xs) ≡ map f xs
seen_turn f g xs ys pushed i x y lt is same e h =
    let rest = map f (drop (i + 1) xs) in
    ap (λ zs. zs ++ rest) (ap (map g) e ∙ map_push g ys y) ∙ append_assoc (map g ys) (g y ∷ []) rest ∙ ap (λ z. map g ys ++ z ∷ rest) same
    ∙ ap (λ zs. map g ys ++ map f zs) (sym (drop_turn xs i x lt is)) ∙ h

pub seen_end : {X Y Z : Type 0} (f : X → Z) (g : Y → Z) (xs : List X) (ys : List Y) (i : ℕ) → length xs ≤ i → map g ys ++ map f (drop i xs) ≡ map f xs → map g ys ≡ map f xs
seen_end f g xs ys i le h = sym (append-nil (map g ys)) ∙ ap (λ zs. map g ys ++ map f zs) (sym (drop_all i xs le)) ∙ h

-- ---- texts with a comma and a space between them

abbrev behind : List ℕ → List ℕ
behind y = 44 ∷ 32 ∷ y

pub joined_start : {X : Type 0} (f : X → List ℕ) (xs rest : List X) (first : X) (text : List ℕ) → text ≡ f first → xs ≡ first ∷ rest → text ++ flat_map behind (map f rest) ≡ joined (map f xs)
joined_start f xs rest first text e is = ap (λ y. y ++ flat_map behind (map f rest)) e ∙ sym (ap (λ ys. joined (map f ys)) is)

pub joined_turn : {X : Type 0} (f : X → List ℕ) (rest : List X) (i : ℕ) (x : X) (text comma next whole : List ℕ) → i < length rest → x ≡ get_or rest i x → comma ≡ text ++ 44 ∷ 32 ∷ [] → next ≡ comma ++ f x → text ++ flat_map behind (map f (drop i rest)) ≡ whole → next ++ flat_map behind (map f (drop (i + 1) rest)) ≡ whole
joined_turn f rest i x text comma next whole lt is e g h =
    let later = flat_map behind (map f (drop (i + 1) rest)) in
    ap (λ y. y ++ later) (g ∙ ap (λ y. y ++ f x) e ∙ append_assoc text (44 ∷ 32 ∷ []) (f x)) ∙ append_assoc text (behind (f x)) later
    ∙ sym (ap (λ ys. text ++ flat_map behind (map f ys)) (drop_turn rest i x lt is)) ∙ h

pub joined_end : {X : Type 0} (f : X → List ℕ) (rest : List X) (i : ℕ) (text whole : List ℕ) → length rest ≤ i → text ++ flat_map behind (map f (drop i rest)) ≡ whole → text ≡ whole
joined_end f rest i text whole le h = sym (append-nil text) ∙ sym (ap (λ ys. text ++ flat_map behind (map f ys)) (drop_all i rest le)) ∙ h
