-- The turns of a `for` over an iterator whose list is known.
use Rattle.std.proofs.Common.{◌≡◌, ◌≢◌, List, [], ◌∷◌, ◌++◌, length, map, drop, Option, Some, None, refl, sym, ◌∙◌, suc, drop-cons}
use Rattle.std.specs.Iterator.{Yields, Drains}
use Rattle.std.specs.List.{last_or}
use Rattle.std.specs.Option.{option_map, unwrap_or}
use Rattle.std.proofs.lemmas.Iterator.{YieldsList, items_from_drains}
use Rattle.std.proofs.lemmas.Iterator.Consumers.{YieldsList-turn, YieldsList-so_far, YieldsList-end}
use Rattle.std.proofs.lemmas.List.{take-append-drop}

-- at a turn the list is the items so far, this one, and a rest
pub turn_parts : {S A B : Type 0} {steps : S → Option A → S → Type 0} {v : A → B} {s : S} {all : List B} (xs : List A) (t : S) (y : Yields steps s xs t) (e : YieldsList steps v s all) → (r : Option A) (u : S) (x : A) → r ≡ Some x → steps t r u → (rest : List B) × (all ≡ map v xs ++ v x ∷ rest)
turn_parts {v = v} {all = all} xs t y e r u x is step =
    let turn = YieldsList-turn e xs t y r u x is step in
    let front = YieldsList-so_far e xs t y in
    let here = drop-cons all (length xs) (v x) turn.0 in
    (drop (suc (length xs)) all, sym (take-append-drop (length xs) all) ∙ rw (here, ← front, ← turn.1) refl)

-- at the end the items are the list
pub end_parts : {S A B : Type 0} {steps : S → Option A → S → Type 0} {v : A → B} {s : S} {all : List B} (xs : List A) (t : S) (y : Yields steps s xs t) (e : YieldsList steps v s all) → (r : Option A) (u : S) → r ≡ None → steps t r u → map v xs ≡ all
end_parts xs t y e r u is step = let end = YieldsList-end e xs t y r u is step in end.0

-- the last of the items, seen by v
pub last_seen : {A B : Type 0} (v : A → B) (o : Option A) (xs : List A) → option_map v (last_or o xs) ≡ last_or (option_map v o) (map v xs)
last_seen v o [] = refl
last_seen v o (x ∷ xs) = last_seen v (Some x) xs

-- or another value, where there is none
pub seen_or : {A B : Type 0} (v : A → B) (o : Option A) (d : A) → v (unwrap_or o d) ≡ unwrap_or (option_map v o) (v d)
seen_or v None d = refl
seen_or v (Some x) d = refl

-- all items of an iterator, seen by v, are its list
pub drained_items : {S A B : Type 0} {steps : S → Option A → S → Type 0} {v : A → B} {s : S} {all : List B} → (xs : List A) → Drains steps s xs → YieldsList steps v s all → map v xs ≡ all
drained_items xs h e = items_from_drains xs (h.1.0, h.1.1, λ _. (h.0, h.1.2)) e

-- a list without a last item is empty
last_some : {A : Type 0} (x : A) (xs : List A) → last_or (Some x) xs ≢ None
last_some x [] = λ e. cc
last_some x (y ∷ xs) = last_some y xs

pub no_last : {A : Type 0} (xs : List A) → last_or None xs ≡ None → xs ≡ []
no_last [] e = refl
no_last (x ∷ xs) e = absurd (last_some x xs e)
