-- What lists mean, one after the other, and what the whole value means.
use Rattle.std.proofs.Common.{◌≡◌, ℕ, ◌+◌, ◌<◌, ◌++◌, List, [], ◌∷◌, length, take, drop, map, suc, refl, sym, ◌∙◌, ap, subst, arith, get_or, add-one, Option, Some, None}
use Rattle.std.specs.List.{AllZip}
use Rattle.std.proofs.lemmas.List.{map_push, map-append, take-append-drop}
use Rattle.std.proofs.lemmas.Slice.Zip.{AllZip-long}
use Rattle.std.proofs.Math.Seq.{take-suc, drop-cons}
use Rattle.dav_headers.specs.IfTokens.{Token, Spells}
use Rattle.dav_headers.specs.If.{ConditionList, AreLists, IsIf}
use Rattle.dav_headers.specs.IfWritten.{WrittenList, ListsAt, SaysList}
use Rattle.dav_headers.proofs.IfTokenLemmas.{spells_one}
use Rattle.dav_headers.proofs.IfListLemmas.{lists_found, lists_only, lists_same}

-- ---- one after the other

zip_push : {A B : Type 0} (R : A → B → Type 0) (xs : List A) (ys : List B) (x : A) (y : B) → AllZip R xs ys → R x y → AllZip R (xs ++ x ∷ []) (ys ++ y ∷ [])
zip_push R [] [] x y h k = (k, tt)
zip_push R [] (b ∷ ys) x y h k = absurd h
zip_push R (a ∷ xs) [] x y h k = absurd h
zip_push R (a ∷ xs) (b ∷ ys) x y (h, more) k = (h, zip_push R xs ys x y more k)

zip_stuck : {A B : Type 0} (R : A → B → Type 0) (front : List A) (x : A) (back : List A) → ((y : B) → ¬ R x y) → (ys : List B) → ¬ AllZip R (front ++ x ∷ back) ys
zip_stuck R [] x back none [] = λ h. h
zip_stuck R [] x back none (y ∷ ys) = λ (h, more). none y h
zip_stuck R (a ∷ front) x back none [] = λ h. h
zip_stuck R (a ∷ front) x back none (y ∷ ys) = λ (h, more). zip_stuck R front x back none ys more

-- one more of the values that were read
pub said_more : {A B C D : Type 0} (R : C → D → Type 0) (f : A → C) (g : B → D) (xs : List A) (i : ℕ) (x d : A) (ys zs : List B) (y : B) → i < length xs → x ≡ get_or xs i d → zs ≡ ys ++ y ∷ [] → AllZip R (map f (take i xs)) (map g ys) → R (f x) (g y) → AllZip R (map f (take (i + 1) xs)) (map g zs)
said_more {A = A} R f g xs i x d ys zs y within at pushed sofar here =
    let front : take (i + 1) xs ≡ take i xs ++ x ∷ [] =
    ap (λ k. take k xs) (add-one i) ∙ take-suc xs i d within ∙ ap (λ z. take i xs ++ z ∷ []) (sym at) in
    let left : map f (take (i + 1) xs) ≡ map f (take i xs) ++ f x ∷ [] = ap (map f) front ∙ map_push f (take i xs) x in
    let right : map g zs ≡ map g ys ++ g y ∷ [] = ap (map g) pushed ∙ map_push g ys y in
    rw (left, right) (zip_push R (map f (take i xs)) (map g ys) (f x) (g y) sofar here)

-- a place that means nothing
pub unsaid_at : {A C D : Type 0} (R : C → D → Type 0) (f : A → C) (xs : List A) (i : ℕ) (x d : A) → i < length xs → x ≡ get_or xs i d → ((y : D) → ¬ R (f x) y) → (ys : List D) → ¬ AllZip R (map f xs) ys
unsaid_at {C = C} R f xs i x d within at none ys h =
    let split : xs ≡ take i xs ++ x ∷ drop (suc i) xs =
    sym (take-append-drop i xs) ∙ ap (λ z. take i xs ++ z) (drop-cons xs i d within ∙ ap (λ z. z ∷ drop (suc i) xs) (sym at)) in
    let mapped : map f xs ≡ map f (take i xs) ++ f x ∷ map f (drop (suc i) xs) = ap (map f) split ∙ map-append f (take i xs) (x ∷ drop (suc i) xs) in
    let P : List C → Type 0 = λ z. AllZip R z ys in
    zip_stuck R (map f (take i xs)) (f x) (map f (drop (suc i) xs)) none ys (subst P mapped h)

-- what is known of the clone of an option whose clones are equal
abbrev pub OptionClone : {A : Type 0} → Option A → Option A → Type 0
OptionClone None None = Unit {0}
OptionClone None (Some y) = ⊥
OptionClone (Some x) None = ⊥
OptionClone (Some x) (Some y) = y ≡ x

pub copied_option : {A : Type 0} (o p : Option A) → OptionClone o p → p ≡ o
copied_option None None h = refl
copied_option None (Some y) h = absurd h
copied_option (Some x) None h = absurd h
copied_option (Some x) (Some y) h = ap Some h

-- copies with equal views
pub maps_alike : {A B : Type 0} (f : A → B) (xs ys : List A) → AllZip (λ x y. f y ≡ f x) xs ys → map f ys ≡ map f xs
maps_alike f [] [] h = refl
maps_alike f [] (y ∷ ys) h = absurd h
maps_alike f (x ∷ xs) [] h = absurd h
maps_alike f (x ∷ xs) (y ∷ ys) (e, more) = let tail = maps_alike f xs ys more in cc (e, tail)

-- ---- the whole value

pub if_found : (text : List ℕ) (ts : List Token) (ws : List WrittenList) (ls : List ConditionList) → Spells text ts → ListsAt ts ws → AllZip SaysList ws ls → 0 < length ws → IsIf text ls
if_found text ts ws ls spells at says some =
    (ts, spells, lists_found ts ws ls at says, omega (arith, AllZip-long SaysList ws ls says))

-- the lists of a text that means something are there, as they are written
pub if_written : (text : List ℕ) (ts : List Token) (ls : List ConditionList) → Spells text ts → IsIf text ls → (ws : List WrittenList) × ListsAt ts ws × AllZip SaysList ws ls × (0 < length ws)
if_written text ts ls spells (us, also, are, some) =
    let P : List Token → Type 0 = λ x. AreLists x ls in
    let (ws, at, says) = lists_only ts ls (subst P (spells_one text us ts also spells) are) in
    (ws, at, says, omega (arith, AllZip-long SaysList ws ls says))

-- the lists are those that were read
pub if_says : (text : List ℕ) (ts : List Token) (ws : List WrittenList) (ls : List ConditionList) → Spells text ts → ListsAt ts ws → IsIf text ls → AllZip SaysList ws ls × (0 < length ws)
if_says text ts ws ls spells at h =
    let (vs, is, says, some) = if_written text ts ls spells h in
    let P : List WrittenList → Type 0 = λ x. AllZip SaysList x ls × (0 < length x) in
    subst P (lists_same ts vs ws is at) (says, some)
