-- Values of Content-Language, one after another.
use Rattle.std.proofs.Common.{◌≡◌, ℕ, ◌<◌, List, [], ◌∷◌, ◌++◌, ◌∙◌, length, All, ap, map, append_assoc, refl, subst, Option, Some}
use Rattle.std.proofs.lemmas.List.{map_push}
use Rattle.std.proofs.lemmas.List.Elements.{All-nil, All-cons, All-head, All-tail, All-append, All-weaker}
use Rattle.std.specs.List.{flat_map}
use Rattle.std.specs.Iterator.{Yields}
use Rattle.std.proofs.lemmas.Iterator.{YieldsList}
use Rattle.http_header.specs.FieldValue.{FieldValue}
use Rattle.dav_headers.specs.Language.{AreLanguages, IsLanguage}
use Rattle.dav_headers.specs.Elements.{elements_of}
use Rattle.dav_headers.specs.Value.{IsText}
use Rattle.dav_headers.proofs.LoopLemmas.{turn_mapped}
use Rattle.dav_headers.proofs.TextLemmas.{all_front, all_back}

-- what holds for all holds for one between others
pub at_middle : {X : Type 0} (P : X → Type 0) (xs : List X) (x : X) (ys : List X) → All P (xs ++ x ∷ ys) → P x
at_middle P [] x ys h = All-head P x ys h
at_middle P (y ∷ xs) x ys h = at_middle P xs x ys (All-tail P y (xs ++ x ∷ ys) h)

-- what holds for all that a list gives holds for the item of a turn
pub at_turn : {S A B C : Type 0} {steps : S → Option A → S → Type 0} {v : A → B} {s : S} {all : List B} (P : C → Type 0) (f : B → C) (xs : List A) (t : S) (y : Yields steps s xs t) (e : YieldsList steps v s all) → (r : Option A) (u : S) (x : A) → r ≡ Some x → steps t r u → All P (map f all) → P (f (v x))
at_turn {v = v} P f xs t y e r u x is step h =
    let (rest, parts) = turn_mapped f xs t y e r u x is step in at_middle P (map f (map v xs)) (f (v x)) rest (subst (All P) parts h)

-- one more item
pub more_items : {X Y : Type 0} (f : X → Y) (new old : List X) (x : X) (base done : List Y) (item : Y) → new ≡ old ++ x ∷ [] → f x ≡ item → map f old ≡ base ++ done → map f new ≡ base ++ (done ++ item ∷ [])
more_items f new old x base done item e is h =
    ap (map f) e ∙ map_push f old x ∙ ap (λ ys. ys ++ f x ∷ []) h ∙ append_assoc base done (f x ∷ [])
    ∙ ap (λ y. base ++ (done ++ y ∷ [])) is

-- a value that is text, and whose list elements are languages
abbrev pub IsReadable : FieldValue → Type 0
IsReadable v = IsText v.bytes × All IsLanguage (elements_of v.bytes)

all_languages : (values : List FieldValue) → All IsReadable values → All IsLanguage (flat_map (λ v. elements_of v.bytes) values)
all_languages [] h = All-nil IsLanguage
all_languages (v ∷ vs) h =
    All-append IsLanguage (elements_of v.bytes) (flat_map (λ v. elements_of v.bytes) vs)
    (let first = All-head IsReadable v vs h in first.1) (all_languages vs (All-tail IsReadable v vs h))

-- such values read
pub readable_are_languages : (values : List FieldValue) → 0 < length values → All IsReadable values → AreLanguages values (flat_map (λ v. elements_of v.bytes) values)
readable_are_languages values some h =
    (some, All-weaker IsReadable (λ v. IsText v.bytes) (λ v r. r.0) values h, refl, all_languages values h)

readable : (values : List FieldValue) → All (λ v. IsText v.bytes) values → All IsLanguage (flat_map (λ v. elements_of v.bytes) values) → All IsReadable values
readable [] text all = All-nil IsReadable
readable (v ∷ vs) text all =
    All-cons IsReadable v vs
    (All-head (λ v. IsText v.bytes) v vs text, all_front IsLanguage (elements_of v.bytes) (flat_map (λ v. elements_of v.bytes) vs) all)
    (readable vs (All-tail (λ v. IsText v.bytes) v vs text) (all_back IsLanguage (elements_of v.bytes) (flat_map (λ v. elements_of v.bytes) vs) all))

-- values that read are such values
pub languages_are_readable : (values : List FieldValue) (items : List (List ℕ)) → AreLanguages values items → All IsReadable values
languages_are_readable values items (some, text, same, all) = readable values text (subst (All IsLanguage) same all)
