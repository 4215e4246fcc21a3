-- Changes of properties, one after another.
use Rattle.std.proofs.Common.{◌≡◌, ℕ, Bool, true, false, List, [], ◌∷◌, ◌++◌, map, refl, sym, ap, ◌∙◌}
use Rattle.std.proofs.lemmas.List.{map-append}
use Rattle.dav_core.specs.Property.{Property, Properties, Patch, patched, patched_by, patch_of, patched_property, without_xml}
use Rattle.dav_store.specs.Answered.{answer_to}

patched_last : (xs : List Patch) (x : Patch) (ps : Properties) → patched (xs ++ x ∷ []) ps ≡ patched_by x (patched xs ps)
patched_last [] x ps = refl
patched_last (y ∷ xs) x ps = patched_last xs x (patched_by y ps)

-- one more change
pub patched_more : (ys : List (Bool × Property)) (y : Bool × Property) (ps qs rs : Properties)
    → qs ≡ patched (map patch_of ys) ps → rs ≡ patched_by (patch_of y) qs → rs ≡ patched (map patch_of (ys ++ y ∷ [])) ps
patched_more ys y ps qs rs before now =
    now ∙ ap (patched_by (patch_of y)) before ∙ sym (patched_last (map patch_of ys) (patch_of y) ps) ∙ sym (ap (λ xs. patched xs ps) (map-append patch_of ys (y ∷ [])))

property_patched : (y : Bool × Property) → y.1 ≡ patched_property (patch_of y)
property_patched (true, p) = refl
property_patched (false, p) = refl

-- one more answer
pub answered_more : (ys : List (Bool × Property)) (y : Bool × Property) (said told : List (ℕ × Property)) (p : Property)
    → said ≡ map answer_to ys → p ≡ without_xml y.1 → told ≡ said ++ (200, p) ∷ [] → told ≡ map answer_to (ys ++ y ∷ [])
answered_more ys y said told p before one now =
    now ∙ ap (λ xs. xs ++ (200, p) ∷ []) before ∙ ap (λ (q : Property). map answer_to ys ++ (200, q) ∷ []) (one ∙ ap without_xml (property_patched y)) ∙ sym (map-append answer_to ys (y ∷ []))

-- each change is answered with its property
pub answers_are : (ys : List (Bool × Property)) → map answer_to ys ≡ map (λ patch. (200, without_xml (patched_property patch))) (map patch_of ys)
answers_are [] = refl
answers_are (y ∷ ys) = ap (λ (rest : List (ℕ × Property)). answer_to y ∷ rest) (answers_are ys)
