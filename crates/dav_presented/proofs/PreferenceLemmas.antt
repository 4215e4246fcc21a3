-- The first preference of a name, by the turns of loops.
use Rattle.std.proofs.Common.{◌≡◌, ℕ, ◌+◌, ◌<◌, ◌≤◌, ◌==◌, ◌&&◌, not, Bool, true, false, cond, List, [], ◌∷◌, ◌++◌, length, drop, get_or, Option, Some, None, sym, ap, ◌∙◌}
use Rattle.std.proofs.lemmas.List.{drop_all}
use Rattle.std.proofs.lemmas.List.Folds.{find-append}
use Rattle.std.proofs.lemmas.List.Concat.{flat_map-cons}
use Rattle.std.specs.List.{find, flat_map, list_any}
use Rattle.std.specs.Option.{option_or}
use Rattle.http_header.specs.FieldValue.{FieldValue, is_visible_text}
use Rattle.dav_headers.specs.Elements.{elements_of}
use Rattle.dav_headers.proofs.LoopLemmas.{drop_turn}
use Rattle.dav_presented.specs.Preferences.{preferences_in}

-- the preferences in a text without quoted strings
pub understood : (v : FieldValue) (text : List ℕ) → text ≡ v.bytes → is_visible_text v.bytes ≡ true → list_any (λ b. b == 34) text ≡ false → elements_of text ≡ preferences_in v
understood v text same visible unquoted =
    ap elements_of same
    ∙ sym (ap (λ (t : Bool). cond (t && not (list_any (λ b. b == 34) v.bytes)) (elements_of v.bytes) []) visible
    ∙ ap (λ (t : Bool). cond (not t) (elements_of v.bytes) []) (ap (list_any (λ b. b == 34)) (sym same) ∙ unquoted))

module _ {A : Type 0} (p : A → Bool) where
  -- it is the first where none before it does
  pub first_at : (xs all rest : List A) (x y : A) → all ≡ xs ++ x ∷ rest → find p xs ≡ None → p x ≡ true → y ≡ x → Some y ≡ find p all
  first_at xs all rest x y parts none does same =
      ap Some same
      ∙ sym (ap (find p) parts ∙ find-append p xs (x ∷ rest) ∙ ap (λ (o : Option A). option_or o (find p (x ∷ rest))) none ∙ ap (λ (t : Bool). cond t (Some x) (find p rest)) does)

  -- none does, after one more that doesn't
  pub none_more : (xs : List A) (x : A) → find p xs ≡ None → p x ≡ false → find p (xs ++ x ∷ []) ≡ None
  none_more xs x none fails =
      find-append p xs (x ∷ []) ∙ ap (λ (o : Option A). option_or o (find p (x ∷ []))) none ∙ ap (λ (t : Bool). cond t (Some x) None) fails

  module _ {B : Type 0} (f : B → List A) where
    -- what is found in the lists from a place on
    here_and_on : (xs : List B) (i : ℕ) (x : B) → i < length xs → x ≡ get_or xs i x → find p (flat_map f (drop i xs)) ≡ option_or (find p (f x)) (find p (flat_map f (drop (i + 1) xs)))
    here_and_on xs i x lt is =
        ap (λ (ys : List B). find p (flat_map f ys)) (drop_turn xs i x lt is) ∙ ap (find p) (flat_map-cons f x (drop (i + 1) xs)) ∙ find-append p (f x) (flat_map f (drop (i + 1) xs))

    pub passed : (xs : List B) (i : ℕ) (x : B) (all : Option A) → i < length xs → x ≡ get_or xs i x → find p (f x) ≡ None → find p (flat_map f (drop i xs)) ≡ all
        → find p (flat_map f (drop (i + 1) xs)) ≡ all
    passed xs i x all lt is none so_far = sym (here_and_on xs i x lt is ∙ ap (λ (o : Option A). option_or o (find p (flat_map f (drop (i + 1) xs)))) none) ∙ so_far

    pub stopped : (xs : List B) (i : ℕ) (x : B) (y : A) (all : Option A) → i < length xs → x ≡ get_or xs i x → find p (f x) ≡ Some y → find p (flat_map f (drop i xs)) ≡ all → Some y ≡ all
    stopped xs i x y all lt is some so_far = sym (here_and_on xs i x lt is ∙ ap (λ (o : Option A). option_or o (find p (flat_map f (drop (i + 1) xs)))) some) ∙ so_far

    pub ended : (xs : List B) (i : ℕ) (all : Option A) → length xs ≤ i → find p (flat_map f (drop i xs)) ≡ all → None ≡ all
    ended xs i all le so_far = sym (ap (λ (ys : List B). find p (flat_map f ys)) (drop_all i xs le)) ∙ so_far
