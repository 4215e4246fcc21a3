-- Texts that are cut at dots.
use Rattle.std.proofs.Common.{◌≡◌, ◌≢◌, ◌<◌, ◌⊎◌, inl, inr, ℕ, List, [], ◌∷◌, ◌++◌, length, get_or, Option, Some, None, Bor, MatchOption, refl, ap, sym, ◌∙◌, append_assoc}
use Rattle.dav_presented.specs.Types.{IsWithoutDot, IsLastPart, IsExtension, extension_of}
use Rattle.std.proofs.Common.{suc, arith, cond, ◌==◌, Bool, false}
use Rattle.std.specs.Option.{option_or}
use Rattle.std.proofs.lemmas.Bool.Decides.{nat_tests}

-- what `split_once` gives at a dot
pub cut_parts : (text : List ℕ) (r : Option (Bor (List ℕ) × Bor (List ℕ)))
    → MatchOption r ((i : ℕ) → i < length text → get_or text i 0 ≢ 46) (λ p. (text ≡ p.0.now ++ 46 ∷ p.1.now) × ((i : ℕ) → i < length p.0.now → get_or p.0.now i 0 ≢ 46))
    → MatchOption r (IsWithoutDot text) (λ p. text ≡ p.0.now ++ 46 ∷ p.1.now)
cut_parts text None h = h
cut_parts text (Some p) h = h.0

-- what is after a dot of the rest is after a dot of the text
pub after_more : (text rest front after : List ℕ) → (text ≡ rest) ⊎ ((stem : List ℕ) × (text ≡ stem ++ 46 ∷ rest)) → rest ≡ front ++ 46 ∷ after
    → (text ≡ after) ⊎ ((stem : List ℕ) × (text ≡ stem ++ 46 ∷ after))
after_more text rest front after (inl e) cut = inr (front, e ∙ cut)
after_more text rest front after (inr (stem, e)) cut =
    inr (stem ++ 46 ∷ front, e ∙ ap (λ r. stem ++ 46 ∷ r) cut ∙ sym (append_assoc stem (46 ∷ front) (46 ∷ after)))

pub extension_found : (name front after last : List ℕ) → name ≡ front ++ 46 ∷ after → IsLastPart after last → IsExtension name (Some last)
extension_found name front after last cut (none, inl e) = (front, cut ∙ ap (λ r. front ++ 46 ∷ r) e, none)
extension_found name front after last cut (none, inr (stem, e)) =
    (front ++ 46 ∷ stem, cut ∙ ap (λ r. front ++ 46 ∷ r) e ∙ sym (append_assoc front (46 ∷ stem) (46 ∷ last)), none)

tail_without : (b : ℕ) (bs : List ℕ) → IsWithoutDot (b ∷ bs) → IsWithoutDot bs
tail_without b bs h = λ i lt. h (suc i) (omega (arith, lt))

or_same : (o : Option (List ℕ)) (t : Bool) (x : Option (List ℕ)) → o ≡ None → t ≡ false → option_or o (cond t x None) ≡ None
or_same o t x e f = rw (e, f) refl

or_found : (o p : Option (List ℕ)) (e : List ℕ) → o ≡ Some e → option_or o p ≡ Some e
or_found o p e h = rw h refl

not_dot : (b : ℕ) → b ≢ 46 → (b == 46) ≡ false
not_dot b h = grind (arith, nat_tests)

none_without : (name : List ℕ) → IsWithoutDot name → extension_of name ≡ None
none_without [] h = refl
none_without (b ∷ bs) h = or_same (extension_of bs) (b == 46) (Some bs) (none_without bs (tail_without b bs h)) (not_dot b (h 0 (omega arith)))

some_after : (stem extension : List ℕ) → IsWithoutDot extension → extension_of (stem ++ 46 ∷ extension) ≡ Some extension
some_after [] extension h = rw (none_without extension h) refl
some_after (b ∷ stem) extension h = or_found _ _ extension (some_after stem extension h)

pub extension_by : (name : List ℕ) (found : Option (List ℕ)) → IsExtension name found → found ≡ extension_of name
extension_by name None h = sym (none_without name h)
extension_by name (Some extension) (stem, e, h) = sym (ap extension_of e ∙ some_after stem extension h)
