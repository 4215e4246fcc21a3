-- A text is cut at a byte in one way.
use Rattle.std.proofs.Common.{◌≡◌, ◌≢◌, Option, Some, None, Bor, MatchOption, IfSome, IfNone, subst, ℕ, List, [], ◌∷◌, ◌++◌, suc, zero, arith, refl}
use Rattle.dav_headers.specs.Cut.{IsWithout, IsCut, NoCut}

-- what isn't in a text isn't in its tail
pub IsWithout-tail : (c b : ℕ) (bs : List ℕ) → IsWithout c (b ∷ bs) → IsWithout c bs
IsWithout-tail c b bs h = λ i lt. h (suc i) (omega (arith, lt))

pub IsWithout-cons : (c b : ℕ) (bs : List ℕ) → b ≢ c → IsWithout c bs → IsWithout c (b ∷ bs)
IsWithout-cons c b bs h hs zero lt = h
IsWithout-cons c b bs h hs (suc i) lt = hs i (omega (arith, lt))

pub IsWithout-append : (c : ℕ) (xs ys : List ℕ) → IsWithout c xs → IsWithout c ys → IsWithout c (xs ++ ys)
IsWithout-append c [] ys h k = k
IsWithout-append c (x ∷ xs) ys h k =
    IsWithout-cons c x (xs ++ ys) (h 0 (omega arith)) (IsWithout-append c xs ys (IsWithout-tail c x xs h) k)

pub IsWithout-nil : (c : ℕ) → IsWithout c []
IsWithout-nil c i lt = absurd (omega (arith, lt))

-- two cuts of one text at a byte, neither of which has this byte before it, are the same cut
pub cut_one : (c : ℕ) (xs ys us vs : List ℕ) → xs ++ c ∷ ys ≡ us ++ c ∷ vs → IsWithout c xs → IsWithout c us → (xs ≡ us) × (ys ≡ vs)
cut_one c [] ys [] vs e p q = (refl, cc)
cut_one c [] ys (u ∷ us) vs e p q = absurd (q 0 (omega arith) (cc))
cut_one c (x ∷ xs) ys [] vs e p q = absurd (p 0 (omega arith) (cc))
cut_one c (x ∷ xs) ys (u ∷ us) vs e p q =
    let heads : x ≡ u = cc in
    let tails : xs ++ c ∷ ys ≡ us ++ c ∷ vs = cc in
    let more = cut_one c xs ys us vs tails (IsWithout-tail c x xs p) (IsWithout-tail c u us q) in
    (let e : xs ≡ us = more.0 in cc, more.1)

-- a text without the byte isn't cut
not_without : (c : ℕ) (front back : List ℕ) → ¬ IsWithout c (front ++ c ∷ back)
not_without c [] back h = h 0 (omega arith) refl
not_without c (b ∷ bs) back h = not_without c bs back (IsWithout-tail c b (bs ++ c ∷ back) h)

-- what `split_once` returns for this byte
abbrev pub IsSplit : ℕ → List ℕ → Option (Bor (List ℕ) × Bor (List ℕ)) → Type 0
IsSplit c text r =
    MatchOption r (IsWithout c text) (λ p. (text ≡ p.0.now ++ c ∷ p.1.now) × IsWithout c p.0.now)

pub cut_found : (c : ℕ) (text : List ℕ) (r : Option (Bor (List ℕ) × Bor (List ℕ))) → IsSplit c text r → IfSome r (λ p. IsCut c text p.0.now p.1.now)
cut_found c text None h = tt
cut_found c text (Some p) h = (h.1, h.0)

pub cut_none : (c : ℕ) (text : List ℕ) (r : Option (Bor (List ℕ) × Bor (List ℕ))) → IsSplit c text r → IfNone r (NoCut c text)
cut_none c text None h = λ front back e. not_without c front back (subst (IsWithout c) e h)
cut_none c text (Some p) h = tt
