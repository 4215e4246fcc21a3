-- Schemes and paths of destinations.
use Rattle.std.proofs.Common.{◌≡◌, ◌≢◌, ℕ, ◌<◌, List, [], ◌∷◌, ◌++◌, length, get_or, drop, map, suc, zero, inl, inr, ap, refl, sym, ◌∙◌, arith}
use Rattle.std.specs.Prelude.{codes, ◌==◌}
use Rattle.std.specs.Char.{to_ascii_lowercase}
use Rattle.std.proofs.lemmas.Bool.{cond-true, cond-false}
use Rattle.std.proofs.lemmas.Bool.Decides.{nat_tests}
use Rattle.dav_headers.specs.Cut.{IsCut, IsWithout}
use Rattle.dav_headers.specs.Destination.{IsHttp, from_slash}
use Rattle.dav_headers.proofs.CutLemmas.{cut_one, IsWithout-cons, IsWithout-nil, IsWithout-tail}

-- the text from its first slash on, where that is at this place
pub from_slash_at : (text : List ℕ) (k : ℕ) → k < length text → get_or text k 0 ≡ 47 → ((i : ℕ) → i < k → get_or text i 0 ≢ 47) → from_slash text ≡ drop k text
from_slash_at [] k lt e first = absurd (omega (arith, lt))
from_slash_at (b ∷ bs) zero lt e first = cond-true (b == 47) (b ∷ bs) (from_slash bs) (grind (arith, nat_tests))
from_slash_at (b ∷ bs) (suc k) lt e first =
    let other : b ≢ 47 = first 0 (omega arith) in
    cond-false (b == 47) (b ∷ bs) (from_slash bs) (grind (arith, nat_tests))
    ∙ from_slash_at bs k (omega (arith, lt)) e (λ i h. first (suc i) (omega (arith, h)))

-- a slash, where the text has none
pub from_slash_none : (text : List ℕ) → ((i : ℕ) → i < length text → get_or text i 0 ≢ 47) → from_slash text ≡ 47 ∷ []
from_slash_none [] h = refl
from_slash_none (b ∷ bs) h =
    let other : b ≢ 47 = h 0 (omega arith) in
    cond-false (b == 47) (b ∷ bs) (from_slash bs) (grind (arith, nat_tests))
    ∙ from_slash_none bs (λ i lt. h (suc i) (omega (arith, lt)))

-- a text whose lower-case form has no colon has none
lower_without : (xs ys : List ℕ) → map to_ascii_lowercase xs ≡ ys → IsWithout 58 ys → IsWithout 58 xs
lower_without [] ys e h = IsWithout-nil 58
lower_without (x ∷ xs) [] e h = absurd (omega (arith, ap length e))
lower_without (x ∷ xs) (y ∷ ys) e h =
    let head : to_ascii_lowercase x ≡ y = ap (λ t. get_or t 0 0) e in
    let rest : map to_ascii_lowercase xs ≡ ys = ap (drop 1) e in
    IsWithout-cons 58 x xs (λ f. h 0 (omega arith) (sym head ∙ ap to_ascii_lowercase f)) (lower_without xs ys rest (IsWithout-tail 58 y ys h))

-- there is no colon in a scheme
pub scheme_without : (scheme : List ℕ) → IsHttp scheme → IsWithout 58 scheme
scheme_without scheme (inl e) = lower_without scheme (codes "http") e (λ i lt f. grind (arith, nat_tests))
scheme_without scheme (inr e) = lower_without scheme (codes "https") e (λ i lt f. grind (arith, nat_tests))

-- the scheme of a URI is what is before its first colon
pub at_colon : (text x y scheme after : List ℕ) → IsCut 58 text x y → IsHttp scheme → text ≡ scheme ++ 58 ∷ 47 ∷ 47 ∷ after → (x ≡ scheme) × (y ≡ 47 ∷ 47 ∷ after)
at_colon text x y scheme after cut http e =
    cut_one 58 x y scheme (47 ∷ 47 ∷ after) (sym cut.1 ∙ e) cut.0 (scheme_without scheme http)
