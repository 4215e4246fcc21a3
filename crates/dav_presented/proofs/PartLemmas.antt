-- Parts that follow one another.
use Rattle.std.proofs.Common.{◌≡◌, ℕ, suc, zero, ◌+◌, ◌-◌, List, [], ◌∷◌, ◌++◌, take, drop, length, refl, ap, sym, ◌∙◌, arith}
use Rattle.dav_presented.specs.Parts.{PartsJoin, PartsAreWhole}

take_nothing : (m : ℕ) → take {A = ℕ} m [] ≡ []
take_nothing zero = refl
take_nothing (suc m) = refl

drop_nothing : (m : ℕ) → drop {A = ℕ} m [] ≡ []
drop_nothing zero = refl
drop_nothing (suc m) = refl

-- the first n, and the m after them
take_two : (n m k : ℕ) (xs : List ℕ) → k ≡ n + m → take n xs ++ take m (drop n xs) ≡ take k xs
take_two zero m k xs e = let same : m ≡ k = omega (arith, e) in ap (λ j. take j xs) same
take_two (suc n) m zero xs e = absurd (omega (arith, e))
take_two (suc n) m (suc k) [] e = take_nothing m
take_two (suc n) m (suc k) (x ∷ xs) e = let less : k ≡ n + m = omega (arith, e) in ap (λ ys. x ∷ ys) (take_two n m k xs less)

drop_two : (n m k : ℕ) (xs : List ℕ) → k ≡ n + m → drop m (drop n xs) ≡ drop k xs
drop_two zero m k xs e = let same : m ≡ k = omega (arith, e) in ap (λ j. drop j xs) same
drop_two (suc n) m zero xs e = absurd (omega (arith, e))
drop_two (suc n) m (suc k) [] e = drop_nothing m
drop_two (suc n) m (suc k) (x ∷ xs) e = let less : k ≡ n + m = omega (arith, e) in drop_two n m k xs less

pub parts_join : PartsJoin
parts_join a b c bytes ab bc =
    let n : ℕ = b + 1 - a in
    let m : ℕ = c + 1 - (b + 1) in
    let place : b + 1 ≡ a + n = omega arith in
    let count : c + 1 - a ≡ n + m = omega arith in
    let back : drop (b + 1) bytes ≡ drop n (drop a bytes) = sym (drop_two a n (b + 1) bytes place) in
    ap (λ ys. take n (drop a bytes) ++ take m ys) back ∙ take_two n m (c + 1 - a) (drop a bytes) count

take_whole : (xs : List ℕ) → take (length xs) xs ≡ xs
take_whole [] = refl
take_whole (x ∷ xs) = ap (λ ys. x ∷ ys) (take_whole xs)

pub parts_are_whole : PartsAreWhole
parts_are_whole bytes some =
    let count : length bytes - 1 + 1 - 0 ≡ length bytes = omega arith in
    ap (λ k. take k bytes) count ∙ take_whole bytes
