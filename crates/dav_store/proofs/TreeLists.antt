-- Children that are listed.
use Rattle.std.proofs.Common.{◌≡◌, ◌+◌, ℕ, List, [], ◌∷◌, ◌++◌, Some, zero, suc, take, slice_get, sym, ap, subst, ◌∙◌, arith}
use Rattle.std.specs.Option.{unwrap_or}
use Rattle.std.specs.List.{AllZip}
use Rattle.std.proofs.lemmas.Slice.Zip.{all_zipped_more}

pub inner : {X : Type 0} (x y : X) → Some x ≡ Some y → x ≡ y
inner x y e = ap (λ o. unwrap_or o x) e

-- one more of the first items
take_suc : {X : Type 0} (xs : List X) (i : ℕ) (x : X) → slice_get xs i ≡ Some x → take (suc i) xs ≡ take i xs ++ x ∷ []
take_suc [] i x e = cc
take_suc (y ∷ ys) zero x e = ap (λ z. z ∷ []) (inner y x e)
take_suc (y ∷ ys) (suc i) x e = ap (λ zs. y ∷ zs) (take_suc ys i x e)

pub after_one : (i : ℕ) → i + 1 ≡ suc i
after_one i = omega arith

pub listed_more : {A B : Type 0} (R : A → B → Type 0) (xs : List A) (ys : List B) (i : ℕ) (x : A) (y : B) → slice_get xs i ≡ Some x → AllZip R (take i xs) ys → R x y → AllZip R (take (i + 1) xs) (ys ++ y ∷ [])
listed_more R xs ys i x y at h r =
    subst (λ zs. AllZip R zs (ys ++ y ∷ [])) (sym (ap (λ n. take n xs) (after_one i) ∙ take_suc xs i x at)) (all_zipped_more R (take i xs) ys x y h r)
