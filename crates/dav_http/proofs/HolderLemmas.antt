-- Whose a lock is, by two tests.
use Rattle.std.proofs.Common.{◌≡◌, ◌⊎◌, ◌↔◌, Bool, true, false, not, IsTrue, inl, inr, refl}

pub own_or_unnamed : {P Q : Type 0} (own named : Bool) → (IsTrue own ↔ P) → (IsTrue named ↔ Q) → own ≡ false → (not named ≡ true → P ⊎ (¬ Q)) × (P ⊎ (¬ Q) → not named ≡ true)
own_or_unnamed own true tells-own tells-named other = (
  (λ e. let bad : false ≡ true = e in cc),
  (λ either. elim either [
    | inl p ↦ let bad : own ≡ true = tells-own.1 p in cc
    | inr none ↦ absurd (none (tells-named.0 refl))
  ]),
)
own_or_unnamed own false tells-own tells-named other = ((λ e. inr (λ q. let bad : false ≡ true = tells-named.1 q in cc)), (λ either. refl))
