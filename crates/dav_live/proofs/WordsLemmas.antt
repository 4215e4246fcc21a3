-- Which of several fields tells of the content.
use Rattle.std.proofs.Common.{◌≡◌, ◌||◌, ◌<◌, ℕ, zero, suc, Bool, true, false, List, [], ◌∷◌, ap, arith, length, refl, slice_index_or, sym, ◌∙◌}
use Rattle.std.specs.List.{list_any}

or_true : (b : Bool) → (b || true) ≡ true
or_true true = refl
or_true false = refl

pub some_at : {X : Type 0} (test : X → Bool) (xs : List X) (i : ℕ) (x : X) → i < length xs → x ≡ slice_index_or xs i x → test x ≡ true → list_any test xs ≡ true
some_at test [] i x lt is holds = absurd (omega arith)
some_at test (y ∷ ys) zero x lt is holds = rw (ap test (sym is) ∙ holds) refl
some_at test (y ∷ ys) (suc i) x lt is holds = rw (some_at test ys i x (omega (arith, lt)) is holds) (or_true (test y))
