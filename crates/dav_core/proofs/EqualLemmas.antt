-- Paths that are equal.
use Rattle.std.proofs.Common.{◌≡◌, ℕ, true, List, refl, sym, ap, ◌∙◌, bytes_eq}
use Rattle.std.proofs.lemmas.Slice.Eq.{bytes_eq-Decides}
use Rattle.dav_core.specs.Path.{trimmed, full_bytes}
use Rattle.dav_core.specs.Laws.{EqualToItself, EqualBothWays, EqualThrough}

same : (xs ys : List ℕ) → bytes_eq xs ys ≡ true → xs ≡ ys
same xs ys = (bytes_eq-Decides xs ys).0

itself : (xs : List ℕ) → bytes_eq xs xs ≡ true
itself xs = (bytes_eq-Decides xs xs).1 refl

pub equal_to_itself : EqualToItself
equal_to_itself p = itself (trimmed (full_bytes p))

pub equal_both_ways : EqualBothWays
equal_both_ways p q h =
    ap (λ xs. bytes_eq xs (trimmed (full_bytes p))) (sym (same (trimmed (full_bytes p)) (trimmed (full_bytes q)) h)) ∙ itself (trimmed (full_bytes p))

pub equal_through : EqualThrough
equal_through p q r h k =
    ap (λ xs. bytes_eq xs (trimmed (full_bytes r))) (same (trimmed (full_bytes p)) (trimmed (full_bytes q)) h) ∙ k
