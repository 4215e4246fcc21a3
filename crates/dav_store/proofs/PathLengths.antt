-- Paths whose lengths differ, without a look at their names.
use Rattle.std.proofs.Common.{◌≡◌, ℕ, List, ◌≢◌, ◌≤◌, ◌||◌, Bool, true, false, [], ◌∷◌, ◌++◌, length, length-append, append-nil, Option, Some, None, refl, sym, ap, subst, ◌∙◌, arith}
use Rattle.std.specs.Option.{is_some}
use Rattle.dav_core.specs.Path.{Path, is_same_path, is_under, is_at_or_under, rest_after, has_names}
use Rattle.dav_core.proofs.Theorems.{same_path, path-itself, from_rest, rest_after-append}

other_by : (p q : Path) (b : Bool) → is_same_path p q ≡ b → length p ≢ length q → false ≡ b
other_by p q true same differ = absurd (differ (ap (length {A = List ℕ}) (same_path p q same)))
other_by p q false same differ = refl

-- paths of different lengths differ
pub other_lengths : (p q : Path) → length p ≢ length q → false ≡ is_same_path p q
other_lengths p q differ = other_by p q (is_same_path p q) refl differ

under_by : (p q : Path) (o : Option Path) → rest_after p q ≡ o → length q ≤ length p → false ≡ has_names o
under_by p q None is short = refl
under_by p q (Some []) is short = refl
under_by p q (Some (x ∷ r)) is short =
    let whole : length q ≡ length (p ++ x ∷ r) = ap length (from_rest p q (x ∷ r) is) in
    let parts = length-append p (x ∷ r) in
    absurd (omega (arith, whole, parts, short))

-- a path that has no more names isn't below
pub not_longer : (q p : Path) → length q ≤ length p → false ≡ is_under q p
not_longer q p short = under_by p q (rest_after p q) refl short

outside_by : (p q : Path) (b : Bool) → rest_after p q ≡ None → is_same_path q p ≡ b → b ≡ false
outside_by p q true is same =
    let there : rest_after p q ≡ Some [] = subst (λ (x : Path). rest_after p x ≡ Some []) (append-nil p ∙ sym (same_path q p same)) (rest_after-append p []) in cc
outside_by p q false is same = refl

itself_by : (p q : Path) (b : Bool) → rest_after p q ≡ Some [] → is_same_path q p ≡ b → b ≡ true
itself_by p q true is same = refl
itself_by p q false is same =
    let e : q ≡ p = from_rest p q [] is ∙ append-nil p in
    let there : is_same_path q p ≡ true = subst (λ (x : Path). is_same_path x p ≡ true) (sym e) (path-itself p) in cc

at_or_under_by : (p q : Path) (o : Option Path) → rest_after p q ≡ o → is_some o ≡ (is_same_path q p || has_names o)
at_or_under_by p q None is = sym (ap (λ b. b || false) (outside_by p q (is_same_path q p) is refl))
at_or_under_by p q (Some []) is = sym (ap (λ b. b || false) (itself_by p q (is_same_path q p) is refl))
at_or_under_by p q (Some (x ∷ r)) is = elim (is_same_path q p) as (λ b. true ≡ (b || true)) [ true ↦ refl | false ↦ refl ]

-- a path at another or below it is that one, or below it
pub at_or_under_apart : (q p : Path) → is_at_or_under q p ≡ (is_same_path q p || is_under q p)
at_or_under_apart q p = at_or_under_by p q (rest_after p q) refl
