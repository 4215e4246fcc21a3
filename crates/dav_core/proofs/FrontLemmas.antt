-- Fronts of paths: what follows a front, and the parent.
use Rattle.std.proofs.Common.{◌≡◌, Bool, true, false, cond, List, [], ◌∷◌, ◌++◌, ℕ, Option, Some, None, ◌⊎◌, inl, inr, refl, sym, ap, ◌∙◌, if◌then◌else◌, append_assoc, append-nil}
use Rattle.std.specs.Option.{is_some}
use Rattle.std.specs.Ordering.{is_eq, ordering_then}
use Rattle.std.specs.Cmp.{tied_itself}
use Rattle.std.specs.Cmp.Lexicographic.{nat_list_cmp_total}
use Rattle.std.specs.FinMap.{slice_cmp-IsAntisymmetric, nat_cmp-IsAntisymmetric}
use Rattle.dav_core.specs.Path.{Path, name_cmp, path_cmp, is_same_path, rest_after, is_at_or_under, is_under, has_names, parent_of}
use Rattle.dav_core.proofs.NodesLemmas.{eq_true, differ_from}

-- the test for one name is true of it alone
pub same_name : (x y : List ℕ) → is_eq (name_cmp x y) ≡ true → x ≡ y
same_name x y h = slice_cmp-IsAntisymmetric nat_cmp-IsAntisymmetric x y (eq_true (name_cmp x y) h)

pub name-itself : (x : List ℕ) → is_eq (name_cmp x x) ≡ true
name-itself x = ap is_eq (tied_itself nat_list_cmp_total x)

-- what follows a front of a path is the rest of it
pub rest_after-append : (p r : Path) → rest_after p (p ++ r) ≡ Some r
rest_after-append [] r = refl
rest_after-append (x ∷ p) r = ap (λ b. cond b (rest_after p (p ++ r)) None) (name-itself x) ∙ rest_after-append p r

from_step : (x y : List ℕ) (p q r : Path) (b : Bool) → is_eq (name_cmp x y) ≡ b → (rest_after p q ≡ Some r → q ≡ p ++ r)
    → (if b then rest_after p q else None) ≡ Some r → y ∷ q ≡ x ∷ (p ++ r)
from_step x y p q r true is ih h = let e = same_name x y is in let rest = ih h in λ i. sym e i ∷ rest i
from_step x y p q r false is ih h = cc

-- a path is the front and what follows it
pub from_rest : (p q r : Path) → rest_after p q ≡ Some r → q ≡ p ++ r
from_rest [] q r h = cc
from_rest (x ∷ p) [] r h = cc
from_rest (x ∷ p) (y ∷ q) r h = from_step x y p q r (is_eq (name_cmp x y)) refl (from_rest p q r) h

-- two paths with one front before both keep their order
pub cmp-append : (t r s : Path) → path_cmp (t ++ r) (t ++ s) ≡ path_cmp r s
cmp-append [] r s = refl
cmp-append (x ∷ t) r s = ap (λ o. ordering_then o (path_cmp (t ++ r) (t ++ s))) (tied_itself nat_list_cmp_total x) ∙ cmp-append t r s

pub same-append : (t r s : Path) → is_same_path (t ++ r) (t ++ s) ≡ is_same_path r s
same-append t r s = ap is_eq (cmp-append t r s)

below-append : (p r : Path) → is_at_or_under (p ++ r) p ≡ true
below-append p r = ap is_some (rest_after-append p r)

-- a path is the root, or its parent and one more name
pub shape : (q : Path) → (q ≡ []) ⊎ ((x : List ℕ) × (q ≡ parent_of q ++ x ∷ []))
shape [] = inl refl
shape (x ∷ []) = inr (x, refl)
shape (x ∷ y ∷ p) =
    elim (shape (y ∷ p)) as (λ _. (x ∷ y ∷ p ≡ []) ⊎ ((z : List ℕ) × (x ∷ y ∷ p ≡ x ∷ (parent_of (y ∷ p) ++ z ∷ [])))) [
      | inl e ↦ cc
      | inr s ↦ inr (s.0, ap (λ (q : Path). x ∷ q) s.1)
    ]

pub parent-append : (p : Path) (x : List ℕ) (r : Path) → parent_of (p ++ x ∷ r) ≡ p ++ parent_of (x ∷ r)
parent-append [] x r = refl
parent-append (y ∷ []) x r = refl
parent-append (y ∷ z ∷ p) x r = ap (λ (q : Path). y ∷ q) (parent-append (z ∷ p) x r)

at_parent : (p q r : Path) → rest_after p (parent_of q) ≡ Some r → (q ≡ []) ⊎ ((x : List ℕ) × (q ≡ parent_of q ++ x ∷ [])) → is_at_or_under q p ≡ true
at_parent p q r is (inl e) = ap is_some (ap (rest_after p) (e ∙ sym (ap parent_of e)) ∙ is)
at_parent p q r is (inr (x, e)) =
    let whole : q ≡ p ++ (r ++ x ∷ []) = e ∙ ap (λ (s : Path). s ++ x ∷ []) (from_rest p (parent_of q) r is) ∙ append_assoc p r (x ∷ []) in
    ap (λ y. is_at_or_under y p) whole ∙ below-append p (r ++ x ∷ [])

up_by : (p q : Path) (o : Option Path) → rest_after p (parent_of q) ≡ o → is_at_or_under q p ≡ false → is_some o ≡ false
up_by p q None is out = refl
up_by p q (Some r) is out = sym (at_parent p q r is (shape q)) ∙ out

-- what isn't at p or below it has no parent there
pub up_false : (p q : Path) → is_at_or_under q p ≡ false → is_at_or_under (parent_of q) p ≡ false
up_false p q out = up_by p q (rest_after p (parent_of q)) refl out

-- a parent isn't at its member or below it
pub not_above : (y : List ℕ) (p : Path) → is_at_or_under (parent_of (y ∷ p)) (y ∷ p) ≡ false
not_above y [] = refl
not_above y (z ∷ p) = ap (λ b. is_some (cond b (rest_after (z ∷ p) (parent_of (z ∷ p))) None)) (name-itself y) ∙ not_above z p

none_by : (o : Option Path) → is_some o ≡ false → o ≡ None
none_by None out = refl
none_by (Some r) out = cc

pub no_rest : (p q : Path) → is_at_or_under q p ≡ false → rest_after p q ≡ None
no_rest p q out = none_by (rest_after p q) out

-- what is neither p nor below it isn't at p or below it
outside_by : (p q : Path) (o : Option Path) → rest_after p q ≡ o → is_same_path p q ≡ false → has_names o ≡ false → is_some o ≡ false
outside_by p q None is differ out = refl
outside_by p q (Some []) is differ out = absurd (differ_from p q differ (sym (from_rest p q [] is ∙ append-nil p)))
outside_by p q (Some (x ∷ r)) is differ out = cc

pub outside : (p q : Path) → is_same_path p q ≡ false → is_under q p ≡ false → is_at_or_under q p ≡ false
outside p q differ out = outside_by p q (rest_after p q) refl differ out
