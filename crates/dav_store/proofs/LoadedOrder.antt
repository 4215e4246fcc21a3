-- Lists whose keys rise from each to the next, and paths compared name by name.
use Rattle.std.proofs.Common.{◌≡◌, Bool, true, false, not, cond, T, ℕ, zero, suc, ◌+◌, ◌-◌, ◌<◌, ◌≤◌, nat_lt, ◌==◌, length, get_or, drop, arith, List, [], ◌∷◌, refl, sym, ap, subst, ◌∙◌, inl, inr}
use Rattle.std.specs.declared.cmp.Ordering.{Ordering}
use Rattle.std.specs.declared.cmp.Ordering.TheVariants.{Less, Equal, Greater}
use Rattle.std.specs.Ordering.{is_eq, is_lt, nat_cmp, ordering_then}
use Rattle.std.specs.Cmp.{IsTotalOrder}
use Rattle.std.specs.FinMap.{is_sorted}
use Rattle.std.specs.FinMap.Entries.{below_all}
use Rattle.std.proofs.lemmas.Bool.{cases_lt, lt-ltb, le-ltb, eq-eqb, ne_eqb}
use Rattle.std.proofs.lemmas.List.{get_or_read, drop_more, drop_all}
use Rattle.dav_core.specs.Path.{Path, name_cmp, path_cmp}
use Rattle.dav_core.proofs.NodesAfter.{both_true, left_true, right_true}

lt_is : (o : Ordering) → T (is_lt o) → o ≡ Less
lt_is Less h = refl
lt_is Equal h = absurd h
lt_is Greater h = absurd h

pub test_less : (o : Ordering) → is_lt o ≡ true → o ≡ Less
test_less Less t = refl
test_less Equal t = cc
test_less Greater t = cc

pub test_other : (o : Ordering) → is_lt o ≡ false → o ≡ Less → ⊥
test_other Less t e = cc
test_other Equal t e = cc
test_other Greater t e = cc

module _ {K X : Type 0} (R : K → K → Ordering) where
  -- each key that is followed before this place is below the next
  abbrev pub Rises : List (K × X) → ℕ → Type 0
  Rises es i = (k : ℕ) (d : K × X) → suc k < i → R (get_or es k d).0 (get_or es (suc k) d).0 ≡ Less

  -- one place more
  pub rises_more : (es : List (K × X)) (i : ℕ) (x y : K × X) → Rises es i → 1 ≤ i → i < length es → x ≡ get_or es (i - 1) x → y ≡ get_or es i y → R x.0 y.0 ≡ Less → Rises es (i + 1)
  rises_more es i x y so_far some lt is-x is-y less = λ k d h.
      elim (cases_lt (suc k) i) [
        | inl before ↦ so_far k d before
        | inr here ↦
            let k-is : i - 1 ≡ k = omega (arith, here, h) in
            let j-is : i ≡ suc k = omega (arith, here, h) in
            let a : x ≡ get_or es k d = get_or_read es (i - 1) x (omega arith) is-x d ∙ ap (λ m. get_or es m d) k-is in
            let b : y ≡ get_or es (suc k) d = get_or_read es i y lt is-y d ∙ ap (λ m. get_or es m d) j-is in
            (λ t. R (sym a t).0 (sym b t).0) ∙ less
      ]

  sorted_at : (es : List (K × X)) (k : ℕ) (d : K × X) → suc k < length es → T (is_sorted R es) → R (get_or es k d).0 (get_or es (suc k) d).0 ≡ Less
  sorted_at [] k d lt s = absurd (omega (arith, lt))
  sorted_at (e ∷ []) k d lt s = absurd (omega (arith, lt))
  sorted_at (e ∷ f ∷ es) zero d lt s =
      lt_is (R e.0 f.0) (left_true (is_lt (R e.0 f.0)) (below_all R e.0 es) (left_true (below_all R e.0 (f ∷ es)) (is_sorted R (f ∷ es)) s))
  sorted_at (e ∷ f ∷ es) (suc k) d lt s = sorted_at (f ∷ es) k d (omega (arith, lt)) (right_true (below_all R e.0 (f ∷ es)) (is_sorted R (f ∷ es)) s)

  -- a key that isn't below the next
  pub rises_not : (es : List (K × X)) (i : ℕ) (x y : K × X) → 1 ≤ i → i < length es → x ≡ get_or es (i - 1) x → y ≡ get_or es i y → (R x.0 y.0 ≡ Less → ⊥) → T (is_sorted R es) → ⊥
  rises_not es i x y some lt is-x is-y not s =
      let j-is : i ≡ suc (i - 1) = omega arith in
      let b : y ≡ get_or es (suc (i - 1)) x = get_or_read es i y lt is-y x ∙ ap (λ m. get_or es m x) j-is in
      not ((λ t. R (is-x t).0 (b t).0) ∙ sorted_at es (i - 1) x (omega arith) s)

  module _ (total : IsTotalOrder R) where
    below_less : (p q : K) (es : List (K × X)) → R p q ≡ Less → T (below_all R q es) → T (below_all R p es)
    below_less p q [] lt h = tt
    below_less p q (e ∷ es) lt h =
        let first : R q e.0 ≡ Less = lt_is (R q e.0) (left_true (is_lt (R q e.0)) (below_all R q es) h) in
        let here : T (is_lt (R p e.0)) = subst (λ (o : Ordering). T (is_lt o)) (sym (total.trans p q e.0 lt first)) tt in
        both_true (is_lt (R p e.0)) (below_all R p es) here (below_less p q es lt (right_true (is_lt (R q e.0)) (below_all R q es) h))

    pub rises_all : (es : List (K × X)) (i : ℕ) → length es ≤ i → Rises es i → T (is_sorted R es)
    rises_all [] i le h = tt
    rises_all (e ∷ []) i le h = tt
    rises_all (e ∷ f ∷ es) i le h =
        let rest : T (is_sorted R (f ∷ es)) = rises_all (f ∷ es) (i - 1) (omega (arith, le)) (λ k d lt. h (suc k) d (omega (arith, lt))) in
        let lt : R e.0 f.0 ≡ Less = h 0 e (omega (arith, le)) in
        let here : T (is_lt (R e.0 f.0)) = subst (λ (o : Ordering). T (is_lt o)) (sym lt) tt in
        both_true (below_all R e.0 (f ∷ es)) (is_sorted R (f ∷ es))
        (both_true (is_lt (R e.0 f.0)) (below_all R e.0 es) here (below_less e.0 f.0 es lt (left_true (below_all R f.0 es) (is_sorted R es) rest))) rest

-- ---- paths, name by name

pub cmp_at : (p q : Path) (i : ℕ) (x y : List ℕ) → i < length p → i < length q → x ≡ get_or p i x → y ≡ get_or q i y
    → path_cmp (drop i p) (drop i q) ≡ ordering_then (name_cmp x y) (path_cmp (drop (i + 1) p) (drop (i + 1) q))
cmp_at p q i x y lt lq is-x is-y =
    let a : drop i p ≡ x ∷ drop (i + 1) p = drop_more p i x lt ∙ ap (λ (n : List ℕ). n ∷ drop (i + 1) p) (sym is-x) in
    let b : drop i q ≡ y ∷ drop (i + 1) q = drop_more q i y lq ∙ ap (λ (n : List ℕ). n ∷ drop (i + 1) q) (sym is-y) in
    λ t. path_cmp (a t) (b t)

differs : (o r : Ordering) (b : Bool) → is_eq o ≡ b → b ≡ false → ordering_then o r ≡ o
differs Less r b e f = refl
differs Equal r b e f = cc
differs Greater r b e f = refl

ties : (o r : Ordering) → is_eq o ≡ true → ordering_then o r ≡ r
ties Less r h = cc
ties Equal r h = refl
ties Greater r h = cc

pub cmp_differs : (p q : Path) (i : ℕ) (x y : List ℕ) → i < length p → i < length q → x ≡ get_or p i x → y ≡ get_or q i y → path_cmp (drop i p) (drop i q) ≡ path_cmp p q
    → is_eq (name_cmp x y) ≡ false → name_cmp x y ≡ path_cmp p q
cmp_differs p q i x y lt lq is-x is-y so_far not =
    sym (differs (name_cmp x y) (path_cmp (drop (i + 1) p) (drop (i + 1) q)) false not refl) ∙ sym (cmp_at p q i x y lt lq is-x is-y) ∙ so_far

pub cmp_ties : (p q : Path) (i : ℕ) (x y : List ℕ) → i < length p → i < length q → x ≡ get_or p i x → y ≡ get_or q i y → path_cmp (drop i p) (drop i q) ≡ path_cmp p q
    → is_eq (name_cmp x y) ≡ true → path_cmp (drop (i + 1) p) (drop (i + 1) q) ≡ path_cmp p q
cmp_ties p q i x y lt lq is-x is-y so_far tie =
    sym (ties (name_cmp x y) (path_cmp (drop (i + 1) p) (drop (i + 1) q)) tie) ∙ sym (cmp_at p q i x y lt lq is-x is-y) ∙ so_far

cmp_less : (p q : Path) (i : ℕ) → length p ≤ i → i < length q → path_cmp (drop i p) (drop i q) ≡ Less
cmp_less p [] i lp lq = absurd (omega (arith, lq))
cmp_less p (y ∷ q) i lp lq =
    let a : drop i p ≡ [] = drop_all i p lp in
    let b : drop i (y ∷ q) ≡ get_or (y ∷ q) i y ∷ drop (i + 1) (y ∷ q) = drop_more (y ∷ q) i y lq in
    λ t. path_cmp (a t) (b t)

cmp_greater : (p q : Path) (i : ℕ) → i < length p → length q ≤ i → path_cmp (drop i p) (drop i q) ≡ Greater
cmp_greater [] q i lp lq = absurd (omega (arith, lp))
cmp_greater (x ∷ p) q i lp lq =
    let a : drop i (x ∷ p) ≡ get_or (x ∷ p) i x ∷ drop (i + 1) (x ∷ p) = drop_more (x ∷ p) i x lp in
    let b : drop i q ≡ [] = drop_all i q lq in
    λ t. path_cmp (a t) (b t)

cmp_equal : (p q : Path) (i : ℕ) → length p ≤ i → length q ≤ i → path_cmp (drop i p) (drop i q) ≡ Equal
cmp_equal p q i lp lq =
    let a : drop i p ≡ [] = drop_all i p lp in
    let b : drop i q ≡ [] = drop_all i q lq in
    λ t. path_cmp (a t) (b t)

by_tests : (n m : ℕ) (b c : Bool) (o : Ordering) → nat_lt n m ≡ b → (n == m) ≡ c → cond b Less (cond c Equal Greater) ≡ o → nat_cmp n m ≡ o
by_tests n m b c o is-b is-c e = ap (λ t. cond t Less (cond (n == m) Equal Greater)) is-b ∙ ap (λ t. cond b Less (cond t Equal Greater)) is-c ∙ e

pub cmp_end : (p q : Path) (i : ℕ) → i ≤ length p → i ≤ length q → (i < length p → i < length q → ⊥) → path_cmp (drop i p) (drop i q) ≡ nat_cmp (length p) (length q)
cmp_end p q i lp lq none =
    elim (cases_lt (length p) (length q)) [
      | inl lt ↦
          elim (cases_lt i (length p)) [
            | inl more ↦ absurd (none more (omega (arith, more, lt)))
            | inr le ↦ cmp_less p q i le (omega (arith, lp, le, lt)) ∙ sym (by_tests (length p) (length q) true (length p == length q) Less (lt-ltb (length p) (length q) lt) refl refl)
          ]
      | inr ge ↦
          elim (cases_lt (length q) (length p)) [
            | inl lt ↦
                elim (cases_lt i (length q)) [
                  | inl more ↦ absurd (none (omega (arith, more, lt)) more)
                  | inr le ↦ cmp_greater p q i (omega (arith, lq, le, lt)) le
                      ∙ sym (by_tests (length p) (length q) false false Greater (le-ltb (length p) (length q) ge) (ne_eqb (length p) (length q) (λ same. absurd (omega (arith, lt, same)))) refl)
                ]
            | inr le ↦
                elim (cases_lt i (length p)) [
                  | inl more ↦ absurd (none more (omega (arith, more, le, ge)))
                  | inr end ↦ cmp_equal p q i end (omega (arith, end, le, ge))
                      ∙ sym (by_tests (length p) (length q) false true Equal (le-ltb (length p) (length q) ge) (eq-eqb (length p) (length q) (omega (arith, le, ge))) refl)
                ]
          ]
    ]
