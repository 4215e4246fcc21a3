-- Entries in the order of their keys, in a tree and in a list.
use Rattle.std.proofs.Common.{◌≡◌, ℕ, zero, suc, ◌+◌, ◌<◌, ◌≤◌, Bool, true, false, cond, not, T, List, [], ◌∷◌, ◌++◌, length, get_or, take, drop, Some, None, refl, sym, ap, subst, ◌∙◌, arith, inl, inr}
use Rattle.std.specs.List.{filter}
use Rattle.std.specs.Map.{lookup, remove_entry}
use Rattle.std.specs.BTreeMap.{insert_entry}
use Rattle.std.specs.FinMap.{find, put, is_sorted}
use Rattle.std.specs.FinMap.Entries.{by_order, below_all}
use Rattle.std.specs.declared.cmp.Ordering.{Ordering}
use Rattle.std.specs.declared.cmp.Ordering.TheVariants.{Less, Equal, Greater}
use Rattle.std.specs.Ordering.{is_eq, is_lt, match_ordering, ordering_reverse, ordering_index}
use Rattle.std.specs.Cmp.{IsTotalOrder, tied_back, alike_right}
use Rattle.std.specs.List.Sorted.{IsNonDecreasingBy, IsPartitionPoint}
use Rattle.std.proofs.lemmas.Bool.{cases_lt}
use Rattle.std.proofs.lemmas.List.{take_more, take-append-drop, drop_more}
use Rattle.dav_core.proofs.NodesAfter.{left_true, right_true}

lt_is : (o : Ordering) → T (is_lt o) → o ≡ Less
lt_is Less h = refl
lt_is Equal h = absurd h
lt_is Greater h = absurd h

same_choice : {A : Type 0} (o : Ordering) (a b c d : A) → c ≡ d → match_ordering o a b c ≡ by_order o a b d
same_choice Less a b c d e = refl
same_choice Equal a b c d e = refl
same_choice Greater a b c d e = e

module _ {K : Type 0} {R : K → K → Ordering} (o : IsTotalOrder R) where
  turned : (x y : K) → R x y ≡ Less → R y x ≡ Greater
  turned x y h = o.antisymm y x ∙ ap ordering_reverse h

  rises_to : (x y k : K) (r : Ordering) → R x y ≡ Less → R y k ≡ r → ordering_index (R x k) ≤ ordering_index r
  rises_to x y k Less less is = subst (λ (s : Ordering). ordering_index s ≤ 0) (sym (o.trans x y k less is)) (omega arith)
  rises_to x y k Equal less is = subst (λ (s : Ordering). ordering_index s ≤ 1) (sym (sym (alike_right o y k x is) ∙ less)) (omega arith)
  rises_to x y k Greater less is = elim (R x k) as (λ (s : Ordering). ordering_index s ≤ 2) [ Less ↦ omega arith | Equal ↦ omega arith | Greater ↦ omega arith ]

  differs_less : (x k : K) → R x k ≡ Less → is_eq (R k x) ≡ false
  differs_less x k h = ap is_eq (o.antisymm k x ∙ ap ordering_reverse h)

  differs_greater : (x k : K) → R x k ≡ Greater → is_eq (R k x) ≡ false
  differs_greater x k h = ap is_eq (o.antisymm k x ∙ ap ordering_reverse h)

module _ {K X : Type 0} (R : K → K → Ordering) where
  -- an entry that is inserted is put
  pub insert_is_put : (k : K) (v : X) (es : List (K × X)) → insert_entry R es k v ≡ put R k v es
  insert_is_put k v [] = refl
  insert_is_put k v (e ∷ es) = same_choice (R k e.0) ((k, v) ∷ e ∷ es) ((e.0, v) ∷ es) (e ∷ insert_entry R es k v) (e ∷ put R k v es) (ap (λ (rest : List (K × X)). e ∷ rest) (insert_is_put k v es))

  stays : (p : K → Bool) (e : K × X) (es : List (K × X)) (b : Bool) → (lookup p es ≡ None → es ≡ filter (λ y. not (p y.0)) es)
      → cond b (Some e.1) (lookup p es) ≡ None → e ∷ es ≡ cond (not b) (e ∷ filter (λ y. not (p y.0)) es) (filter (λ y. not (p y.0)) es)
  stays p e es true rest h = cc
  stays p e es false rest h = ap (λ (r : List (K × X)). e ∷ r) (rest h)

  all_stay : (p : K → Bool) (es : List (K × X)) → lookup p es ≡ None → es ≡ filter (λ y. not (p y.0)) es
  all_stay p [] h = refl
  all_stay p (e ∷ es) h = stays p e es (p e.0) (all_stay p es) h

  removes : (p : K → Bool) (e : K × X) (es : List (K × X)) (b : Bool) → p e.0 ≡ b → (lookup p (remove_entry p es) ≡ None → remove_entry p es ≡ filter (λ y. not (p y.0)) es)
      → lookup p (cond b es (e ∷ remove_entry p es)) ≡ None → cond b es (e ∷ remove_entry p es) ≡ cond (not b) (e ∷ filter (λ y. not (p y.0)) es) (filter (λ y. not (p y.0)) es)
  removes p e es true is rest h = all_stay p es h
  removes p e es false is rest h =
      ap (λ (r : List (K × X)). e ∷ r) (rest (sym (ap (λ b. cond b (Some e.1) (lookup p (remove_entry p es))) is) ∙ h))

  -- where the key isn't there any more, all its entries were removed
  pub remove_is_filter : (p : K → Bool) (es : List (K × X)) → lookup p (remove_entry p es) ≡ None → remove_entry p es ≡ filter (λ y. not (p y.0)) es
  remove_is_filter p [] h = refl
  remove_is_filter p (e ∷ es) h = removes p e es (p e.0) refl (remove_is_filter p es) h

  below_before : (q : K) (xs : List (K × X)) (e : K × X) (ys : List (K × X)) → T (below_all R q (xs ++ e ∷ ys)) → R q e.0 ≡ Less
  below_before q [] e ys h = lt_is (R q e.0) (left_true (is_lt (R q e.0)) (below_all R q ys) h)
  below_before q (x ∷ xs) e ys h = below_before q xs e ys (right_true (is_lt (R q x.0)) (below_all R q (xs ++ e ∷ ys)) h)

  below_get : (q : K) (es : List (K × X)) (i : ℕ) (d : K × X) → T (below_all R q es) → i < length es → R q (get_or es i d).0 ≡ Less
  below_get q [] i d h lt = absurd (omega (arith, lt))
  below_get q (e ∷ es) zero d h lt = lt_is (R q e.0) (left_true (is_lt (R q e.0)) (below_all R q es) h)
  below_get q (e ∷ es) (suc i) d h lt = below_get q es i d (right_true (is_lt (R q e.0)) (below_all R q es) h) (omega (arith, lt))

  sorted_get : (es : List (K × X)) (i j : ℕ) (d : K × X) → T (is_sorted R es) → i < j → j < length es → R (get_or es i d).0 (get_or es j d).0 ≡ Less
  sorted_get [] i j d s lt le = absurd (omega (arith, le))
  sorted_get (e ∷ es) i zero d s lt le = absurd (omega (arith, lt))
  sorted_get (e ∷ es) zero (suc j) d s lt le = below_get e.0 es j d (left_true (below_all R e.0 es) (is_sorted R es) s) (omega (arith, le))
  sorted_get (e ∷ es) (suc i) (suc j) d s lt le = sorted_get es i j d (right_true (below_all R e.0 es) (is_sorted R es) s) (omega (arith, lt)) (omega (arith, le))

  -- a key that is at none of the places isn't found
  pub find_nowhere : (k : K) (es : List (K × X)) → ((j : ℕ) (d : K × X) → j < length es → is_eq (R k (get_or es j d).0) ≡ false) → find R k es ≡ None
  find_nowhere k [] h = refl
  find_nowhere k (e ∷ es) h = ap (λ b. cond b (Some e.1) (find R k es)) (h 0 e (omega arith)) ∙ find_nowhere k es (λ j d lt. h (suc j) d (omega (arith, lt)))

  module _ (o : IsTotalOrder R) where
    -- what is behind all is put at the end
    pub put_last : (xs : List (K × X)) (k : K) (v : X) (ys : List (K × X)) → T (is_sorted R (xs ++ (k, v) ∷ ys)) → put R k v xs ≡ xs ++ (k, v) ∷ []
    put_last [] k v ys s = refl
    put_last (x ∷ xs) k v ys s =
        let less : R x.0 k ≡ Less = below_before x.0 xs (k, v) ys (left_true (below_all R x.0 (xs ++ (k, v) ∷ ys)) (is_sorted R (xs ++ (k, v) ∷ ys)) s) in
        ap (λ (r : Ordering). by_order r ((k, v) ∷ x ∷ xs) ((x.0, v) ∷ xs) (x ∷ put R k v xs)) (turned o x.0 k less)
        ∙ ap (λ (r : List (K × X)). x ∷ r) (put_last xs k v ys (right_true (below_all R x.0 (xs ++ (k, v) ∷ ys)) (is_sorted R (xs ++ (k, v) ∷ ys)) s))

    -- the entry at a place whose key ties is the one that is found
    pub found_in_order : (k : K) (es : List (K × X)) (i : ℕ) (d : K × X) → T (is_sorted R es) → i < length es → R (get_or es i d).0 k ≡ Equal → find R k es ≡ Some (get_or es i d).1
    found_in_order k [] i d s lt h = absurd (omega (arith, lt))
    found_in_order k (e ∷ es) zero d s lt h = ap (λ (r : Ordering). cond (is_eq r) (Some e.1) (find R k es)) (tied_back o e.0 k h)
    found_in_order k (e ∷ es) (suc i) d s lt h =
        let less : R e.0 k ≡ Less = sym (alike_right o (get_or es i d).0 k e.0 h) ∙ below_get e.0 es i d (left_true (below_all R e.0 es) (is_sorted R es) s) (omega (arith, lt)) in
        ap (λ (r : Ordering). cond (is_eq r) (Some e.1) (find R k es)) (turned o e.0 k less)
        ∙ found_in_order k es i d (right_true (below_all R e.0 es) (is_sorted R es) s) (omega (arith, lt)) h

    -- the comparisons with a key rise along entries in order
    pub rises_along : (k : K) (es : List (K × X)) → T (is_sorted R es) → IsNonDecreasingBy (λ y. ordering_index (R y.0 k)) es
    rises_along k es s = λ i j d le lt.
        elim (cases_lt i j) [
          | inl before ↦ rises_to o (get_or es i d).0 (get_or es j d).0 k (R (get_or es j d).0 k) (sorted_get es i j d s before lt) refl
          | inr after ↦
              let same : i ≡ j = omega (arith, le, after) in
              subst (λ (m : ℕ). ordering_index (R (get_or es i d).0 k) ≤ ordering_index (R (get_or es m d).0 k)) same (omega arith)
        ]

    -- a key between two places isn't found
    pub not_found_in_order : (k : K) (es : List (K × X)) (i : ℕ) → IsPartitionPoint (λ y. R y.0 k ≡ Less) (λ y. R y.0 k ≡ Greater) es i → find R k es ≡ None
    not_found_in_order k es i part =
        find_nowhere k es
        (λ j d lt.
        elim (cases_lt j i) [
          | inl before ↦ differs_less o (get_or es j d).0 k (part.0 j d (omega arith) before)
          | inr after ↦ differs_greater o (get_or es j d).0 k (part.1 j d after lt)
        ])

    -- one more entry of a list in order, which is inserted behind those before it
    pub grows : (es ts new : List (K × X)) (i : ℕ) (x : K × X) (k : K) (v : X) → T (is_sorted R es) → i < length es → x ≡ get_or es i x
        → ts ≡ take i es → k ≡ x.0 → v ≡ x.1 → new ≡ insert_entry R ts k v → new ≡ take (i + 1) es
    grows es ts new i x k v s lt is so_far is-k is-v now =
        let parts : es ≡ take i es ++ (x.0, x.1) ∷ drop (i + 1) es = sym (take-append-drop i es) ∙ ap (λ (r : List (K × X)). take i es ++ r) (drop_more es i x lt ∙ ap (λ (y : K × X). y ∷ drop (i + 1) es) (sym is)) in
        now
        ∙ (λ t. insert_entry R (so_far t) (is-k t) (is-v t))
        ∙ insert_is_put x.0 x.1 (take i es)
        ∙ put_last (take i es) x.0 x.1 (drop (i + 1) es) (subst (λ (r : List (K × X)). T (is_sorted R r)) parts s)
        ∙ ap (λ (y : K × X). take i es ++ y ∷ []) is
        ∙ sym (take_more es i x lt)
