-- The nodes of a tree after one step, and where they hang.
use Rattle.std.proofs.Common.{◌≡◌, ◌≢◌, ◌+◌, ◌<◌, ℕ, zero, suc, List, [], ◌∷◌, Option, Some, None, Bool, true, false, cond, refl, sym, ap, subst, ◌∙◌, arith, ⊎_elim, add-zero}
use Rattle.std.specs.Prelude.{◌==◌, if◌then◌else◌, position, count_by, slice_get, swap_remove}
use Rattle.std.specs.Option.{option_map_or, IsSome}
use Rattle.std.specs.Ordering.{nat_cmp, is_eq, match_ordering, ordering_reverse}
use Rattle.std.specs.declared.cmp.Ordering.{Ordering}
use Rattle.std.specs.declared.cmp.Ordering.TheVariants.{Less, Equal, Greater}
use Rattle.std.specs.Cmp.{nat_cmp_total, eq_by_cmp_equiv, unsigned_tied}
use Rattle.std.specs.BTreeMap.{is_at, insert_entry}
use Rattle.std.specs.Map.{keys_of, lookup, set_value, remove_entry}
use Rattle.std.specs.List.{AllByRecursion, position_from}
use Rattle.std.specs.List.Sorted.{IsStrictlySortedBy}
use Rattle.std.proofs.lemmas.Bool.{cases_eq, eqb-true, eq-eqb, ne_eqb}
use Rattle.std.proofs.lemmas.Map.{lookup-set_value, lookup-remove_entry, keys-set_value}
use Rattle.std.proofs.lemmas.Map.Keys.{IsDistinct-from_sorted}
use Rattle.std.proofs.lemmas.List.Sums.{sum_by-cons, sum_by-swap_remove}
use Rattle.std.proofs.lemmas.Option.{slice_get_within, get_or_from_slice_get}
use Rattle.std.proofs.lemmas.Iterator.Adapters.{position_from-zero}
use Rattle.indexmap.specs.IndexMap.{insert_entry as put_key}
use Rattle.dav_store.specs.Tree.{without_place}

-- whether two numbers are the same, as look-ups test it
abbrev pub same : ℕ → ℕ → Bool
same n = is_at (nat_cmp n)

pub same_is : (n q : ℕ) → same n q ≡ true → n ≡ q
same_is n q e = eqb-true n q (sym (unsigned_tied n q) ∙ e)

pub same_yes : (n q : ℕ) → n ≡ q → same n q ≡ true
same_yes n q e = unsigned_tied n q ∙ eq-eqb n q e

pub same_no : (n q : ℕ) → n ≢ q → same n q ≡ false
same_no n q ne = unsigned_tied n q ∙ ne_eqb n q ne

all_above : (k a : ℕ) (ks : List ℕ) → nat_cmp k a ≡ Less → AllByRecursion (λ y. nat_cmp a y ≡ Less) ks → AllByRecursion (λ y. nat_cmp k y ≡ Less) ks
all_above k a [] less h = h
all_above k a (b ∷ ks) less h = (nat_cmp_total.trans k a b less h.0, all_above k a ks less h.1)

module _ {X : Type 0} where
  -- a value that is written is there, and the others stay
  pub lookup-written : (q n : ℕ) (w : X) (es : List (ℕ × X)) → IsSome (lookup (same n) es) → lookup (same q) (set_value (same n) es w) ≡ cond (same n q) (Some w) (lookup (same q) es)
  lookup-written q n w es some = lookup-set_value (eq_by_cmp_equiv nat_cmp_total) (same n) (λ x y t. ap (λ m. same m y) (same_is n x t)) q w es some

  pub lookup-taken : (q n : ℕ) (es : List (ℕ × X)) → IsStrictlySortedBy nat_cmp (keys_of es) → lookup (same q) (remove_entry (same n) es) ≡ cond (same n q) None (lookup (same q) es)
  lookup-taken q n es o = lookup-remove_entry (eq_by_cmp_equiv nat_cmp_total) (same n) (λ x y t. ap (λ m. same m y) (same_is n x t)) q es (IsDistinct-from_sorted nat_cmp (keys_of es) o)

  put_step : (q k : ℕ) (v : X) (e : ℕ × X) (es rest : List (ℕ × X)) (o : Ordering) → nat_cmp k e.0 ≡ o → lookup (same q) rest ≡ cond (same k q) (Some v) (lookup (same q) es)
      → lookup (same q) (match_ordering o ((k, v) ∷ e ∷ es) ((e.0, v) ∷ es) (e ∷ rest)) ≡ cond (same k q) (Some v) (lookup (same q) (e ∷ es))
  put_step q k v e es rest Less was ih = ap (λ b. cond b (Some v) (lookup (same q) (e ∷ es))) (turned q k) where
    turned : (a b : ℕ) → same a b ≡ same b a
    turned a b = ⊎_elim (λ e. same_yes a b e ∙ sym (same_yes b a (sym e))) (λ ne. same_no a b ne ∙ sym (same_no b a (λ e. ne (sym e)))) (cases_eq a b)
  put_step q k v e es rest Equal was ih =
      let is : k ≡ e.0 = same_is k e.0 (ap is_eq was) in
      ⊎_elim
      (λ h. ap (λ b. cond b (Some v) (lookup (same q) es)) (same_yes q e.0 (sym h ∙ is)) ∙ sym (ap (λ b. cond b (Some v) (lookup (same q) (e ∷ es))) (same_yes k q h)))
      (λ ne. let no : same q e.0 ≡ false = same_no q e.0 (λ h. ne (is ∙ sym h)) in
      ap (λ b. cond b (Some v) (lookup (same q) es)) no ∙ sym (ap (λ b. cond b (Some e.1) (lookup (same q) es)) no) ∙ sym (ap (λ b. cond b (Some v) (lookup (same q) (e ∷ es))) (same_no k q ne)))
      (cases_eq k q)
  put_step q k v e es rest Greater was ih =
      ⊎_elim
      (λ h. let no : same q e.0 ≡ false = ap (λ m. same m e.0) (sym h) ∙ ap is_eq was in
      ap (λ b. cond b (Some e.1) (lookup (same q) rest)) no ∙ ih ∙ ap (λ b. cond b (Some v) (lookup (same q) es)) (same_yes k q h) ∙ sym (ap (λ b. cond b (Some v) (lookup (same q) (e ∷ es))) (same_yes k q h)))
      (λ ne. ap (cond (same q e.0) (Some e.1)) (ih ∙ ap (λ b. cond b (Some v) (lookup (same q) es)) (same_no k q ne)) ∙ sym (ap (λ b. cond b (Some v) (lookup (same q) (e ∷ es))) (same_no k q ne)))
      (cases_eq k q)

  pub lookup-put : (q k : ℕ) (v : X) (es : List (ℕ × X)) → lookup (same q) (insert_entry nat_cmp es k v) ≡ cond (same k q) (Some v) (lookup (same q) es)
  lookup-put q k v [] = ⊎_elim (λ h. ap (λ b. cond b (Some v) None) (same_yes q k (sym h)) ∙ sym (ap (λ b. cond b (Some v) None) (same_yes k q h))) (λ ne. ap (λ b. cond b (Some v) None) (same_no q k (λ h. ne (sym h))) ∙ sym (ap (λ b. cond b (Some v) None) (same_no k q ne))) (cases_eq k q)
  lookup-put q k v (e ∷ es) = put_step q k v e es (insert_entry nat_cmp es k v) (nat_cmp k e.0) refl (lookup-put q k v es)

  -- the order of the numbers stays
  all_taken_step : (P : ℕ → Type 0) (e : ℕ × X) (es rest : List (ℕ × X)) (b : Bool) → AllByRecursion P (keys_of (e ∷ es)) → AllByRecursion P (keys_of rest) → AllByRecursion P (keys_of (cond b es (e ∷ rest)))
  all_taken_step P e es rest true h ih = h.1
  all_taken_step P e es rest false h ih = (h.0, ih)

  all_taken : (P : ℕ → Type 0) (n : ℕ) (es : List (ℕ × X)) → AllByRecursion P (keys_of es) → AllByRecursion P (keys_of (remove_entry (same n) es))
  all_taken P n [] h = h
  all_taken P n (e ∷ es) h = all_taken_step P e es (remove_entry (same n) es) (same n e.0) h (all_taken P n es h.1)

  order_taken_step : (e : ℕ × X) (es rest : List (ℕ × X)) (b : Bool) → IsStrictlySortedBy nat_cmp (keys_of (e ∷ es)) → AllByRecursion (λ y. nat_cmp e.0 y ≡ Less) (keys_of rest)
      → IsStrictlySortedBy nat_cmp (keys_of rest) → IsStrictlySortedBy nat_cmp (keys_of (cond b es (e ∷ rest)))
  unfolding IsStrictlySortedBy
  order_taken_step e es rest true h above ih = h.1
  order_taken_step e es rest false h above ih = (above, ih)

  pub order-taken : (n : ℕ) (es : List (ℕ × X)) → IsStrictlySortedBy nat_cmp (keys_of es) → IsStrictlySortedBy nat_cmp (keys_of (remove_entry (same n) es))
  unfolding IsStrictlySortedBy
  order-taken n [] h = h
  order-taken n (e ∷ es) h =
      order_taken_step e es (remove_entry (same n) es) (same n e.0) h (all_taken (λ y. nat_cmp e.0 y ≡ Less) n es h.0) (order-taken n es h.1)

  pub order-written : (n : ℕ) (w : X) (es : List (ℕ × X)) → IsStrictlySortedBy nat_cmp (keys_of es) → IsStrictlySortedBy nat_cmp (keys_of (set_value (same n) es w))
  order-written n w es h = subst (IsStrictlySortedBy nat_cmp) (sym (keys-set_value (same n) es w)) h

  all_put_step : (P : ℕ → Type 0) (k : ℕ) (v : X) (e : ℕ × X) (es rest : List (ℕ × X)) (o : Ordering) → AllByRecursion P (keys_of (e ∷ es)) → P k → AllByRecursion P (keys_of rest)
      → AllByRecursion P (keys_of (match_ordering o ((k, v) ∷ e ∷ es) ((e.0, v) ∷ es) (e ∷ rest)))
  all_put_step P k v e es rest Less h p ih = (p, h)
  all_put_step P k v e es rest Equal h p ih = h
  all_put_step P k v e es rest Greater h p ih = (h.0, ih)

  all_put : (P : ℕ → Type 0) (k : ℕ) (v : X) (es : List (ℕ × X)) → AllByRecursion P (keys_of es) → P k → AllByRecursion P (keys_of (insert_entry nat_cmp es k v))
  all_put P k v [] h p = (p, h)
  all_put P k v (e ∷ es) h p = all_put_step P k v e es (insert_entry nat_cmp es k v) (nat_cmp k e.0) h p (all_put P k v es h.1 p)

  order_put_step : (k : ℕ) (v : X) (e : ℕ × X) (es rest : List (ℕ × X)) (o : Ordering) → nat_cmp k e.0 ≡ o → IsStrictlySortedBy nat_cmp (keys_of (e ∷ es))
      → (nat_cmp e.0 k ≡ Less → AllByRecursion (λ y. nat_cmp e.0 y ≡ Less) (keys_of rest)) → IsStrictlySortedBy nat_cmp (keys_of rest)
      → IsStrictlySortedBy nat_cmp (keys_of (match_ordering o ((k, v) ∷ e ∷ es) ((e.0, v) ∷ es) (e ∷ rest)))
  unfolding IsStrictlySortedBy
  order_put_step k v e es rest Less was h above ih = ((was, all_above k e.0 (keys_of es) was h.0), h)
  order_put_step k v e es rest Equal was h above ih = h
  order_put_step k v e es rest Greater was h above ih = (above (nat_cmp_total.antisymm e.0 k ∙ ap ordering_reverse was), ih)

  pub order-put : (k : ℕ) (v : X) (es : List (ℕ × X)) → IsStrictlySortedBy nat_cmp (keys_of es) → IsStrictlySortedBy nat_cmp (keys_of (insert_entry nat_cmp es k v))
  unfolding IsStrictlySortedBy
  order-put k v [] h = (tt, tt)
  order-put k v (e ∷ es) h = order_put_step k v e es (insert_entry nat_cmp es k v) (nat_cmp k e.0) refl h (all_put (λ y. nat_cmp e.0 y ≡ Less) k v es h.0) (order-put k v es h.1)

-- ---- how often a number stands among children
abbrev pub one_if : ℕ → ℕ → ℕ
one_if a n = if a == n then 1 else 0

module _ {K : Type 0} where
  abbrev pub times : ℕ → List (K × ℕ) → ℕ
  times n es = count_by (λ e. e.1 == n) es

  pub times-cons : (n : ℕ) (e : K × ℕ) (es : List (K × ℕ)) → times n (e ∷ es) ≡ one_if e.1 n + times n es
  times-cons n e es = sum_by-cons (λ (x : K × ℕ). one_if x.1 n) e es

  put_key_step : (n m : ℕ) (e : K × ℕ) (es rest : List (K × ℕ)) (old : Option ℕ) (b : Bool) → times n rest + option_map_or (λ o. one_if o n) old 0 ≡ times n es + one_if m n
      → times n (if b then (e.0, m) ∷ es else e ∷ rest) + option_map_or (λ o. one_if o n) (cond b (Some e.1) old) 0 ≡ times n (e ∷ es) + one_if m n
  put_key_step n m e es rest old true ih = omega (arith, times-cons n (e.0, m) es, times-cons n e es)
  put_key_step n m e es rest old false ih = omega (arith, ih, times-cons n e rest, times-cons n e es)

  -- a number that is put under a key comes once, and the one that was there goes
  pub times-put_key : (eq : K → K → Bool) (k : K) (n m : ℕ) (es : List (K × ℕ)) → times n (put_key eq es k m) + option_map_or (λ o. one_if o n) (lookup (eq k) es) 0 ≡ times n es + one_if m n
  times-put_key eq k n m [] = omega (arith, times-cons n (k, m) [])
  times-put_key eq k n m (e ∷ es) = put_key_step n m e es (put_key eq es k m) (lookup (eq k) es) (eq k e.0) (times-put_key eq k n m es)

  -- the one at a place goes
  pub times-without_place : (n i : ℕ) (e : K × ℕ) (es : List (K × ℕ)) → slice_get es i ≡ Some e → times n (without_place i es) + one_if e.1 n ≡ times n es
  times-without_place n i e es at =
      ap (λ o. times n (option_map_or (λ x. swap_remove es i x) o es) + one_if e.1 n) at
      ∙ sym (ap (λ x. times n (swap_remove es i e) + one_if x.1 n) (get_or_from_slice_get es i e e at))
      ∙ sum_by-swap_remove (λ (x : K × ℕ). one_if x.1 n) es i e (slice_get_within es i e at)

  place_step : (eq : K → K → Bool) (k : K) (n i : ℕ) (x e : K × ℕ) (es rest : List (K × ℕ)) (b : Bool) → slice_get (x ∷ es) i ≡ Some e → e.1 ≡ n
      → ((j : ℕ) → slice_get es j ≡ Some e → (d : K × ℕ) × (slice_get rest j ≡ Some d) × (d.1 ≡ n))
      → (d : K × ℕ) × (slice_get (if b then (x.0, n) ∷ es else x ∷ rest) i ≡ Some d) × (d.1 ≡ n)
  place_step eq k n zero x e es rest true at is ih = ((x.0, n), refl, refl)
  place_step eq k n zero x e es rest false at is ih = (e, at, is)
  place_step eq k n (suc i) x e es rest true at is ih = (e, at, is)
  place_step eq k n (suc i) x e es rest false at is ih = ih i at

  -- a number stands in its place still, once it is put under another key too
  pub place-put_key : (eq : K → K → Bool) (k : K) (n i : ℕ) (e : K × ℕ) (es : List (K × ℕ)) → slice_get es i ≡ Some e → e.1 ≡ n
      → (d : K × ℕ) × (slice_get (put_key eq es k n) i ≡ Some d) × (d.1 ≡ n)
  place-put_key eq k n i e [] at is = absurd (let h : None ≡ Some e = at in cc)
  place-put_key eq k n i e (x ∷ es) at is = place_step eq k n i x e es (put_key eq es k n) (eq k x.0) at is (λ j h. place-put_key eq k n j e es h is)

  found_step : (n j : ℕ) (x : K × ℕ) (es : List (K × ℕ)) (b : Bool) → (x.1 == n) ≡ b → 0 < times n (x ∷ es)
      → (0 < times n es → (i : ℕ) × (e : K × ℕ) × (position_from (λ y. y.1 == n) (j + 1) es ≡ Some (j + 1 + i)) × (slice_get es i ≡ Some e) × (e.1 ≡ n))
      → (i : ℕ) × (e : K × ℕ) × (cond b (Some j) (position_from (λ y. y.1 == n) (j + 1) es) ≡ Some (j + i)) × (slice_get (x ∷ es) i ≡ Some e) × (e.1 ≡ n)
  found_step n j x es true was some ih = (0, x, ap (λ m. Some m) (sym (add-zero j)), refl, eqb-true x.1 n was)
  found_step n j x es false was some ih =
      let fewer : times n (x ∷ es) ≡ times n es = times-cons n x es ∙ ap (λ b. (if b then 1 else 0) + times n es) was ∙ zero_plus (times n es) in
      let w = ih (subst (λ m. 0 < m) fewer some) in
      (suc w.0, w.1, w.2 ∙ ap (λ m. Some m) (next j w.0), w.3, w.4) where
        zero_plus : (m : ℕ) → 0 + m ≡ m
        zero_plus m = omega arith

        next : (a b : ℕ) → a + 1 + b ≡ a + suc b
        next a b = omega arith

  found_from : (n j : ℕ) (es : List (K × ℕ)) → 0 < times n es
      → (i : ℕ) × (e : K × ℕ) × (position_from (λ y. y.1 == n) j es ≡ Some (j + i)) × (slice_get es i ≡ Some e) × (e.1 ≡ n)
  found_from n j [] some = absurd (omega (arith, some))
  found_from n j (x ∷ es) some = found_step n j x es (x.1 == n) refl some (found_from n (j + 1) es)

  -- a number that stands somewhere has a first place
  pub found : (n : ℕ) (es : List (K × ℕ)) → 0 < times n es → (i : ℕ) × (e : K × ℕ) × (position (λ y. y.1 == n) es ≡ Some i) × (slice_get es i ≡ Some e) × (e.1 ≡ n)
  found n es some =
      let w = found_from n 0 es some in
      (w.0, w.1, position_from-zero (λ (y : K × ℕ). y.1 == n) es ∙ w.2 ∙ ap (λ m. Some m) (zero_plus w.0), w.3, w.4) where
        zero_plus : (m : ℕ) → 0 + m ≡ m
        zero_plus m = omega arith
