-- Lists of entries after one step.
use Rattle.std.proofs.Common.{◌≡◌, ℕ, zero, suc, Bool, true, false, cond, List, [], ◌∷◌, get_or, slice_get, position, Option, Some, None, refl, sym, ap, subst, ◌∙◌, ⊎_elim, IsPermutation}
use Rattle.std.specs.Prelude.{◌==◌}
use Rattle.std.specs.Option.{option_map_or, unwrap_or}
use Rattle.std.specs.Ordering.{nat_cmp, eq_by_cmp, match_ordering, is_eq}
use Rattle.std.specs.declared.cmp.Ordering.{Ordering}
use Rattle.std.specs.declared.cmp.Ordering.TheVariants.{Less, Equal, Greater}
use Rattle.std.specs.Cmp.{IsEquivalence, eq_by_cmp_equiv, nat_cmp_total}
use Rattle.std.specs.BTreeMap.{insert_entry}
use Rattle.std.specs.Map.{lookup, remove_entry, keys_of}
use Rattle.std.specs.List.{IsDistinct, AllByRecursion, swap_remove}
use Rattle.std.proofs.lemmas.Bool.{cases_Bool, eqb-true}
use Rattle.std.proofs.lemmas.Map.Keys.{IsDistinct-IsPermutation}
use Rattle.std.proofs.lemmas.List.Sorted.{IsPermutation-swap_remove, IsPermutation-map}
use Rattle.std.proofs.lemmas.List.Quantifiers.{position-Some}
use Rattle.std.proofs.lemmas.Option.{slice_get_within, get_or_from_slice_get, slice_get-get_or}
use Rattle.indexmap.specs.IndexMap.{insert_entry as put_key}
use Rattle.indexmap.proofs.MapLemmas.{lookup_permutation}
use Rattle.dav_store.specs.Tree.{without_place}

-- ---- entries by keys, which an equivalence compares
module _ {K X : Type 0} {eq : K → K → Bool} (laws : IsEquivalence eq) where
  put_step : (k q : K) (v : X) (e : K × X) (es : List (K × X)) (b : Bool) → eq k e.0 ≡ b
      → lookup (eq q) (put_key eq es k v) ≡ cond (eq q k) (Some v) (lookup (eq q) es)
      → lookup (eq q) (cond b ((e.0, v) ∷ es) (e ∷ put_key eq es k v)) ≡ cond (eq q k) (Some v) (cond (eq q e.0) (Some e.1) (lookup (eq q) es))
  put_step k q v e es true was ih =
      let same : eq q k ≡ eq q e.0 = laws.symm q k ∙ laws.congr k e.0 q was ∙ laws.symm e.0 q in
      ⊎_elim
      (λ a. ap (λ b. cond b (Some v) (lookup (eq q) es)) a ∙ sym (ap (λ b. cond b (Some v) (cond (eq q e.0) (Some e.1) (lookup (eq q) es))) (same ∙ a)))
      (λ a. ap (λ b. cond b (Some v) (lookup (eq q) es)) a ∙ sym (ap (λ b. cond b (Some e.1) (lookup (eq q) es)) a)
      ∙ sym (ap (λ b. cond b (Some v) (cond (eq q e.0) (Some e.1) (lookup (eq q) es))) (same ∙ a)))
      (cases_Bool (eq q e.0))
  put_step k q v e es false was ih =
      ⊎_elim
      (λ a. let other : eq q k ≡ false = laws.congr q e.0 k a ∙ laws.symm e.0 k ∙ was in
      ap (λ b. cond b (Some e.1) (lookup (eq q) (put_key eq es k v))) a
      ∙ sym (ap (λ b. cond b (Some v) (cond (eq q e.0) (Some e.1) (lookup (eq q) es))) other ∙ ap (λ b. cond b (Some e.1) (lookup (eq q) es)) a))
      (λ a. ap (λ b. cond b (Some e.1) (lookup (eq q) (put_key eq es k v))) a ∙ ih
      ∙ sym (ap (λ o. cond (eq q k) (Some v) o) (ap (λ b. cond b (Some e.1) (lookup (eq q) es)) a)))
      (cases_Bool (eq q e.0))

  -- what is found after a key was put
  pub lookup_put : (k q : K) (v : X) (es : List (K × X)) → lookup (eq q) (put_key eq es k v) ≡ cond (eq q k) (Some v) (lookup (eq q) es)
  lookup_put k q v [] = refl
  lookup_put k q v (e ∷ es) = put_step k q v e es (eq k e.0) refl (lookup_put k q v es)

  -- what holds of each key and of a new one
  all_put_step : (P : K → Type 0) (k : K) (v : X) (e : K × X) (es : List (K × X)) (b : Bool) → P k → AllByRecursion P (keys_of (e ∷ es))
      → AllByRecursion P (keys_of (put_key eq es k v)) → AllByRecursion P (keys_of (cond b ((e.0, v) ∷ es) (e ∷ put_key eq es k v)))
  all_put_step P k v e es true new h ih = h
  all_put_step P k v e es false new h ih = (h.0, ih)

  all_put : (P : K → Type 0) (k : K) (v : X) (es : List (K × X)) → P k → AllByRecursion P (keys_of es) → AllByRecursion P (keys_of (put_key eq es k v))
  all_put P k v [] new h = (new, tt)
  all_put P k v (e ∷ es) new h = all_put_step P k v e es (eq k e.0) new h (all_put P k v es new h.1)

  distinct_put_step : (k : K) (v : X) (e : K × X) (es : List (K × X)) (b : Bool) → eq k e.0 ≡ b → IsDistinct eq (keys_of (e ∷ es))
      → IsDistinct eq (keys_of (put_key eq es k v)) → IsDistinct eq (keys_of (cond b ((e.0, v) ∷ es) (e ∷ put_key eq es k v)))
  unfolding IsDistinct
  distinct_put_step k v e es true was h ih = h
  distinct_put_step k v e es false was h ih = (all_put (λ y. eq e.0 y ≡ false) k v es (laws.symm e.0 k ∙ was) h.0, ih)

  pub distinct_put : (k : K) (v : X) (es : List (K × X)) → IsDistinct eq (keys_of es) → IsDistinct eq (keys_of (put_key eq es k v))
  unfolding IsDistinct
  distinct_put k v [] h = (tt, tt)
  distinct_put k v (e ∷ es) h = distinct_put_step k v e es (eq k e.0) refl h (distinct_put k v es h.1)

  -- an entry keeps its place and its key where a key is put
  pub kept_put : (k : K) (v : X) (es : List (K × X)) (i : ℕ) (e : K × X) → slice_get es i ≡ Some e → (d : K × X) × (slice_get (put_key eq es k v) i ≡ Some d) × (d.0 ≡ e.0)
  kept_put k v [] i e h = cc
  kept_put k v (x ∷ xs) zero e h = by (eq k x.0) where
    by : (b : Bool) → (d : K × X) × (slice_get (cond b ((x.0, v) ∷ xs) (x ∷ put_key eq xs k v)) zero ≡ Some d) × (d.0 ≡ e.0)
    by true = ((x.0, v), refl, ap (λ (o : Option (K × X)). (unwrap_or o x).0) h)
    by false = (x, refl, ap (λ (o : Option (K × X)). (unwrap_or o x).0) h)
  kept_put k v (x ∷ xs) (suc i) e h = by (eq k x.0) (kept_put k v xs i e h) where
    by : (b : Bool) → (d : K × X) × (slice_get (put_key eq xs k v) i ≡ Some d) × (d.0 ≡ e.0)
        → (d : K × X) × (slice_get (cond b ((x.0, v) ∷ xs) (x ∷ put_key eq xs k v)) (suc i) ≡ Some d) × (d.0 ≡ e.0)
    by true ih = (e, h, refl)
    by false ih = ih

-- ---- children without the one at a place
module _ {K : Type 0} {eq : K → K → Bool} (laws : IsEquivalence eq) (es : List (K × ℕ)) (i : ℕ) (e : K × ℕ) (at : slice_get es i ≡ Some e) (distinct : IsDistinct eq (keys_of es)) where
  out_is : without_place i es ≡ swap_remove es i e
  out_is = ap (λ o. option_map_or (λ x. swap_remove es i x) o es) at

  moves : IsPermutation es (e ∷ swap_remove es i e)
  moves = IsPermutation-swap_remove es i e (slice_get_within es i e at) (sym (get_or_from_slice_get es i e e at))

  still_distinct : IsDistinct eq (keys_of (e ∷ swap_remove es i e))
  still_distinct = IsDistinct-IsPermutation eq laws.symm (keys_of es) (keys_of (e ∷ swap_remove es i e)) (IsPermutation-map (λ (p : K × ℕ). p.0) es (e ∷ swap_remove es i e) moves) distinct

  none_like : (q : K) (ds : List (K × ℕ)) → eq q e.0 ≡ true → AllByRecursion (λ y. eq e.0 y ≡ false) (keys_of ds) → lookup (eq q) ds ≡ None
  none_like q [] same h = refl
  none_like q (d ∷ ds) same h = ap (λ b. cond b (Some d.1) (lookup (eq q) ds)) (laws.congr q e.0 d.0 same ∙ h.0) ∙ none_like q ds same h.1

  head_of : (d : K) (ds : List K) → IsDistinct eq (d ∷ ds) → AllByRecursion (λ y. eq d y ≡ false) ds
  unfolding IsDistinct
  head_of d ds h = h.0

  tail_of : (d : K) (ds : List K) → IsDistinct eq (d ∷ ds) → IsDistinct eq ds
  unfolding IsDistinct
  tail_of d ds h = h.1

  pub distinct_out : IsDistinct eq (keys_of (without_place i es))
  distinct_out = subst (λ (ds : List (K × ℕ)). IsDistinct eq (keys_of ds)) (sym out_is) (tail_of e.0 (keys_of (swap_remove es i e)) still_distinct)

  pub gone_out : lookup (eq e.0) (without_place i es) ≡ None
  gone_out = ap (lookup (eq e.0)) out_is ∙ none_like e.0 (swap_remove es i e) (laws.refl e.0) (head_of e.0 (keys_of (swap_remove es i e)) still_distinct)

  pub others_out : (q : K) → eq q e.0 ≡ false → lookup (eq q) (without_place i es) ≡ lookup (eq q) es
  others_out q other =
      ap (lookup (eq q)) out_is
      ∙ sym (ap (λ b. cond b (Some e.1) (lookup (eq q) (swap_remove es i e))) other)
      ∙ lookup_permutation laws es (e ∷ swap_remove es i e) moves still_distinct (eq q) (λ x y h. laws.congr q x y h)

-- ---- the place of a number among children
pub place_is : {K : Type 0} (es : List (K × ℕ)) (n i : ℕ) (d : K × ℕ) → position (λ e. e.1 == n) es ≡ Some i → (e : K × ℕ) × (slice_get es i ≡ Some e) × (e.1 ≡ n)
place_is es n i d h =
    let p = position-Some (λ e. e.1 == n) es i d h in
    (get_or es i d, slice_get-get_or es i d p.0, eqb-true (get_or es i d).1 n p.1)

-- ---- nodes by their numbers
abbrev same : ℕ → ℕ → Bool
same = eq_by_cmp nat_cmp

same_laws : IsEquivalence same
same_laws = eq_by_cmp_equiv nat_cmp_total

module _ {X : Type 0} where
  insert_step : (q n : ℕ) (x : X) (e : ℕ × X) (es : List (ℕ × X)) (o : Ordering) → nat_cmp n e.0 ≡ o
      → lookup (same q) (insert_entry nat_cmp es n x) ≡ cond (same q n) (Some x) (lookup (same q) es)
      → lookup (same q) (match_ordering o ((n, x) ∷ e ∷ es) ((e.0, x) ∷ es) (e ∷ insert_entry nat_cmp es n x)) ≡ cond (same q n) (Some x) (cond (same q e.0) (Some e.1) (lookup (same q) es))
  insert_step q n x e es Less was ih = refl
  insert_step q n x e es Equal was ih = put_step {X = X} same_laws n q x e es true (ap is_eq was) (lookup_put same_laws n q x es)
  insert_step q n x e es Greater was ih =
      ⊎_elim
      (λ a. let other : same q n ≡ false = same_laws.congr q e.0 n a ∙ same_laws.symm e.0 n ∙ ap is_eq was in
      ap (λ b. cond b (Some e.1) (lookup (same q) (insert_entry nat_cmp es n x))) a
      ∙ sym (ap (λ b. cond b (Some x) (cond (same q e.0) (Some e.1) (lookup (same q) es))) other ∙ ap (λ b. cond b (Some e.1) (lookup (same q) es)) a))
      (λ a. ap (λ b. cond b (Some e.1) (lookup (same q) (insert_entry nat_cmp es n x))) a ∙ ih
      ∙ sym (ap (λ o. cond (same q n) (Some x) o) (ap (λ b. cond b (Some e.1) (lookup (same q) es)) a)))
      (cases_Bool (same q e.0))

  -- what is found after a node came
  pub lookup_came : (q n : ℕ) (x : X) (es : List (ℕ × X)) → lookup (same q) (insert_entry nat_cmp es n x) ≡ cond (same q n) (Some x) (lookup (same q) es)
  lookup_came q n x [] = refl
  lookup_came q n x (e ∷ es) = insert_step q n x e es (nat_cmp n e.0) refl (lookup_came q n x es)

  all_came_step : (P : ℕ → Type 0) (n : ℕ) (x : X) (e : ℕ × X) (es : List (ℕ × X)) (o : Ordering) → P n → AllByRecursion P (keys_of (e ∷ es))
      → AllByRecursion P (keys_of (insert_entry nat_cmp es n x)) → AllByRecursion P (keys_of (match_ordering o ((n, x) ∷ e ∷ es) ((e.0, x) ∷ es) (e ∷ insert_entry nat_cmp es n x)))
  all_came_step P n x e es Less new h ih = (new, h)
  all_came_step P n x e es Equal new h ih = h
  all_came_step P n x e es Greater new h ih = (h.0, ih)

  all_came : (P : ℕ → Type 0) (n : ℕ) (x : X) (es : List (ℕ × X)) → P n → AllByRecursion P (keys_of es) → AllByRecursion P (keys_of (insert_entry nat_cmp es n x))
  all_came P n x [] new h = (new, tt)
  all_came P n x (e ∷ es) new h = all_came_step P n x e es (nat_cmp n e.0) new h (all_came P n x es new h.1)

  absent_step : (n : ℕ) (e : ℕ × X) (es : List (ℕ × X)) (b : Bool) → same n e.0 ≡ b → cond b (Some e.1) (lookup (same n) es) ≡ None → (same n e.0 ≡ false) × (lookup (same n) es ≡ None)
  absent_step n e es true was h = cc
  absent_step n e es false was h = (was, h)

  all_absent : (n : ℕ) (es : List (ℕ × X)) → lookup (same n) es ≡ None → AllByRecursion (λ y. same n y ≡ false) (keys_of es)
  all_absent n [] h = tt
  all_absent n (e ∷ es) h = let s = absent_step n e es (same n e.0) refl h in (s.0, all_absent n es s.1)

  distinct_came_step : (n : ℕ) (x : X) (e : ℕ × X) (es : List (ℕ × X)) (o : Ordering) → lookup (same n) (e ∷ es) ≡ None → IsDistinct same (keys_of (e ∷ es))
      → IsDistinct same (keys_of (insert_entry nat_cmp es n x)) → IsDistinct same (keys_of (match_ordering o ((n, x) ∷ e ∷ es) ((e.0, x) ∷ es) (e ∷ insert_entry nat_cmp es n x)))
  unfolding IsDistinct
  distinct_came_step n x e es Less none h ih = (all_absent n (e ∷ es) none, h)
  distinct_came_step n x e es Equal none h ih = h
  distinct_came_step n x e es Greater none h ih = (all_came (λ y. same e.0 y ≡ false) n x es (same_laws.symm e.0 n ∙ (absent_step n e es (same n e.0) refl none).0) h.0, ih)

  pub distinct_came : (n : ℕ) (x : X) (es : List (ℕ × X)) → lookup (same n) es ≡ None → IsDistinct same (keys_of es) → IsDistinct same (keys_of (insert_entry nat_cmp es n x))
  unfolding IsDistinct
  distinct_came n x [] none h = (tt, tt)
  distinct_came n x (e ∷ es) none h = distinct_came_step n x e es (nat_cmp n e.0) none h (distinct_came n x es (absent_step n e es (same n e.0) refl none).1 h.1)

  all_left_step : (P : ℕ → Type 0) (e : ℕ × X) (es rest : List (ℕ × X)) (b : Bool) → AllByRecursion P (keys_of (e ∷ es)) → AllByRecursion P (keys_of rest) → AllByRecursion P (keys_of (cond b es (e ∷ rest)))
  all_left_step P e es rest true h ih = h.1
  all_left_step P e es rest false h ih = (h.0, ih)

  all_left : (P : ℕ → Type 0) (n : ℕ) (es : List (ℕ × X)) → AllByRecursion P (keys_of es) → AllByRecursion P (keys_of (remove_entry (same n) es))
  all_left P n [] h = tt
  all_left P n (e ∷ es) h = all_left_step P e es (remove_entry (same n) es) (same n e.0) h (all_left P n es h.1)

  distinct_left_step : (e : ℕ × X) (es rest : List (ℕ × X)) (b : Bool) → IsDistinct same (keys_of (e ∷ es)) → AllByRecursion (λ y. same e.0 y ≡ false) (keys_of rest) → IsDistinct same (keys_of rest) → IsDistinct same (keys_of (cond b es (e ∷ rest)))
  unfolding IsDistinct
  distinct_left_step e es rest true h all ih = h.1
  distinct_left_step e es rest false h all ih = (all, ih)

  pub distinct_left : (n : ℕ) (es : List (ℕ × X)) → IsDistinct same (keys_of es) → IsDistinct same (keys_of (remove_entry (same n) es))
  unfolding IsDistinct
  distinct_left n [] h = tt
  distinct_left n (e ∷ es) h = distinct_left_step e es (remove_entry (same n) es) (same n e.0) h (all_left (λ y. same e.0 y ≡ false) n es h.0) (distinct_left n es h.1)
