-- Values by numbers, in order of these: look-ups decide what they are.
use Rattle.std.proofs.Common.{◌≡◌, ◌≢◌, ◌+◌, ℕ, List, [], ◌∷◌, Option, Some, None, Bool, true, false, cond, length, refl, sym, ap, ◌∙◌, arith, ⊎_elim}
use Rattle.std.specs.Prelude.{nat_eq}
use Rattle.std.specs.Option.{IsSome, is_some, unwrap_or}
use Rattle.std.specs.Ordering.{nat_cmp, is_eq, match_ordering, ordering_reverse}
use Rattle.std.specs.declared.cmp.Ordering.{Ordering}
use Rattle.std.specs.declared.cmp.Ordering.TheVariants.{Less, Equal, Greater}
use Rattle.std.specs.Cmp.{nat_cmp_total, nat_eq_equiv, unsigned_tied}
use Rattle.std.specs.BTreeMap.{insert_entry}
use Rattle.std.specs.Map.{keys_of, lookup, set_value, remove_entry}
use Rattle.std.specs.List.{AllByRecursion, IsDistinct}
use Rattle.std.specs.List.Sorted.{IsStrictlySortedBy}
use Rattle.std.proofs.lemmas.Bool.{cases_eq, eqb-true, eq-eqb, ne_eqb}
use Rattle.std.proofs.lemmas.Map.{lookup-set_value}
use Rattle.std.proofs.lemmas.Map.Keys.{IsDistinct-head, IsDistinct-tail}
use Rattle.dav_store.specs.Numbered.{in_order, AreClones}
use Rattle.dav_store.proofs.TreeNodes.{same, same_is, same_yes, same_no, lookup-put, lookup-taken, lookup-written, order-put, order-taken, order-written}

turned : (a b : ℕ) → same a b ≡ nat_eq b a
turned a b = ⊎_elim (λ e. same_yes a b e ∙ sym (eq-eqb b a (sym e))) (λ ne. same_no a b ne ∙ sym (ne_eqb b a (λ e. ne (sym e)))) (cases_eq a b)

module _ {X : Type 0} where
  -- ---- lists in order with the same look-ups are the same
  none_above : (k : ℕ) (es : List (ℕ × X)) → AllByRecursion (λ y. nat_cmp k y ≡ Less) (keys_of es) → lookup (same k) es ≡ None
  none_above k [] h = refl
  none_above k (e ∷ es) h = ap (λ o. cond (is_eq o) (Some e.1) (lookup (same k) es)) h.0 ∙ none_above k es h.1

  none_below_head : (k : ℕ) (e : ℕ × X) (es : List (ℕ × X)) → nat_cmp k e.0 ≡ Less → AllByRecursion (λ y. nat_cmp e.0 y ≡ Less) (keys_of es) → lookup (same k) (e ∷ es) ≡ None
  none_below_head k e es less h = none_above k (e ∷ es) (less, below (keys_of es) h) where
    below : (ks : List ℕ) → AllByRecursion (λ y. nat_cmp e.0 y ≡ Less) ks → AllByRecursion (λ y. nat_cmp k y ≡ Less) ks
    below [] h = h
    below (b ∷ ks) h = (nat_cmp_total.trans k e.0 b less h.0, below ks h.1)

  at_head : (e : ℕ × X) (es : List (ℕ × X)) → lookup (same e.0) (e ∷ es) ≡ Some e.1
  at_head e es = ap (λ b. cond b (Some e.1) (lookup (same e.0) es)) (same_yes e.0 e.0 refl)

  past_head : (q : ℕ) (e : ℕ × X) (es : List (ℕ × X)) → q ≢ e.0 → lookup (same q) (e ∷ es) ≡ lookup (same q) es
  past_head q e es ne = ap (λ b. cond b (Some e.1) (lookup (same q) es)) (same_no q e.0 ne)

  not_none : (x : X) → Some x ≢ None
  not_none x e = cc

  same_nodes_step : (e f : ℕ × X) (es fs : List (ℕ × X)) (o : Ordering) → nat_cmp e.0 f.0 ≡ o
      → AllByRecursion (λ y. nat_cmp e.0 y ≡ Less) (keys_of es) → AllByRecursion (λ y. nat_cmp f.0 y ≡ Less) (keys_of fs)
      → ((q : ℕ) → lookup (same q) (e ∷ es) ≡ lookup (same q) (f ∷ fs))
      → (((q : ℕ) → lookup (same q) es ≡ lookup (same q) fs) → es ≡ fs)
      → e ∷ es ≡ f ∷ fs
  same_nodes_step e f es fs Less was s t h ih = absurd (not_none e.1 (sym (at_head e es) ∙ h e.0 ∙ none_below_head e.0 f fs was t))
  same_nodes_step e f es fs Greater was s t h ih =
      absurd (not_none f.1 (sym (at_head f fs) ∙ sym (h f.0) ∙ none_below_head f.0 e es (nat_cmp_total.antisymm f.0 e.0 ∙ ap ordering_reverse was) s))
  same_nodes_step e f es fs Equal was s t h ih =
      let keys : e.0 ≡ f.0 = same_is e.0 f.0 (ap is_eq was) in
      let values : e.1 ≡ f.1 = ap (λ o. unwrap_or o e.1) (sym (at_head e es) ∙ h e.0 ∙ ap (λ b. cond b (Some f.1) (lookup (same e.0) fs)) (same_yes e.0 f.0 keys)) in
      let rest : es ≡ fs = ih (λ q. ⊎_elim
      (λ is. ap (λ k. lookup (same k) es) is ∙ none_above e.0 es s ∙ sym (none_above f.0 fs t) ∙ sym (ap (λ k. lookup (same k) fs) (is ∙ keys)))
      (λ ne. sym (past_head q e es ne) ∙ h q ∙ past_head q f fs (λ is. ne (is ∙ sym keys)))
      (cases_eq q e.0)) in
      λ i. (keys i, values i) ∷ rest i

  pub same_nodes : (es fs : List (ℕ × X)) → IsStrictlySortedBy nat_cmp (keys_of es) → IsStrictlySortedBy nat_cmp (keys_of fs)
      → ((q : ℕ) → lookup (same q) es ≡ lookup (same q) fs) → es ≡ fs
  unfolding IsStrictlySortedBy
  same_nodes [] [] s t h = refl
  same_nodes [] (f ∷ fs) s t h = absurd (not_none f.1 (sym (at_head f fs) ∙ sym (h f.0)))
  same_nodes (e ∷ es) [] s t h = absurd (not_none e.1 (sym (at_head e es) ∙ h e.0))
  same_nodes (e ∷ es) (f ∷ fs) s t h = same_nodes_step e f es fs (nat_cmp e.0 f.0) refl s.0 t.0 h (same_nodes es fs s.1 t.1)

  -- ---- what is in order
  pub ordered : (es : List (ℕ × X)) → IsStrictlySortedBy nat_cmp (keys_of (in_order es))
  unfolding IsStrictlySortedBy
  ordered [] = tt
  ordered (e ∷ es) = order-put e.0 e.1 (in_order es) (ordered es)

  pub found_in_order : (q : ℕ) (es : List (ℕ × X)) → lookup (same q) (in_order es) ≡ lookup (nat_eq q) es
  found_in_order q [] = refl
  found_in_order q (e ∷ es) =
      lookup-put q e.0 e.1 (in_order es) ∙ ap (λ b. cond b (Some e.1) (lookup (same q) (in_order es))) (turned e.0 q) ∙ ap (cond (nat_eq q e.0) (Some e.1)) (found_in_order q es)

  -- ---- what calls make
  pub in_order_put : (es fs : List (ℕ × X)) (k : ℕ) (v : X) → ((q : ℕ) → lookup (nat_eq q) fs ≡ cond (nat_eq k q) (Some v) (lookup (nat_eq q) es))
      → in_order fs ≡ insert_entry nat_cmp (in_order es) k v
  in_order_put es fs k v h =
      same_nodes (in_order fs) (insert_entry nat_cmp (in_order es) k v) (ordered fs) (order-put k v (in_order es) (ordered es))
      (λ q. found_in_order q fs ∙ h q ∙ (λ i. cond (sym (unsigned_tied k q) i) (Some v) (sym (found_in_order q es) i)) ∙ sym (lookup-put q k v (in_order es)))

  pub in_order_taken : (es fs : List (ℕ × X)) (k : ℕ) → ((q : ℕ) → lookup (nat_eq q) fs ≡ cond (nat_eq k q) None (lookup (nat_eq q) es))
      → in_order fs ≡ remove_entry (same k) (in_order es)
  in_order_taken es fs k h =
      same_nodes (in_order fs) (remove_entry (same k) (in_order es)) (ordered fs) (order-taken k (in_order es) (ordered es))
      (λ q. found_in_order q fs ∙ h q ∙ (λ i. cond (sym (unsigned_tied k q) i) None (sym (found_in_order q es) i)) ∙ sym (lookup-taken q k (in_order es) (ordered es)))

  missing_step : (w : X) (e : ℕ × X) (es rest : List (ℕ × X)) (was : Option X) (b : Bool) → cond b (Some e.1) was ≡ None → (was ≡ None → rest ≡ es) → cond b ((e.0, w) ∷ es) (e ∷ rest) ≡ e ∷ es
  missing_step w e es rest was true h ih = cc
  missing_step w e es rest was false h ih = ap (λ r. e ∷ r) (ih h)

  missing_stays : (test : ℕ → Bool) (w : X) (es : List (ℕ × X)) → lookup test es ≡ None → set_value test es w ≡ es
  missing_stays test w [] h = refl
  missing_stays test w (e ∷ es) h = missing_step w e es (set_value test es w) (lookup test es) (test e.0) h (missing_stays test w es)

  in_order_written_step : (es : List (ℕ × X)) (k : ℕ) (w : X) (o : Option X) → lookup (nat_eq k) es ≡ o
      → in_order (set_value (nat_eq k) es w) ≡ set_value (same k) (in_order es) w
  in_order_written_step es k w None was =
      ap in_order (missing_stays (nat_eq k) w es was) ∙ sym (missing_stays (same k) w (in_order es) (found_in_order k es ∙ was))
  in_order_written_step es k w (Some x) was =
      let some : IsSome (lookup (nat_eq k) es) = ap is_some was in
      same_nodes (in_order (set_value (nat_eq k) es w)) (set_value (same k) (in_order es) w) (ordered (set_value (nat_eq k) es w)) (order-written k w (in_order es) (ordered es))
      (λ q. found_in_order q (set_value (nat_eq k) es w)
      ∙ lookup-set_value nat_eq_equiv (nat_eq k) (λ x y t. ap (λ m. nat_eq m y) (eqb-true k x t)) q w es some
      ∙ (λ i. cond (sym (unsigned_tied k q) i) (Some w) (sym (found_in_order q es) i))
      ∙ sym (lookup-written q k w (in_order es) (ap is_some (found_in_order k es) ∙ some)))

  pub in_order_written : (es : List (ℕ × X)) (k : ℕ) (w : X) → in_order (set_value (nat_eq k) es w) ≡ set_value (same k) (in_order es) w
  in_order_written es k w = in_order_written_step es k w (lookup (nat_eq k) es) refl

  -- ---- how many there are
  length_put_step : (k : ℕ) (v : X) (e : ℕ × X) (es : List (ℕ × X)) (o : Ordering) → cond (is_eq o) (Some e.1) (lookup (same k) es) ≡ None
      → (lookup (same k) es ≡ None → length (insert_entry nat_cmp es k v) ≡ length es + 1)
      → length (match_ordering o ((k, v) ∷ e ∷ es) ((e.0, v) ∷ es) (e ∷ insert_entry nat_cmp es k v)) ≡ length (e ∷ es) + 1
  length_put_step k v e es Less h ih = omega arith
  length_put_step k v e es Equal h ih = cc
  length_put_step k v e es Greater h ih = omega (arith, ih h)

  length_put : (k : ℕ) (v : X) (es : List (ℕ × X)) → lookup (same k) es ≡ None → length (insert_entry nat_cmp es k v) ≡ length es + 1
  length_put k v [] h = omega arith
  length_put k v (e ∷ es) h = length_put_step k v e es (nat_cmp k e.0) h (length_put k v es)

  none_alike : (k : ℕ) (es : List (ℕ × X)) → AllByRecursion (λ y. nat_eq k y ≡ false) (keys_of es) → lookup (nat_eq k) es ≡ None
  none_alike k [] h = refl
  none_alike k (e ∷ es) h = ap (λ b. cond b (Some e.1) (lookup (nat_eq k) es)) h.0 ∙ none_alike k es h.1

  pub length_in_order : (es : List (ℕ × X)) → IsDistinct nat_eq (keys_of es) → length (in_order es) ≡ length es
  length_in_order [] h = refl
  length_in_order (e ∷ es) h =
      length_put e.0 e.1 (in_order es) (found_in_order e.0 es ∙ none_alike e.0 es (IsDistinct-head nat_eq e.0 (keys_of es) h))
      ∙ ap (λ n. n + 1) (length_in_order es (IsDistinct-tail nat_eq e.0 (keys_of es) h)) ∙ omega arith

  -- ---- clones
  cloned_put_step : (R : X → X → Type 0) (k l : ℕ) (v w : X) (e d : ℕ × X) (es ds : List (ℕ × X)) (o p : Ordering) → o ≡ p → l ≡ k → R v w → (d.0 ≡ e.0) × R e.1 d.1 → AreClones R es ds
      → AreClones R (insert_entry nat_cmp es k v) (insert_entry nat_cmp ds l w)
      → AreClones R (match_ordering o ((k, v) ∷ e ∷ es) ((e.0, v) ∷ es) (e ∷ insert_entry nat_cmp es k v)) (match_ordering p ((l, w) ∷ d ∷ ds) ((d.0, w) ∷ ds) (d ∷ insert_entry nat_cmp ds l w))
  cloned_put_step R k l v w e d es ds Less Less same_order is r z zs ih = ((is, r), (z, zs))
  cloned_put_step R k l v w e d es ds Equal Equal same_order is r z zs ih = ((z.0, r), zs)
  cloned_put_step R k l v w e d es ds Greater Greater same_order is r z zs ih = (z, ih)
  cloned_put_step R k l v w e d es ds Less Equal same_order is r z zs ih = absurd (cc)
  cloned_put_step R k l v w e d es ds Less Greater same_order is r z zs ih = absurd (cc)
  cloned_put_step R k l v w e d es ds Equal Less same_order is r z zs ih = absurd (cc)
  cloned_put_step R k l v w e d es ds Equal Greater same_order is r z zs ih = absurd (cc)
  cloned_put_step R k l v w e d es ds Greater Less same_order is r z zs ih = absurd (cc)
  cloned_put_step R k l v w e d es ds Greater Equal same_order is r z zs ih = absurd (cc)

  cloned_put : (R : X → X → Type 0) (k l : ℕ) (v w : X) (es ds : List (ℕ × X)) → l ≡ k → R v w → AreClones R es ds
      → AreClones R (insert_entry nat_cmp es k v) (insert_entry nat_cmp ds l w)
  cloned_put R k l v w [] [] is r z = ((is, r), tt)
  cloned_put R k l v w [] (d ∷ ds) is r z = absurd z
  cloned_put R k l v w (e ∷ es) [] is r z = absurd z
  cloned_put R k l v w (e ∷ es) (d ∷ ds) is r z =
      cloned_put_step R k l v w e d es ds (nat_cmp k e.0) (nat_cmp l d.0) (λ i. nat_cmp (sym is i) (sym z.0.0 i)) is r z.0 z.1 (cloned_put R k l v w es ds is r z.1)

  pub cloned_in_order : (R : X → X → Type 0) (es ds : List (ℕ × X)) → AreClones R es ds → AreClones R (in_order es) (in_order ds)
  cloned_in_order R [] [] z = z
  cloned_in_order R [] (d ∷ ds) z = absurd z
  cloned_in_order R (e ∷ es) [] z = absurd z
  cloned_in_order R (e ∷ es) (d ∷ ds) z = cloned_put R e.0 d.0 e.1 d.1 (in_order es) (in_order ds) z.0.0 z.0.1 (cloned_in_order R es ds z.1)
