-- The nodes at or below one, and a tree without them.
use Rattle.std.proofs.Common.{◌≡◌, ◌≢◌, ◌+◌, ◌<◌, ℕ, suc, List, [], ◌∷◌, length, Option, Some, None, Bool, true, false, cond, not, refl, sym, ap, subst, ◌∙◌, arith, ⊎_elim}
use Rattle.std.specs.Prelude.{◌==◌, position, filter}
use Rattle.std.specs.Option.{option_map_or, option_and_then, is_some, IsSome}
use Rattle.std.specs.Ordering.{nat_cmp, is_eq, ordering_reverse}
use Rattle.std.specs.declared.cmp.Ordering.{Ordering}
use Rattle.std.specs.declared.cmp.Ordering.TheVariants.{Less, Equal, Greater}
use Rattle.std.specs.Cmp.{nat_cmp_total, eq_by_cmp_equiv}
use Rattle.std.specs.Map.{lookup, keys_of, remove_entry}
use Rattle.std.specs.List.Sorted.{IsStrictlySortedBy}
use Rattle.std.proofs.lemmas.Bool.{cases_Bool, cases_eq, ne_eqb}
use Rattle.std.proofs.lemmas.Map.{lookup-none, length-set_value}
use Rattle.std.proofs.lemmas.Map.Entries.{lookup-filter-keys, lookup_head, lookup_tail, none_past_head, none_below_head}
use Rattle.std.proofs.lemmas.Map.Keys.{IsDistinct-from_sorted, sorted_tail}
use Rattle.std.proofs.lemmas.List.Kept.{IsStrictlySortedBy-filter}
use Rattle.dav_store.specs.Tree.{Tree, Node, IsRooted, node, with_node, without_place, first_number, first_child, has_children, times_listed, parent_of, place_of, unlinked_at, unlinked, deleted, subtree_deleted, is_within, is_at_or_below}
use Rattle.dav_store.proofs.TreeLists.{after_one}
use Rattle.dav_store.proofs.TreeSteps.{step_up}
use Rattle.dav_store.proofs.TreeClimbs.{climbs_far_enough}
use Rattle.dav_store.proofs.TreeForest.{Comes, here, above, Hangs, Drops, same_number, from_nowhere, comes_on, leaf_alone, no_parent, not_zero, no_loop, comes_after_drop, comes_before_drop}
use Rattle.dav_store.proofs.TreeNodes.{same, same_is, same_yes, same_no, times, times-cons, one_if, order-taken}
use Rattle.dav_store.proofs.TreeHangs.{IsInOrder, up, has_up, node_up, is_there, hangs, comes_within, below_comes, comes_below, set_here, set_there, gone_here, gone_there, bare_node, Listed, where_listed, unlinks, drops_deleted, rooted_deleted, one_self}
use Rattle.dav_store.proofs.TreeKept.{hit_some}

-- ---- lists
filter_step : {X : Type 0} (e : ℕ × X) (es : List (ℕ × X)) (ks : List ℕ) (b : Bool) → keys_of es ≡ ks → keys_of (cond b (e ∷ es) es) ≡ cond b (e.0 ∷ ks) ks
filter_step e es ks true h = ap (λ l. e.0 ∷ l) h
filter_step e es ks false h = h

filter_keys : {X : Type 0} (p : ℕ → Bool) (es : List (ℕ × X)) → keys_of (filter (λ e. p e.0) es) ≡ filter p (keys_of es)
filter_keys p [] = refl
filter_keys p (e ∷ es) = filter_step e (filter (λ e. p e.0) es) (filter p (keys_of es)) (p e.0) (filter_keys p es)

order-filter : {X : Type 0} (p : ℕ → Bool) (es : List (ℕ × X)) → IsStrictlySortedBy nat_cmp (keys_of es) → IsStrictlySortedBy nat_cmp (keys_of (filter (λ e. p e.0) es))
order-filter p es h = subst (IsStrictlySortedBy nat_cmp) (sym (filter_keys p es)) (IsStrictlySortedBy-filter nat_cmp p (keys_of es) h)

length_taken_step : {X : Type 0} (e : ℕ × X) (es rest : List (ℕ × X)) (o : Option X) (b : Bool) → IsSome (cond b (Some e.1) o) → (IsSome o → length rest + 1 ≡ length es) → length (cond b es (e ∷ rest)) + 1 ≡ length (e ∷ es)
length_taken_step e es rest o true some ih = omega arith
length_taken_step e es rest o false some ih = omega (arith, ih some)

length_taken : {X : Type 0} (n : ℕ) (es : List (ℕ × X)) → IsSome (lookup (same n) es) → length (remove_entry (same n) es) + 1 ≡ length es
length_taken n [] some = absurd (let e : false ≡ true = some in cc)
length_taken n (e ∷ es) some = length_taken_step e es (remove_entry (same n) es) (lookup (same n) es) (same n e.0) some (length_taken n es)

pub none_either : {X : Type 0} (b : Bool) (o : Option X) → o ≡ None → cond b o None ≡ None
none_either true o e = e
none_either false o e = refl

module _ {X : Type 0} where
  two_values : (a b : X) → Some a ≡ Some b → a ≡ b
  two_values a b e = cc

  some_none : (a : X) (o : Option X) → o ≡ Some a → o ≡ None → ⊥
  some_none a o s n = let e : Some a ≡ None = sym s ∙ n in cc

  -- the others, where the first are the same
  rest_alike : (e f : ℕ × X) (es fs : List (ℕ × X)) → e.0 ≡ f.0 → IsStrictlySortedBy nat_cmp (keys_of (e ∷ es)) → IsStrictlySortedBy nat_cmp (keys_of (f ∷ fs))
      → ((q : ℕ) → lookup (same q) (e ∷ es) ≡ lookup (same q) (f ∷ fs)) → (q : ℕ) → lookup (same q) es ≡ lookup (same q) fs
  rest_alike e f es fs k o p each q =
      ⊎_elim
      (λ h. lookup-none (same q) es (none_past_head (eq_by_cmp_equiv nat_cmp_total) q e es (IsDistinct-from_sorted nat_cmp (keys_of (e ∷ es)) o) (same_yes q e.0 h))
      ∙ sym (lookup-none (same q) fs (none_past_head (eq_by_cmp_equiv nat_cmp_total) q f fs (IsDistinct-from_sorted nat_cmp (keys_of (f ∷ fs)) p) (same_yes q f.0 (h ∙ k)))))
      (λ ne. sym (lookup_tail (same q) e es (same_no q e.0 ne)) ∙ each q ∙ lookup_tail (same q) f fs (same_no q f.0 (λ h. ne (h ∙ sym k))))
      (cases_eq q e.0)

  -- a number below all others is nowhere
  first_apart : (e f : ℕ × X) (es fs : List (ℕ × X)) → nat_cmp e.0 f.0 ≡ Less → IsStrictlySortedBy nat_cmp (keys_of (f ∷ fs)) → lookup (same e.0) (e ∷ es) ≡ lookup (same e.0) (f ∷ fs) → ⊥
  first_apart e f es fs less p each =
      some_none e.1 (lookup (same e.0) (e ∷ es)) (lookup_head (same e.0) e es (same_yes e.0 e.0 refl))
      (each ∙ lookup-none (same e.0) (f ∷ fs) (none_below_head nat_cmp_total e.0 f fs p less))

  lists_step : (e f : ℕ × X) (es fs : List (ℕ × X)) (c : Ordering) → nat_cmp e.0 f.0 ≡ c → IsStrictlySortedBy nat_cmp (keys_of (e ∷ es)) → IsStrictlySortedBy nat_cmp (keys_of (f ∷ fs))
      → ((q : ℕ) → lookup (same q) (e ∷ es) ≡ lookup (same q) (f ∷ fs)) → (((q : ℕ) → lookup (same q) es ≡ lookup (same q) fs) → es ≡ fs) → e ∷ es ≡ f ∷ fs
  lists_step e f es fs Less was o p each ih = absurd (first_apart e f es fs was p (each e.0))
  lists_step e f es fs Greater was o p each ih = absurd (first_apart f e fs es (nat_cmp_total.antisymm f.0 e.0 ∙ ap ordering_reverse was) o (sym (each f.0)))
  lists_step e f es fs Equal was o p each ih =
      let k : e.0 ≡ f.0 = same_is e.0 f.0 (ap is_eq was) in
      let v : e.1 ≡ f.1 = two_values e.1 f.1 (sym (lookup_head (same e.0) e es (same_yes e.0 e.0 refl)) ∙ each e.0 ∙ lookup_head (same e.0) f fs (same_yes e.0 f.0 k)) in
      let rest : es ≡ fs = ih (rest_alike e f es fs k o p each) in
      λ i. (k i, v i) ∷ rest i

  same_lists : (es fs : List (ℕ × X)) → IsStrictlySortedBy nat_cmp (keys_of es) → IsStrictlySortedBy nat_cmp (keys_of fs) → ((q : ℕ) → lookup (same q) es ≡ lookup (same q) fs) → es ≡ fs
  same_lists [] [] o p each = refl
  same_lists [] (f ∷ fs) o p each = absurd (some_none f.1 (lookup (same f.0) (f ∷ fs)) (lookup_head (same f.0) f fs (same_yes f.0 f.0 refl)) (sym (each f.0)))
  same_lists (e ∷ es) [] o p each = absurd (some_none e.1 (lookup (same e.0) (e ∷ es)) (lookup_head (same e.0) e es (same_yes e.0 e.0 refl)) (each e.0))
  same_lists (e ∷ es) (f ∷ fs) o p each =
      lists_step e f es fs (nat_cmp e.0 f.0) refl o p each
      (same_lists es fs (sorted_tail nat_cmp e.0 (keys_of es) o) (sorted_tail nat_cmp f.0 (keys_of fs) p))

-- ---- one step above a node below another
last_step : {up : ℕ → Option ℕ} {n l : ℕ} → Comes up n l → l ≢ n → (r : ℕ) × (up l ≡ Some r) × Comes up n r
last_step (here e) ne = absurd (ne e)
last_step (above {p = p} is c) ne = (p, is, c)

module _ {K D : Type 0} where
  -- trees in which each number finds the same node are the same
  alike : (t u : Tree K D) → IsInOrder t → IsInOrder u → t.last ≡ u.last → ((m : ℕ) → node t m ≡ node u m) → t ≡ u
  alike t u o p last each =
      let es : t.nodes ≡ u.nodes = same_lists t.nodes u.nodes o p each in
      λ i. record { nodes = es i; last = last i }

  -- the nodes that are left
  pub node_left : (t : Tree K D) (n m : ℕ) → node (subtree_deleted t n) m ≡ cond (not (is_at_or_below t n m)) (node (unlinked t n) m) None
  node_left t n m =
      lookup-filter-keys (same m) (λ k. not (is_at_or_below t n k)) (not (is_at_or_below t n m))
      (λ k e. ap (λ j. not (is_at_or_below t n j)) (sym (same_is m k e))) (unlinked t n).nodes

  left_none : (t : Tree K D) (n m : ℕ) → is_at_or_below t n m ≡ true → node (subtree_deleted t n) m ≡ None
  left_none t n m e = node_left t n m ∙ ap (λ b. cond (not b) (node (unlinked t n) m) None) e

  left_some : (t : Tree K D) (n m : ℕ) → is_at_or_below t n m ≡ false → node (subtree_deleted t n) m ≡ node (unlinked t n) m
  left_some t n m e = node_left t n m ∙ ap (λ b. cond (not b) (node (unlinked t n) m) None) e

  -- a node without one of its children
  abbrev dropped : ℕ → Option (Node K D) → Option (Node K D)
  dropped n o = option_map_or (λ x. option_map_or (λ i. Some (record x { children = without_place i x.children })) (position (λ e. e.1 == n) x.children) None) o None

  made_unlinked : (t : Tree K D) (n q : ℕ) (l : Listed t n q) → unlinked t n ≡ with_node t q (record l.parent { children = without_place l.place l.parent.children })
  made_unlinked t n q l =
      (λ j. unlinked_at t (l.parent_is j) (place_of t (l.parent_is j) n)) ∙ ap (unlinked_at t q) l.place_is
      ∙ ap (λ o. option_map_or (λ x. with_node t q (record x { children = without_place l.place x.children })) o t) l.is

  unlinked_other : (t : Tree K D) (n q m : ℕ) → Listed t n q → q ≢ m → node (unlinked t n) m ≡ node t m
  unlinked_other t n q m l ne = ap (λ u. node u m) (made_unlinked t n q l) ∙ set_there t q m l.parent (record l.parent { children = without_place l.place l.parent.children }) l.is ne

  unlinked_here : (t : Tree K D) (n q : ℕ) → Listed t n q → node (unlinked t n) q ≡ dropped n (node t q)
  unlinked_here t n q l =
      let y : Node K D = record l.parent { children = without_place l.place l.parent.children } in
      let place : position (λ e. e.1 == n) l.parent.children ≡ Some l.place = sym (ap (λ o. option_and_then (λ z. position (λ e. e.1 == n) z.children) o) l.is) ∙ l.place_is in
      ap (λ u. node u q) (made_unlinked t n q l) ∙ set_here t q l.parent y l.is
      ∙ sym (ap (dropped n) l.is ∙ ap (λ p. option_map_or (λ i. Some (record l.parent { children = without_place i l.parent.children })) p None) place)

  -- ---- the last one
  nobody_below : (t : Tree K D) (n p : ℕ) → IsRooted t → up t n ≡ Some p → has_children t n ≡ false → (a : ℕ) → up t a ≡ Some n → ⊥
  nobody_below t n p h is bare = no_parent (hangs t h) n (not_zero (hangs t h) n p is) (λ m. bare_node m (node t n) bare)

  not_below : (t : Tree K D) (n m : ℕ) → (Comes (up t) n m → ⊥) → is_at_or_below t n m ≡ false
  not_below t n m h = ⊎_elim (λ e. absurd (h (below_comes t n m e))) (λ e. e) (cases_Bool (is_at_or_below t n m))

  pub last_goes : (t : Tree K D) (n : ℕ) → IsRooted t → IsSome (node t n) → n ≢ 1 → has_children t n ≡ false → deleted t n ≡ subtree_deleted t n
  last_goes t n h some ne bare =
      let q = has_up t n some in
      let l = where_listed t n q.0 (hangs t h) q.1 ne in
      let order : IsInOrder (unlinked t n) = (unlinks t n q.0 h.in_order l).order in
      alike (deleted t n) (subtree_deleted t n) (order-taken n (unlinked t n).nodes order) (order-filter (λ k. not (is_at_or_below t n k)) (unlinked t n).nodes order) (ap (λ u. u.last) (made_unlinked t n q.0 l))
      (λ m. ⊎_elim
      (λ e. ap (node (deleted t n)) (sym e) ∙ gone_here (unlinked t n) n order ∙ sym (left_none t n n (comes_below t n some (here refl))) ∙ ap (node (subtree_deleted t n)) e)
      (λ other. gone_there (unlinked t n) n m order other
      ∙ sym (left_some t n m (not_below t n m (λ c. other (sym (leaf_alone (nobody_below t n q.0 h q.1 bare) c))))))
      (cases_eq n m))

  -- ---- one of those below
  not_root : (t : Tree K D) (n l : ℕ) → IsRooted t → IsSome (node t n) → n ≢ 1 → Comes (up t) n l → l ≢ n → l ≢ 1
  not_root t n l h some ne c other e =
      let hh = hangs t h in
      let q = has_up t n some in
      let w = last_step c other in
      let end : w.0 ≡ 0 = same_number w.0 0 (sym w.1 ∙ ap (up t) e ∙ hh.root) in
      let top : 0 ≡ n = from_nowhere hh.none (subst (λ m. Comes (up t) n m) end w.2) in
      absurd (omega (arith, top, not_zero hh n q.0 q.1))

  -- what it takes that a node without children below another goes
  pub record Shrinks (t : Tree K D) (n l : ℕ) : Type 0 where
    pub rooted : IsRooted (deleted t l)
    pub there : IsSome (node (deleted t l) n)
    pub parent : IsSome (node (deleted t l) (parent_of t l))
    pub below : is_at_or_below (deleted t l) n (parent_of t l) ≡ true
    pub left : subtree_deleted (deleted t l) n ≡ subtree_deleted t n
    pub fewer : length (deleted t l).nodes < length t.nodes

  module _ (t : Tree K D) (n l q r : ℕ) (h : IsRooted t) (is : up t n ≡ Some q) (ne : n ≢ 1) (is' : up t l ≡ Some r) (ne' : l ≢ 1) (other : l ≢ n) (c : Comes (up t) n r) (bare : has_children t l ≡ false) where
    hh : Hangs (up t) (times_listed t)
    hh = hangs t h

    low : Listed t l r
    low = where_listed t l r hh is' ne'

    high : Listed t n q
    high = where_listed t n q hh is ne

    fall : Drops (up t) (times_listed t) (up (deleted t l)) (times_listed (deleted t l)) l
    fall = drops_deleted t l r h is' ne' bare

    pos : 0 < l
    pos = not_zero hh l r is'

    new_rooted : IsRooted (deleted t l)
    new_rooted = rooted_deleted t l h (is_there t l r is') ne' bare

    new_up : up (deleted t l) n ≡ Some q
    new_up = fall.kept n (λ e. other (sym e)) ∙ is

    new_high : Listed (deleted t l) n q
    new_high = where_listed (deleted t l) n q (hangs (deleted t l) new_rooted) new_up ne

    order_low : IsInOrder (unlinked t l)
    order_low = (unlinks t l r h.in_order low).order

    node_stays : (m : ℕ) → l ≢ m → r ≢ m → node (deleted t l) m ≡ node t m
    node_stays m a b = gone_there (unlinked t l) l m order_low a ∙ unlinked_other t l r m low b

    childless : (a : ℕ) → up t a ≡ Some l → ⊥
    childless = nobody_below t l r h is' bare

    q_not_l : q ≢ l
    q_not_l e = childless n (is ∙ ap (λ x. Some x) e)

    q_not_r : q ≢ r
    q_not_r e = no_loop hh n q is (subst (λ m. Comes (up t) n m) (sym e) c)

    r_not_l : r ≢ l
    r_not_l e = childless l (is' ∙ ap (λ x. Some x) e)

    some_n : IsSome (node t n)
    some_n = is_there t n q is

    new_some : IsSome (node (deleted t l) n)
    new_some = is_there (deleted t l) n q new_up

    below_stays : (m : ℕ) → m ≢ l → is_at_or_below (deleted t l) n m ≡ is_at_or_below t n m
    below_stays m apart =
        ⊎_elim
        (λ e. comes_below (deleted t l) n new_some (comes_after_drop hh l pos fall (below_comes t n m e) apart) ∙ sym e)
        (λ e. not_below (deleted t l) n m (λ d. absurd (let yes : true ≡ false = sym (comes_below t n some_n (comes_before_drop hh l pos fall d apart)) ∙ e in cc)) ∙ sym e)
        (cases_Bool (is_at_or_below t n m))

    unlinked_stays : (m : ℕ) → l ≢ m → is_at_or_below t n m ≡ false → node (unlinked (deleted t l) n) m ≡ node (unlinked t n) m
    unlinked_stays m apart out =
        ⊎_elim
        (λ e. ap (node (unlinked (deleted t l) n)) (sym e) ∙ unlinked_here (deleted t l) n q new_high
        ∙ ap (dropped n) (node_stays q (λ k. q_not_l (sym k)) (λ k. q_not_r (sym k)))
        ∙ sym (unlinked_here t n q high) ∙ ap (node (unlinked t n)) e)
        (λ away. unlinked_other (deleted t l) n q m new_high away
        ∙ node_stays m apart (λ e. absurd (let yes : true ≡ false = sym (comes_below t n some_n (subst (λ k. Comes (up t) n k) e c)) ∙ out in cc))
        ∙ sym (unlinked_other t n q m high away))
        (cases_eq q m)

    each_left : (m : ℕ) → node (subtree_deleted (deleted t l) n) m ≡ node (subtree_deleted t n) m
    each_left m =
        ⊎_elim
        (λ e. ap (node (subtree_deleted (deleted t l) n)) (sym e) ∙ node_left (deleted t l) n l
        ∙ none_either (not (is_at_or_below (deleted t l) n l)) (node (unlinked (deleted t l) n) l) (unlinked_other (deleted t l) n q l new_high q_not_l ∙ gone_here (unlinked t l) l order_low)
        ∙ sym (left_none t n l (comes_below t n some_n (above is' c))) ∙ ap (node (subtree_deleted t n)) e)
        (λ apart. ⊎_elim
        (λ e. left_none (deleted t l) n m (below_stays m (λ k. apart (sym k)) ∙ e) ∙ sym (left_none t n m e))
        (λ e. left_some (deleted t l) n m (below_stays m (λ k. apart (sym k)) ∙ e) ∙ unlinked_stays m apart e ∙ sym (left_some t n m e))
        (cases_Bool (is_at_or_below t n m)))
        (cases_eq l m)

    order_left : (u : Tree K D) → IsInOrder (unlinked u n) → IsInOrder (subtree_deleted u n)
    order_left u o = order-filter (λ k. not (is_at_or_below u n k)) (unlinked u n).nodes o

    same_left : subtree_deleted (deleted t l) n ≡ subtree_deleted t n
    same_left =
        alike (subtree_deleted (deleted t l) n) (subtree_deleted t n)
        (order_left (deleted t l) (unlinks (deleted t l) n q new_rooted.in_order new_high).order) (order_left t (unlinks t n q h.in_order high).order)
        (ap (λ u. u.last) (made_unlinked t l r low)) each_left

    fewer_nodes : length (deleted t l).nodes < length t.nodes
    fewer_nodes =
        let y : Node K D = record low.parent { children = without_place low.place low.parent.children } in
        let as_many : length (unlinked t l).nodes ≡ length t.nodes = ap (λ u. length u.nodes) (made_unlinked t l r low) ∙ length-set_value (same r) t.nodes y in
        let some : IsSome (node (unlinked t l) l) = ap is_some (unlinked_other t l r l low r_not_l) ∙ is_there t l r is' in
        omega (arith, as_many, length_taken l (unlinked t l).nodes some)

    parent_at : parent_of t l ≡ r
    parent_at = low.parent_is

    some_r : IsSome (node t r)
    some_r = ap is_some low.is

    new_parent : IsSome (node (deleted t l) r)
    new_parent = let w = has_up t r some_r in is_there (deleted t l) r w.0 (fall.kept r r_not_l ∙ w.1)

    shrinks_by : Shrinks t n l
    shrinks_by = record {
      rooted = new_rooted;
      there = new_some;
      parent = subst (λ p. IsSome (node (deleted t l) p)) (sym parent_at) new_parent;
      below = ap (is_at_or_below (deleted t l) n) parent_at ∙ comes_below (deleted t l) n new_some (comes_after_drop hh l pos fall c r_not_l);
      left = same_left;
      fewer = fewer_nodes;
    }

  pub shrinks : (t : Tree K D) (n l : ℕ) → IsRooted t → IsSome (node t n) → n ≢ 1 → is_at_or_below t n l ≡ true → l ≢ n → has_children t l ≡ false → Shrinks t n l
  shrinks t n l h some ne at other bare =
      let q = has_up t n some in
      let c = below_comes t n l at in
      let w = last_step c other in
      shrinks_by t n l q.0 w.0 h q.1 ne w.1 (not_root t n l h some ne c other) other w.2 bare

  pub below_on : (t : Tree K D) (n p m : ℕ) → IsSome (node t n) → is_at_or_below t n p ≡ true → is_at_or_below t p m ≡ true → is_at_or_below t n m ≡ true
  below_on t n p m some a b = comes_below t n some (comes_on (below_comes t p m b) (below_comes t n p a))

  -- ---- down to a node without children
  first_at : (m : ℕ) (o : Option (Node K D)) → option_and_then (λ x. first_number x.children) o ≡ Some m → 0 < times m (option_map_or (λ z. z.children) o [])
  first_at m None e = absurd (let e : None ≡ Some m = e in cc)
  first_at m (Some x) e = first_in x.children e where
    first_in : (cs : List (K × ℕ)) → first_number cs ≡ Some m → 0 < times m cs
    first_in [] e = absurd (let e : None ≡ Some m = e in cc)
    first_in (d ∷ cs) e = let one : one_if d.1 m ≡ 1 = ap (λ a. one_if a m) (same_number d.1 m e) ∙ one_self m in omega (arith, one, times-cons m d cs)

  pub record Deeper (t : Tree K D) (top m k : ℕ) : Type 0 where
    pub there : IsSome (node t m)
    pub reaches : is_within (suc (k + 1)) t top m ≡ true
    pub not_before : is_within (k + 1) t top m ≡ false

  pub deeper : (t : Tree K D) (top at m k : ℕ) → IsRooted t → IsSome (node t top) → IsSome (node t at) → first_child t at ≡ Some m → is_within (suc k) t top at ≡ true → is_within k t top at ≡ false → Deeper t top m k
  deeper t top at m k h some stands first reaches before =
      let hh = hangs t h in
      let p = has_up t at stands in
      let is : up t m ≡ Some at = hit_some (up t m) at (subst (λ c. 0 < c) (hh.once at m (not_zero hh at p.0 p.1)) (first_at m (node t at) first)) in
      let other : m ≢ top = λ e. no_loop hh top at (ap (up t) (sym e) ∙ is) (comes_within t top (suc k) at reaches) in
      let y = node_up t m at is in
      let up_one : (f : ℕ) → is_within (suc f) t top m ≡ is_within f t top at = λ f. step_up t top m y.0 f y.1 (ne_eqb m top other) ∙ ap (is_within f t top) y.2 in
      record {
        there = is_there t m at is;
        reaches = ap (λ f. is_within (suc f) t top m) (after_one k) ∙ up_one (suc k) ∙ reaches;
        not_before = ap (λ f. is_within f t top m) (after_one k) ∙ up_one k ∙ before;
      }

  -- no way is as long as that
  pub too_far : (t : Tree K D) (top at k : ℕ) → IsSome (node t top) → k ≡ length t.nodes → is_within (suc k) t top at ≡ true → is_within k t top at ≡ false → ⊥
  too_far t top at k some end reaches before =
      let yes : true ≡ false = sym (climbs_far_enough K D t top at (suc k) some reaches) ∙ ap (λ f. is_within f t top at) (sym end) ∙ before in cc
