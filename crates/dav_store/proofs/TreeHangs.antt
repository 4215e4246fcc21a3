-- Where the nodes of a tree hang after each call.
use Rattle.std.proofs.Common.{◌≡◌, ◌≢◌, ◌+◌, ◌<◌, ℕ, zero, suc, List, [], ◌∷◌, length, Option, Some, None, Bool, true, false, cond, refl, sym, ap, subst, ◌∙◌, arith, ⊎_elim}
use Rattle.std.specs.Prelude.{◌==◌, if◌then◌else◌, position, slice_get}
use Rattle.std.specs.Option.{option_map, option_map_or, option_and_then, is_some, IsSome}
use Rattle.std.specs.Ordering.{nat_cmp}
use Rattle.std.specs.Map.{keys_of}
use Rattle.std.specs.List.Sorted.{IsStrictlySortedBy}
use Rattle.std.proofs.lemmas.Bool.{cases_Bool, cases_eq, eqb-true, eq-eqb, ne_eqb}
use Rattle.dav_store.specs.Tree.{Tree, Node, IsRooted, node, with_node, without, without_place, has_children, has_some, times_listed, is_within, is_at_or_below, parent_of, place_of, unlinked_at, unlinked, deleted}
use Rattle.dav_store.proofs.TreeSteps.{step_up, at_top}
use Rattle.dav_store.proofs.TreeClimbs.{climbs_far_enough}
use Rattle.dav_store.proofs.TreeForest.{Comes, here, above, Hangs, Drops, hit, hit_is, hit_other, same_number, hangs_after_drop, parent_there, not_zero}
use Rattle.dav_store.proofs.TreeNodes.{same, same_yes, same_no, lookup-written, lookup-taken, order-taken, order-written, times, one_if, times-without_place, found}

pub one_other : (n m : ℕ) → m ≢ n → one_if n m ≡ 0
one_other n m ne = ap (λ b. if b then 1 else 0) (ne_eqb n m (λ e. ne (sym e)))

pub one_self : (n : ℕ) → one_if n n ≡ 1
one_self n = ap (λ b. if b then 1 else 0) (eq-eqb n n refl)

module _ {K D : Type 0} where
  abbrev pub IsInOrder : Tree K D → Type 0
  IsInOrder t = IsStrictlySortedBy nat_cmp (keys_of t.nodes)

  -- the number of the parent of a node that is there
  abbrev pub up : Tree K D → ℕ → Option ℕ
  up t n = option_map (λ x. x.parent) (node t n)

  hit_parent : (o : Option (Node K D)) (p : ℕ) → (if option_map_or (λ x. x.parent == p) o false then 1 else 0) ≡ hit (option_map (λ x. x.parent) o) p
  hit_parent None p = refl
  hit_parent (Some x) p = refl

  some_parent : (o : Option (Node K D)) → IsSome o → (p : ℕ) × (option_map (λ x. x.parent) o ≡ Some p)
  some_parent None some = absurd (let e : false ≡ true = some in cc)
  some_parent (Some x) some = (x.parent, refl)

  parent_some : (o : Option (Node K D)) (p : ℕ) → option_map (λ x. x.parent) o ≡ Some p → (x : Node K D) × (o ≡ Some x) × (x.parent ≡ p)
  parent_some None p e = absurd (let e : None ≡ Some p = e in cc)
  parent_some (Some x) p e = (x, refl, same_number x.parent p e)

  no_parent_none : (o : Option (Node K D)) → option_map (λ x. x.parent) o ≡ None → o ≡ None
  no_parent_none None e = refl
  no_parent_none (Some x) e = absurd (let e : Some x.parent ≡ None = e in cc)

  pub has_up : (t : Tree K D) (n : ℕ) → IsSome (node t n) → (p : ℕ) × (up t n ≡ Some p)
  has_up t n some = some_parent (node t n) some

  pub node_up : (t : Tree K D) (n p : ℕ) → up t n ≡ Some p → (x : Node K D) × (node t n ≡ Some x) × (x.parent ≡ p)
  node_up t n p e = parent_some (node t n) p e

  pub is_there : (t : Tree K D) (n p : ℕ) → up t n ≡ Some p → IsSome (node t n)
  is_there t n p e = ap is_some (node_up t n p e).1

  -- ---- climbs
  module _ (t : Tree K D) (top : ℕ) where
    comes_step : (f n : ℕ) (b : Bool) (o : Option (Node K D)) → (n == top) ≡ b → node t n ≡ o → ((m : ℕ) → is_within f t top m ≡ true → Comes (up t) top m)
        → (if b then true else option_map_or (λ x. is_within f t top x.parent) o false) ≡ true → Comes (up t) top n
    comes_step f n true o was is ih e = here (eqb-true n top was)
    comes_step f n false None was is ih e = absurd (let e : false ≡ true = e in cc)
    comes_step f n false (Some x) was is ih e = above (ap (option_map (λ x. x.parent)) is) (ih x.parent e)

    pub comes_within : (f n : ℕ) → is_within f t top n ≡ true → Comes (up t) top n
    comes_within zero n e = absurd (let e : false ≡ true = e in cc)
    comes_within (suc f) n e = comes_step f n (n == top) (node t n) refl refl (comes_within f) e

    within_step : (n p : ℕ) (x : Node K D) (f : ℕ) → node t n ≡ Some x → x.parent ≡ p → is_within f t top p ≡ true → (g : ℕ) × (is_within g t top n ≡ true)
    within_step n p x f is at e =
        ⊎_elim
        (λ b. (1, at_top t top n 1 (omega arith) (eqb-true n top b)))
        (λ b. (suc f, step_up t top n x f is b ∙ ap (is_within f t top) at ∙ e))
        (cases_Bool (n == top))

    pub within_comes : {n : ℕ} → Comes (up t) top n → (f : ℕ) × (is_within f t top n ≡ true)
    within_comes (here e) = (1, at_top t top _ 1 (omega arith) e)
    within_comes {n = n} (above {p = p} is c) =
        let w = within_comes c in let x = node_up t n p is in within_step n p x.0 w.0 x.1 x.2 w.1

    pub below_comes : (n : ℕ) → is_at_or_below t top n ≡ true → Comes (up t) top n
    below_comes n e = comes_within (length t.nodes) n e

    pub comes_below : {n : ℕ} → IsSome (node t top) → Comes (up t) top n → is_at_or_below t top n ≡ true
    comes_below {n = n} some c = let w = within_comes c in climbs_far_enough K D t top n w.0 some w.1

  pub hangs : (t : Tree K D) → IsRooted t → Hangs (up t) (times_listed t)
  hangs t h = record {
    root = h.root;
    none = ap (option_map (λ x. x.parent)) h.none;
    once = λ p n pos. h.once p n pos ∙ hit_parent (node t n) p;
    reached = λ n p is. below_comes t 1 n (h.reached n (is_there t n p is));
  }

  pub rooted : (t : Tree K D) → IsInOrder t → Hangs (up t) (times_listed t) → IsRooted t
  rooted t order h = record {
    in_order = order;
    none = no_parent_none (node t 0) h.none;
    root = h.root;
    once = λ p n pos. h.once p n pos ∙ sym (hit_parent (node t n) p);
    reached = λ n some. let w = has_up t n some in comes_below t 1 (is_there t 1 0 h.root) (h.reached n w.0 w.1);
  }

  -- ---- a node that is written, and one that goes
  pub node-set : (t : Tree K D) (n q : ℕ) (x y : Node K D) → node t n ≡ Some x → node (with_node t n y) q ≡ cond (same n q) (Some y) (node t q)
  node-set t n q x y is = lookup-written q n y t.nodes (ap is_some is)

  pub set_here : (t : Tree K D) (n : ℕ) (x y : Node K D) → node t n ≡ Some x → node (with_node t n y) n ≡ Some y
  set_here t n x y is = node-set t n n x y is ∙ ap (λ b. cond b (Some y) (node t n)) (same_yes n n refl)

  pub set_there : (t : Tree K D) (n q : ℕ) (x y : Node K D) → node t n ≡ Some x → n ≢ q → node (with_node t n y) q ≡ node t q
  set_there t n q x y is ne = node-set t n q x y is ∙ ap (λ b. cond b (Some y) (node t q)) (same_no n q ne)

  pub gone_here : (t : Tree K D) (n : ℕ) → IsInOrder t → node (without t n) n ≡ None
  gone_here t n o = lookup-taken n n t.nodes o ∙ ap (λ b. cond b None (node t n)) (same_yes n n refl)

  pub gone_there : (t : Tree K D) (n q : ℕ) → IsInOrder t → n ≢ q → node (without t n) q ≡ node t q
  gone_there t n q o ne = lookup-taken q n t.nodes o ∙ ap (λ b. cond b None (node t q)) (same_no n q ne)

  -- the children of a node, from what is found of it
  pub listed_of : (t u : Tree K D) (a b m : ℕ) → node t a ≡ node u b → times_listed t a m ≡ times_listed u b m
  listed_of t u a b m e = ap (λ o. times m (option_map_or (λ x. x.children) o [])) e

  -- what it takes that a child is listed once less
  pub record Unlinks (t u : Tree K D) (q n : ℕ) : Type 0 where
    pub order : IsInOrder u
    pub up_same : (m : ℕ) → up u m ≡ up t m
    pub elsewhere : (a m : ℕ) → a ≢ q → times_listed u a m ≡ times_listed t a m
    pub at : (m : ℕ) → times_listed u q m + one_if n m ≡ times_listed t q m

  pub with_children : (t : Tree K D) (q : ℕ) (x : Node K D) (cs : List (K × ℕ)) → node t q ≡ Some x → (m : ℕ) → up (with_node t q (record x { children = cs })) m ≡ up t m
  with_children t q x cs is m =
      ⊎_elim
      (λ e. ap (λ b. up (with_node t q (record x { children = cs })) b) (sym e) ∙ ap (option_map (λ x. x.parent)) (set_here t q x (record x { children = cs }) is ∙ refl) ∙ sym (ap (option_map (λ x. x.parent)) is) ∙ ap (up t) e)
      (λ ne. ap (option_map (λ x. x.parent)) (set_there t q m x (record x { children = cs }) is ne))
      (cases_eq q m)

  unlinks_set : (t : Tree K D) (q : ℕ) (x : Node K D) (i n : ℕ) (e : K × ℕ) → IsInOrder t → node t q ≡ Some x → slice_get x.children i ≡ Some e → e.1 ≡ n
      → Unlinks t (with_node t q (record x { children = without_place i x.children })) q n
  unlinks_set t q x i n e order is at num =
      let y : Node K D = record x { children = without_place i x.children } in record {
        order = order-written q y t.nodes order;
        up_same = with_children t q x (without_place i x.children) is;
        elsewhere = λ a m ne. ap (λ o. times m (option_map_or (λ z. z.children) o [])) (set_there t q a x y is (λ h. ne (sym h)));
        at = λ m.
            ap (λ o. times m (option_map_or (λ z. z.children) o []) + one_if n m) (set_here t q x y is)
            ∙ ap (λ k. times m (without_place i x.children) + one_if k m) (sym num)
            ∙ times-without_place m i e x.children at
            ∙ sym (ap (λ o. times m (option_map_or (λ z. z.children) o [])) is);
      }

  pub unlinks_at : (t : Tree K D) (q : ℕ) (x : Node K D) (i n : ℕ) (e : K × ℕ) → IsInOrder t → node t q ≡ Some x → slice_get x.children i ≡ Some e → e.1 ≡ n
      → Unlinks t (unlinked_at t q (Some i)) q n
  unlinks_at t q x i n e order is at num =
      subst (λ u. Unlinks t u q n)
      (sym (ap (λ o. option_map_or (λ x. with_node t q (record x { children = without_place i x.children })) o t) is))
      (unlinks_set t q x i n e order is at num)

  -- ---- a node without children goes
  listing : (n : ℕ) (o : Option (Node K D)) → 0 < times n (option_map_or (λ x. x.children) o []) → (x : Node K D) × (o ≡ Some x)
  listing n None some = absurd (omega (arith, some))
  listing n (Some x) some = (x, refl)

  pub bare_node : (n : ℕ) (o : Option (Node K D)) → option_map_or (λ x. has_some x.children) o false ≡ false → times n (option_map_or (λ x. x.children) o []) ≡ 0
  bare_node n None e = refl
  bare_node n (Some x) e = bare_list x.children e where
    bare_list : (cs : List (K × ℕ)) → has_some cs ≡ false → times n cs ≡ 0
    bare_list [] e = refl
    bare_list (c ∷ cs) e = absurd (let e : true ≡ false = e in cc)

  -- where a node hangs, it is found
  pub record Listed (t : Tree K D) (n q : ℕ) : Type 0 where
    pub parent : Node K D
    pub is : node t q ≡ Some parent
    pub place : ℕ
    pub entry : K × ℕ
    pub at : slice_get parent.children place ≡ Some entry
    pub number : entry.1 ≡ n
    pub place_is : place_of t q n ≡ Some place
    pub parent_is : parent_of t n ≡ q

  pub where_listed : (t : Tree K D) (n q : ℕ) → Hangs (up t) (times_listed t) → up t n ≡ Some q → n ≢ 1 → Listed t n q
  where_listed t n q h is ne =
      let x = node_up t n q is in
      let one : times_listed t q n ≡ 1 = h.once q n (parent_there h n q is ne) ∙ hit_is (up t n) q is in
      let y = listing n (node t q) (omega (arith, one)) in
      let w = found n y.0.children (omega (arith, one, sym (ap (λ o. times n (option_map_or (λ z. z.children) o [])) y.1))) in
      record {
        parent = y.0;
        is = y.1;
        place = w.0;
        entry = w.1;
        at = w.3;
        number = w.4;
        place_is = ap (λ o. option_and_then (λ z. position (λ e. e.1 == n) z.children) o) y.1 ∙ w.2;
        parent_is = ap (λ o. option_map_or (λ z. z.parent) o 0) x.1 ∙ x.2;
      }

  pub unlinks : (t : Tree K D) (n q : ℕ) → IsInOrder t → Listed t n q → Unlinks t (unlinked t n) q n
  unlinks t n q order l =
      subst (λ u. Unlinks t u q n)
      (sym ((λ j. unlinked_at t (l.parent_is j) (place_of t (l.parent_is j) n)) ∙ ap (unlinked_at t q) l.place_is))
      (unlinks_at t q l.parent l.place n l.entry order l.is l.at l.number)

  pub unlisted_zero : (t : Tree K D) (p m : ℕ) → Hangs (up t) (times_listed t) → p ≡ 0 → times_listed t p m ≡ 0
  unlisted_zero t p m h e = ap (λ a. times_listed t a m) e ∙ ap (λ o. times m (option_map_or (λ z. z.children) o [])) (no_parent_none (node t 0) h.none)

  -- no other node lists it
  pub unlisted_elsewhere : (t : Tree K D) (p n q : ℕ) → Hangs (up t) (times_listed t) → up t n ≡ Some q → p ≢ q → times_listed t p n ≡ 0
  unlisted_elsewhere t p n q h is ne =
      ⊎_elim
      (λ e. unlisted_zero t p n h e)
      (λ some. h.once p n (omega (arith, some)) ∙ hit_other (up t n) p (λ e. ne (sym (same_number q p (sym is ∙ e)))))
      (cases_eq p 0)

  pub drops : (t u : Tree K D) (n q : ℕ) → Hangs (up t) (times_listed t) → up t n ≡ Some q → n ≢ 1 → has_children t n ≡ false → Unlinks t u q n
      → Drops (up t) (times_listed t) (up (without u n)) (times_listed (without u n)) n
  drops t u n q h is ne bare l =
      let nothing : (m : ℕ) → times_listed (without u n) n m ≡ 0 = λ m. ap (λ o. times m (option_map_or (λ z. z.children) o [])) (gone_here u n l.order) in
      let others : (a m : ℕ) → a ≢ n → times_listed (without u n) a m ≡ times_listed u a m =
      λ a m other. ap (λ o. times m (option_map_or (λ z. z.children) o [])) (gone_there u n a l.order (λ e. other (sym e))) in
      record {
        gone = ap (option_map (λ x. x.parent)) (gone_here u n l.order);
        kept = λ m other. ap (option_map (λ x. x.parent)) (gone_there u n m l.order (λ e. other (sym e))) ∙ l.up_same m;
        bare = λ m. bare_node m (node t n) bare;
        empty = nothing;
        dropped = λ p.
            ⊎_elim
            (λ e. ap (λ a. times_listed (without u n) a n) e ∙ nothing n)
            (λ other. others p n other ∙ ⊎_elim
            (λ e. ap (λ a. times_listed u a n) e ∙ last_one (l.at n) (h.once q n (parent_there h n q is ne) ∙ hit_is (up t n) q is))
            (λ away. l.elsewhere p n away ∙ unlisted_elsewhere t p n q h is away)
            (cases_eq p q))
            (cases_eq p n);
        same = λ a m other apart.
            others a m other ∙ ⊎_elim
            (λ e. ap (λ b. times_listed u b m) e ∙ none_less m (l.at m) (one_other n m apart) ∙ ap (λ b. times_listed t b m) (sym e))
            (λ away. l.elsewhere a m away)
            (cases_eq a q);
      } where
        last_one : times_listed u q n + one_if n n ≡ times_listed t q n → times_listed t q n ≡ 1 → times_listed u q n ≡ 0
        last_one e one = omega (arith, e, one, one_self n)

        none_less : (m : ℕ) → times_listed u q m + one_if n m ≡ times_listed t q m → one_if n m ≡ 0 → times_listed u q m ≡ times_listed t q m
        none_less m e nothing = omega (arith, e, nothing)

  pub drops_deleted : (t : Tree K D) (n q : ℕ) → IsRooted t → up t n ≡ Some q → n ≢ 1 → has_children t n ≡ false
      → Drops (up t) (times_listed t) (up (deleted t n)) (times_listed (deleted t n)) n
  drops_deleted t n q h is ne bare =
      drops t (unlinked t n) n q (hangs t h) is ne bare (unlinks t n q h.in_order (where_listed t n q (hangs t h) is ne))

  pub rooted_deleted : (t : Tree K D) (n : ℕ) → IsRooted t → IsSome (node t n) → n ≢ 1 → has_children t n ≡ false → IsRooted (deleted t n)
  rooted_deleted t n h some ne bare =
      let w = has_up t n some in
      let l = unlinks t n w.0 h.in_order (where_listed t n w.0 (hangs t h) w.1 ne) in
      rooted (deleted t n) (order-taken n (unlinked t n).nodes l.order)
      (hangs_after_drop (hangs t h) n (not_zero (hangs t h) n w.0 w.1) (drops_deleted t n w.0 h w.1 ne bare) ne)
