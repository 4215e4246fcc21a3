-- What holds of every tree holds after each call.
use Rattle.std.proofs.Common.{◌≡◌, ◌≢◌, ◌+◌, ◌<◌, ℕ, List, [], ◌∷◌, Option, Some, None, Bool, true, false, cond, refl, sym, ap, subst, ◌∙◌, arith, ⊎_elim}
use Rattle.std.specs.Prelude.{◌==◌, ◌||◌, not, if◌then◌else◌, is_none, slice_get}
use Rattle.std.specs.Option.{option_or, option_map, option_map_or, option_and_then, IsSome}
use Rattle.dav_core.specs.Numbers.{max_u64}
use Rattle.std.specs.Ordering.{nat_cmp}
use Rattle.std.specs.Map.{lookup, keys_of}
use Rattle.std.specs.List.{AllZip}
use Rattle.std.specs.List.Sorted.{IsStrictlySortedBy}
use Rattle.std.proofs.lemmas.Bool.{cases_Bool, cases_eq, eqb-false, eq-eqb, ne_eqb, or_parts}
use Rattle.indexmap.specs.IndexMap.{insert_entry as put_key}
use Rattle.dav_core.specs.declared.errors.FsError.{FsError}
use Rattle.dav_core.specs.declared.errors.FsError.TheVariants.{NotFound, Exists, Forbidden, GeneralFailure}
use Rattle.dav_store.specs.Tree.{Tree, Node, IsRooted, IsListedAs, IsCloneOfNode, IsCloneOfTree, node, with_node, with_value, has_children, times_listed, parent_of, place_of, unlinked_at, linked, seated, child, is_child, is_at_or_below, moved_over, moved, root_id, add_refusal, move_refusal, leaf, grown, added, single, key_refusal}
use Rattle.dav_store.proofs.TreeForest.{here, Hangs, hit, hit_is, hit_other, same_number, no_number, leaf_alone, no_parent, not_zero, parent_there}
use Rattle.dav_store.proofs.TreeNodes.{same, same_yes, same_no, same_is, lookup-put, order-written, order-put, times, times-cons, one_if, times-put_key, place-put_key}
use Rattle.dav_store.proofs.TreeHangs.{IsInOrder, up, has_up, comes_below, node_up, hangs, rooted, set_here, set_there, Listed, where_listed, Unlinks, unlinks_at, unlisted_elsewhere, unlisted_zero, one_other, one_self}
use Rattle.dav_store.proofs.TreePlaces.{part, part_yes, part_no, part_zero, times_old, Placed, OldIs, rooted_placed}

pub hit_some : (o : Option ℕ) (p : ℕ) → 0 < hit o p → o ≡ Some p
hit_some None p some = absurd (omega (arith, some))
hit_some (Some q) p some = ⊎_elim (λ e. ap (λ m. Some m) e) (λ ne. absurd (let zero : hit (Some q) p ≡ 0 = ap (λ b. if b then 1 else 0) (ne_eqb q p ne) in omega (arith, some, zero))) (cases_eq q p)

-- a number that a look-up finds stands among the children
looked_up_step : {K : Type 0} (o : ℕ) (e : K × ℕ) (es : List (K × ℕ)) (b : Bool) (rest : Option ℕ) → cond b (Some e.1) rest ≡ Some o → (rest ≡ Some o → 0 < times o es) → 0 < times o (e ∷ es)
looked_up_step o e es true rest h ih = let is : one_if e.1 o ≡ 1 = ap (λ b. if b then 1 else 0) (eq-eqb e.1 o (same_number e.1 o h)) in omega (arith, is, times-cons o e es)
looked_up_step o e es false rest h ih = omega (arith, ih h, times-cons o e es)

pub looked_up : {K : Type 0} (test : K → Bool) (o : ℕ) (es : List (K × ℕ)) → lookup test es ≡ Some o → 0 < times o es
looked_up test o [] h = absurd (let h : None ≡ Some o = h in cc)
looked_up test o (e ∷ es) h = looked_up_step o e es (test e.0) (lookup test es) h (looked_up test o es)

refusal_bare : (over b : Bool) → (if not over || b then Some Exists else None) ≡ None → b ≡ false
refusal_bare over false e = refl
refusal_bare true true e = absurd (let e : Some Exists ≡ None = e in cc)
refusal_bare false true e = absurd (let e : Some Exists ≡ None = e in cc)

not_first : (b : Bool) (x : FsError) (r : Option FsError) → (if b then Some x else r) ≡ None → (b ≡ false) × (r ≡ None)
not_first true x r e = absurd (let e : Some x ≡ None = e in cc)
not_first false x r e = (refl, e)

first_none : (a b : Option FsError) → option_or a b ≡ None → a ≡ None
first_none None b e = refl
first_none (Some x) b e = absurd (let e : Some x ≡ None = e in cc)

some_not_none : {X : Type 0} (o : Option X) → is_none o ≡ false → IsSome o
some_not_none None e = absurd (let e : true ≡ false = e in cc)
some_not_none (Some x) e = refl

module _ {K D : Type 0} where
  -- the same parents and the same children
  same_hangs : (t u : Tree K D) → Hangs (up t) (times_listed t) → ((m : ℕ) → up u m ≡ up t m) → ((a m : ℕ) → times_listed u a m ≡ times_listed t a m) → Hangs (up u) (times_listed u)
  same_hangs t u h e f = subst (λ l. Hangs (up u) l) (λ i a m. sym (f a m) i) (subst (λ g. Hangs g (times_listed t)) (λ i m. sym (e m) i) h)

  pub times_at : (t : Tree K D) (a m : ℕ) (x : Node K D) → node t a ≡ Some x → times_listed t a m ≡ times m x.children
  times_at t a m x is = ap (λ o. times m (option_map_or (λ z. z.children) o [])) is

  -- ---- another node in the place of one
  up_set : (t : Tree K D) (n : ℕ) (x y : Node K D) → node t n ≡ Some x → y.parent ≡ x.parent → (m : ℕ) → up (with_node t n y) m ≡ up t m
  up_set t n x y is e m =
      ⊎_elim
      (λ k. ap (up (with_node t n y)) (sym k) ∙ ap (option_map (λ z. z.parent)) (set_here t n x y is) ∙ ap (λ p. Some p) e ∙ sym (ap (option_map (λ z. z.parent)) is) ∙ ap (up t) k)
      (λ ne. ap (option_map (λ z. z.parent)) (set_there t n m x y is ne))
      (cases_eq n m)

  times_set : (t : Tree K D) (n : ℕ) (x y : Node K D) → node t n ≡ Some x → y.children ≡ x.children → (a m : ℕ) → times_listed (with_node t n y) a m ≡ times_listed t a m
  times_set t n x y is e a m =
      ⊎_elim
      (λ k. ap (λ b. times_listed (with_node t n y) b m) (sym k) ∙ times_at (with_node t n y) n m y (set_here t n x y is) ∙ ap (times m) e ∙ sym (times_at t n m x is) ∙ ap (λ b. times_listed t b m) k)
      (λ ne. ap (λ o. times m (option_map_or (λ z. z.children) o [])) (set_there t n a x y is ne))
      (cases_eq n a)

  value_step : (t : Tree K D) (n : ℕ) (w : D) (o : Option (Node K D)) → node t n ≡ o → IsRooted t → IsRooted (option_map_or (λ x. with_node t n (record x { value = w })) o t)
  value_step t n w None is h = h
  value_step t n w (Some x) is h =
      let y : Node K D = record x { value = w } in
      rooted (with_node t n y) (order-written n y t.nodes h.in_order) (same_hangs t (with_node t n y) (hangs t h) (up_set t n x y is refl) (times_set t n x y is refl))

  pub rooted_with_value : (t : Tree K D) (n : ℕ) (w : D) → IsRooted t → IsRooted (with_value t n w)
  rooted_with_value t n w h = value_step t n w (node t n) refl h

  -- ---- a child under a key
  record Links (t v : Tree K D) (p n : ℕ) (old : Option ℕ) : Type 0 where
    order : IsInOrder v
    up_same : (m : ℕ) → up v m ≡ up t m
    elsewhere : (a m : ℕ) → a ≢ p → times_listed v a m ≡ times_listed t a m
    at : (m : ℕ) → times_listed v p m + times_old old m ≡ times_listed t p m + one_if n m

  module _ (eq : K → K → Bool) where
    pub child_at : (t : Tree K D) (p : ℕ) (k : K) (x : Node K D) → node t p ≡ Some x → child eq t p k ≡ lookup (eq k) x.children
    child_at t p k x is = ap (λ o. option_and_then (λ z. lookup (eq k) z.children) o) is

    linked_at : (t : Tree K D) (p n : ℕ) (k : K) (x : Node K D) → node t p ≡ Some x → linked eq t p k n ≡ with_node t p (record x { children = put_key eq x.children k n })
    linked_at t p n k x is = ap (λ o. option_map_or (λ z. with_node t p (record z { children = put_key eq z.children k n })) o t) is

    links_set : (t : Tree K D) (p n : ℕ) (k : K) (x : Node K D) → IsInOrder t → node t p ≡ Some x → Links t (with_node t p (record x { children = put_key eq x.children k n })) p n (lookup (eq k) x.children)
    links_set t p n k x order is =
        let y : Node K D = record x { children = put_key eq x.children k n } in record {
          order = order-written p y t.nodes order;
          up_same = up_set t p x y is refl;
          elsewhere = λ a m ne. ap (λ o. times m (option_map_or (λ z. z.children) o [])) (set_there t p a x y is (λ e. ne (sym e)));
          at = λ m.
              ap (λ c. c + times_old (lookup (eq k) x.children) m) (times_at (with_node t p y) p m y (set_here t p x y is))
              ∙ times-put_key eq k m n x.children
              ∙ sym (ap (λ c. c + one_if n m) (times_at t p m x is));
        }

    links : (t : Tree K D) (p n : ℕ) (k : K) (x : Node K D) → IsInOrder t → node t p ≡ Some x → Links t (linked eq t p k n) p n (child eq t p k)
    links t p n k x order is =
        subst (λ v. Links t v p n (child eq t p k)) (sym (linked_at t p n k x is))
        (subst (λ o. Links t (with_node t p (record x { children = put_key eq x.children k n })) p n o) (sym (child_at t p k x is)) (links_set t p n k x order is))

    -- what stands under a free key may go
    pub old_up : (t : Tree K D) (p o q : ℕ) (k : K) → Hangs (up t) (times_listed t) → up t p ≡ Some q → child eq t p k ≡ Some o → up t o ≡ Some p
    old_up t p o q k h there is =
        let x = node_up t p q there in
        let some : 0 < times o x.0.children = looked_up (eq k) o x.0.children (sym (child_at t p k x.0 x.1) ∙ is) in
        hit_some (up t o) p (omega (arith, some, times_at t p o x.0 x.1, h.once p o (not_zero h p q there)))

    pub old_is : (t : Tree K D) (n p q : ℕ) (k : K) (over : Bool) → Hangs (up t) (times_listed t) → up t p ≡ Some q → key_refusal eq t p k over ≡ None
        → ((o : ℕ) → child eq t p k ≡ Some o → o ≢ n) → OldIs t (child eq t p k) n p
    old_is t n p q k over h there free other = old_step (child eq t p k) refl free where
      old_step : (old : Option ℕ) → child eq t p k ≡ old → option_map_or (λ o. if not over || has_children t o then Some Exists else None) old None ≡ None → OldIs t old n p
      old_step None is e = tt
      old_step (Some o) is e = (old_up t p o q k h there is, refusal_bare over (has_children t o) e, other o is)

    -- ---- a node moves
    -- a child stands in its place still
    place_linked : (t : Tree K D) (n p q : ℕ) (k : K) (x : Node K D) → node t p ≡ Some x → Listed t n q → (i : ℕ) → (e : K × ℕ) → (y : Node K D) → node t q ≡ Some y → slice_get y.children i ≡ Some e → e.1 ≡ n
        → (z : Node K D) × (d : K × ℕ) × (node (linked eq t p k n) q ≡ Some z) × (slice_get z.children i ≡ Some d) × (d.1 ≡ n)
    place_linked t n p q k x is l i e y at place num =
        let w : Node K D = record x { children = put_key eq x.children k n } in
        let made : linked eq t p k n ≡ with_node t p w = linked_at t p n k x is in
        ⊎_elim
        (λ same_place.
        let same_node : Some x ≡ Some y = sym is ∙ ap (node t) same_place ∙ at in
        let here_too = place-put_key eq k n i e x.children (ap (λ o. slice_get (option_map_or (λ z. z.children) o []) i) same_node ∙ place) num in
        (w, here_too.0, ap (λ u. node u q) made ∙ ap (node (with_node t p w)) (sym same_place) ∙ set_here t p x w is, here_too.1, here_too.2))
        (λ ne. (y, e, ap (λ u. node u q) made ∙ set_there t p q x w is ne ∙ at, place, num))
        (cases_eq p q)

    seat_at : (u : Tree K D) (n p : ℕ) (z : Node K D) → node u n ≡ Some z → seated u n p ≡ with_node u n (record z { parent = p })
    seat_at u n p z is = ap (λ o. option_map_or (λ x. with_node u n (record x { parent = p })) o u) is

    placed_set : (t v u : Tree K D) (n p q : ℕ) (old : Option ℕ) (z : Node K D) → Hangs (up t) (times_listed t) → up t n ≡ Some q → n ≢ 1 → Links t v p n old → Unlinks v u q n → node u n ≡ Some z
        → Placed t (with_node u n (record z { parent = p })) old n p (λ a m. part q a (one_if n m))
    placed_set t v u n p q old z h is ne l k at =
        let w : Node K D = record z { parent = p } in
        let s : Tree K D = with_node u n w in record {
          order = order-written n w u.nodes k.order;
          seat_is = ap (option_map (λ x. x.parent)) (set_here u n z w at);
          others = λ m other. ap (option_map (λ x. x.parent)) (set_there u n m z w at (λ e. other (sym e))) ∙ k.up_same m ∙ l.up_same m;
          count = λ a m.
              let kept : times_listed s a m ≡ times_listed u a m = times_set u n z w at refl a m in
              ⊎_elim
              (λ qa. ⊎_elim
              (λ pa. let one = k.at m in let two = l.at m in
              let f : part q a (one_if n m) ≡ one_if n m = part_yes q a (one_if n m) qa in
              let g : part p a (times_old old m) ≡ times_old old m = part_yes p a (times_old old m) pa in
              let c : part p a (one_if n m) ≡ one_if n m = part_yes p a (one_if n m) pa in
              let ua : times_listed u a m ≡ times_listed u q m = ap (λ b. times_listed u b m) (sym qa) in
              let vq : times_listed v q m ≡ times_listed v p m = ap (λ b. times_listed v b m) (qa ∙ sym pa) in
              let ta : times_listed t a m ≡ times_listed t p m = ap (λ b. times_listed t b m) (sym pa) in
              omega (arith, kept, one, two, f, g, c, ua, vq, ta))
              (λ npa. let one = k.at m in
              let f : part q a (one_if n m) ≡ one_if n m = part_yes q a (one_if n m) qa in
              let g : part p a (times_old old m) ≡ 0 = part_no p a (times_old old m) npa in
              let c : part p a (one_if n m) ≡ 0 = part_no p a (one_if n m) npa in
              let ua : times_listed u a m ≡ times_listed u q m = ap (λ b. times_listed u b m) (sym qa) in
              let vq : times_listed v q m ≡ times_listed t a m = ap (λ b. times_listed v b m) qa ∙ l.elsewhere a m (λ e. npa (sym e)) in
              omega (arith, kept, one, f, g, c, ua, vq))
              (cases_eq p a))
              (λ nqa. ⊎_elim
              (λ pa. let two = l.at m in
              let f : part q a (one_if n m) ≡ 0 = part_no q a (one_if n m) nqa in
              let g : part p a (times_old old m) ≡ times_old old m = part_yes p a (times_old old m) pa in
              let c : part p a (one_if n m) ≡ one_if n m = part_yes p a (one_if n m) pa in
              let ua : times_listed u a m ≡ times_listed v a m = k.elsewhere a m (λ e. nqa (sym e)) in
              let va : times_listed v a m ≡ times_listed v p m = ap (λ b. times_listed v b m) (sym pa) in
              let ta : times_listed t a m ≡ times_listed t p m = ap (λ b. times_listed t b m) (sym pa) in
              omega (arith, kept, two, f, g, c, ua, va, ta))
              (λ npa.
              let f : part q a (one_if n m) ≡ 0 = part_no q a (one_if n m) nqa in
              let g : part p a (times_old old m) ≡ 0 = part_no p a (times_old old m) npa in
              let c : part p a (one_if n m) ≡ 0 = part_no p a (one_if n m) npa in
              let ua : times_listed u a m ≡ times_listed v a m = k.elsewhere a m (λ e. nqa (sym e)) in
              let va : times_listed v a m ≡ times_listed t a m = l.elsewhere a m (λ e. npa (sym e)) in
              omega (arith, kept, f, g, c, ua, va))
              (cases_eq p a))
              (cases_eq q a);
          from_other = λ a m other. ap (part q a) (one_other n m other) ∙ part_zero q a;
          from_is = λ a.
              ⊎_elim
              (λ qa. ap (λ b. times_listed t b n) (sym qa) ∙ h.once q n (parent_there h n q is ne) ∙ hit_is (up t n) q is ∙ sym (part_yes q a (one_if n n) qa ∙ one_self n))
              (λ nqa. unlisted_elsewhere t a n q h is (λ e. nqa (sym e)) ∙ sym (part_no q a (one_if n n) nqa))
              (cases_eq q a);
        }

    placed_moved : (t : Tree K D) (n p q r : ℕ) (k : K) → IsRooted t → up t n ≡ Some q → n ≢ 1 → up t p ≡ Some r
        → Placed t (seated (unlinked_at (linked eq t p k n) (parent_of t n) (place_of t (parent_of t n) n)) n p) (child eq t p k) n p (λ a m. part q a (one_if n m))
    placed_moved t n p q r k h is ne there =
        let hh = hangs t h in
        let x = node_up t p r there in
        let l = where_listed t n q hh is ne in
        let v = linked eq t p k n in
        let lk = links t p n k x.0 h.in_order x.1 in
        let w = place_linked t n p q k x.0 x.1 l l.place l.entry l.parent l.is l.at l.number in
        let un : Unlinks v (unlinked_at v q (Some l.place)) q n = unlinks_at v q w.0 l.place n w.1 lk.order w.2 w.3 w.4 in
        let u : Tree K D = unlinked_at v (parent_of t n) (place_of t (parent_of t n) n) in
        let un' : Unlinks v u q n =
        subst (λ u. Unlinks v u q n) (sym ((λ j. unlinked_at v (l.parent_is j) (place_of t (l.parent_is j) n)) ∙ ap (unlinked_at v q) l.place_is)) un in
        let z = node_up u n q (un'.up_same n ∙ lk.up_same n ∙ is) in
        subst (λ s. Placed t s (child eq t p k) n p (λ a m. part q a (one_if n m))) (sym (seat_at u n p z.0 z.1))
        (placed_set t v u n p q (child eq t p k) z.0 hh is ne lk un' z.1)

    rooted_moved_over : (t : Tree K D) (n p : ℕ) (k : K) (over : Bool) → IsRooted t → IsSome (node t n) → IsSome (node t p) → n ≢ 1 → is_at_or_below t n p ≡ false
        → is_child eq t p k n ≡ false → key_refusal eq t p k over ≡ None → IsRooted (moved_over eq t n p k)
    rooted_moved_over t n p k over h there there' ne apart other free =
        let hh = hangs t h in
        let q = has_up t n there in
        let r = has_up t p there' in
        let isnt : (o : ℕ) → child eq t p k ≡ Some o → o ≢ n =
        λ o is e. absurd (let yes : true ≡ false = sym (ap (λ c. option_map_or (λ m. m == n) c false) is ∙ eq-eqb o n e) ∙ other in cc) in
        rooted_placed t (seated (unlinked_at (linked eq t p k n) (parent_of t n) (place_of t (parent_of t n) n)) n p) (child eq t p k) n p r.0 (λ a m. part q.0 a (one_if n m)) hh
        (placed_moved t n p q.0 r.0 k h q.1 ne r.1)
        (old_is t n p r.0 k over hh r.1 free isnt) r.1
        (λ e. ne (sym e), λ e. absurd (omega (arith, e, not_zero hh n q.0 q.1)))
        (λ c. absurd (let yes : true ≡ false = sym (comes_below t n there c) ∙ apart in cc))

    -- ---- a node comes
    grown_at : (t : Tree K D) (p : ℕ) (value : D) (q : ℕ) → node (grown t p value) q ≡ cond (same (t.last + 1) q) (Some (leaf p value)) (node t q)
    grown_at t p value q = lookup-put q (t.last + 1) (leaf p value) t.nodes

    grown_here : (t : Tree K D) (p : ℕ) (value : D) → node (grown t p value) (t.last + 1) ≡ Some (leaf p value)
    grown_here t p value = grown_at t p value (t.last + 1) ∙ ap (λ b. cond b (Some (leaf p value)) (node t (t.last + 1))) (same_yes (t.last + 1) (t.last + 1) refl)

    grown_there : (t : Tree K D) (p : ℕ) (value : D) (q : ℕ) → q ≢ t.last + 1 → node (grown t p value) q ≡ node t q
    grown_there t p value q ne = grown_at t p value q ∙ ap (λ b. cond b (Some (leaf p value)) (node t q)) (same_no (t.last + 1) q (λ e. ne (sym e)))

    grown_times : (t : Tree K D) (p : ℕ) (value : D) → node t (t.last + 1) ≡ None → (a m : ℕ) → times_listed (grown t p value) a m ≡ times_listed t a m
    grown_times t p value fresh a m =
        ⊎_elim
        (λ e. ap (λ b. times_listed (grown t p value) b m) e ∙ times_at (grown t p value) (t.last + 1) m (leaf p value) (grown_here t p value)
        ∙ sym (ap (λ o. times m (option_map_or (λ z. z.children) o [])) fresh) ∙ ap (λ b. times_listed t b m) (sym e))
        (λ ne. ap (λ o. times m (option_map_or (λ z. z.children) o [])) (grown_there t p value a ne))
        (cases_eq a (t.last + 1))

    unlisted_new : (t : Tree K D) (n : ℕ) → Hangs (up t) (times_listed t) → node t n ≡ None → (a : ℕ) → times_listed t a n ≡ 0
    unlisted_new t n h fresh a =
        ⊎_elim (λ e. unlisted_zero t a n h e) (λ ne. h.once a n (omega (arith, ne)) ∙ ap (λ o. hit (option_map (λ x. x.parent) o) a) fresh) (cases_eq a 0)

    placed_added : (t : Tree K D) (p r : ℕ) (k : K) (value : D) → IsRooted t → node t (t.last + 1) ≡ None → up t p ≡ Some r
        → Placed t (linked eq (grown t p value) p k (t.last + 1)) (child eq t p k) (t.last + 1) p (λ a m. 0)
    placed_added t p r k value h fresh there =
        let n = t.last + 1 in
        let g : Tree K D = grown t p value in
        let x = node_up t p r there in
        let apart : p ≢ n = λ e. absurd (let both : None ≡ Some x.0 = sym fresh ∙ ap (node t) (sym e) ∙ x.1 in cc) in
        let stands : node g p ≡ Some x.0 = grown_there t p value p apart ∙ x.1 in
        let l = links g p n k x.0 (order-put n (leaf p value) t.nodes h.in_order) stands in
        let old : child eq g p k ≡ child eq t p k = child_at g p k x.0 stands ∙ sym (child_at t p k x.0 x.1) in
        let times_g = grown_times t p value fresh in record {
          order = l.order;
          seat_is = l.up_same n ∙ ap (option_map (λ z. z.parent)) (grown_here t p value);
          others = λ m ne. l.up_same m ∙ ap (option_map (λ z. z.parent)) (grown_there t p value m ne);
          count = λ a m.
              ⊎_elim
              (λ e. let one = l.at m in
              let f : part p a (times_old (child eq t p k) m) ≡ times_old (child eq g p k) m = part_yes p a (times_old (child eq t p k) m) e ∙ ap (λ o. times_old o m) (sym old) in
              let c : part p a (one_if n m) ≡ one_if n m = part_yes p a (one_if n m) e in
              let va : times_listed (linked eq g p k n) a m ≡ times_listed (linked eq g p k n) p m = ap (λ b. times_listed (linked eq g p k n) b m) (sym e) in
              let ta : times_listed t a m ≡ times_listed t p m = ap (λ b. times_listed t b m) (sym e) in
              omega (arith, one, f, c, va, ta, times_g p m))
              (λ ne.
              let f : part p a (times_old (child eq t p k) m) ≡ 0 = part_no p a (times_old (child eq t p k) m) ne in
              let c : part p a (one_if n m) ≡ 0 = part_no p a (one_if n m) ne in
              let va : times_listed (linked eq g p k n) a m ≡ times_listed t a m = l.elsewhere a m (λ e. ne (sym e)) ∙ times_g a m in
              omega (arith, f, c, va))
              (cases_eq p a);
          from_other = λ a m ne. refl;
          from_is = λ a. unlisted_new t n (hangs t h) fresh a;
        }

    rooted_added : (t : Tree K D) (p : ℕ) (k : K) (value : D) (over : Bool) → IsRooted t → node t (t.last + 1) ≡ None → IsSome (node t p) → key_refusal eq t p k over ≡ None → IsRooted (added eq t p k value)
    rooted_added t p k value over h fresh there free =
        let n = t.last + 1 in
        let hh = hangs t h in
        let r = has_up t p there in
        let nowhere : up t n ≡ None = ap (option_map (λ x. x.parent)) fresh in
        let bare : (m : ℕ) → up t m ≡ Some n → ⊥ =
        no_parent hh n (omega arith) (λ m. ap (λ o. times m (option_map_or (λ z. z.children) o [])) fresh) in
        rooted_placed t (linked eq (grown t p value) p k n) (child eq t p k) n p r.0 (λ a m. 0) hh
        (placed_added t p r.0 k value h fresh r.1)
        (old_is t n p r.0 k over hh r.1 free (λ o is e. no_number (up t n) p nowhere (ap (up t) (sym e) ∙ old_up t p o r.0 k hh r.1 is))) r.1
        ((λ e. no_number (up t n) 0 nowhere (ap (up t) (sym e) ∙ hh.root)), (λ e. absurd (omega (arith, e))))
        (λ c. no_number (up t n) r.0 nowhere (ap (up t) (sym (leaf_alone bare c)) ∙ r.1))

    -- ---- what no rule refuses
    pub rooted_add : (t : Tree K D) (p : ℕ) (k : K) (value : D) (over : Bool) → IsRooted t → node t (t.last + 1) ≡ None → add_refusal eq t p k over ≡ None → IsRooted (added eq t p k value)
    rooted_add t p k value over h fresh free =
        let a = not_first (is_none (node t p)) NotFound (option_or (key_refusal eq t p k over) (if t.last == max_u64 then Some GeneralFailure else None)) free in
        rooted_added t p k value over h fresh (some_not_none (node t p) a.0) (first_none (key_refusal eq t p k over) (if t.last == max_u64 then Some GeneralFailure else None) a.1)

    pub rooted_move : (t : Tree K D) (n p : ℕ) (k : K) (over : Bool) → IsRooted t → move_refusal eq t n p k over ≡ None → IsRooted (moved eq t n p k)
    rooted_move t n p k over h free =
        let r : Option FsError = if is_child eq t p k n then None else key_refusal eq t p k over in
        let a = not_first (is_none (node t n) || is_none (node t p)) NotFound (if n == root_id then Some Forbidden else if is_at_or_below t n p then Some Forbidden else r) free in
        let b = not_first (n == root_id) Forbidden (if is_at_or_below t n p then Some Forbidden else r) a.1 in
        let c = not_first (is_at_or_below t n p) Forbidden r b.1 in
        let there = or_parts (is_none (node t n)) (is_none (node t p)) a.0 in
        ⊎_elim
        (λ e. subst IsRooted (sym (ap (λ x. if x then t else moved_over eq t n p k) e)) h)
        (λ e. subst IsRooted (sym (ap (λ x. if x then t else moved_over eq t n p k) e))
        (rooted_moved_over t n p k over h (some_not_none (node t n) there.0) (some_not_none (node t p) there.1) (eqb-false n 1 b.0) c.0 e
        (sym (ap (λ x. if x then None else key_refusal eq t p k over) e) ∙ c.1)))
        (cases_Bool (is_child eq t p k n))

-- ---- a tree begins, and is cloned
bare_leaf : (K : Type 0) {D : Type 0} (m : ℕ) (value : D) (b : Bool) → times m (option_map_or (λ z. z.children) (cond b (Some (leaf {K = K} 0 value)) None) []) ≡ 0
bare_leaf K m value true = refl
bare_leaf K m value false = refl

root_parent : (K : Type 0) {D : Type 0} (value : D) (p : ℕ) (b : Bool) → 0 < p → hit (option_map (λ x. x.parent) (cond b (Some (leaf {K = K} 0 value)) None)) p ≡ 0
root_parent K value p true pos = hit_other (Some 0) p (λ e. absurd (omega (arith, pos, same_number 0 p e)))
root_parent K value p false pos = refl

only_root : (K : Type 0) {D : Type 0} (value : D) (n p : ℕ) (b : Bool) → same n 1 ≡ b → option_map (λ x. x.parent) (cond b (Some (leaf {K = K} 0 value)) None) ≡ Some p → n ≡ 1
only_root K value n p true was is = same_is n 1 was
only_root K value n p false was is = absurd (let is : None ≡ Some p = is in cc)

pub rooted_single : {K D : Type 0} (value : D) → IsRooted (single {K = K} value)
unfolding IsStrictlySortedBy
rooted_single {K = K} value =
    let t = single {K = K} value in
    rooted t (tt, tt) (record {
      root = refl;
      none = refl;
      once = λ p n pos. bare_leaf K n value (same p 1) ∙ sym (root_parent K value p (same n 1) pos);
      reached = λ n p is. here (only_root K value n p (same n 1) refl is);
    })

module _ {K D : Type 0} (is_key : K → K → Type 0) (is_value : D → D → Type 0) where
  times_cloned : (m : ℕ) (xs ys : List (K × ℕ)) → AllZip (IsListedAs is_key) xs ys → times m ys ≡ times m xs
  times_cloned m [] [] z = refl
  times_cloned m [] (y ∷ ys) z = absurd z
  times_cloned m (x ∷ xs) [] z = absurd z
  times_cloned m (x ∷ xs) (y ∷ ys) z =
      times-cons m y ys ∙ (λ i. one_if (z.0.1 i) m + times_cloned m xs ys z.1 i) ∙ sym (times-cons m x xs)

  record Cloned (o c : Option (Node K D)) : Type 0 where
    parent : option_map (λ x. x.parent) c ≡ option_map (λ x. x.parent) o
    listed : (m : ℕ) → times m (option_map_or (λ z. z.children) c []) ≡ times m (option_map_or (λ z. z.children) o [])

  cloned_step : (q : ℕ) (e d : ℕ × Node K D) (es ds : List (ℕ × Node K D)) (b : Bool) → IsCloneOfNode is_key is_value e.1 d.1 → Cloned (lookup (same q) es) (lookup (same q) ds)
      → Cloned (cond b (Some e.1) (lookup (same q) es)) (cond b (Some d.1) (lookup (same q) ds))
  cloned_step q e d es ds true c ih = record { parent = ap (λ p. Some p) c.0; listed = λ m. times_cloned m e.1.children d.1.children c.2 }
  cloned_step q e d es ds false c ih = ih

  cloned_at : (q : ℕ) (es ds : List (ℕ × Node K D)) → AllZip (λ e c. (c.0 ≡ e.0) × IsCloneOfNode is_key is_value e.1 c.1) es ds → Cloned (lookup (same q) es) (lookup (same q) ds)
  cloned_at q [] [] z = record { parent = refl; listed = λ m. refl }
  cloned_at q [] (d ∷ ds) z = absurd z
  cloned_at q (e ∷ es) [] z = absurd z
  cloned_at q (e ∷ es) (d ∷ ds) z =
      subst (λ k. Cloned (cond (same q e.0) (Some e.1) (lookup (same q) es)) (cond (same q k) (Some d.1) (lookup (same q) ds))) (sym z.0.0)
      (cloned_step q e d es ds (same q e.0) z.0.1 (cloned_at q es ds z.1))

  keys_cloned : (es ds : List (ℕ × Node K D)) → AllZip (λ e c. (c.0 ≡ e.0) × IsCloneOfNode is_key is_value e.1 c.1) es ds → keys_of ds ≡ keys_of es
  keys_cloned [] [] z = refl
  keys_cloned [] (d ∷ ds) z = absurd z
  keys_cloned (e ∷ es) [] z = absurd z
  keys_cloned (e ∷ es) (d ∷ ds) z = λ i. z.0.0 i ∷ keys_cloned es ds z.1 i

  pub rooted_clone : (t u : Tree K D) → IsCloneOfTree is_key is_value t u → IsRooted t → IsRooted u
  rooted_clone t u c h =
      rooted u (subst (IsStrictlySortedBy nat_cmp) (sym (keys_cloned t.nodes u.nodes c.1)) h.in_order)
      (same_hangs t u (hangs t h) (λ m. (cloned_at m t.nodes u.nodes c.1).parent) (λ a m. (cloned_at a t.nodes u.nodes c.1).listed m))
