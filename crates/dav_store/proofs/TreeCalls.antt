-- Each call of a tree of names as a change of what it stands for.
use Rattle.std.proofs.Common.{◌≡◌, ℕ, Bool, zero, suc, ◌+◌, true, false, List, [], ◌∷◌, ◌++◌, slice_get, position, Option, Some, None, refl, sym, ap, subst, ◌∙◌, arith, ⊎_elim, if◌then◌else◌}
use Rattle.std.specs.Prelude.{◌==◌}
use Rattle.std.specs.Option.{option_and_then, option_map, option_map_or}
use Rattle.std.specs.Map.{lookup, keys_of}
use Rattle.std.specs.List.{IsDistinct}
use Rattle.dav_store.proofs.Place.{NonePasses, none_passes}
use Rattle.std.proofs.lemmas.Bool.{cases_Bool, cases_eq, eqb-true, eq-eqb}
use Rattle.std.proofs.lemmas.Cmp.{nat_list_eq_equiv}
use Rattle.std.proofs.lemmas.Map.Entries.{place_from_lookup, lookup_from_place}
use Rattle.dav_store.specs.Tree.{Tree, Node, node, value_of, parent_of, without, without_old, grown as grown_tree, leaf, linked, unlinked_at, seated, place_of, is_child, added, deleted, moved, moved_over, NoneAbove}
use Rattle.dav_store.specs.Placed.{is_same_name, named, IsNamedTree}
use Rattle.dav_store.proofs.TreeNumbers.{adds_the_next_number, keeps_numbers}
use Rattle.dav_store.proofs.Walks.{inner}
use Rattle.dav_store.proofs.Entering.{place_is, kept_put}
use Rattle.dav_store.proofs.Placing.{one_at}
use Rattle.dav_store.proofs.TreeLooks as looks
use Rattle.dav_store.proofs.TreeLooks.{IsOnce, value_in, parent_in, named_in, children_in}
use Rattle.dav_store.proofs.TreePaths.{some_is, not_behind, found-push}
use Rattle.dav_store.proofs.TreeAdded.{IsAdded}
use Rattle.dav_store.proofs.TreeDeleted.{IsDeleted}
use Rattle.dav_store.proofs.TreeMoved.{IsMoved}

none_at : {X : Type 0} (es : List (X × ℕ)) (j : ℕ) (d : X × ℕ) (m : ℕ) → NonePasses (λ e. e.1 == m) es → slice_get es j ≡ Some d → (d.1 == m) ≡ true → ⊥
none_at {X = X} [] j d m all at is = cc
none_at {X = X} (e ∷ es) zero d m all at is = let same : e ≡ d = inner e d at in let no = all.0 in let other : (d.1 == m) ≡ false = ap (λ (x : X × ℕ). x.1 == m) (sym same) ∙ no in cc
none_at {X = X} (e ∷ es) (suc j) d m all at is = none_at es j d m all.1 at is

pub node_of_value : {D : Type 0} (t : Tree (List ℕ) D) (m : ℕ) (v : D) → value_of t m ≡ Some v → (x : Node (List ℕ) D) × (node t m ≡ Some x) × (x.value ≡ v)
node_of_value {D} t m v h = by (node t m) refl h where
  by : (o : Option (Node (List ℕ) D)) → node t m ≡ o → option_map (λ x. x.value) o ≡ Some v → (x : Node (List ℕ) D) × (node t m ≡ Some x) × (x.value ≡ v)
  by None is h = cc
  by (Some x) is h = (x, is, inner x.value v h)

pub none_of_value : {D : Type 0} (t : Tree (List ℕ) D) (m : ℕ) → node t m ≡ None → value_of t m ≡ None
none_of_value t m h = ap value_in h

module _ {D : Type 0} {holds : Option D → Bool} {fits : List ℕ → Type 0} (t : Tree (List ℕ) D) (grown : IsNamedTree holds fits t) where
  pub once_of : IsOnce t
  once_of = record { numbers = grown.numbers; names = grown.names }

  -- ---- a new child
  module _ (p : ℕ) (k : List ℕ) (v : D) (x : Node (List ℕ) D) (at : node t p ≡ Some x) (free : named t p k ≡ None) where
    abbrev next : ℕ
    next = t.last + 1

    abbrev taller : Tree (List ℕ) D
    taller = grown_tree t p v

    none_next : node t next ≡ None
    none_next = grown.above next (omega arith)

    isnt_next : (q : ℕ) (y : Node (List ℕ) D) → node t q ≡ Some y → q ≡ next → ⊥
    isnt_next q y is e = let clash : None ≡ Some y = sym none_next ∙ ap (node t) (sym e) ∙ is in cc

    at_taller : node taller p ≡ Some x
    at_taller = looks.node_old t p v once_of none_next p (isnt_next p x at) ∙ at

    added_as : added is_same_name t p k v ≡ linked is_same_name taller p k next
    added_as = ap (λ o. without_old o (linked is_same_name taller p k next)) free

    still : {X : Type 0} (f : Option (Node (List ℕ) D) → X) → f (Some (leaf p v)) ≡ f None → (q : ℕ) → f (node taller q) ≡ f (node t q)
    still f same q =
        ⊎_elim
        (λ e. ap f (ap (node taller) e ∙ looks.node_new t p v once_of none_next) ∙ same ∙ sym (ap f (ap (node t) e ∙ none_next)))
        (λ differ. ap f (looks.node_old t p v once_of none_next q differ))
        (cases_eq q next)

    pub is_added : IsAdded t (added is_same_name t p k v) p k next v
    is_added = subst (λ (u : Tree (List ℕ) D). IsAdded t u p k next v) (sym added_as) (record {
      once = looks.once_linked taller p k next x at_taller (looks.once_grown t p v once_of none_next);
      above = subst NoneAbove added_as (adds_the_next_number is_same_name D t grown.above p k v).2;
      here = looks.named_linked taller p k next x at_taller;
      others = λ q l apart. looks.others_linked taller p k next x at_taller q l apart ∙ still (named_in l) refl q;
      value = looks.value_linked taller p k next x at_taller next ∙ ap value_in (looks.node_new t p v once_of none_next);
      values = λ q differ. looks.value_linked taller p k next x at_taller q ∙ ap value_in (looks.node_old t p v once_of none_next q differ);
      parent = looks.parent_linked taller p k next x at_taller next ∙ ap parent_in (looks.node_new t p v once_of none_next);
      parents = λ q differ. looks.parent_linked taller p k next x at_taller q ∙ ap parent_in (looks.node_old t p v once_of none_next q differ);
    })

  -- ---- the place of a child
  place_there : (p m : ℕ) (k : List ℕ) (x : Node (List ℕ) D) → node t p ≡ Some x → named t p k ≡ Some m
      → (i : ℕ) × (e : List ℕ × ℕ) × (place_of t p m ≡ Some i) × (slice_get x.children i ≡ Some e) × (e.0 ≡ k)
  place_there p m k x at child =
      let found_in : lookup (is_same_name k) x.children ≡ Some m = sym (ap (named_in k) at) ∙ child in
      let stands_at = place_from_lookup (is_same_name k) x.children m found_in in
      by (position (λ e. e.1 == m) x.children) refl stands_at.0 (stands_at.1, m) stands_at.2 where
        by : (o : Option ℕ) → position (λ e. e.1 == m) x.children ≡ o → (j : ℕ) (d : List ℕ × ℕ) → slice_get x.children j ≡ Some (d.0, m)
            → (i : ℕ) × (e : List ℕ × ℕ) × (place_of t p m ≡ Some i) × (slice_get x.children i ≡ Some e) × (e.0 ≡ k)
        by None is j d there =
            let all = none_passes (λ e. e.1 == m) x.children is in
            absurd (none_at x.children j (d.0, m) m all there (eq-eqb m m refl))
        by (Some i) is j d there =
            let place = place_is x.children m i d is in
            let distinct = subst (λ (es : List (List ℕ × ℕ)). IsDistinct is_same_name (keys_of es)) (ap children_in at) (grown.names p) in
            let by_name : named t p place.0.0 ≡ Some m = ap (named_in place.0.0) at ∙ lookup_from_place nat_list_eq_equiv x.children i place.0.0 place.0.1 distinct place.1 ∙ ap Some place.2 in
            (i, place.0, ap (option_and_then (λ y. position (λ e. e.1 == m) y.children)) at ∙ is, place.1, grown.once p place.0.0 k m by_name child)

  apart_from_child : (p m : ℕ) (k : List ℕ) → named t p k ≡ Some m → p ≡ m → ⊥
  apart_from_child p m k child e =
      let c = grown.children p k m child in
      let r = grown.reached m c.there in
      not_behind r.0 [] k (one_at t grown (r.0 ++ k ∷ []) r.0 m (found-push t r.0 m k r.1 ∙ ap (λ n. named t n k) (sym e) ∙ child) r.1)

  -- ---- a child less
  module _ (p : ℕ) (k : List ℕ) (m : ℕ) (child : named t p k ≡ Some m) (leaf : (l : List ℕ) → named t m l ≡ None) where
    at_parent : (x : Node (List ℕ) D) × (node t p ≡ Some x)
    at_parent = by (node t p) refl child where
      by : (o : Option (Node (List ℕ) D)) → node t p ≡ o → option_and_then (λ x. lookup (is_same_name k) x.children) o ≡ Some m → (x : Node (List ℕ) D) × (node t p ≡ Some x)
      by None is h = cc
      by (Some x) is h = (x, is)

    place : (i : ℕ) × (e : List ℕ × ℕ) × (place_of t p m ≡ Some i) × (slice_get at_parent.0.children i ≡ Some e) × (e.0 ≡ k)
    place = place_there p m k at_parent.0 at_parent.1 child

    abbrev fewer : Tree (List ℕ) D
    fewer = unlinked_at t p (Some place.0)

    deleted_as : deleted t m ≡ without fewer m
    deleted_as =
        let up = (grown.children p k m child).parent in
        ap (λ (u : Tree (List ℕ) D). without u m) (ap (λ q. unlinked_at t q (place_of t q m)) up ∙ ap (unlinked_at t p) place.2)

    once_fewer : IsOnce fewer
    once_fewer = looks.once_out t once_of p place.0 at_parent.0 place.1 at_parent.1 place.3

    is_gone : named fewer p k ≡ None
    is_gone = ap (named fewer p) (sym place.4) ∙ looks.named_out t once_of p place.0 at_parent.0 place.1 at_parent.1 place.3

    are_left : (q : ℕ) (l : List ℕ) → ((q ≡ p) × (l ≡ k) → ⊥) → named fewer q l ≡ named t q l
    are_left q l apart = looks.others_left t once_of p place.0 at_parent.0 place.1 at_parent.1 place.3 q l (λ same. apart (same.0, same.1 ∙ place.4))

    named_less : (q : ℕ) (l : List ℕ) → ((q ≡ p) × (l ≡ k) → ⊥) → named (without fewer m) q l ≡ named t q l
    named_less q l apart =
        ⊎_elim
        (λ e. ap (λ n. named (without fewer m) n l) e ∙ ap (named_in l) (looks.node_gone fewer m once_fewer) ∙ sym (ap (λ n. named t n l) e ∙ leaf l))
        (λ differ. ap (named_in l) (looks.node_left fewer m once_fewer q differ) ∙ are_left q l apart)
        (cases_eq q m)

    pub is_deleted : IsDeleted t (deleted t m) p k m
    is_deleted = subst (λ (u : Tree (List ℕ) D). IsDeleted t u p k m) (sym deleted_as) (record {
      once = looks.once_left fewer m once_fewer;
      above = subst NoneAbove deleted_as (keeps_numbers is_same_name D t grown.above m).0.1;
      gone = ap (named_in k) (looks.node_left fewer m once_fewer p (apart_from_child p m k child)) ∙ is_gone;
      others = named_less;
      removed = ap value_in (looks.node_gone fewer m once_fewer);
      values = λ q differ. ap value_in (looks.node_left fewer m once_fewer q differ) ∙ looks.value_out t once_of p place.0 at_parent.0 place.1 at_parent.1 place.3 q;
      parents = λ q differ. ap parent_in (looks.node_left fewer m once_fewer q differ) ∙ looks.parent_out t once_of p place.0 at_parent.0 place.1 at_parent.1 place.3 q;
    })

  -- ---- a child under another name
  module _ (n fp : ℕ) (fk : List ℕ) (tp : ℕ) (tk : List ℕ) (old : Option ℕ) (child : named t fp fk ≡ Some n) (old_is : named t tp tk ≡ old)
      (leaf : (o : ℕ) → old ≡ Some o → (l : List ℕ) → named t o l ≡ None) (other : old ≡ Some n → ⊥)
      (x : Node (List ℕ) D) (at : node t tp ≡ Some x) where
    abbrev more : Tree (List ℕ) D
    more = linked is_same_name t tp tk n

    from_node : (y : Node (List ℕ) D) × (node t fp ≡ Some y)
    from_node = by (node t fp) refl child where
      by : (o : Option (Node (List ℕ) D)) → node t fp ≡ o → option_and_then (λ x. lookup (is_same_name fk) x.children) o ≡ Some n → (x : Node (List ℕ) D) × (node t fp ≡ Some x)
      by None is h = cc
      by (Some y) is h = (y, is)

    from_place : (i : ℕ) × (e : List ℕ × ℕ) × (place_of t fp n ≡ Some i) × (slice_get from_node.0.children i ≡ Some e) × (e.0 ≡ fk)
    from_place = place_there fp n fk from_node.0 from_node.1 child

    -- the old place once the new name is there
    more_place : (z : Node (List ℕ) D) × (e : List ℕ × ℕ) × (node more fp ≡ Some z) × (slice_get z.children from_place.0 ≡ Some e) × (e.0 ≡ fk)
    more_place =
        ⊎_elim
        (λ e. let same : x ≡ from_node.0 = inner x from_node.0 (sym at ∙ ap (node t) (sym e) ∙ from_node.1) in
        let kept = kept_put nat_list_eq_equiv tk n x.children from_place.0 from_place.1 (ap (λ (y : Node (List ℕ) D). slice_get y.children from_place.0) same ∙ from_place.3) in
        (looks.with_link t tp tk n x at, kept.0, ap (node more) e ∙ looks.node_linked t tp tk n x at, kept.1, kept.2 ∙ from_place.4))
        (λ differ. (from_node.0, from_place.1, looks.node_unlinked t tp tk n x at fp differ ∙ from_node.1, from_place.3, from_place.4))
        (cases_eq fp tp)

    abbrev taken : Tree (List ℕ) D
    taken = unlinked_at more fp (Some from_place.0)

    once_more : IsOnce more
    once_more = looks.once_linked t tp tk n x at once_of

    once_taken : IsOnce taken
    once_taken = looks.once_out more once_more fp from_place.0 more_place.0 more_place.1 more_place.2 more_place.3

    value_taken : (q : ℕ) → value_of taken q ≡ value_of t q
    value_taken q = looks.value_out more once_more fp from_place.0 more_place.0 more_place.1 more_place.2 more_place.3 q ∙ looks.value_linked t tp tk n x at q

    node_taken : (y : Node (List ℕ) D) × (node taken n ≡ Some y)
    node_taken =
        let v = some_is (value_of t n) (grown.children fp fk n child).there in
        let y = node_of_value taken n v.0 (value_taken n ∙ v.1) in
        (y.0, y.1)

    abbrev seated_there : Tree (List ℕ) D
    seated_there = seated taken n tp

    once_seated_there : IsOnce seated_there
    once_seated_there = looks.once_seated taken n tp node_taken.0 node_taken.1 once_taken

    moved_as : moved is_same_name t n tp tk ≡ without_old old seated_there
    moved_as =
        let up = (grown.children fp fk n child).parent in
        ap (λ b. if b then t else moved_over is_same_name t n tp tk) isnt_own
        ∙ ap (λ o. without_old o (seated (unlinked_at more (parent_of t n) (place_of t (parent_of t n) n)) n tp)) old_is
        ∙ ap (λ q. without_old old (seated (unlinked_at more q (place_of t q n)) n tp)) up
        ∙ ap (λ o. without_old old (seated (unlinked_at more fp o) n tp)) from_place.2 where
          isnt_in : (o : Option ℕ) → (o ≡ Some n → ⊥) → option_map_or (λ m. m == n) o false ≡ false
          isnt_in None apart = refl
          isnt_in (Some o) apart = ⊎_elim (λ e. absurd (apart (ap Some (eqb-true o n e)))) (λ e. e) (cases_Bool (o == n))

          isnt_own : is_child is_same_name t tp tk n ≡ false
          isnt_own = ap (λ o. option_map_or (λ m. m == n) o false) old_is ∙ isnt_in old other

    named_seated_there : (q : ℕ) (l : List ℕ) → named seated_there q l ≡ named taken q l
    named_seated_there q l = looks.named_seated taken n tp node_taken.0 node_taken.1 q l

    apart_seats : (tp ≡ fp) × (tk ≡ fk) → ⊥
    apart_seats same = other (sym old_is ∙ (λ i. named t (same.0 i) (same.1 i)) ∙ child)

    here_there : named seated_there tp tk ≡ Some n
    here_there =
        named_seated_there tp tk
        ∙ looks.others_left more once_more fp from_place.0 more_place.0 more_place.1 more_place.2 more_place.3 tp tk (λ same. apart_seats (same.0, same.1 ∙ more_place.4))
        ∙ looks.named_linked t tp tk n x at

    gone_there : named seated_there fp fk ≡ None
    gone_there =
        named_seated_there fp fk ∙ ap (named taken fp) (sym more_place.4)
        ∙ looks.named_out more once_more fp from_place.0 more_place.0 more_place.1 more_place.2 more_place.3

    others_there : (q : ℕ) (l : List ℕ) → ((q ≡ tp) × (l ≡ tk) → ⊥) → ((q ≡ fp) × (l ≡ fk) → ⊥) → named seated_there q l ≡ named t q l
    others_there q l not_to not_from =
        named_seated_there q l
        ∙ looks.others_left more once_more fp from_place.0 more_place.0 more_place.1 more_place.2 more_place.3 q l (λ same. not_from (same.0, same.1 ∙ more_place.4))
        ∙ looks.others_linked t tp tk n x at q l not_to

    value_there : (q : ℕ) → value_of seated_there q ≡ value_of t q
    value_there q = looks.value_seated taken n tp node_taken.0 node_taken.1 q ∙ value_taken q

    parent_there : parent_of seated_there n ≡ tp
    parent_there = looks.parent_seated taken n tp node_taken.0 node_taken.1

    parents_there : (q : ℕ) → (q ≡ n → ⊥) → parent_of seated_there q ≡ parent_of t q
    parents_there q differ =
        looks.parent_unseated taken n tp node_taken.0 node_taken.1 q differ
        ∙ looks.parent_out more once_more fp from_place.0 more_place.0 more_place.1 more_place.2 more_place.3 q
        ∙ looks.parent_linked t tp tk n x at q

    above_moved : NoneAbove (moved is_same_name t n tp tk)
    above_moved = ((keeps_numbers is_same_name D t grown.above n).1 tp tk).1

    moved_by : (o : Option ℕ) → old ≡ o → NoneAbove (without_old o seated_there) → IsMoved t (without_old o seated_there) n fp fk tp tk o
    moved_by None is none = record {
      once = once_seated_there;
      above = none;
      here = here_there;
      gone = gone_there;
      others = others_there;
      removed = λ q e. cc;
      values = λ q stays. value_there q;
      parent = parent_there;
      parents = λ q differ stays. parents_there q differ;
    }
    moved_by (Some o) is none =
        let removed = looks.node_gone seated_there o once_seated_there in
        let isnt : (q : ℕ) → (Some o ≡ Some q → ⊥) → q ≡ o → ⊥ = λ q stays e. stays (ap Some (sym e)) in
        let at_old : named t tp tk ≡ Some o = old_is ∙ is in
        record {
          once = looks.once_left seated_there o once_seated_there;
          above = none;
          here = ap (named_in tk) (looks.node_left seated_there o once_seated_there tp (apart_from_child tp o tk at_old)) ∙ here_there;
          gone = ⊎_elim
              (λ e. ap (λ q. named (without seated_there o) q fk) e ∙ ap (named_in fk) removed)
              (λ differ. ap (named_in fk) (looks.node_left seated_there o once_seated_there fp differ) ∙ gone_there)
              (cases_eq fp o);
          others = λ q l not_to not_from. ⊎_elim
              (λ e. ap (λ a. named (without seated_there o) a l) e ∙ ap (named_in l) removed ∙ sym (ap (λ a. named t a l) e ∙ leaf o is l))
              (λ differ. ap (named_in l) (looks.node_left seated_there o once_seated_there q differ) ∙ others_there q l not_to not_from)
              (cases_eq q o);
          removed = λ q e. ap (value_of (without seated_there o)) (sym (inner o q e)) ∙ ap value_in removed;
          values = λ q stays. ap value_in (looks.node_left seated_there o once_seated_there q (isnt q stays)) ∙ value_there q;
          parent = ap parent_in (looks.node_left seated_there o once_seated_there n (λ e. other (is ∙ ap Some (sym e)))) ∙ parent_there;
          parents = λ q differ stays. ap parent_in (looks.node_left seated_there o once_seated_there q (isnt q stays)) ∙ parents_there q differ;
        }

    pub is_moved : IsMoved t (moved is_same_name t n tp tk) n fp fk tp tk old
    is_moved =
        subst (λ (u : Tree (List ℕ) D). IsMoved t u n fp fk tp tk old) (sym moved_as)
        (moved_by old refl (subst NoneAbove moved_as above_moved))
