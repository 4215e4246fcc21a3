-- Trees whose keys are owned bytes, and the same with the bytes alone.
use Rattle.std.proofs.Common.{◌≡◌, ℕ, zero, suc, ◌+◌, ◌-◌, nat_lt, Bool, true, false, not, cond, List, [], ◌∷◌, map, length, take, slice_get, get_or, position, Option, Some, None, refl, sym, ap, ◌∙◌, if◌then◌else◌}
use Rattle.std.specs.Prelude.{◌==◌, nat_eq, Vec}
use Rattle.std.specs.Option.{option_map, option_map_or, option_and_then}
use Rattle.std.specs.Ordering.{nat_cmp, match_ordering}
use Rattle.std.specs.declared.cmp.Ordering.{Ordering}
use Rattle.std.specs.declared.cmp.Ordering.TheVariants.{Less, Equal, Greater}
use Rattle.std.specs.Cmp.Lexicographic.{pointwise}
use Rattle.std.specs.BTreeMap.{is_at, insert_entry}
use Rattle.std.specs.Map.{lookup, set_value, remove_entry}
use Rattle.std.specs.List.{AllZip, swap_remove, position_or_len, slice_set}
use Rattle.std.proofs.lemmas.List.{take-map, map-set}
use Rattle.std.proofs.lemmas.Option.{slice_get-map}
use lib.ListN.{length-map}
use Rattle.indexmap.specs.IndexMap.{insert_entry as put_key}
use Rattle.dav_store.specs.Tree.{Tree, Node, node, value_of, parent_of, children_of, with_node, with_value, without, without_old, without_place, grown, leaf, linked, unlinked_at, unlinked, seated, place_of, child, child_of_bytes, is_child, added, deleted, moved, moved_over, IsListedAs, IsCloneOfNode, IsCloneOfTree}
use Rattle.dav_store.specs.Placed.{is_same_name, bare_children, bare_node, bare, named}

-- ---- lists of nodes with another thing in the place of each
module _ {X Y : Type 0} (g : X → Y) where
  abbrev each : List (ℕ × X) → List (ℕ × Y)
  each es = map (λ e. (e.0, g e.1)) es

  lookup_step : (e : ℕ × X) (o : Option X) (p : Option Y) (b : Bool) → p ≡ option_map g o → cond b (Some (g e.1)) p ≡ option_map g (cond b (Some e.1) o)
  lookup_step e o p true h = refl
  lookup_step e o p false h = h

  lookup_each : (test : ℕ → Bool) (es : List (ℕ × X)) → lookup test (each es) ≡ option_map g (lookup test es)
  lookup_each test [] = refl
  lookup_each test (e ∷ es) = lookup_step e (lookup test es) (lookup test (each es)) (test e.0) (lookup_each test es)

  set_step : (e : ℕ × X) (es rest : List (ℕ × X)) (x : X) (done : List (ℕ × Y)) (b : Bool) → done ≡ each rest
      → cond b ((e.0, g x) ∷ each es) ((e.0, g e.1) ∷ done) ≡ each (cond b ((e.0, x) ∷ es) (e ∷ rest))
  set_step e es rest x done true h = refl
  set_step e es rest x done false h = ap (λ l. (e.0, g e.1) ∷ l) h

  set_each : (test : ℕ → Bool) (es : List (ℕ × X)) (x : X) → set_value test (each es) (g x) ≡ each (set_value test es x)
  set_each test [] x = refl
  set_each test (e ∷ es) x = set_step e es (set_value test es x) x (set_value test (each es) (g x)) (test e.0) (set_each test es x)

  left_step : (e : ℕ × X) (es rest : List (ℕ × X)) (done : List (ℕ × Y)) (b : Bool) → done ≡ each rest
      → cond b (each es) ((e.0, g e.1) ∷ done) ≡ each (cond b es (e ∷ rest))
  left_step e es rest done true h = refl
  left_step e es rest done false h = ap (λ l. (e.0, g e.1) ∷ l) h

  left_each : (test : ℕ → Bool) (es : List (ℕ × X)) → remove_entry test (each es) ≡ each (remove_entry test es)
  left_each test [] = refl
  left_each test (e ∷ es) = left_step e es (remove_entry test es) (remove_entry test (each es)) (test e.0) (left_each test es)

  came_step : (n : ℕ) (x : X) (e : ℕ × X) (es rest : List (ℕ × X)) (done : List (ℕ × Y)) (o : Ordering) → done ≡ each rest
      → match_ordering o ((n, g x) ∷ (e.0, g e.1) ∷ each es) ((e.0, g x) ∷ each es) ((e.0, g e.1) ∷ done) ≡ each (match_ordering o ((n, x) ∷ e ∷ es) ((e.0, x) ∷ es) (e ∷ rest))
  came_step n x e es rest done Less h = refl
  came_step n x e es rest done Equal h = refl
  came_step n x e es rest done Greater h = ap (λ l. (e.0, g e.1) ∷ l) h

  came_each : (n : ℕ) (x : X) (es : List (ℕ × X)) → insert_entry nat_cmp (each es) n (g x) ≡ each (insert_entry nat_cmp es n x)
  came_each n x [] = refl
  came_each n x (e ∷ es) = came_step n x e es (insert_entry nat_cmp es n x) (insert_entry nat_cmp (each es) n (g x)) (nat_cmp n e.0) (came_each n x es)

-- ---- children
module _ {Z : Type 0} where
  abbrev pub same_bytes : Vec ℕ Z → Vec ℕ Z → Bool
  same_bytes a b = pointwise nat_eq a.items b.items

  lookup_bare : (k : List ℕ) (es : List (Vec ℕ Z × ℕ)) → lookup (is_same_name k) (bare_children es) ≡ lookup (λ v. pointwise nat_eq k v.items) es
  lookup_bare k [] = refl
  lookup_bare k (e ∷ es) = ap (cond (pointwise nat_eq k e.0.items) (Some e.1)) (lookup_bare k es)

  put_bare_step : (e : Vec ℕ Z × ℕ) (m : ℕ) (es rest : List (Vec ℕ Z × ℕ)) (done : List (List ℕ × ℕ)) (b : Bool) → done ≡ bare_children rest
      → cond b ((e.0.items, m) ∷ bare_children es) ((e.0.items, e.1) ∷ done) ≡ bare_children (cond b ((e.0, m) ∷ es) (e ∷ rest))
  put_bare_step e m es rest done true h = refl
  put_bare_step e m es rest done false h = ap (λ l. (e.0.items, e.1) ∷ l) h

  put_bare : (k : Vec ℕ Z) (m : ℕ) (es : List (Vec ℕ Z × ℕ)) → put_key is_same_name (bare_children es) k.items m ≡ bare_children (put_key same_bytes es k m)
  put_bare k m [] = refl
  put_bare k m (e ∷ es) = put_bare_step e m es (put_key same_bytes es k m) (put_key is_same_name (bare_children es) k.items m) (same_bytes k e.0) (put_bare k m es)

  position_or_len_bare : (n : ℕ) (es : List (Vec ℕ Z × ℕ)) → position_or_len (λ e. e.1 == n) (bare_children es) ≡ position_or_len (λ e. e.1 == n) es
  position_or_len_bare n [] = refl
  position_or_len_bare n (e ∷ es) = ap (λ i. cond (not (e.1 == n)) (1 + i) 0) (position_or_len_bare n es)

  position_bare : (n : ℕ) (es : List (Vec ℕ Z × ℕ)) → position (λ e. e.1 == n) (bare_children es) ≡ position (λ e. e.1 == n) es
  position_bare n es =
      let p = position_or_len_bare n es in
      let l : length (bare_children es) ≡ length es = length-map es (λ e. (e.0.items, e.1)) in
      λ i. cond (nat_lt (p i) (l i)) (Some (p i)) None

  abbrev bare_child : Vec ℕ Z × ℕ → List ℕ × ℕ
  bare_child e = (e.0.items, e.1)

  get_or_bare : (es : List (Vec ℕ Z × ℕ)) (n : ℕ) (d : Vec ℕ Z × ℕ) → get_or (bare_children es) n (bare_child d) ≡ bare_child (get_or es n d)
  get_or_bare [] n d = refl
  get_or_bare (e ∷ es) zero d = refl
  get_or_bare (e ∷ es) (suc n) d = get_or_bare es n d

  swap_remove_bare : (es : List (Vec ℕ Z × ℕ)) (i : ℕ) (d : Vec ℕ Z × ℕ) → swap_remove (bare_children es) i (bare_child d) ≡ bare_children (swap_remove es i d)
  swap_remove_bare es i d =
      let l : length (bare_children es) ≡ length es = length-map es (λ e. (e.0.items, e.1)) in
      ap (λ n. take (n - 1) (slice_set (bare_children es) i (get_or (bare_children es) (n - 1) (bare_child d)))) l
      ∙ ap (λ e. take (length es - 1) (slice_set (bare_children es) i e)) (get_or_bare es (length es - 1) d)
      ∙ ap (take (length es - 1)) (sym (map-set bare_child es i (get_or es (length es - 1) d)))
      ∙ take-map bare_child (length es - 1) (slice_set es i (get_or es (length es - 1) d))

  out_bare : (i : ℕ) (es : List (Vec ℕ Z × ℕ)) → without_place i (bare_children es) ≡ bare_children (without_place i es)
  out_bare i es =
      ap (λ o. option_map_or (λ e. swap_remove (bare_children es) i e) o (bare_children es)) (slice_get-map bare_child es i) ∙ by (slice_get es i) where
        by : (o : Option (Vec ℕ Z × ℕ)) → option_map_or (λ e. swap_remove (bare_children es) i e) (option_map bare_child o) (bare_children es) ≡ bare_children (option_map_or (λ e. swap_remove es i e) o es)
        by None = refl
        by (Some d) = swap_remove_bare es i d

-- ---- trees
module _ {Z D : Type 0} where
  pub node_bare : (t : Tree (Vec ℕ Z) D) (n : ℕ) → node (bare t) n ≡ option_map bare_node (node t n)
  node_bare t n = lookup_each bare_node (is_at (nat_cmp n)) t.nodes

  pub value_bare : (t : Tree (Vec ℕ Z) D) (n : ℕ) → value_of (bare t) n ≡ value_of t n
  value_bare t n = ap (option_map (λ x. x.value)) (node_bare t n) ∙ by (node t n) where
    by : (o : Option (Node (Vec ℕ Z) D)) → option_map (λ x. x.value) (option_map bare_node o) ≡ option_map (λ x. x.value) o
    by None = refl
    by (Some x) = refl

  pub parent_bare : (t : Tree (Vec ℕ Z) D) (n : ℕ) → parent_of (bare t) n ≡ parent_of t n
  parent_bare t n = ap (λ o. option_map_or (λ x. x.parent) o 0) (node_bare t n) ∙ by (node t n) where
    by : (o : Option (Node (Vec ℕ Z) D)) → option_map_or (λ x. x.parent) (option_map bare_node o) 0 ≡ option_map_or (λ x. x.parent) o 0
    by None = refl
    by (Some x) = refl

  pub children_bare : (t : Tree (Vec ℕ Z) D) (n : ℕ) → children_of (bare t) n ≡ bare_children (children_of t n)
  children_bare t n = ap (λ o. option_map_or (λ x. x.children) o []) (node_bare t n) ∙ by (node t n) where
    by : (o : Option (Node (Vec ℕ Z) D)) → option_map_or (λ x. x.children) (option_map bare_node o) [] ≡ bare_children (option_map_or (λ x. x.children) o [])
    by None = refl
    by (Some x) = refl

  pub named_bare : (t : Tree (Vec ℕ Z) D) (n : ℕ) (k : List ℕ) → named (bare t) n k ≡ child_of_bytes t n k
  named_bare t n k = ap (option_and_then (λ x. lookup (is_same_name k) x.children)) (node_bare t n) ∙ by (node t n) where
    by : (o : Option (Node (Vec ℕ Z) D)) → option_and_then (λ x. lookup (is_same_name k) x.children) (option_map bare_node o) ≡ option_and_then (λ x. lookup (λ v. pointwise nat_eq k v.items) x.children) o
    by None = refl
    by (Some x) = lookup_bare k x.children

  place_bare : (t : Tree (Vec ℕ Z) D) (p n : ℕ) → place_of (bare t) p n ≡ place_of t p n
  place_bare t p n = ap (option_and_then (λ x. position (λ e. e.1 == n) x.children)) (node_bare t p) ∙ by (node t p) where
    by : (o : Option (Node (Vec ℕ Z) D)) → option_and_then (λ x. position (λ e. e.1 == n) x.children) (option_map bare_node o) ≡ option_and_then (λ x. position (λ e. e.1 == n) x.children) o
    by None = refl
    by (Some x) = position_bare n x.children

  with_bare : (t : Tree (Vec ℕ Z) D) (n : ℕ) (x : Node (Vec ℕ Z) D) → with_node (bare t) n (bare_node x) ≡ bare (with_node t n x)
  with_bare t n x = λ i. record { nodes = set_each bare_node (is_at (nat_cmp n)) t.nodes x i; last = t.last }

  without_bare : (t : Tree (Vec ℕ Z) D) (n : ℕ) → without (bare t) n ≡ bare (without t n)
  without_bare t n = λ i. record { nodes = left_each bare_node (is_at (nat_cmp n)) t.nodes i; last = t.last }

  without_old_bare : (t : Tree (Vec ℕ Z) D) (o : Option ℕ) → without_old o (bare t) ≡ bare (without_old o t)
  without_old_bare t None = refl
  without_old_bare t (Some n) = without_bare t n

  grown_bare : (t : Tree (Vec ℕ Z) D) (p : ℕ) (v : D) → grown (bare t) p v ≡ bare (grown t p v)
  grown_bare t p v = λ i. record { nodes = came_each bare_node (t.last + 1) (leaf p v) t.nodes i; last = t.last + 1 }

  -- where a node is written, if it is there
  if_there : (t : Tree (Vec ℕ Z) D) (n : ℕ) (f : Node (Vec ℕ Z) D → Tree (Vec ℕ Z) D) (g : Node (List ℕ) D → Tree (List ℕ) D) → ((x : Node (Vec ℕ Z) D) → g (bare_node x) ≡ bare (f x))
      → option_map_or g (node (bare t) n) (bare t) ≡ bare (option_map_or f (node t n) t)
  if_there t n f g same = ap (λ o. option_map_or g o (bare t)) (node_bare t n) ∙ by (node t n) where
    by : (o : Option (Node (Vec ℕ Z) D)) → option_map_or g (option_map bare_node o) (bare t) ≡ bare (option_map_or f o t)
    by None = refl
    by (Some x) = same x

  pub valued_bare : (t : Tree (Vec ℕ Z) D) (n : ℕ) (v : D) → with_value (bare t) n v ≡ bare (with_value t n v)
  valued_bare t n v =
      if_there t n (λ x. with_node t n (record x { value = v })) (λ x. with_node (bare t) n (record x { value = v })) (λ x. with_bare t n (record x { value = v }))

  linked_bare : (t : Tree (Vec ℕ Z) D) (p : ℕ) (k : Vec ℕ Z) (m : ℕ) → linked is_same_name (bare t) p k.items m ≡ bare (linked same_bytes t p k m)
  linked_bare t p k m =
      if_there t p (λ x. with_node t p (record x { children = put_key same_bytes x.children k m })) (λ x. with_node (bare t) p (record x { children = put_key is_same_name x.children k.items m }))
      (λ x. ap (λ es. with_node (bare t) p (record (bare_node x) { children = es })) (put_bare k m x.children) ∙ with_bare t p (record x { children = put_key same_bytes x.children k m }))

  unlinked_bare : (t : Tree (Vec ℕ Z) D) (p : ℕ) (o : Option ℕ) → unlinked_at (bare t) p o ≡ bare (unlinked_at t p o)
  unlinked_bare t p None = refl
  unlinked_bare t p (Some i) =
      if_there t p (λ x. with_node t p (record x { children = without_place i x.children })) (λ x. with_node (bare t) p (record x { children = without_place i x.children }))
      (λ x. ap (λ es. with_node (bare t) p (record (bare_node x) { children = es })) (out_bare i x.children) ∙ with_bare t p (record x { children = without_place i x.children }))

  seated_bare : (t : Tree (Vec ℕ Z) D) (n p : ℕ) → seated (bare t) n p ≡ bare (seated t n p)
  seated_bare t n p =
      if_there t n (λ x. with_node t n (record x { parent = p })) (λ x. with_node (bare t) n (record x { parent = p })) (λ x. with_bare t n (record x { parent = p }))

  pub added_bare : (t : Tree (Vec ℕ Z) D) (p : ℕ) (k : Vec ℕ Z) (v : D) → added is_same_name (bare t) p k.items v ≡ bare (added same_bytes t p k v)
  added_bare t p k v =
      ap (λ o. without_old o (linked is_same_name (grown (bare t) p v) p k.items (t.last + 1))) (named_bare t p k.items)
      ∙ ap (λ u. without_old (child same_bytes t p k) (linked is_same_name u p k.items (t.last + 1))) (grown_bare t p v)
      ∙ ap (without_old (child same_bytes t p k)) (linked_bare (grown t p v) p k (t.last + 1))
      ∙ without_old_bare (linked same_bytes (grown t p v) p k (t.last + 1)) (child same_bytes t p k)

  pub deleted_bare : (t : Tree (Vec ℕ Z) D) (n : ℕ) → deleted (bare t) n ≡ bare (deleted t n)
  deleted_bare t n =
      ap (λ q. without (unlinked_at (bare t) q (place_of (bare t) q n)) n) (parent_bare t n)
      ∙ ap (λ o. without (unlinked_at (bare t) (parent_of t n) o) n) (place_bare t (parent_of t n) n)
      ∙ ap (λ u. without u n) (unlinked_bare t (parent_of t n) (place_of t (parent_of t n) n))
      ∙ without_bare (unlinked t n) n

  over_bare : (t : Tree (Vec ℕ Z) D) (n p : ℕ) (k : Vec ℕ Z) → moved_over is_same_name (bare t) n p k.items ≡ bare (moved_over same_bytes t n p k)
  over_bare t n p k =
      let c = child same_bytes t p k in
      let fp = parent_of t n in
      let o = place_of t fp n in
      let a = linked same_bytes t p k n in
      ap (λ x. without_old x (seated (unlinked_at (linked is_same_name (bare t) p k.items n) (parent_of (bare t) n) (place_of (bare t) (parent_of (bare t) n) n)) n p)) (named_bare t p k.items)
      ∙ ap (λ q. without_old c (seated (unlinked_at (linked is_same_name (bare t) p k.items n) q (place_of (bare t) q n)) n p)) (parent_bare t n)
      ∙ ap (λ x. without_old c (seated (unlinked_at (linked is_same_name (bare t) p k.items n) fp x) n p)) (place_bare t fp n)
      ∙ ap (λ u. without_old c (seated (unlinked_at u fp o) n p)) (linked_bare t p k n)
      ∙ ap (λ u. without_old c (seated u n p)) (unlinked_bare a fp o)
      ∙ ap (without_old c) (seated_bare (unlinked_at a fp o) n p)
      ∙ without_old_bare (seated (unlinked_at a fp o) n p) c

  pub moved_bare : (t : Tree (Vec ℕ Z) D) (n p : ℕ) (k : Vec ℕ Z) → moved is_same_name (bare t) n p k.items ≡ bare (moved same_bytes t n p k)
  moved_bare t n p k =
      ap (λ o. if option_map_or (λ m. m == n) o false then bare t else moved_over is_same_name (bare t) n p k.items) (named_bare t p k.items)
      ∙ by (is_child same_bytes t p k n) where
        by : (b : Bool) → (if b then bare t else moved_over is_same_name (bare t) n p k.items) ≡ bare (if b then t else moved_over same_bytes t n p k)
        by true = refl
        by false = over_bare t n p k

  -- ---- clones
  module _ (C : Vec ℕ Z → Vec ℕ Z → Type 0) (R : D → D → Type 0) (bytes : (a b : Vec ℕ Z) → C a b → b.items ≡ a.items) (value : (a b : D) → R a b → b ≡ a) where
    children_cloned : (es ds : List (Vec ℕ Z × ℕ)) → AllZip (IsListedAs C) es ds → bare_children ds ≡ bare_children es
    children_cloned [] [] z = refl
    children_cloned [] (d ∷ ds) z = absurd z
    children_cloned (e ∷ es) [] z = absurd z
    children_cloned (e ∷ es) (d ∷ ds) z = λ i. (bytes e.0 d.0 z.0.0 i, z.0.1 i) ∷ children_cloned es ds z.1 i

    nodes_cloned : (es ds : List (ℕ × Node (Vec ℕ Z) D)) → AllZip (λ e c. (c.0 ≡ e.0) × IsCloneOfNode C R e.1 c.1) es ds
        → ◌≡◌ {A = List (ℕ × Node (List ℕ) D)} (map (λ e. (e.0, bare_node e.1)) ds) (map (λ e. (e.0, bare_node e.1)) es)
    nodes_cloned [] [] z = refl
    nodes_cloned [] (d ∷ ds) z = absurd z
    nodes_cloned (e ∷ es) [] z = absurd z
    nodes_cloned (e ∷ es) (d ∷ ds) z =
        λ i. (z.0.0 i, record { parent = z.0.1.0 i; value = value e.1.value d.1.value z.0.1.1 i; children = children_cloned e.1.children d.1.children z.0.1.2 i }) ∷ nodes_cloned es ds z.1 i

    pub bare_cloned : (old new : Tree (Vec ℕ Z) D) → IsCloneOfTree C R old new → bare new ≡ bare old
    bare_cloned old new z = λ i. record { nodes = nodes_cloned old.nodes new.nodes z.1 i; last = z.0 i }
