-- The list that a tree of names stands for after each call of the tree.
use Rattle.std.proofs.Common.{◌≡◌, ℕ, ◌+◌, true, cond, List, [], ◌∷◌, ◌++◌, Option, Some, None, refl, sym, ap, ◌∙◌, ⊎_elim, arith}
use Rattle.std.specs.Option.{option_and_then, option_map, option_or, is_some}
use Rattle.std.specs.FinMap.{find, put}
use Rattle.std.proofs.lemmas.Bool.{cases_Bool}
use Rattle.dav_core.specs.Path.{Path, path_cmp, is_same_path, is_at_or_under, rest_after, IsSegment}
use Rattle.dav_core.specs.World.{Node as Seen, is_folder_kind, is_folder_node, adjust, prune, moved as moved_nodes}
use Rattle.dav_core.proofs.Theorems.{find-adjust, find-put_node, sorted-put_node, same_path, path-itself, find-prune, sorted-prune, find-moved, sorted-moved, adjust_keeps_order}
use Rattle.dav_store.specs.Tree.{Tree, Node, node, value_of, with_value, added, deleted, moved}
use Rattle.dav_store.specs.Placed.{is_same_name, named, placed, found, stands, IsGrown}
use Rattle.dav_store.proofs.Placing.{one_at, find-placed, same_placed, sorted-placed}
use Rattle.dav_store.proofs.TreePaths.{then_same}
use Rattle.dav_store.proofs.TreeValues as values
use Rattle.dav_store.proofs.TreeAdded.{stands_added, grown_added}
use Rattle.dav_store.proofs.TreeDeleted.{stands_deleted, grown_deleted}
use Rattle.dav_store.proofs.TreeMoved.{stands_moved, grown_moved, after_move}
use Rattle.dav_store.proofs.TreeCalls.{node_of_value, none_of_value, is_added, is_deleted, is_moved}

module _ (t : Tree (List ℕ) Seen) (grown : IsGrown t) where
  -- ---- the value of a node
  module _ (path : Path) (m : ℕ) (w v : Seen) (at : found t path ≡ Some m) (is : value_of t m ≡ Some w) (kind : is_folder_kind v.kind ≡ is_folder_kind w.kind) where
    abbrev valued : Tree (List ℕ) Seen
    valued = with_value t m v

    pub some_valued : (q : ℕ) → is_some (value_of valued q) ≡ is_some (value_of t q)
    some_valued = values.some_valued t grown m w v is kind

    pub grown_valued : IsGrown valued
    grown_valued = values.grown_valued t grown m w v is kind

    stands_valued : (f : Seen → Seen) → v ≡ f w → (q : Path) → stands valued q ≡ cond (is_same_path path q) (option_map f (stands t q)) (stands t q)
    stands_valued f made q =
        ap (option_and_then (value_of valued)) (values.found_same t grown m w v is kind q)
        ∙ ⊎_elim
        (λ same. let there : found t q ≡ Some m = ap (found t) (sym (same_path path q same)) ∙ at in
        ap (option_and_then (value_of valued)) there ∙ values.value_here t grown m w v is kind ∙ ap Some made
        ∙ sym (ap (λ b. cond b (option_map f (stands t q)) (stands t q)) same ∙ ap (option_map f) (ap (option_and_then (value_of t)) there ∙ is)))
        (λ other. then_same (value_of valued) (value_of t) (found t q)
        (λ x there. values.value_apart t grown m w v is kind x (λ e. let same : is_same_path path q ≡ true = ap (is_same_path path) (one_at t grown q path m (there ∙ ap Some e) at) ∙ path-itself path in cc))
        ∙ sym (ap (λ b. cond b (option_map f (stands t q)) (stands t q)) other))
        (cases_Bool (is_same_path path q))

    -- the node at a path is changed
    pub placed_valued : (f : Seen → Seen) → v ≡ f w → placed valued ≡ adjust path f (placed t)
    placed_valued f made =
        same_placed valued grown_valued (adjust path f (placed t)) (adjust_keeps_order path f (placed t) (sorted-placed t grown))
        (λ q. stands_valued f made q
        ∙ sym (find-adjust path f q (placed t) ∙ ap (λ o. cond (is_same_path path q) (option_map f o) o) (find-placed t grown q)))

  -- where nothing is at a path, its change changes nothing
  pub placed_unchanged : (path : Path) (f : Seen → Seen) → stands t path ≡ None → placed t ≡ adjust path f (placed t)
  placed_unchanged path f none =
      same_placed t grown (adjust path f (placed t)) (adjust_keeps_order path f (placed t) (sorted-placed t grown))
      (λ q. ⊎_elim
      (λ same. let there : stands t q ≡ None = ap (stands t) (sym (same_path path q same)) ∙ none in
      there ∙ sym (ap (λ b. cond b (option_map f (stands t q)) (stands t q)) same ∙ ap (option_map f) there))
      (λ other. sym (ap (λ b. cond b (option_map f (stands t q)) (stands t q)) other))
      (cases_Bool (is_same_path path q))
      ∙ sym (find-adjust path f q (placed t) ∙ ap (λ o. cond (is_same_path path q) (option_map f o) o) (find-placed t grown q)))

  -- ---- a new node
  module _ (path : Path) (p : ℕ) (k : List ℕ) (v : Seen) (at : found t path ≡ Some p) (free : named t p k ≡ None) (folder : is_folder_node (value_of t p) ≡ true) (segment : IsSegment k) where
    parent_here : (x : Node (List ℕ) Seen) × (node t p ≡ Some x)
    parent_here = by (value_of t p) refl folder where
      by : (o : Option Seen) → value_of t p ≡ o → is_folder_node o ≡ true → (x : Node (List ℕ) Seen) × (node t p ≡ Some x)
      by None is h = cc
      by (Some w) is h = let n = node_of_value t p w is in (n.0, n.1)

    new_value : value_of t (t.last + 1) ≡ None
    new_value = none_of_value t (t.last + 1) (grown.above (t.last + 1) (omega arith))

    pub grown_with : IsGrown (added is_same_name t p k v)
    grown_with = grown_added t grown (added is_same_name t p k v) path p k (t.last + 1) v (is_added t grown p k v parent_here.0 parent_here.1 free) at free new_value folder segment

    pub placed_with : placed (added is_same_name t p k v) ≡ put path_cmp (path ++ k ∷ []) v (placed t)
    placed_with =
        same_placed (added is_same_name t p k v) grown_with (put path_cmp (path ++ k ∷ []) v (placed t)) (sorted-put_node (path ++ k ∷ []) v (placed t) (sorted-placed t grown))
        (λ q. stands_added t grown (added is_same_name t p k v) path p k (t.last + 1) v (is_added t grown p k v parent_here.0 parent_here.1 free) at free new_value folder segment q
        ∙ sym (find-put_node q (path ++ k ∷ []) v (placed t) ∙ ap (cond (is_same_path q (path ++ k ∷ [])) (Some v)) (find-placed t grown q)))

  -- ---- a node less
  module _ (path : Path) (p : ℕ) (k : List ℕ) (m : ℕ) (at : found t path ≡ Some p) (child : named t p k ≡ Some m) (leaf : (l : List ℕ) → named t m l ≡ None) where
    pub grown_without : IsGrown (deleted t m)
    grown_without = grown_deleted t grown (deleted t m) path p k m (is_deleted t grown p k m child leaf) at child leaf

    pub placed_without : placed (deleted t m) ≡ prune (path ++ k ∷ []) (placed t)
    placed_without =
        same_placed (deleted t m) grown_without (prune (path ++ k ∷ []) (placed t)) (sorted-prune (path ++ k ∷ []) (placed t) (sorted-placed t grown))
        (λ q. stands_deleted t grown (deleted t m) path p k m (is_deleted t grown p k m child leaf) at child leaf q
        ∙ sym (find-prune (path ++ k ∷ []) q (placed t) ∙ ap (cond (is_at_or_under q (path ++ k ∷ [])) None) (find-placed t grown q)))

  -- ---- a node elsewhere
  module _ (F T : Path) (n fp : ℕ) (fk : List ℕ) (tp : ℕ) (tk : List ℕ) (old : Option ℕ)
      (at_from : found t F ≡ Some fp) (child : named t fp fk ≡ Some n) (at_to : found t T ≡ Some tp) (old_is : named t tp tk ≡ old)
      (leaf : (o : ℕ) → old ≡ Some o → (l : List ℕ) → named t o l ≡ None) (other : old ≡ Some n → ⊥)
      (apart : (s : Path) → T ++ tk ∷ [] ≡ (F ++ fk ∷ []) ++ s → ⊥) (folder : is_folder_node (value_of t tp) ≡ true) (segment : IsSegment tk) where
    new_parent : (x : Node (List ℕ) Seen) × (node t tp ≡ Some x)
    new_parent = by (value_of t tp) refl folder where
      by : (o : Option Seen) → value_of t tp ≡ o → is_folder_node o ≡ true → (x : Node (List ℕ) Seen) × (node t tp ≡ Some x)
      by None is h = cc
      by (Some w) is h = let x = node_of_value t tp w is in (x.0, x.1)

    pub grown_elsewhere : IsGrown (moved is_same_name t n tp tk)
    grown_elsewhere =
        grown_moved t grown (moved is_same_name t n tp tk) F T n fp fk tp tk old
        (is_moved t grown n fp fk tp tk old child old_is leaf other new_parent.0 new_parent.1) at_from child at_to old_is leaf apart folder segment

    same_after : (q : Path) → after_move (stands t) (F ++ fk ∷ []) q (rest_after (T ++ tk ∷ []) q) (rest_after (F ++ fk ∷ []) q)
        ≡ find path_cmp q (moved_nodes (F ++ fk ∷ []) (T ++ tk ∷ []) (placed t))
    same_after q =
        by (rest_after (T ++ tk ∷ []) q) ∙ sym (find-moved (F ++ fk ∷ []) (T ++ tk ∷ []) q (placed t)) where
          by : (a : Option Path) → after_move (stands t) (F ++ fk ∷ []) q a (rest_after (F ++ fk ∷ []) q)
              ≡ option_or (option_and_then (λ rest. find path_cmp ((F ++ fk ∷ []) ++ rest) (placed t)) a) (cond (is_some a) None (cond (is_at_or_under q (F ++ fk ∷ [])) None (find path_cmp q (placed t))))
          by None = sym (ap (cond (is_at_or_under q (F ++ fk ∷ [])) None) (find-placed t grown q))
          by (Some s) = ap (λ o. option_or o None) (sym (find-placed t grown ((F ++ fk ∷ []) ++ s)))

    pub placed_elsewhere : placed (moved is_same_name t n tp tk) ≡ moved_nodes (F ++ fk ∷ []) (T ++ tk ∷ []) (placed t)
    placed_elsewhere =
        same_placed (moved is_same_name t n tp tk) grown_elsewhere (moved_nodes (F ++ fk ∷ []) (T ++ tk ∷ []) (placed t)) (sorted-moved (F ++ fk ∷ []) (T ++ tk ∷ []) (placed t) (sorted-placed t grown))
        (λ q. stands_moved t grown (moved is_same_name t n tp tk) F T n fp fk tp tk old
        (is_moved t grown n fp fk tp tk old child old_is leaf other new_parent.0 new_parent.1) at_from child at_to old_is leaf apart folder segment q ∙ same_after q)
