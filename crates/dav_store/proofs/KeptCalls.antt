-- The parts of a store in memory after a node came, went or was moved.
use Rattle.std.proofs.Common.{◌≡◌, ℕ, ◌+◌, ◌<◌, ◌==◌, ◌&&◌, Bool, true, false, cond, List, [], ◌∷◌, ◌++◌, Option, Some, None, refl, sym, ap, subst, ◌∙◌, ⊎_elim, arith, if◌then◌else◌}
use Rattle.std.specs.Prelude.{◌≢◌, Vec, nat_eq, is_none, Result, Ok, Err}
use Rattle.std.specs.Option.{option_and_then, option_map, IsSome, IfSome, is_some}
use Rattle.std.specs.HashMap.{HashMap, get}
use Rattle.std.specs.Result.{IsOk, OnOk}
use Rattle.std.specs.FinMap.{find, put}
use Rattle.dav_core.specs.Path.{Path, path_cmp, parent_of, IsSegment, is_root, is_nonempty, name_cmp}
use Rattle.dav_core.specs.World.{Node as Seen, Nodes, is_folder_node, is_folder_kind, prune, moved as moved_nodes, file_made_with, members}
use Rattle.dav_core.proofs.Theorems.{shape}
use Rattle.dav_store.specs.Tree.{Tree, Node, node, value_of, single, leaf, child, key_refusal, add_refusal, added, deleted, moved, Does, DoesOrLacks, delete_refusal, has_children, has_some, children_of, root_id}
use Rattle.dav_store.specs.Placed.{named, placed, found, bare, is_same_name, IsGrown, IsMadeMap, IsChild}
use Rattle.dav_store.specs.Entries.{IsKept}
use Rattle.dav_store.specs.Makings.{IsUnmade}
use Rattle.dav_store.proofs.Walks.{inner}
use Rattle.dav_store.proofs.LoadedNodes.{at_found}
use Rattle.dav_store.proofs.TreeSingle.{named_single}
use Rattle.dav_store.proofs.Placing.{number_is, named_from, name-itself, root_there}
use Rattle.dav_store.proofs.TreePaths.{found_there, then_same, some_is, none-below, found-push}
use Rattle.dav_store.proofs.TreeCalls.{node_of_value, none_of_value, is_added, is_deleted, is_moved}
use Rattle.dav_store.proofs.PlacedCalls.{grown_with, placed_with, grown_without, placed_without, grown_elsewhere, placed_elsewhere}
use Rattle.dav_store.proofs.MadeMaps.{made_added, made_removed, made_same_values, if_file, file_by_map}
use Rattle.dav_store.proofs.TreeMoved.{IsMoved}
use Rattle.std.specs.List.{AllZip}
use Rattle.dav_store.proofs.EntryLemmas.{value_some, value_none, member_named, child_at, children_known}
use Rattle.dav_core.specs.declared.errors.FsError.{FsError}
use Rattle.dav_core.specs.declared.errors.FsError.TheVariants.{NotFound, Exists, Forbidden, GeneralFailure, InsufficientStorage}
use Rattle.std.specs.Map.{lookup}
use Rattle.std.specs.BTreeMap.{is_at}
use Rattle.std.specs.Ordering.{nat_cmp}
use Rattle.std.proofs.lemmas.Bool.{eqb-true, eq-eqb, ne_eqb, cases_Bool}
use Rattle.std.specs.Option.{option_map_or, option_or}
use Rattle.dav_core.specs.Numbers.{max_u64}
use Rattle.dav_store.proofs.BareTrees.{value_bare, named_bare, added_bare, deleted_bare, moved_bare, same_bytes}

pub folder_there : (o : Option Seen) → is_folder_node o ≡ true → IsSome o
folder_there None h = cc
folder_there (Some x) h = refl

pub none_in : {K : Type 0} (o : Option (Node K Seen)) → IsSome (option_map (λ x. x.value) o) → is_none o ≡ false
none_in None h = let no : false ≡ true = h in cc
none_in (Some x) h = refl

folder_node : (t : Tree (List ℕ) Seen) (p : ℕ) → is_folder_node (value_of t p) ≡ true → (x : Node (List ℕ) Seen) × (node t p ≡ Some x)
folder_node t p h = by (value_of t p) refl h where
  by : (o : Option Seen) → value_of t p ≡ o → is_folder_node o ≡ true → (x : Node (List ℕ) Seen) × (node t p ≡ Some x)
  by None is h = cc
  by (Some w) is h = let n = node_of_value t p w is in (n.0, n.1)

module _ {Z S : Type 0} (t : Tree (Vec ℕ Z) Seen) (made : HashMap ℕ ℕ S) (kept : IsKept t made) where
  -- ---- a node came
  module _ (path : Path) (p : ℕ) (k : Vec ℕ Z) (v : Seen) (at : found (bare t) path ≡ Some p) (free : named (bare t) p k.items ≡ None) (folder : is_folder_node (value_of (bare t) p) ≡ true) (segment : IsSegment k.items) where
    pub view_with : placed (bare (added same_bytes t p k v)) ≡ put path_cmp (path ++ k.items ∷ []) v (placed (bare t))
    view_with = ap placed (sym (added_bare t p k v)) ∙ placed_with (bare t) kept.grown path p k.items v at free folder segment

    pub grown_kept_with : IsGrown (bare (added same_bytes t p k v))
    grown_kept_with = subst IsGrown (added_bare t p k v) (grown_with (bare t) kept.grown path p k.items v at free folder segment)

    pub kept_with : (later : HashMap ℕ ℕ S) → get nat_eq made v.made ≡ None → ((n : ℕ) → get nat_eq later n ≡ cond (v.made == n) (Some (t.last + 1)) (get nat_eq made n)) → IsKept (added same_bytes t p k v) later
    kept_with later new map =
        let a = is_added (bare t) kept.grown p k.items v (folder_node (bare t) p folder).0 (folder_node (bare t) p folder).1 free in
        record {
          grown = grown_kept_with;
          map = subst (IsMadeMap (λ n. get nat_eq later n)) (added_bare t p k v)
              (made_added (bare t) (added is_same_name (bare t) p k.items v) (λ n. get nat_eq made n) (λ n. get nat_eq later n) kept.map (t.last + 1) a.values v
              (none_of_value (bare t) (t.last + 1) (kept.grown.above (t.last + 1) (omega arith))) a.value new map);
        }

  -- ---- a node went
  module _ (path : Path) (p : ℕ) (k : List ℕ) (m : ℕ) (at : found (bare t) path ≡ Some p) (child : named (bare t) p k ≡ Some m) (leaf : (l : List ℕ) → named (bare t) m l ≡ None) where
    pub view_without : placed (bare (deleted t m)) ≡ prune (path ++ k ∷ []) (placed (bare t))
    view_without = ap placed (sym (deleted_bare t m)) ∙ placed_without (bare t) kept.grown path p k m at child leaf

    pub kept_without : (w : Seen) (later : HashMap ℕ ℕ S) → value_of (bare t) m ≡ Some w → ((n : ℕ) → get nat_eq later n ≡ cond (w.made == n) None (get nat_eq made n)) → IsKept (deleted t m) later
    kept_without w later was map =
        let d = is_deleted (bare t) kept.grown p k m child leaf in
        record {
          grown = subst IsGrown (deleted_bare t m) (grown_without (bare t) kept.grown path p k m at child leaf);
          map = subst (IsMadeMap (λ n. get nat_eq later n)) (deleted_bare t m)
              (made_removed (bare t) (deleted (bare t) m) (λ n. get nat_eq made n) (λ n. get nat_eq later n) kept.map m d.values w was d.removed map);
        }

  -- ---- a node was moved
  module _ (F T : Path) (n fp : ℕ) (fk : List ℕ) (tp : ℕ) (tk : Vec ℕ Z) (old : Option ℕ)
      (at_from : found (bare t) F ≡ Some fp) (child : named (bare t) fp fk ≡ Some n) (at_to : found (bare t) T ≡ Some tp) (old_is : named (bare t) tp tk.items ≡ old)
      (leaf : (o : ℕ) → old ≡ Some o → (l : List ℕ) → named (bare t) o l ≡ None) (other : old ≡ Some n → ⊥)
      (apart : (s : Path) → T ++ tk.items ∷ [] ≡ (F ++ fk ∷ []) ++ s → ⊥) (folder : is_folder_node (value_of (bare t) tp) ≡ true) (segment : IsSegment tk.items) where
    pub view_elsewhere : placed (bare (moved same_bytes t n tp tk)) ≡ moved_nodes (F ++ fk ∷ []) (T ++ tk.items ∷ []) (placed (bare t))
    view_elsewhere =
        ap placed (sym (moved_bare t n tp tk)) ∙ placed_elsewhere (bare t) kept.grown F T n fp fk tp tk.items old at_from child at_to old_is leaf other apart folder segment

    grown_moved_kept : IsGrown (bare (moved same_bytes t n tp tk))
    grown_moved_kept =
        subst IsGrown (moved_bare t n tp tk) (grown_elsewhere (bare t) kept.grown F T n fp fk tp tk.items old at_from child at_to old_is leaf other apart folder segment)

    is_moved_there : IsMoved (bare t) (moved is_same_name (bare t) n tp tk.items) n fp fk tp tk.items old
    is_moved_there = let x = folder_node (bare t) tp folder in is_moved (bare t) kept.grown n fp fk tp tk.items old child old_is leaf other x.0 x.1

    pub kept_to_new : (later : HashMap ℕ ℕ S) → old ≡ None → ((q : ℕ) → get nat_eq later q ≡ get nat_eq made q) → IsKept (moved same_bytes t n tp tk) later
    kept_to_new later none map = record {
      grown = grown_moved_kept;
      map = subst (IsMadeMap (λ q. get nat_eq later q)) (moved_bare t n tp tk)
          (made_same_values (bare t) (moved is_same_name (bare t) n tp tk.items) (λ q. get nat_eq made q) (λ q. get nat_eq later q) kept.map
          (λ q. is_moved_there.values q (λ e. let clash : None ≡ Some q = sym none ∙ e in cc)) map);
    }

    pub kept_over_old : (o : ℕ) (w : Seen) (later : HashMap ℕ ℕ S) → old ≡ Some o → value_of (bare t) o ≡ Some w → ((q : ℕ) → get nat_eq later q ≡ cond (w.made == q) None (get nat_eq made q)) → IsKept (moved same_bytes t n tp tk) later
    kept_over_old o w later some was map = record {
      grown = grown_moved_kept;
      map = subst (IsMadeMap (λ q. get nat_eq later q)) (moved_bare t n tp tk)
          (made_removed (bare t) (moved is_same_name (bare t) n tp tk.items) (λ q. get nat_eq made q) (λ q. get nat_eq later q) kept.map o
          (λ q differ. is_moved_there.values q (λ e. differ (inner q o (sym e ∙ some)))) w was (is_moved_there.removed o some) map);
    }

-- ---- the root alone, and a copy
grown_single : (root : Seen) → is_folder_kind root.kind ≡ true → IsGrown (single {K = List ℕ} root)
grown_single root folder = named_single folder_there root folder

pub kept_single : {Z S : Type 0} (root : Seen) (made later : HashMap ℕ ℕ S) → is_folder_kind root.kind ≡ true → made.entries ≡ [] → ((q : ℕ) → get nat_eq later q ≡ cond (root.made == q) (Some 1) (get nat_eq made q)) → IsKept (single {K = Vec ℕ Z} root) later
kept_single {Z} root made later folder empty map = record {
  grown = grown_single root folder;
  map = record {
    each = λ m v e.
        let is = value_single m v (is_at (nat_cmp m) 1) refl e in
        map v.made ∙ ap (λ b. cond b (Some 1) (get nat_eq made v.made)) (eq-eqb root.made v.made (ap (λ (x : Seen). x.made) is.1)) ∙ ap Some (sym is.0);
    only = λ n m e. by_made n m (root.made == n) refl (sym (map n) ∙ e);
  };
} where
  value_single : (m : ℕ) (v : Seen) (b : Bool) → is_at (nat_cmp m) 1 ≡ b → option_map (λ x. x.value) (cond b (Some (leaf {K = List ℕ} 0 root)) None) ≡ Some v → (m ≡ 1) × (root ≡ v)
  value_single m v true is e = (number_is m 1 is, inner root v e)
  value_single m v false is e = cc

  by_made : (n m : ℕ) (b : Bool) → (root.made == n) ≡ b → cond b (Some 1) (get nat_eq made n) ≡ Some m → (v : Seen) × (value_of (bare (single {K = Vec ℕ Z} root)) m ≡ Some v) × (v.made ≡ n)
  by_made n m true is e = (root, ap (value_of (bare (single {K = Vec ℕ Z} root))) (sym (inner 1 m e)), eqb-true root.made n is)
  by_made n m false is e = let clash : None ≡ Some m = sym (ap (lookup (nat_eq n)) empty) ∙ e in cc

pub kept_cloned : {Z S : Type 0} (t u : Tree (Vec ℕ Z) Seen) (made later : HashMap ℕ ℕ S) → IsKept t made → bare u ≡ bare t → later.entries ≡ made.entries → IsKept u later
kept_cloned t u made later kept same map = record {
  grown = subst IsGrown (sym same) kept.grown;
  map = record {
    each = λ m v e. ap (lookup (nat_eq v.made)) map ∙ kept.map.each m v (ap (λ (x : Tree (List ℕ) Seen). value_of x m) (sym same) ∙ e);
    only = λ n m e. let o = kept.map.only n m (sym (ap (lookup (nat_eq n)) map) ∙ e) in (o.0, ap (λ (x : Tree (List ℕ) Seen). value_of x m) same ∙ o.1, o.2);
  };
}

-- ---- the file that was made with a number
pub file_of_map : {Z S : Type 0} (t : Tree (Vec ℕ Z) Seen) (made : HashMap ℕ ℕ S) → IsKept t made → (n : ℕ) (ns : Nodes) → placed (bare t) ≡ ns → (id : Option ℕ) → id ≡ get nat_eq made n
    → file_made_with n ns ≡ if_file (option_and_then (value_of t) id)
file_of_map t made kept n ns view id is =
    ap (file_made_with n) (sym view) ∙ file_by_map (bare t) kept.grown (λ q. get nat_eq made q) kept.map n
    ∙ ap (λ o. if_file (option_and_then (value_of (bare t)) o)) (sym is) ∙ ap if_file (then_same (value_of (bare t)) (value_of t) id (λ m _. value_bare t m))

pub items_cloned : {X : Type 0} (R : X → X → Type 0) → ((x y : X) → R x y → y ≡ x) → (xs ys : List X) → AllZip R xs ys → ys ≡ xs
items_cloned R same [] [] z = refl
items_cloned R same [] (y ∷ ys) z = absurd z
items_cloned R same (x ∷ xs) [] z = absurd z
items_cloned R same (x ∷ xs) (y ∷ ys) z = λ i. same x y z.0 i ∷ items_cloned R same xs ys z.1 i

-- what a call leaves that no rule refuses
pub does_new : {X Y : Type 0} (refusal : Option FsError) (answer : Y) (done old new : X) (result : Result Y FsError) → refusal ≡ None → Does refusal answer done result old new → new ≡ done
does_new refusal answer done old new result free does = (subst (λ r. Does r answer done result old new) free does).1

-- what isn't a folder isn't the root
pub below_root : {Z S : Type 0} (t : Tree (Vec ℕ Z) Seen) (made : HashMap ℕ ℕ S) → IsKept t made → (ns : Nodes) → placed (bare t) ≡ ns → (q : Path) → (is_root q && is_folder_node (find path_cmp q ns)) ≡ false → is_root q ≡ false
below_root t made kept ns view [] free =
    let root : is_folder_node (find path_cmp [] ns) ≡ true = ap is_folder_node (value_some t kept.grown ns view [] (Some 1) refl 1 refl ∙ sym (value_bare t 1)) ∙ kept.grown.root in
    let clash : true ≡ false = sym root ∙ free in cc
below_root t made kept ns view (x ∷ q) free = refl

-- what stands somewhere is found
pub stands_found : {Z : Type 0} (t : Tree (Vec ℕ Z) Seen) (grown : IsGrown (bare t)) (ns : Nodes) → placed (bare t) ≡ ns → (q : Path) → IsSome (find path_cmp q ns) → IsSome (found (bare t) q)
stands_found t grown ns view q some = by (found (bare t) q) refl where
  by : (o : Option ℕ) → found (bare t) q ≡ o → IsSome o
  by None e = let no : false ≡ true = sym (ap is_some (value_none t grown ns view q None (sym e) refl)) ∙ some in cc
  by (Some n) e = refl

pub node_found : {Z : Type 0} (t : Tree (Vec ℕ Z) Seen) → IsGrown (bare t) → (q : Path) (n : ℕ) → found (bare t) q ≡ Some n → IsSome (node t n)
node_found {Z} t grown q n at = by (node t n) (ap is_some (sym (value_bare t n)) ∙ found_there (bare t) grown q n at) where
  by : (o : Option (Node (Vec ℕ Z) Seen)) → IsSome (option_map (λ x. x.value) o) → IsSome o
  by None h = h
  by (Some x) h = refl

pub some_given : {X : Type 0} (o : Option X) (P : Type 0) → IsSome o → IfSome o (λ _. P) → P
some_given None P some h = let no : false ≡ true = some in cc
some_given (Some x) P some h = h

-- ---- a node that may be removed
is_side : (b c : Bool) → (b && c) ≡ false → b ≡ true → c ≡ false
is_side true c e h = e
is_side false c e h = cc

module _ {Z S : Type 0} (t : Tree (Vec ℕ Z) Seen) (made : HashMap ℕ ℕ S) (kept : IsKept t made) (ns : Nodes) (view : placed (bare t) ≡ ns) (q : Path) (at : Option ℕ) (here : at ≡ found (bare t) q) (id : ℕ) (is : at ≡ Some id)
    (below : is_root q ≡ false) (free : (is_folder_node (find path_cmp q ns) && is_nonempty (members q ns)) ≡ false) where
  pub leaf_here : (l : List ℕ) → named (bare t) id l ≡ None
  leaf_here l = by (named (bare t) id l) refl where
    some_member : {b : Bool} (ms : List (List ℕ × Bool)) → find name_cmp l ms ≡ Some b → is_nonempty ms ≡ true
    some_member [] h = cc
    some_member (m ∷ ms) h = refl

    by : (o : Option ℕ) → named (bare t) id l ≡ o → o ≡ None
    by None e = refl
    by (Some m) e =
        let c = kept.grown.children id l m e in
        let folder : is_folder_node (find path_cmp q ns) ≡ true = ap is_folder_node (value_some t kept.grown ns view q at here id is ∙ sym (value_bare t id)) ∙ c.folder in
        let empty = is_side (is_folder_node (find path_cmp q ns)) (is_nonempty (members q ns)) free folder in
        let v = some_is (value_of (bare t) m) c.there in
        let member = some_member (members q ns) (member_named t kept.grown ns view q at here l
        ∙ ap (λ o. option_map (λ n. is_folder_kind n.kind) (option_and_then (value_of (bare t)) o)) (child_at t kept.grown ns view q at here id is l ∙ e) ∙ ap (option_map (λ n. is_folder_kind n.kind)) v.1) in
        let clash : true ≡ false = sym member ∙ empty in cc

  -- it has a seat
  pub seat_here : (P : Path) × (k : List ℕ) × (p : ℕ) × (q ≡ P ++ k ∷ []) × (found (bare t) P ≡ Some p) × (named (bare t) p k ≡ Some id)
  seat_here = ⊎_elim
      (λ e. let yes : is_root q ≡ true = ap is_root e in cc)
      (λ s. by s.0 (parent_of q) s.1 (found (bare t) (parent_of q)) refl)
      (shape q) where
        by : (k : List ℕ) (P : Path) → q ≡ P ++ k ∷ [] → (o : Option ℕ) → found (bare t) P ≡ o → (P : Path) × (k : List ℕ) × (p : ℕ) × (q ≡ P ++ k ∷ []) × (found (bare t) P ≡ Some p) × (named (bare t) p k ≡ Some id)
        by k P cut None e = let clash : None ≡ Some id = sym (none-below (bare t) P (k ∷ []) e) ∙ ap (found (bare t)) (sym cut) ∙ sym here ∙ is in cc
        by k P cut (Some p) e = (P, k, p, cut, e, sym (found-push (bare t) P p k e) ∙ ap (found (bare t)) (sym cut) ∙ sym here ∙ is)

  no_children : (cs : List (List ℕ × ℕ)) → children_of (bare t) id ≡ cs → has_some cs ≡ false
  no_children [] e = refl
  no_children (c ∷ cs) e =
      let child : named (bare t) id c.0 ≡ Some c.1 = named_from (bare t) id c.0 ∙ ap (lookup (is_same_name c.0)) e ∙ ap (λ b. cond b (Some c.1) (lookup (is_same_name c.0) cs)) (name-itself c.0) in
      let clash : None ≡ Some c.1 = sym (leaf_here c.0) ∙ child in cc

  -- it has no children
  pub childless : has_children t id ≡ false
  childless = sym (children_known t kept.grown ns view q at here id is) ∙ no_children (children_of (bare t) id) refl

  -- so it is deleted
  pub not_refused : delete_refusal t id ≡ None
  not_refused =
      ap (λ b. if b then Some NotFound else if id == root_id then Some Forbidden else if has_children t id then Some Exists else None) node_there
      ∙ ap (λ b. if b then Some Forbidden else if has_children t id then Some Exists else None) not_root
      ∙ ap (λ b. if b then Some Exists else None) childless where
        seat_child : IsChild (bare t) seat_here.2 seat_here.1 id
        seat_child = kept.grown.children seat_here.2 seat_here.1 id seat_here.5

        node_there : is_none (node t id) ≡ false
        node_there = none_in (node t id) (ap is_some (sym (value_bare t id)) ∙ seat_child.there)

        not_root : (id == root_id) ≡ false
        not_root = ⊎_elim (λ a. absurd (seat_child.not_root (eqb-true id root_id a))) (λ a. a) (cases_Bool (id == root_id))

  pub view_pruned : placed (bare (deleted t id)) ≡ prune q ns
  view_pruned =
      let (P, k, p, cut, above, child) = seat_here in
      view_without t made kept P p k id above child leaf_here ∙ ap (λ (r : Path). prune r (placed (bare t))) (sym cut) ∙ ap (prune q) view

  pub kept_pruned : (w : Seen) (later : HashMap ℕ ℕ S) → Some w ≡ value_of t id → ((n : ℕ) → get nat_eq later n ≡ cond (w.made == n) None (get nat_eq made n)) → IsKept (deleted t id) later
  kept_pruned w later value map =
      let (P, k, p, cut, above, child) = seat_here in
      kept_without t made kept P p k id above child leaf_here w later (value_bare t id ∙ sym value) map

-- ---- the map in another order
pub kept_reordered : {Z S : Type 0} (t : Tree (Vec ℕ Z) Seen) (made later : HashMap ℕ ℕ S) → IsKept t made → ((q : ℕ) → get nat_eq later q ≡ get nat_eq made q) → IsKept t later
kept_reordered t made later kept map = record {
  grown = kept.grown;
  map = made_same_values (bare t) (bare t) (λ q. get nat_eq made q) (λ q. get nat_eq later q) kept.map (λ q. refl) map;
}

-- what a call that takes memory leaves, where it answers, and where it doesn't
pub lacking_new : {X Y : Type 0} (takes : Bool) (refusal : Option FsError) (answer : Y) (done old new : X) (result : Result Y FsError) (e : FsError) → result ≡ Err e → DoesOrLacks takes refusal answer done result old new → new ≡ old
lacking_new takes None answer done old new result e is does = ⊎_elim (λ d. let clash : Ok answer ≡ Err e = sym d.0 ∙ is in cc) (λ l. l.2) does
lacking_new takes (Some x) answer done old new result e is does = does.1

pub answered_new : {X Y : Type 0} (takes : Bool) (refusal : Option FsError) (answer y : Y) (done old new : X) (result : Result Y FsError) → result ≡ Ok y → DoesOrLacks takes refusal answer done result old new → (new ≡ done) × (y ≡ answer) × (refusal ≡ None)
answered_new takes None answer y done old new result is does =
    ⊎_elim (λ d. let same : Ok y ≡ Ok answer = sym is ∙ d.0 in (d.1, cc, refl)) (λ l. let clash : Ok y ≡ Err InsufficientStorage = sym is ∙ l.1 in cc) does
answered_new takes (Some x) answer y done old new result is does = let clash : Ok y ≡ Err x = sym is ∙ does.0 in cc

-- a call that no rule refuses lacks memory where it doesn't answer
pub lacks_memory : {X Y : Type 0} (takes : Bool) (refusal : Option FsError) (answer : Y) (done old new : X) (result : Result Y FsError) (e : FsError) → refusal ≡ None → result ≡ Err e → DoesOrLacks takes refusal answer done result old new → e ≡ InsufficientStorage
lacks_memory takes refusal answer done old new result e free is does =
    ⊎_elim (λ d. let clash : Ok answer ≡ Err e = sym d.0 ∙ is in cc) (λ l. let same : Err e ≡ Err InsufficientStorage = sym is ∙ l.1 in cc)
    (subst (λ r. DoesOrLacks takes r answer done result old new) free does)

pub on_ok : {A E : Type 0} (r : Result A E) (P : Type 0) → IsOk r → OnOk r P → P
on_ok (Ok x) P i h = h
on_ok (Err e) P i h = let no : false ≡ true = i in cc

-- where no node was made under a number, the map has none for it
pub unmade : {Z S : Type 0} (t : Tree (Vec ℕ Z) Seen) (made : HashMap ℕ ℕ S) → IsKept t made → (ns : Nodes) → placed (bare t) ≡ ns → (n : ℕ) → IsUnmade n ns → get nat_eq made n ≡ None
unmade t made kept ns view n before = by (get nat_eq made n) refl where
  by : (o : Option ℕ) → get nat_eq made n ≡ o → o ≡ None
  by None e = refl
  by (Some m) e =
      let one = kept.map.only n m e in
      let at = kept.grown.reached m (ap is_some one.1) in
      let stood : find path_cmp at.0 ns ≡ Some one.0 = value_some t kept.grown ns view at.0 (Some m) (sym at.1) m refl ∙ sym (value_bare t m) ∙ one.1 in
      absurd (at_found (λ e. e.1.made ≢ n) ns at.0 one.0 before stood one.2)

-- ---- a node that may be put at a path
module _ {Z S : Type 0} (t : Tree (Vec ℕ Z) Seen) (made : HashMap ℕ ℕ S) (kept : IsKept t made) (ns : Nodes) (view : placed (bare t) ≡ ns) (q : Path) (above : Option ℕ) (here : above ≡ found (bare t) (parent_of q)) (id : ℕ) (is : above ≡ Some id)
    (free : find path_cmp q ns ≡ None) (folder : is_folder_node (find path_cmp (parent_of q) ns) ≡ true) where
  isnt_root : q ≡ [] → ⊥
  isnt_root e =
      let root : find path_cmp [] ns ≡ value_of t 1 = value_some t kept.grown ns view [] (Some 1) refl 1 refl in
      let none : value_of (bare t) 1 ≡ None = value_bare t 1 ∙ sym root ∙ ap (λ (r : Path). find path_cmp r ns) (sym e) ∙ free in
      let no : false ≡ true = sym (ap is_some none) ∙ root_there (bare t) kept.grown in cc

  pub below_the_root : is_root q ≡ false
  below_the_root = by q refl where
    by : (r : Path) → q ≡ r → is_root q ≡ false
    by [] e = absurd (isnt_root e)
    by (x ∷ r) e = ap is_root e

  above_is : found (bare t) (parent_of q) ≡ Some id
  above_is = sym here ∙ is

  is_under_folder : is_folder_node (value_of (bare t) id) ≡ true
  is_under_folder = ap is_folder_node (value_bare t id ∙ sym (value_some t kept.grown ns view (parent_of q) above here id is)) ∙ folder

  module _ (k : Vec ℕ Z) (v : Seen) (at_new : q ≡ parent_of q ++ k.items ∷ []) (segment : IsSegment k.items) where
    is_free : named (bare t) id k.items ≡ None
    is_free = by (named (bare t) id k.items) refl where
      by : (o : Option ℕ) → named (bare t) id k.items ≡ o → o ≡ None
      by None e = refl
      by (Some m) e =
          let c = kept.grown.children id k.items m e in
          let v = some_is (value_of (bare t) m) c.there in
          let at : Some m ≡ found (bare t) q = sym (ap (found (bare t)) at_new ∙ found-push (bare t) (parent_of q) id k.items above_is ∙ e) in
          let stands_there : find path_cmp q ns ≡ value_of t m = value_some t kept.grown ns view q (Some m) at m refl in
          let clash : None ≡ Some v.0 = sym free ∙ stands_there ∙ sym (value_bare t m) ∙ v.1 in cc

    -- so it is added, or memory lacks
    pub put_not_refused : t.last < max_u64 → add_refusal same_bytes t id k false ≡ None
    put_not_refused more =
        ap (λ b. if b then Some NotFound else option_or (key_refusal same_bytes t id k false) (if t.last == max_u64 then Some GeneralFailure else None)) there
        ∙ ap (λ o. option_or (option_map_or (λ old. Some Exists) o None) (if t.last == max_u64 then Some GeneralFailure else None)) no_child
        ∙ ap (λ b. if b then Some GeneralFailure else None) not_last where
          there : is_none (node t id) ≡ false
          there = none_in (node t id) (ap is_some (sym (value_bare t id)) ∙ folder_there (value_of (bare t) id) is_under_folder)

          no_child : child same_bytes t id k ≡ None
          no_child = sym (named_bare t id k.items) ∙ is_free

          not_last : (t.last == max_u64) ≡ false
          not_last = ne_eqb t.last max_u64 (λ e. absurd (omega (arith, more, e)))

    pub view_put : placed (bare (added same_bytes t id k v)) ≡ put path_cmp q v ns
    view_put =
        view_with t made kept (parent_of q) id k v above_is is_free is_under_folder segment
        ∙ ap (λ (r : Path). put path_cmp r v (placed (bare t))) (sym at_new) ∙ ap (put path_cmp q v) view

    pub kept_put : (later : HashMap ℕ ℕ S) → get nat_eq made v.made ≡ None → ((n : ℕ) → get nat_eq later n ≡ cond (v.made == n) (Some (t.last + 1)) (get nat_eq made n)) → IsKept (added same_bytes t id k v) later
    kept_put later new map = kept_with t made kept (parent_of q) id k v above_is is_free is_under_folder segment later new map
