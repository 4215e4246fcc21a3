-- The members of a folder, from the children of its node in the order of their names.
use Rattle.std.proofs.Common.{◌≡◌, ℕ, suc, ◌+◌, Bool, true, false, cond, T, List, [], ◌∷◌, map, All, get_or, Option, Some, None, refl, sym, ap, subst, ◌∙◌, ⊎_elim, arith, IsPermutation}
use Rattle.std.specs.Prelude.{Vec, Result, Ok, Err, IfOk}
use Rattle.std.specs.declared.cmp.Ordering.{Ordering}
use Rattle.std.specs.declared.cmp.Ordering.TheVariants.{Less, Equal, Greater}
use Rattle.std.specs.Ordering.{nat_cmp, is_eq, is_lt, ordering_then, ordering_reverse}
use Rattle.std.specs.Option.{option_map, option_and_then, IsSome, is_some}
use Rattle.std.specs.List.{IsDistinct, AllZip}
use Rattle.std.specs.List.Sorted.{IsSortedBy}
use Rattle.std.specs.Cmp.Lexicographic.{nat_list_cmp_total}
use Rattle.std.specs.Map.{lookup, keys_of}
use Rattle.std.specs.FinMap.{find, is_sorted, slice_cmp-IsAntisymmetric, nat_cmp-IsAntisymmetric}
use Rattle.std.specs.FinMap.Entries.{below_all, same_entries}
use Rattle.std.proofs.lemmas.Bool.{cases_Bool}
use Rattle.std.proofs.lemmas.Cmp.{nat_list_eq_equiv}
use Rattle.std.proofs.lemmas.List.Elements.{All-nil, All-cons}
use Rattle.std.proofs.lemmas.List.Sorted.{IsPermutation-map, All-permutation}
use Rattle.std.proofs.lemmas.Map.Keys.{IsDistinct-IsPermutation}
use Rattle.indexmap.proofs.MapLemmas.{lookup_permutation}
use Rattle.dav_core.specs.Path.{Path, name_cmp, path_cmp, IsSegment, is_nonempty}
use Rattle.dav_core.specs.World.{Node as Seen, Nodes, is_folder_node, is_folder_kind, members}
use Rattle.dav_core.proofs.Theorems.{same_name, name-itself as tied-itself, sorted-members, both_true, left_true, right_true}
use Rattle.dav_store.specs.Tree.{Tree, value_of, children_of, IsListedAs}
use Rattle.dav_store.specs.ChildOrder.{child_cmp}
use Rattle.dav_store.specs.Placed.{named, placed, found, bare, bare_children, is_same_name, IsGrown}
use Rattle.dav_store.proofs.Placing.{name_is, name-itself, named_from, sorted-placed}
use Rattle.dav_store.proofs.TreePaths.{some_is}
use Rattle.dav_store.proofs.BareTrees.{value_bare, children_bare}
use Rattle.dav_store.proofs.EntryLemmas.{member_named, no_members, child_at}

-- both tests of names say the same
same_test : (k l : List ℕ) → is_eq (name_cmp k l) ≡ is_same_name k l
same_test k l = ⊎_elim
    (λ a. ap (λ (x : List ℕ). is_eq (name_cmp k x)) (sym (name_is k l a)) ∙ tied-itself k ∙ sym a)
    (λ a. ⊎_elim
    (λ b. let same : is_same_name k l ≡ true = ap (is_same_name k) (sym (same_name k l b)) ∙ name-itself k in let clash : true ≡ false = sym same ∙ a in cc)
    (λ b. b ∙ sym a)
    (cases_Bool (is_eq (name_cmp k l))))
    (cases_Bool (is_same_name k l))

-- a child by its name, and whether it is a folder
abbrev pub member : (ℕ → Option Seen) → List ℕ × ℕ → List ℕ × Bool
member value e = (e.0, is_folder_node (value e.1))

find_step : (f : ℕ → Bool) (e : List ℕ × ℕ) (o : Option Bool) (p : Option ℕ) (b : Bool) → o ≡ option_map f p → cond b (Some (f e.1)) o ≡ option_map f (cond b (Some e.1) p)
find_step f e o p true h = refl
find_step f e o p false h = h

find-member : (value : ℕ → Option Seen) (name : List ℕ) (es : List (List ℕ × ℕ)) → find name_cmp name (map (member value) es) ≡ option_map (λ m. is_folder_node (value m)) (lookup (is_same_name name) es)
find-member value name [] = refl
find-member value name (e ∷ es) =
    ap (λ b. cond b (Some (is_folder_node (value e.1))) (find name_cmp name (map (member value) es))) (same_test name e.0)
    ∙ find_step (λ m. is_folder_node (value m)) e (find name_cmp name (map (member value) es)) (lookup (is_same_name name) es) (is_same_name name e.0) (find-member value name es)

-- ---- in order
rises_by : (o p r : Ordering) → is_lt (ordering_then o p) ≡ false → is_eq o ≡ false → r ≡ ordering_reverse o → T (is_lt r)
rises_by Less p r h e is = cc
rises_by Equal p r h e is = cc
rises_by Greater p r h e is = subst (λ (x : Ordering). T (is_lt x)) (sym is) tt

less : (o : Ordering) → T (is_lt o) → o ≡ Less
less Less h = refl
less Equal h = absurd h
less Greater h = absurd h

then_below : (x y z : List ℕ) → T (is_lt (name_cmp x y)) → T (is_lt (name_cmp y z)) → T (is_lt (name_cmp x z))
then_below x y z h g = subst (λ (o : Ordering). T (is_lt o)) (sym (nat_list_cmp_total.trans x y z (less (name_cmp x y) h) (less (name_cmp y z) g))) tt

below_from : (x y : List ℕ) (ms : List (List ℕ × Bool)) → T (is_lt (name_cmp x y)) → T (below_all name_cmp y ms) → T (below_all name_cmp x ms)
below_from x y [] h below = tt
below_from x y (m ∷ ms) h below =
    both_true (is_lt (name_cmp x m.0)) (below_all name_cmp x ms) (then_below x y m.0 h (left_true (is_lt (name_cmp y m.0)) (below_all name_cmp y ms) below))
    (below_from x y ms h (right_true (is_lt (name_cmp y m.0)) (below_all name_cmp y ms) below))

module _ {Z : Type 0} where
  abbrev InOrder : List (Vec ℕ Z × ℕ) → Type 0
  InOrder = IsSortedBy (λ x y. is_lt (child_cmp x y))

  abbrev Differ : List (Vec ℕ Z × ℕ) → Type 0
  Differ list = IsDistinct is_same_name (keys_of (bare_children list))

  later_in_order : (x : Vec ℕ Z × ℕ) (xs : List (Vec ℕ Z × ℕ)) → InOrder (x ∷ xs) → InOrder xs
  later_in_order x xs h k d low high =
      let next : suc k + 1 ≡ suc (k + 1) = omega arith in
      subst (λ n. is_lt (child_cmp (get_or (x ∷ xs) n d) (get_or xs k d)) ≡ false) next (h (suc k) d (omega arith) (omega arith))

  first_differs : (x y : Vec ℕ Z × ℕ) (ys : List (Vec ℕ Z × ℕ)) → Differ (x ∷ y ∷ ys) → is_same_name x.0.items y.0.items ≡ false
  unfolding IsDistinct
  first_differs x y ys h = h.0.0

  later_differ : (x : Vec ℕ Z × ℕ) (xs : List (Vec ℕ Z × ℕ)) → Differ (x ∷ xs) → Differ xs
  unfolding IsDistinct
  later_differ x xs h = h.1

  first_rises : (x y : Vec ℕ Z × ℕ) (ys : List (Vec ℕ Z × ℕ)) → InOrder (x ∷ y ∷ ys) → Differ (x ∷ y ∷ ys) → T (is_lt (name_cmp x.0.items y.0.items))
  first_rises x y ys h differ =
      rises_by (name_cmp y.0.items x.0.items) (nat_cmp y.1 x.1) (name_cmp x.0.items y.0.items) (h 0 y (omega arith) (omega arith))
      (same_test y.0.items x.0.items ∙ nat_list_eq_equiv.symm y.0.items x.0.items ∙ first_differs x y ys differ)
      (nat_list_cmp_total.antisymm x.0.items y.0.items)

  -- children in order of their names, none of which comes twice, are in that order by the strict test of a map
  sorted_children : (value : ℕ → Option Seen) (xs : List (Vec ℕ Z × ℕ)) → InOrder xs → Differ xs → T (is_sorted name_cmp (map (member value) (bare_children xs)))
  sorted_children value [] h differ = tt
  sorted_children value (x ∷ []) h differ = tt
  sorted_children value (x ∷ y ∷ ys) h differ =
      let rest = sorted_children value (y ∷ ys) (later_in_order x (y ∷ ys) h) (later_differ x (y ∷ ys) differ) in
      let ms = map (member value) (bare_children ys) in
      let up = first_rises x y ys h differ in
      both_true (below_all name_cmp x.0.items (member value (y.0.items, y.1) ∷ ms)) (is_sorted name_cmp (member value (y.0.items, y.1) ∷ ms))
      (both_true (is_lt (name_cmp x.0.items y.0.items)) (below_all name_cmp x.0.items ms) up
      (below_from x.0.items y.0.items ms up (left_true (below_all name_cmp y.0.items ms) (is_sorted name_cmp ms) rest)))
      rest

  of_bare : (value : ℕ → Option Seen) (xs : List (Vec ℕ Z × ℕ)) → map (λ e. (e.0.items, is_folder_node (value e.1))) xs ≡ map (member value) (bare_children xs)
  of_bare value [] = refl
  of_bare value (x ∷ xs) = ap (λ (ms : List (List ℕ × Bool)). (x.0.items, is_folder_node (value x.1)) ∷ ms) (of_bare value xs)

  segments_unbare : (xs : List (Vec ℕ Z × ℕ)) → All (λ e. IsSegment e.0) (bare_children xs) → All (λ e. IsSegment e.0.items) xs
  segments_unbare [] h = All-nil (λ e. IsSegment e.0.items)
  segments_unbare (x ∷ xs) h = All-cons (λ e. IsSegment e.0.items) x xs (h 0 (x.0.items, x.1) (omega arith)) (segments_unbare xs (λ k d lt. h (suc k) d (omega arith)))

-- each of some children is found by its name
still_found : (name : List ℕ) (e : List ℕ × ℕ) (es : List (List ℕ × ℕ)) (b : Bool) → IsSome (lookup (is_same_name name) es) → IsSome (cond b (Some e.1) (lookup (is_same_name name) es))
still_found name e es true h = refl
still_found name e es false h = h

each_found : (es : List (List ℕ × ℕ)) → All (λ e. IsSome (lookup (is_same_name e.0) es)) es
each_found [] = All-nil (λ (e : List ℕ × ℕ). IsSome {T = ℕ} (lookup (is_same_name e.0) []))
each_found (e ∷ es) =
    All-cons (λ f. IsSome (lookup (is_same_name f.0) (e ∷ es))) e es (ap (λ b. is_some (cond b (Some e.1) (lookup (is_same_name e.0) es))) (name-itself e.0))
    (λ k d lt. still_found (get_or es k d).0 e es (is_same_name (get_or es k d).0 e.0) (each_found es k d lt))

none_in : (ms : List (List ℕ × Bool)) → is_nonempty ms ≡ false → [] ≡ ms
none_in [] h = refl
none_in (m ∷ ms) h = cc

module _ {Z : Type 0} (t : Tree (Vec ℕ Z) Seen) (grown : IsGrown (bare t)) (ns : Nodes) (view : placed (bare t) ≡ ns) (q : Path) (at : Option ℕ) (here : at ≡ found (bare t) q) where
  -- where nothing is, nothing is listed
  pub none_listed : at ≡ None → [] ≡ members q ns
  none_listed is = none_in (members q ns) (no_members t grown ns view q at here is)

  module _ (id : ℕ) (is : at ≡ Some id) (list : List (Vec ℕ Z × ℕ)) (moves : IsPermutation (children_of (bare t) id) (bare_children list)) where
    differ : IsDistinct is_same_name (keys_of (bare_children list))
    differ =
        IsDistinct-IsPermutation is_same_name nat_list_eq_equiv.symm (keys_of (children_of (bare t) id)) (keys_of (bare_children list))
        (IsPermutation-map (λ (p : List ℕ × ℕ). p.0) (children_of (bare t) id) (bare_children list) moves) (grown.names id)

    -- the names are segments
    pub segments_listed : All (λ e. IsSegment e.0.items) list
    segments_listed =
        segments_unbare list (All-permutation (λ e. IsSegment e.0) (children_of (bare t) id) (bare_children list) moves
        (λ k d lt.
        let e = get_or (children_of (bare t) id) k d in
        let s = some_is (lookup (is_same_name e.0) (children_of (bare t) id)) (each_found (children_of (bare t) id) k d lt) in
        (grown.children id e.0 s.0 (named_from (bare t) id e.0 ∙ s.1)).name))

    kind_of_child : (name : List ℕ) (o : Option ℕ) → named (bare t) id name ≡ o
        → option_map (λ m. is_folder_node (value_of t m)) o ≡ option_map (λ n. is_folder_kind n.kind) (option_and_then (value_of (bare t)) o)
    kind_of_child name None e = refl
    kind_of_child name (Some m) e =
        let v = some_is (value_of (bare t) m) (grown.children id name m e).there in
        ap (λ o. Some (is_folder_node o)) (sym (value_bare t m) ∙ v.1) ∙ sym (ap (option_map (λ (n : Seen). is_folder_kind n.kind)) v.1)

    found_listed : (name : List ℕ) → find name_cmp name (map (member (value_of t)) (bare_children list)) ≡ find name_cmp name (members q ns)
    found_listed name =
        find-member (value_of t) name (bare_children list)
        ∙ ap (option_map (λ m. is_folder_node (value_of t m)))
        (lookup_permutation nat_list_eq_equiv (children_of (bare t) id) (bare_children list) moves differ (is_same_name name) (λ x y h. nat_list_eq_equiv.congr name x y h) ∙ sym (named_from (bare t) id name))
        ∙ kind_of_child name (named (bare t) id name) refl
        ∙ sym (member_named t grown ns view q at here name ∙ ap (λ o. option_map (λ (n : Seen). is_folder_kind n.kind) (option_and_then (value_of (bare t)) o)) (child_at t grown ns view q at here id is name))

    -- and in order they are the members
    pub members_listed : IsSortedBy (λ x y. is_lt (child_cmp x y)) list → map (λ e. (e.0.items, is_folder_node (value_of t e.1))) list ≡ members q ns
    members_listed sorted =
        of_bare (value_of t) list
        ∙ same_entries name_cmp nat_list_cmp_total (slice_cmp-IsAntisymmetric nat_cmp-IsAntisymmetric) (map (member (value_of t)) (bare_children list)) (members q ns)
        (sorted_children (value_of t) list sorted differ)
        (sorted-members q ns (subst (λ (ms : Nodes). T (is_sorted path_cmp ms)) view (sorted-placed (bare t) grown)))
        found_listed

-- ---- what is listed of a node's children
bare_listed : {Z : Type 0} (IsClone : Vec ℕ Z → Vec ℕ Z → Type 0) → ((a b : Vec ℕ Z) → IsClone a b → b.items ≡ a.items) → (xs ys : List (Vec ℕ Z × ℕ)) → AllZip (IsListedAs IsClone) xs ys → bare_children ys ≡ bare_children xs
bare_listed IsClone same [] [] h = refl
bare_listed IsClone same [] (y ∷ ys) h = absurd h
bare_listed IsClone same (x ∷ xs) [] h = absurd h
bare_listed IsClone same (x ∷ xs) (y ∷ ys) h = λ i. (same x.0 y.0 h.0.0 i, h.0.1 i) ∷ bare_listed IsClone same xs ys h.1 i

pub children_listed : {Z : Type 0} (t : Tree (Vec ℕ Z) Seen) (id : ℕ) (IsClone : Vec ℕ Z → Vec ℕ Z → Type 0) → ((a b : Vec ℕ Z) → IsClone a b → b.items ≡ a.items)
    → (listed sorted : List (Vec ℕ Z × ℕ)) → AllZip (IsListedAs IsClone) (children_of t id) listed → IsPermutation listed sorted → IsPermutation (children_of (bare t) id) (bare_children sorted)
children_listed t id IsClone same listed sorted clones moves =
    subst (λ (cs : List (List ℕ × ℕ)). IsPermutation cs (bare_children sorted)) (bare_listed IsClone same (children_of t id) listed clones ∙ sym (children_bare t id))
    (IsPermutation-map (λ (e : Vec _ _ × ℕ). (e.0.items, e.1)) listed sorted moves)

-- what is listed, where memory doesn't run out
pub then_listed : {X Z E : Type 0} (r : Result (Vec X Z) E) (xs ys : List X) → IfOk r (λ list. list.items ≡ xs) → xs ≡ ys → IfOk r (λ list. list.items ≡ ys)
then_listed (Ok list) xs ys h e = h ∙ e
then_listed (Err x) xs ys h e = tt
