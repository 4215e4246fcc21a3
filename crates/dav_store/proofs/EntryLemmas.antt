-- What the parts of a store in memory find: the tree of its nodes, and the list that it stands for.
use Rattle.std.proofs.Common.{◌≡◌, ℕ, ◌+◌, ◌<◌, ◌≤◌, Bool, true, false, cond, List, [], ◌∷◌, ◌++◌, length, take, get_or, Option, Some, None, refl, sym, ap, subst, ◌∙◌, append_assoc}
use Rattle.std.specs.Prelude.{Vec}
use Rattle.std.specs.Option.{option_and_then, option_map}
use Rattle.std.specs.FinMap.{find}
use Rattle.std.proofs.lemmas.List.{take_more, take_all}
use Rattle.dav_core.specs.Path.{Path, path_cmp, parent_of, is_nonempty, name_cmp}
use Rattle.dav_core.specs.World.{Node as Seen, Nodes, is_folder_node, is_folder_kind, adjust, members}
use Rattle.std.specs.HashMap.{HashMap, get}
use Rattle.std.specs.Prelude.{nat_eq}
use Rattle.dav_store.specs.Entries.{IsKept, Held}
use Rattle.std.specs.Prelude.{Result, Ok, Err}
use Rattle.std.specs.Result.{OnOk, OnErr}
use Rattle.dav_store.specs.Placed.{IsMadeMap}
use Rattle.dav_store.proofs.PlacedCalls.{grown_valued, placed_valued, placed_unchanged}
use Rattle.dav_store.proofs.MadeMaps.{made_valued}
use Rattle.dav_store.proofs.TreeCalls.{node_of_value}
use Rattle.dav_store.proofs.TreeLooks.{others_valued, value_valued}
use Rattle.dav_core.proofs.Theorems.{parent-append, name-itself as name-itself_cmp, members_stand_below}
use Rattle.std.specs.Map.{lookup}
use Rattle.std.specs.Option.{option_map_or}
use Rattle.dav_store.specs.Tree.{Tree, value_of, with_node, with_value, has_children, has_some, children_of, node, Node}
use Rattle.dav_store.specs.Placed.{named, placed, found, stands, bare, bare_children, is_same_name, IsGrown}
use Rattle.dav_store.proofs.Walks.{walk-push}
use Rattle.dav_store.proofs.Placing.{find-placed, named_from, name-itself}
use Rattle.dav_store.proofs.TreePaths.{then_same, none-below, found-push, some_is}
use Rattle.dav_store.proofs.BareTrees.{value_bare, valued_bare, children_bare}

-- the parts of what is held
pub nodes_of : {a b : Held} → a ≡ b → a.nodes ≡ b.nodes
nodes_of e = ap (λ (h : Held). h.nodes) e

pub last_of : {a b : Held} → a ≡ b → a.last ≡ b.last
last_of e = ap (λ (h : Held). h.last) e

pub held : {a b : Held} → a.nodes ≡ b.nodes → a.last ≡ b.last → a ≡ b
held p q = λ i. record { nodes = p i; last = q i }

pub on_ok_held : {A E : Type 0} (r : Result A E) (a b : Held) → OnOk r (a.nodes ≡ b.nodes) → a.last ≡ b.last → OnOk r (a ≡ b)
on_ok_held (Ok x) a b h l = held h l
on_ok_held (Err e) a b h l = tt

pub on_err_held : {A E : Type 0} (r : Result A E) (a b : Held) → OnErr r (a.nodes ≡ b.nodes) → a.last ≡ b.last → OnErr r (a ≡ b)
on_err_held (Ok x) a b h l = tt
on_err_held (Err e) a b h l = held h l

pub last_with_value : {K D : Type 0} (t : Tree K D) (n : ℕ) (v : D) → (with_value t n v).last ≡ t.last
last_with_value {K} {D} t n v = by (node t n) where
  by : (o : Option (Node K D)) → (option_map_or (λ x. with_node t n (record x { value = v })) o t).last ≡ t.last
  by None = refl
  by (Some x) = refl

pub empty : (r : Path) → r ++ [] ≡ r
empty [] = refl
empty (x ∷ r) = ap (λ y. x ∷ y) (empty r)

-- one round of the loop that walks a path
pub walked : {D : Type 0} (t : Tree (List ℕ) D) (p left rest all : Path) (k : List ℕ) (at later : Option ℕ) → p ++ left ≡ all → left ≡ k ∷ rest → at ≡ found t p → later ≡ option_and_then (λ n. named t n k) at
    → (q : Path) × (q ++ rest ≡ all) × (later ≡ found t q) × (at ≡ found t (parent_of q))
walked t p left rest all k at later whole cut here next = (
  p ++ k ∷ [],
  append_assoc p (k ∷ []) rest ∙ ap (λ (r : Path). p ++ r) (sym cut) ∙ whole,
  next ∙ ap (option_and_then (λ n. named t n k)) here ∙ sym (walk-push (named t) 1 p k),
  here ∙ sym (ap (found t) (parent-append p k [] ∙ empty p)),
)

-- one round of the loop that walks a folder's names
pub member_walked : {D : Type 0} (t : Tree (List ℕ) D) (p : Path) (i : ℕ) (d : List ℕ) (at later : Option ℕ) → i < length p → at ≡ found t (take i p) → later ≡ option_and_then (λ n. named t n (get_or p i d)) at
    → later ≡ found t (take (i + 1) p)
member_walked t p i d at later within here next =
    next ∙ ap (option_and_then (λ n. named t n (get_or p i d))) here ∙ sym (walk-push (named t) 1 (take i p) (get_or p i d)) ∙ ap (found t) (sym (take_more p i d within))

pub one_more : {D : Type 0} (t : Tree (List ℕ) D) (p : Path) (k : List ℕ) (at later : Option ℕ) → at ≡ found t p → later ≡ option_and_then (λ n. named t n k) at → later ≡ found t (p ++ k ∷ [])
one_more t p k at later here next = next ∙ ap (option_and_then (λ n. named t n k)) here ∙ sym (walk-push (named t) 1 p k)

-- the same, where the names are seen through a slice
pub member_step : {D : Type 0} (t : Tree (List ℕ) D) (items folder : Path) (i : ℕ) (d k : List ℕ) (at later : Option ℕ) → items ≡ folder → i < length items → at ≡ found t (take i folder)
    → d ≡ get_or items i d → k ≡ d → later ≡ option_and_then (λ n. named t n k) at → later ≡ found t (take (i + 1) folder)
member_step t items folder i d k at later same within here item key next =
    member_walked t folder i d at later (subst (λ (p : Path). i < length p) same within) here
    (next ∙ ap (λ (l : List ℕ). option_and_then (λ n. named t n l) at) (key ∙ item ∙ ap (λ (p : Path). get_or p i d) same))

pub member_end : {D : Type 0} (t : Tree (List ℕ) D) (items folder : Path) (i : ℕ) (k name : List ℕ) (at later : Option ℕ) → items ≡ folder → length items ≤ i → at ≡ found t (take i folder)
    → k ≡ name → later ≡ option_and_then (λ n. named t n k) at → later ≡ found t (folder ++ name ∷ [])
member_end t items folder i k name at later same past here key next =
    one_more t folder name at later (here ∙ ap (found t) (take_all i folder (subst (λ (p : Path). length p ≤ i) same past)))
    (next ∙ ap (λ (l : List ℕ). option_and_then (λ n. named t n l) at) key)

module _ {Z : Type 0} (t : Tree (Vec ℕ Z) Seen) (grown : IsGrown (bare t)) (ns : Nodes) (view : placed (bare t) ≡ ns) (q : Path) (at : Option ℕ) (here : at ≡ found (bare t) q) where
  -- what is at a path in the list is the value of the node that is found
  pub value_at : find path_cmp q ns ≡ option_and_then (value_of t) at
  value_at =
      ap (find path_cmp q) (sym view) ∙ find-placed (bare t) grown q ∙ ap (option_and_then (value_of (bare t))) (sym here)
      ∙ then_same (value_of (bare t)) (value_of t) at (λ m _. value_bare t m)

  pub value_some : (id : ℕ) → at ≡ Some id → find path_cmp q ns ≡ value_of t id
  value_some id is = value_at ∙ ap (option_and_then (value_of t)) is

  pub value_none : at ≡ None → find path_cmp q ns ≡ None
  value_none is = value_at ∙ ap (option_and_then (value_of t)) is

  pub file_there : (id : ℕ) → at ≡ Some id → (w : Seen) → Some w ≡ value_of t id → is_folder_node (find path_cmp q ns) ≡ false → is_folder_kind w.kind ≡ false
  file_there id is w value file = sym (ap is_folder_node (value_some id is ∙ sym value)) ∙ file

-- ---- one node gets another value
module _ {Z S : Type 0} (t : Tree (Vec ℕ Z) Seen) (made : HashMap ℕ ℕ S) (kept : IsKept t made) (q : Path) (at : Option ℕ) (here : at ≡ found (bare t) q) (id : ℕ) (is : at ≡ Some id)
    (w v : Seen) (value : Some w ≡ value_of t id) (kind : is_folder_kind v.kind ≡ is_folder_kind w.kind) where
  at_id : found (bare t) q ≡ Some id
  at_id = sym here ∙ is

  was : value_of (bare t) id ≡ Some w
  was = value_bare t id ∙ sym value

  pub kept_valued : v.made ≡ w.made → IsKept (with_value t id v) made
  kept_valued number = record {
    grown = subst IsGrown (valued_bare t id v) (grown_valued (bare t) kept.grown q id w v at_id was kind);
    map = subst (IsMadeMap (λ n. get nat_eq made n)) (valued_bare t id v)
        (let x = node_of_value (bare t) id w was in
        made_valued (bare t) (with_value (bare t) id v) (λ n. get nat_eq made n) (λ n. get nat_eq made n) kept.map id
        (λ o differ. others_valued (bare t) id v x.0 x.1 o differ) w v was (value_valued (bare t) id v x.0 x.1) number (λ n. refl));
  }

  pub view_valued : (ns : Nodes) → placed (bare t) ≡ ns → (f : Seen → Seen) → v ≡ f w → placed (bare (with_value t id v)) ≡ adjust q f ns
  view_valued ns view f changed =
      ap placed (sym (valued_bare t id v)) ∙ placed_valued (bare t) kept.grown q id w v at_id was kind f changed ∙ ap (adjust q f) view

-- ---- no node is there to be changed
module _ {Z S : Type 0} (t : Tree (Vec ℕ Z) Seen) (made : HashMap ℕ ℕ S) (kept : IsKept t made) (q : Path) (at : Option ℕ) (here : at ≡ found (bare t) q) (ns : Nodes) (view : placed (bare t) ≡ ns) (f : Seen → Seen) where
  pub unchanged : option_and_then (value_of (bare t)) at ≡ None → placed (bare t) ≡ adjust q f ns
  unchanged none = placed_unchanged (bare t) kept.grown q f (ap (option_and_then (value_of (bare t))) (sym here) ∙ none) ∙ ap (adjust q f) view

  pub unchanged_none : at ≡ None → ns ≡ adjust q f ns
  unchanged_none is = sym view ∙ unchanged (ap (option_and_then (value_of (bare t))) is)

  pub unchanged_lacking : (id : ℕ) → at ≡ Some id → None ≡ value_of t id → ns ≡ adjust q f ns
  unchanged_lacking id is none = sym view ∙ unchanged (ap (option_and_then (value_of (bare t))) is ∙ value_bare t id ∙ sym none)

-- ---- members
module _ {Z : Type 0} (t : Tree (Vec ℕ Z) Seen) (grown : IsGrown (bare t)) (ns : Nodes) (view : placed (bare t) ≡ ns) (q : Path) (at : Option ℕ) (here : at ≡ found (bare t) q) where
  -- a name among the members is that of what stands below the path
  pub member_named : (name : List ℕ) → find name_cmp name (members q ns) ≡ option_map (λ n. is_folder_kind n.kind) (stands (bare t) (q ++ name ∷ []))
  member_named name =
      members_stand_below q name ns
      ∙ ap (option_map (λ n. is_folder_kind n.kind)) (ap (find path_cmp (q ++ name ∷ [])) (sym view) ∙ find-placed (bare t) grown (q ++ name ∷ []))

  nonempty_by : (ms : List (List ℕ × Bool)) → ((name : List ℕ) → find name_cmp name ms ≡ None) → is_nonempty ms ≡ false
  nonempty_by [] none = refl
  nonempty_by (e ∷ es) none =
      let first : find name_cmp e.0 (e ∷ es) ≡ Some e.1 = ap (λ b. cond b (Some e.1) (find name_cmp e.0 es)) (name-itself_cmp e.0) in
      let clash : None ≡ Some e.1 = sym (none e.0) ∙ first in cc

  pub no_members : at ≡ None → is_nonempty (members q ns) ≡ false
  no_members is =
      nonempty_by (members q ns) (λ name.
      member_named name ∙ ap (λ o. option_map (λ n. is_folder_kind n.kind) (option_and_then (value_of (bare t)) o)) (none-below (bare t) q (name ∷ []) (sym here ∙ is)))

  module _ (id : ℕ) (is : at ≡ Some id) where
    pub child_at : (name : List ℕ) → found (bare t) (q ++ name ∷ []) ≡ named (bare t) id name
    child_at name = found-push (bare t) q id name (sym here ∙ is)

    some_child : (cs : List (List ℕ × ℕ)) → children_of (bare t) id ≡ cs → is_nonempty (members q ns) ≡ has_some cs
    some_child [] none =
        nonempty_by (members q ns) (λ name.
        member_named name ∙ ap (λ o. option_map (λ n. is_folder_kind n.kind) (option_and_then (value_of (bare t)) o))
        (child_at name ∙ named_from (bare t) id name ∙ ap (lookup (is_same_name name)) none))
    some_child (e ∷ es) some =
        let child : named (bare t) id e.0 ≡ Some e.1 = named_from (bare t) id e.0 ∙ ap (lookup (is_same_name e.0)) some ∙ ap (λ b. cond b (Some e.1) (lookup (is_same_name e.0) es)) (name-itself e.0) in
        let v = some_is (value_of (bare t) e.1) (grown.children id e.0 e.1 child).there in
        by (members q ns) (member_named e.0 ∙ ap (λ o. option_map (λ n. is_folder_kind n.kind) (option_and_then (value_of (bare t)) o)) (child_at e.0 ∙ child) ∙ ap (option_map (λ n. is_folder_kind n.kind)) v.1) where
          by : {b : Bool} (ms : List (List ℕ × Bool)) → find name_cmp e.0 ms ≡ Some b → is_nonempty ms ≡ true
          by [] h = cc
          by (m ∷ ms) h = refl

    has_some_bare : (es : List (Vec ℕ Z × ℕ)) → has_some (bare_children es) ≡ has_some es
    has_some_bare [] = refl
    has_some_bare (e ∷ es) = refl

    has_children_is : has_some (children_of t id) ≡ has_children t id
    has_children_is = by (node t id) where
      by : (o : Option (Node (Vec ℕ Z) Seen)) → has_some (option_map_or (λ x. x.children) o []) ≡ option_map_or (λ x. has_some x.children) o false
      by None = refl
      by (Some x) = refl

    pub children_known : has_some (children_of (bare t) id) ≡ has_children t id
    children_known = ap has_some (children_bare t id) ∙ has_some_bare (children_of t id) ∙ has_children_is

    pub members_below : is_nonempty (members q ns) ≡ has_children t id
    members_below = some_child (children_of (bare t) id) refl ∙ children_known
