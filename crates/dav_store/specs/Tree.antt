-- Trees of numbered nodes: what contracts see of them, and what each call refuses and makes.
use Rattle.std.specs.Prelude.{◌≡◌, ℕ, zero, suc, ◌+◌, ◌-◌, nat_eq, ◌<◌, ◌==◌, Bool, true, false, not, if◌then◌else◌, ◌||◌, List, [], ◌∷◌, length, position, swap_remove, slice_get, filter, count_by, Option, None, Some, is_none, Result, Ok, Err, ◌⊎◌, refl}
use Rattle.std.specs.Option.{option_or, option_and_then, option_map, option_map_or, IsSome}
use Rattle.std.specs.Ordering.{nat_cmp}
use Rattle.std.specs.BTreeMap.{is_at, insert_entry}
use Rattle.std.specs.Cmp.Lexicographic.{pointwise}
use Rattle.std.specs.declared.vec.Vec.{Vec}
use Rattle.std.specs.List.{AllZip}
use Rattle.std.specs.List.Sorted.{IsStrictlySortedBy}
use Rattle.std.specs.Map.{keys_of, lookup, set_value, remove_entry}
use Rattle.std.specs.Coded.{Coded, code_by, coded×, coded_list, coded_ℕ}
use Rattle.indexmap.specs.IndexMap.{insert_entry as put_key}
use Rattle.dav_core.specs.Numbers.{max_u64}
use Rattle.dav_store.specs.Numbered.{AreClones}
use Rattle.dav_core.specs.declared.errors.FsError.{FsError}
use Rattle.dav_core.specs.declared.errors.FsError.TheVariants.{NotFound, Exists, Forbidden, GeneralFailure, InsufficientStorage}

-- a node: the number of its parent, its value, and the keys and numbers of its children
pub record Node (K D : Type 0) : Type 0 where
  pub parent : ℕ
  pub value : D
  pub children : List (K × ℕ)

-- a tree: its nodes with their numbers, in order of these, and the last number that was handed out
pub record Tree (K D : Type 0) : Type 0 where
  pub nodes : List (ℕ × Node K D)
  pub last : ℕ

-- the root's number
abbrev pub root_id : ℕ
root_id = 1

-- `listed` is this child as a listing has it: a clone of its key, and its number
abbrev pub IsListedAs : {K : Type 0} → (K → K → Type 0) → K × ℕ → K × ℕ → Type 0
IsListedAs is_clone child listed = is_clone child.0 listed.0 × (listed.1 ≡ child.1)

module _ {K : Type 0} where
  -- whether there are children
  abbrev pub has_some : List (K × ℕ) → Bool
  has_some [] = false
  has_some (e ∷ es) = true

  -- the number of the first of these children, if there are any
  abbrev pub first_number : List (K × ℕ) → Option ℕ
  first_number [] = None
  first_number (e ∷ es) = Some e.1

  -- the child, where there is exactly one
  abbrev pub only_child : List (K × ℕ) → Option (K × ℕ)
  only_child [] = None
  only_child (e ∷ []) = Some e
  only_child (e ∷ d ∷ es) = None

  -- whether a number is found among the children under some key
  abbrev pub IsFoundUnderKey : (K → K → Bool) → List (K × ℕ) → ℕ → Type 0
  IsFoundUnderKey eq es n = (k : K) × (lookup (eq k) es ≡ Some n)

  -- these children without the one at a place, which the last one takes
  abbrev pub without_place : ℕ → List (K × ℕ) → List (K × ℕ)
  without_place i es = option_map_or (λ e. swap_remove es i e) (slice_get es i) es

module _ {K D : Type 0} where
  -- how the logic encodes a node, by the encodings of keys and values
  abbrev pub coded_node : Coded K → Coded D → Coded (Node K D)
  coded_node k d =
      code_by (ℕ × (D × List (K × ℕ)))
      (coded× coded_ℕ (coded× d (coded_list (coded× k coded_ℕ))))
      (λ n. (n.parent, (n.value, n.children)))
      (λ p. record { parent = p.0; value = p.1.0; children = p.1.1 }) (λ _. refl)

  -- how the logic encodes a tree, by the encodings of keys and values
  abbrev pub coded_tree : Coded K → Coded D → Coded (Tree K D)
  coded_tree k d =
      code_by (List (ℕ × Node K D) × ℕ)
      (coded× (coded_list (coded× coded_ℕ (coded_node k d))) coded_ℕ)
      (λ t. (t.nodes, t.last)) (λ p. record { nodes = p.0; last = p.1 }) (λ _. refl)

  -- the node of a number, if there is one
  abbrev pub node : Tree K D → ℕ → Option (Node K D)
  node t n = lookup (is_at (nat_cmp n)) t.nodes

  -- the value of the node of a number, if there is one
  abbrev pub value_of : Tree K D → ℕ → Option D
  value_of t n = option_map (λ x. x.value) (node t n)

  -- the number of the parent of a node; 0 where there is no node, and of the root
  abbrev pub parent_of : Tree K D → ℕ → ℕ
  parent_of t n = option_map_or (λ x. x.parent) (node t n) 0

  -- the keys and numbers of the children of a node; none where there is no node
  abbrev pub children_of : Tree K D → ℕ → List (K × ℕ)
  children_of t n = option_map_or (λ x. x.children) (node t n) []

  -- the number of the first child of a node, if it has one
  abbrev pub first_child : Tree K D → ℕ → Option ℕ
  first_child t n = option_and_then (λ x. first_number x.children) (node t n)

  -- whether a node has children
  abbrev pub has_children : Tree K D → ℕ → Bool
  has_children t n = option_map_or (λ x. has_some x.children) (node t n) false

  -- whether n is `top`, or fewer than `steps` steps to the parent lead from n to it
  abbrev pub is_within : ℕ → Tree K D → ℕ → ℕ → Bool
  is_within zero t top n = false
  is_within (suc steps) t top n =
      if n == top then true
      else option_map_or (λ x. is_within steps t top x.parent) (node t n) false

  -- whether n is `top` or below it
  abbrev pub is_at_or_below : Tree K D → ℕ → ℕ → Bool
  is_at_or_below t top n = is_within (length t.nodes) t top n

  -- the place of a node among the children of another, if it is one of them
  abbrev pub place_of : Tree K D → ℕ → ℕ → Option ℕ
  place_of t parent n =
      option_and_then (λ x. position (λ e. e.1 == n) x.children) (node t parent)

  -- a node with this parent and value, and without children
  abbrev pub leaf : ℕ → D → Node K D
  leaf parent value = record { parent = parent; value = value; children = [] }

  -- the tree of a root alone, with this value
  abbrev pub single : D → Tree K D
  single value = record { nodes = (root_id, leaf 0 value) ∷ []; last = root_id }

  -- the tree in which the node of a number is this one
  abbrev pub with_node : Tree K D → ℕ → Node K D → Tree K D
  with_node t n x = record t { nodes = set_value (is_at (nat_cmp n)) t.nodes x }

  -- the tree in which the node of a number has this value
  abbrev pub with_value : Tree K D → ℕ → D → Tree K D
  with_value t n value =
      option_map_or (λ x. with_node t n (record x { value = value })) (node t n) t

  -- the tree without the node of a number
  abbrev pub without : Tree K D → ℕ → Tree K D
  without t n = record t { nodes = remove_entry (is_at (nat_cmp n)) t.nodes }

  -- the tree without the node of a number, where a number is given; else the tree
  abbrev pub without_old : Option ℕ → Tree K D → Tree K D
  without_old old t = option_map_or (λ n. without t n) old t

  -- the tree with one node more, under the next number, which isn't among its parent's children yet
  abbrev pub grown : Tree K D → ℕ → D → Tree K D
  grown t parent value =
      record {
        nodes = insert_entry nat_cmp t.nodes (t.last + 1) (leaf parent value);
        last = t.last + 1;
      }

  -- the tree without the node of the last number that was handed out, and with that number not handed out
  abbrev pub shrunk : Tree K D → Tree K D
  shrunk t = record (without t t.last) { last = t.last - 1 }

  -- the tree in which a node doesn't have the child at a place, where a place is given; else the tree
  abbrev pub unlinked_at : Tree K D → ℕ → Option ℕ → Tree K D
  unlinked_at t parent None = t
  unlinked_at t parent (Some i) =
      option_map_or
      (λ x. with_node t parent (record x { children = without_place i x.children }))
      (node t parent) t

  -- the tree in which n isn't among its parent's children
  abbrev pub unlinked : Tree K D → ℕ → Tree K D
  unlinked t n = unlinked_at t (parent_of t n) (place_of t (parent_of t n) n)

  -- the tree in which a node has this parent
  abbrev pub seated : Tree K D → ℕ → ℕ → Tree K D
  seated t n parent =
      option_map_or (λ x. with_node t n (record x { parent = parent })) (node t n) t

  -- no node has a number above the last one that was handed out
  abbrev pub NoneAbove : Tree K D → Type 0
  NoneAbove t = (n : ℕ) → t.last < n → node t n ≡ None

  -- The error by which a node isn't deleted: `NotFound` where there is none, `Forbidden` for the root, `Exists` where it has children;
  -- none where it is deleted.
  abbrev pub delete_refusal : Tree K D → ℕ → Option FsError
  delete_refusal t n =
      if is_none (node t n) then Some NotFound
      else if n == root_id then Some Forbidden
      else if has_children t n then Some Exists
      else None

  -- the tree without the node of a number, which has no children, and which isn't among those of its parent any more
  abbrev pub deleted : Tree K D → ℕ → Tree K D
  deleted t n = without (unlinked t n) n

  -- The error by which a node isn't deleted with all nodes below it: `NotFound` where there is none, `Forbidden` for the root; none where
  -- it is.
  abbrev pub subtree_refusal : Tree K D → ℕ → Option FsError
  subtree_refusal t n =
      if is_none (node t n) then Some NotFound
      else if n == root_id then Some Forbidden
      else None

  -- the tree without n and all nodes below it, in which n isn't among its parent's children; the other nodes are as they were
  abbrev pub subtree_deleted : Tree K D → ℕ → Tree K D
  subtree_deleted t n =
      record t { nodes = filter (λ e. not (is_at_or_below t n e.0)) (unlinked t n).nodes }

  -- how often a node is among the children of another
  abbrev pub times_listed : Tree K D → ℕ → ℕ → ℕ
  times_listed t parent n = count_by (λ e. e.1 == n) (children_of t parent)

  -- whether a node has this parent
  abbrev pub has_parent : Tree K D → ℕ → ℕ → Bool
  has_parent t n parent = option_map_or (λ x. x.parent == parent) (node t n) false

  -- What holds of every tree that calls make: the nodes are in order of their numbers, of which none is 0; the root has no parent; each
  -- other node is once among the children of its parent and never among those of another; and steps to the parent lead from each node to
  -- the root.
  pub record IsRooted (t : Tree K D) : Type 0 where
    pub in_order : IsStrictlySortedBy nat_cmp (keys_of t.nodes)
    pub none : node t 0 ≡ None
    pub root : option_map (λ x. x.parent) (node t root_id) ≡ Some 0
    pub once : (parent n : ℕ) → 0 < parent
        → times_listed t parent n ≡ (if has_parent t n parent then 1 else 0)
    pub reached : (n : ℕ) → IsSome (node t n) → is_at_or_below t root_id n ≡ true

  -- what follows is about keys that are compared by `eq`
  module _ (eq : K → K → Bool) where
    -- the number of the child of a node under a key
    abbrev pub child : Tree K D → ℕ → K → Option ℕ
    child t n k = option_and_then (λ x. lookup (eq k) x.children) (node t n)

    -- whether a node is the child under a key
    abbrev pub is_child : Tree K D → ℕ → K → ℕ → Bool
    is_child t parent k n = option_map_or (λ m. m == n) (child t parent k) false

    -- the tree in which a node has this child under a key, in the place of one that is there
    abbrev pub linked : Tree K D → ℕ → K → ℕ → Tree K D
    linked t n k m =
        option_map_or
        (λ x. with_node t n (record x { children = put_key eq x.children k m }))
        (node t n) t

    -- The error by which a key of a parent can't be taken: `Exists` where it has a child that isn't to be replaced, or that has children;
    -- none where it can.
    abbrev pub key_refusal : Tree K D → ℕ → K → Bool → Option FsError
    key_refusal t parent k overwrite =
        option_map_or
        (λ old. if not overwrite || has_children t old then Some Exists else None)
        (child t parent k) None

    -- The error by which a child isn't added: `NotFound` where there is no parent, `Exists` where the key can't be taken,
    -- `GeneralFailure` where no number is left; none where it is added.
    abbrev pub add_refusal : Tree K D → ℕ → K → Bool → Option FsError
    add_refusal t parent k overwrite =
        if is_none (node t parent) then Some NotFound
        else option_or (key_refusal t parent k overwrite)
        (if t.last == max_u64 then Some GeneralFailure else None)

    -- the tree with a new node under a key of its parent, in the place of a child that is there
    abbrev pub added : Tree K D → ℕ → K → D → Tree K D
    added t parent k value =
        without_old (child t parent k) (linked (grown t parent value) parent k (t.last + 1))

    -- The error by which a node isn't moved: `NotFound` where it or the new parent isn't there; `Forbidden` for the root, and for a new
    -- parent that is the node or below it; `Exists` where the key can't be taken by it. None where it is moved, or is under that key
    -- already.
    abbrev pub move_refusal : Tree K D → ℕ → ℕ → K → Bool → Option FsError
    move_refusal t n parent k overwrite =
        if is_none (node t n) || is_none (node t parent) then Some NotFound
        else if n == root_id then Some Forbidden
        else if is_at_or_below t n parent then Some Forbidden
        else if is_child t parent k n then None
        else key_refusal t parent k overwrite

    -- the tree with a node, and what is below it, under a key that isn't its own, in the place of
    -- a child that is there
    abbrev pub moved_over : Tree K D → ℕ → ℕ → K → Tree K D
    moved_over t n parent k =
        without_old (child t parent k)
        (seated (unlinked_at (linked t parent k n) (parent_of t n)
        (place_of t (parent_of t n) n)) n parent)

    -- the tree with a node moved to a parent under any key: under its own it stays
    abbrev pub moved : Tree K D → ℕ → ℕ → K → Tree K D
    moved t n parent k = if is_child t parent k n then t else moved_over t n parent k

module _ {K D : Type 0} (is_key : K → K → Type 0) (is_value : D → D → Type 0) where
  -- a clone of a node: it has the same parent, a clone of the value, and the same children in the same order under clones of their keys
  abbrev pub IsCloneOfNode : Node K D → Node K D → Type 0
  IsCloneOfNode old new =
      (new.parent ≡ old.parent) × is_value old.value new.value
      × AllZip (IsListedAs is_key) old.children new.children

  -- a clone of a tree: it has the same numbers, and clones of the nodes
  abbrev pub IsCloneOfTree : Tree K D → Tree K D → Type 0
  IsCloneOfTree old new =
      (new.last ≡ old.last) × AreClones IsCloneOfNode old.nodes new.nodes

-- the number of the child of a node under a key of these bytes, if there is one
abbrev pub child_of_bytes : {Z D : Type 0} → Tree (Vec ℕ Z) D → ℕ → List ℕ → Option ℕ
child_of_bytes t n bytes =
    option_and_then (λ x. lookup (λ k. pointwise nat_eq bytes k.items) x.children) (node t n)

module _ {X Y : Type 0} where
  -- What a call returns, and what it leaves: where a rule refuses it, this error, and nothing is changed; else this answer, and what it
  -- made.
  abbrev pub Does : Option FsError → Y → X → Result Y FsError → X → X → Type 0
  Does None answer made result old new = (result ≡ Ok answer) × (new ≡ made)
  Does (Some e) answer made result old new = (result ≡ Err e) × (new ≡ old)

  -- What a call returns, and what it leaves, that allocates where `takes` is true: where a rule refuses it, this error, and nothing is
  -- changed; else this answer and what it made, or, where it allocates, perhaps InsufficientStorage, and nothing is changed.
  abbrev pub DoesOrLacks : Bool → Option FsError → Y → X → Result Y FsError → X → X → Type 0
  DoesOrLacks takes None answer made result old new =
      ((result ≡ Ok answer) × (new ≡ made))
      ⊎ ((takes ≡ true) × (result ≡ Err InsufficientStorage) × (new ≡ old))
  DoesOrLacks takes (Some e) answer made result old new = (result ≡ Err e) × (new ≡ old)
