-- Laws of trees of numbered nodes.
use Rattle.std.specs.Prelude.{◌≡◌, ◌≢◌, ℕ, ◌+◌, Bool, None, Some}
use Rattle.std.specs.Prelude.{true}
use Rattle.std.specs.Option.{IsSome}
use Rattle.dav_store.specs.Tree.{Tree, is_within, is_at_or_below, node, parent_of, times_listed, child, root_id, NoneAbove, single, added, deleted, subtree_deleted, moved}

module _ {K D : Type 0} where
  -- no number is handed out: the last one that was stays, and no node is added
  abbrev pub HandsOutNone : Tree K D → Tree K D → Type 0
  HandsOutNone old new =
      (new.last ≡ old.last) × ((n : ℕ) → node old n ≡ None → node new n ≡ None)

  -- the number after the last is handed out, and no node of another number is added
  abbrev pub HandsOutNext : Tree K D → Tree K D → Type 0
  HandsOutNext old new =
      (new.last ≡ old.last + 1)
      × ((n : ℕ) → (n ≡ old.last + 1 → ⊥) → node old n ≡ None → node new n ≡ None)

  -- each node but the root is once among the children of its parent, so under one key, and never among those of another node
  abbrev pub HasOnePlaceEach : Tree K D → Type 0
  HasOnePlaceEach t =
      (n : ℕ) → IsSome (node t n) → n ≢ root_id
      → (times_listed t (parent_of t n) n ≡ 1)
      × ((p : ℕ) → p ≢ parent_of t n → times_listed t p n ≡ 0)

  -- what is found as the child of a node is there, isn't the root, and has that node as its parent
  abbrev pub FindsChildren : (K → K → Bool) → Tree K D → Type 0
  FindsChildren eq t =
      (p : ℕ) (k : K) (n : ℕ) → child eq t p k ≡ Some n
      → IsSome (node t n) × (n ≢ root_id) × (parent_of t n ≡ p)

  -- a node but the root is the child of a node under a key
  abbrev pub IsFound : (K → K → Bool) → Tree K D → ℕ → Type 0
  IsFound eq t n =
      IsSome (node t n) → n ≢ root_id → (p : ℕ) × (k : K) × (child eq t p k ≡ Some n)

  -- a node is the child of one node at most, under one key
  abbrev pub IsFoundOnce : (K → K → Bool) → Tree K D → ℕ → Type 0
  IsFoundOnce eq t n =
      (p q : ℕ) (k l : K) → child eq t p k ≡ Some n → child eq t q l ≡ Some n
      → (p ≡ q) × (eq k l ≡ true)

  -- steps to the parent lead from each node to the root
  abbrev pub ClimbsToTheRoot : Tree K D → Type 0
  ClimbsToTheRoot t = (n : ℕ) → IsSome (node t n) → is_at_or_below t root_id n ≡ true

-- in a new tree no node has a number above the last one that was handed out
abbrev pub BeginsAtTheRoot : (K D : Type 0) → Type 0
BeginsAtTheRoot K D = (value : D) → NoneAbove (single {K = K} value)

-- a child that is added takes the next number, which no node had
abbrev pub AddsTheNextNumber : {K : Type 0} → (K → K → Bool) → Type 0 → Type 0
AddsTheNextNumber {K} eq D =
    (t : Tree K D) → NoneAbove t → (parent : ℕ) (k : K) (value : D)
    → (node t (t.last + 1) ≡ None) × HandsOutNext t (added eq t parent k value)
    × NoneAbove (added eq t parent k value)

-- deleting a node without children and moving a node hand out no number, and leave no node above the last one
abbrev pub KeepsNumbers : {K : Type 0} → (K → K → Bool) → Type 0 → Type 0
KeepsNumbers {K} eq D =
    (t : Tree K D) → NoneAbove t → (n : ℕ)
    → (HandsOutNone t (deleted t n) × NoneAbove (deleted t n))
    × ((parent : ℕ) (k : K)
    → HandsOutNone t (moved eq t n parent k) × NoneAbove (moved eq t n parent k))

-- deleting a node with all nodes below it hands out no number, and leaves no node above the last one
abbrev pub KeepsNumbersBelow : (K D : Type 0) → Type 0
KeepsNumbersBelow K D =
    (t : Tree K D) → NoneAbove t → (n : ℕ)
    → HandsOutNone t (subtree_deleted t n) × NoneAbove (subtree_deleted t n)

-- a node is another one or below it as soon as any number of steps to the parent leads from it to that one
abbrev pub ClimbsFarEnough : (K D : Type 0) → Type 0
ClimbsFarEnough K D =
    (t : Tree K D) (top n steps : ℕ) → IsSome (node t top)
    → is_within steps t top n ≡ true → is_at_or_below t top n ≡ true
