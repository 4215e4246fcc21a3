-- What the calls of a tree of counts do to the counts.
use Rattle.std.proofs.Common.{◌≡◌, ℕ, ◌+◌, ◌-◌, ◌&&◌, Bool, true, false, cond, List, [], ◌∷◌, ◌++◌, Option, Some, None, Result, Ok, Err, refl, sym, ap, subst, ◌∙◌, arith, ⊎_elim, reverse, if◌then◌else◌}
use Rattle.std.specs.Prelude.{Vec, ◌==◌, nat_eq, is_none}
use Rattle.std.specs.Option.{option_and_then, option_map, option_map_or, is_some, IsSome}
use Rattle.std.specs.Ordering.{nat_cmp}
use Rattle.std.specs.BTreeMap.{is_at}
use Rattle.std.specs.Map.{lookup}
use Rattle.std.specs.Cmp.Lexicographic.{pointwise}
use Rattle.std.proofs.lemmas.Bool.{cases_Bool}
use Rattle.dav_core.specs.Path.{Path, is_same_path, rest_after}
use Rattle.dav_core.proofs.Theorems.{same_path, path-itself, from_rest}
use Rattle.dav_core.specs.declared.errors.FsError.{FsError}
use Rattle.dav_core.specs.declared.errors.FsError.TheVariants.{NotFound, Exists, Forbidden}
use Rattle.dav_store.specs.Tree.{Tree, Node, node, value_of, with_value, single, leaf, added, deleted, has_children, has_some, root_id, add_refusal, delete_refusal, Does, DoesOrLacks}
use Rattle.dav_store.specs.Placed.{is_same_name, named, found, stands, bare}
use Rattle.dav_store.specs.Walks.{reach}
use Rattle.dav_store.specs.LockIndex.{Seats, IsSeatTree, Key, key_of, same_kind, seat_count, one_at, count_of, weight_from}
use Rattle.dav_store.specs.declared.memls.index.Kind.{Kind}
use Rattle.dav_store.specs.declared.memls.index.Kind.TheVariants.{Below, At, Deep}
use Rattle.dav_store.specs.declared.memls.index.Seat.{Seat}
use Rattle.dav_store.proofs.BareTrees.{same_bytes, value_bare, named_bare, added_bare, deleted_bare}
use Rattle.dav_store.proofs.Placing.{one_at as one_path_to}
use Rattle.dav_store.proofs.TreeCalls.{node_of_value, none_of_value, is_added, is_deleted}
use Rattle.dav_store.proofs.Walks.{inner, walk-reverse, reach-reverse, before}
use Rattle.dav_store.proofs.TreePaths.{then_same, some_is, found_there, found-push, none-below}
use Rattle.dav_store.proofs.TreeSingle.{named_single}
use Rattle.dav_store.proofs.TreeValues as values
use Rattle.dav_store.proofs.TreeAdded.{found_full, stands_added, grown_added}
use Rattle.dav_store.proofs.TreeDeleted.{stands_deleted, grown_deleted, was_only}
use Rattle.dav_store.proofs.KeptCalls.{answered_new, lacking_new}

-- ---- counts of one node
module _ (t : Seats) (kind : Kind) (q : Path) where
  pub count_at : (id : ℕ) (s : Seat) → found t q ≡ Some id → value_of t id ≡ Some s → count_of t (key_of kind q) ≡ seat_count kind s
  unfolding count_of
  count_at id s at is = ap (λ o. option_map_or (seat_count kind) (option_and_then (value_of t) o) 0) at ∙ ap (λ o. option_map_or (seat_count kind) o 0) is

  pub count_lacking : (id : ℕ) → found t q ≡ Some id → value_of t id ≡ None → count_of t (key_of kind q) ≡ 0
  unfolding count_of
  count_lacking id at is = ap (λ o. option_map_or (seat_count kind) (option_and_then (value_of t) o) 0) at ∙ ap (λ o. option_map_or (seat_count kind) o 0) is

  pub count_nowhere : found t q ≡ None → count_of t (key_of kind q) ≡ 0
  unfolding count_of
  count_nowhere at = ap (λ o. option_map_or (seat_count kind) (option_and_then (value_of t) o) 0) at

-- below a path where there is no node nothing is counted
pub weight_nowhere : (t : Seats) (deep : Bool) (q p : Path) → found t q ≡ None → weight_from (count_of t) deep q p ≡ 0
weight_nowhere t true q [] none = count_nowhere t Below q none
weight_nowhere t false q [] none = count_nowhere t At q none
weight_nowhere t deep q (x ∷ p) none =
    let a = count_nowhere t Deep q none in
    let b = weight_nowhere t deep (q ++ x ∷ []) p (none-below t q (x ∷ []) none) in
    omega (arith, a, b)

-- ---- a root alone
pub tree_single : (root : Seat) → IsSeatTree (single {K = List ℕ} root)
tree_single root = named_single (λ o some. some) root refl

pub counts_single : (v : Seat) → ((j : Kind) → seat_count j v ≡ 0) → (k : Key) → count_of (single {K = List ℕ} v) k ≡ 0
unfolding count_of
counts_single v none k = by (found (single {K = List ℕ} v) k.1) where
  at : (b : Bool) → option_map_or (seat_count k.0) (option_map (λ x. x.value) (cond b (Some (leaf {K = List ℕ} 0 v)) None)) 0 ≡ 0
  at true = none k.0
  at false = refl

  by : (o : Option ℕ) → option_map_or (seat_count k.0) (option_and_then (value_of (single {K = List ℕ} v)) o) 0 ≡ 0
  by None = refl
  by (Some m) = at (is_at (nat_cmp m) 1)

-- ---- a node counts otherwise
module _ (t : Seats) (grown : IsSeatTree t) (m : ℕ) (w v : Seat) (is : value_of t m ≡ Some w) where
  abbrev valued : Seats
  valued = with_value t m v

  pub found_same : (q : Path) → found valued q ≡ found t q
  found_same = values.found_same t grown m w v is refl

  pub tree_valued : IsSeatTree valued
  tree_valued = values.grown_valued t grown m w v is refl

  module _ (path : Path) (at : found t path ≡ Some m) where
    stands_valued : (q : Path) → stands valued q ≡ cond (is_same_path path q) (Some v) (stands t q)
    stands_valued q =
        ap (option_and_then (value_of valued)) (found_same q)
        ∙ ⊎_elim
        (λ same. let there : found t q ≡ Some m = ap (found t) (sym (same_path path q same)) ∙ at in
        ap (option_and_then (value_of valued)) there ∙ values.value_here t grown m w v is refl ∙ sym (ap (λ b. cond b (Some v) (stands t q)) same))
        (λ other. then_same (value_of valued) (value_of t) (found t q)
        (λ x there. values.value_apart t grown m w v is refl x (λ e. let same : is_same_path path q ≡ true = ap (is_same_path path) (one_path_to t grown q path m (there ∙ ap Some e) at) ∙ path-itself path in cc))
        ∙ sym (ap (λ b. cond b (Some v) (stands t q)) other))
        (cases_Bool (is_same_path path q))

    -- it is what the node of its path counts, and every other node counts what it did
    pub counts_valued : (k : Key) → count_of valued k ≡ cond (is_same_path path k.1) (seat_count k.0 v) (count_of t k)
    unfolding count_of
    counts_valued k = ap (λ o. option_map_or (seat_count k.0) o 0) (stands_valued k.1) ∙ by (is_same_path path k.1) where
      by : (b : Bool) → option_map_or (seat_count k.0) (cond b (Some v) (stands t k.1)) 0 ≡ cond b (seat_count k.0 v) (option_map_or (seat_count k.0) (stands t k.1) 0)
      by true = refl
      by false = refl

more_by : (b : Bool) (n : ℕ) → cond b (n + 1) n ≡ n + cond (b && true) 1 0
more_by true n = refl
more_by false n = omega arith

less_by : (b : Bool) (n : ℕ) → cond b (n - 1) n ≡ n - cond (b && true) 1 0
less_by true n = refl
less_by false n = omega arith

no_more : (b : Bool) (n : ℕ) → n ≡ n + cond (b && false) 1 0
no_more true n = omega arith
no_more false n = omega arith

no_less : (b : Bool) (n : ℕ) → n ≡ n - cond (b && false) 1 0
no_less true n = omega arith
no_less false n = omega arith

more_of : (w : Seat) (n : ℕ) (kind j : Kind) → n ≡ seat_count kind w + 1 → cond (same_kind kind j) n (seat_count j w) ≡ cond (same_kind kind j) (seat_count j w + 1) (seat_count j w)
more_of w n Below Below e = e
more_of w n At At e = e
more_of w n Deep Deep e = e
more_of w n a b e = refl

less_of : (w : Seat) (n : ℕ) (kind j : Kind) → n ≡ seat_count kind w - 1 → cond (same_kind kind j) n (seat_count j w) ≡ cond (same_kind kind j) (seat_count j w - 1) (seat_count j w)
less_of w n Below Below e = e
less_of w n At At e = e
less_of w n Deep Deep e = e
less_of w n a b e = refl

-- one lock of a kind more or less, as a node counts it
module _ (t u : Seats) (kind : Kind) (path : Path) (m : ℕ) (w v : Seat) (at : found t path ≡ Some m) (is : value_of t m ≡ Some w)
    (counts : (k : Key) → count_of u k ≡ cond (is_same_path path k.1) (seat_count k.0 v) (count_of t k)) (n : ℕ) where
  was : (k : Key) → is_same_path path k.1 ≡ true → count_of t k ≡ seat_count k.0 w
  was k same = count_at t k.0 k.1 m w (ap (found t) (sym (same_path path k.1 same)) ∙ at) is

  pub one_more : n ≡ seat_count kind w + 1 → ((j : Kind) → seat_count j v ≡ cond (same_kind kind j) n (seat_count j w)) → (k : Key) → count_of u k ≡ count_of t k + one_at (key_of kind path) k
  unfolding one_at
  one_more more with_n k = counts k ∙ ⊎_elim
      (λ same. ap (λ b. cond b (seat_count k.0 v) (count_of t k)) same ∙ with_n k.0 ∙ more_of w n kind k.0 more
      ∙ more_by (same_kind kind k.0) (seat_count k.0 w)
      ∙ (λ i. sym (was k same) i + cond (same_kind kind k.0 && sym same i) 1 0))
      (λ other. ap (λ b. cond b (seat_count k.0 v) (count_of t k)) other ∙ no_more (same_kind kind k.0) (count_of t k)
      ∙ ap (λ b. count_of t k + cond (same_kind kind k.0 && b) 1 0) (sym other))
      (cases_Bool (is_same_path path k.1))

  pub one_less : n ≡ seat_count kind w - 1 → ((j : Kind) → seat_count j v ≡ cond (same_kind kind j) n (seat_count j w)) → (k : Key) → count_of u k ≡ count_of t k - one_at (key_of kind path) k
  unfolding one_at
  one_less less with_n k = counts k ∙ ⊎_elim
      (λ same. ap (λ b. cond b (seat_count k.0 v) (count_of t k)) same ∙ with_n k.0 ∙ less_of w n kind k.0 less
      ∙ less_by (same_kind kind k.0) (seat_count k.0 w)
      ∙ (λ i. sym (was k same) i - cond (same_kind kind k.0 && sym same i) 1 0))
      (λ other. ap (λ b. cond b (seat_count k.0 v) (count_of t k)) other ∙ no_less (same_kind kind k.0) (count_of t k)
      ∙ ap (λ b. count_of t k - cond (same_kind kind k.0 && b) 1 0) (sym other))
      (cases_Bool (is_same_path path k.1))

kind_is : (a b : Kind) → same_kind a b ≡ true → a ≡ b
kind_is Below Below e = refl
kind_is At At e = refl
kind_is Deep Deep e = refl
kind_is a b e = cc

both : (a b : Bool) → (a && b) ≡ true → (a ≡ true) × (b ≡ true)
both true b e = (refl, e)
both false b e = cc

less_none : (n : ℕ) → n ≡ 0 → n ≡ n - 1
less_none n e = omega (arith, e)

less_zero : (n : ℕ) → n ≡ n - 0
less_zero n = omega arith

-- where there is no node that counts one lock less
pub none_less : (t : Seats) (kind : Kind) (path : Path) → count_of t (key_of kind path) ≡ 0 → (k : Key) → count_of t k ≡ count_of t k - one_at (key_of kind path) k
unfolding one_at
none_less t kind path none k =
    ⊎_elim
    (λ yes. let e = both (same_kind kind k.0) (is_same_path path k.1) yes in
    less_none (count_of t k) ((λ i. count_of t (sym (kind_is kind k.0 e.0) i, sym (same_path path k.1 e.1) i)) ∙ none) ∙ ap (λ b. count_of t k - cond b 1 0) (sym yes))
    (λ no. less_zero (count_of t k) ∙ ap (λ b. count_of t k - cond b 1 0) (sym no))
    (cases_Bool (same_kind kind k.0 && is_same_path path k.1))

-- ---- a node that counts no lock goes
refusals : (a b c : Bool) → (if a then Some NotFound else if b then Some Forbidden else if c then Some Exists else None) ≡ None → (a ≡ false) × (b ≡ false) × (c ≡ false)
refusals true b c e = cc
refusals false true c e = cc
refusals false false true e = cc
refusals false false false e = (refl, refl, refl)

module _ {Z : Type 0} (t : Tree (Vec ℕ Z) Seat) (grown : IsSeatTree (bare t)) where
  leaf_named : (m : ℕ) → has_children t m ≡ false → (l : List ℕ) → named (bare t) m l ≡ None
  leaf_named m none l = named_bare t m l ∙ by (node t m) none where
    among : (es : List (Vec ℕ Z × ℕ)) → has_some es ≡ false → lookup (λ k. pointwise nat_eq l k.items) es ≡ None
    among [] e = refl
    among (x ∷ es) e = cc

    by : (o : Option (Node (Vec ℕ Z) Seat)) → option_map_or (λ x. has_some x.children) o false ≡ false → option_and_then (λ x. lookup (λ k. pointwise nat_eq l k.items) x.children) o ≡ None
    by None e = refl
    by (Some x) e = among x.children e

  module _ (m : ℕ) (v : Seat) (is : value_of (bare t) m ≡ Some v) (none : (j : Kind) → seat_count j v ≡ 0) (refused : delete_refusal t m ≡ None) where
    may : (is_none (node t m) ≡ false) × ((m == root_id) ≡ false) × (has_children t m ≡ false)
    may = refusals (is_none (node t m)) (m == root_id) (has_children t m) refused

    leaf_here : (l : List ℕ) → named (bare t) m l ≡ None
    leaf_here = leaf_named m may.2

    seat_by : (r : Path) → reach (named (bare t)) r ≡ Some m → (r : Path) × (k : List ℕ) × (p : ℕ) × (found (bare t) (reverse r) ≡ Some p) × (named (bare t) p k ≡ Some m)
    seat_by [] e = let same : (m == root_id) ≡ true = ap (λ x. x == root_id) (sym (inner 1 m e)) in let clash : true ≡ false = sym same ∙ may.1 in cc
    seat_by (k ∷ r) e = let b = before (named (bare t)) k r m e in (r, k, b.0, walk-reverse (named (bare t)) r ∙ b.1, b.2)

    -- its seat
    seat : (r : Path) × (k : List ℕ) × (p : ℕ) × (found (bare t) (reverse r) ≡ Some p) × (named (bare t) p k ≡ Some m)
    seat = let q = grown.reached m (ap is_some is) in seat_by (reverse q.0) (reach-reverse (named (bare t)) q.0 ∙ q.1)

    abbrev path : Path
    path = reverse seat.0

    abbrev left : Seats
    left = deleted (bare t) m

    tree_left : IsSeatTree left
    tree_left = grown_deleted (bare t) grown left path seat.2 seat.1 m (is_deleted (bare t) grown seat.2 seat.1 m seat.4 leaf_here) seat.3 seat.4 leaf_here

    counts_left : (k : Key) → count_of left k ≡ count_of (bare t) k
    unfolding count_of
    counts_left k =
        ap (λ o. option_map_or (seat_count k.0) o 0) (stands_deleted (bare t) grown left path seat.2 seat.1 m (is_deleted (bare t) grown seat.2 seat.1 m seat.4 leaf_here) seat.3 seat.4 leaf_here k.1)
        ∙ by (rest_after (path ++ seat.1 ∷ []) k.1) refl where
          gone : (s : Path) (o : Option ℕ) → found (bare t) ((path ++ seat.1 ∷ []) ++ s) ≡ o → 0 ≡ option_map_or (seat_count k.0) (option_and_then (value_of (bare t)) o) 0
          gone s None e = refl
          gone s (Some x) e =
              let same : x ≡ m = was_only (bare t) grown left path seat.2 seat.1 m (is_deleted (bare t) grown seat.2 seat.1 m seat.4 leaf_here) seat.3 seat.4 leaf_here s x e in
              sym (ap (λ o. option_map_or (seat_count k.0) o 0) (ap (value_of (bare t)) same ∙ is) ∙ none k.0)

          by : (o : Option Path) → rest_after (path ++ seat.1 ∷ []) k.1 ≡ o → option_map_or (seat_count k.0) (cond (is_some o) None (stands (bare t) k.1)) 0 ≡ option_map_or (seat_count k.0) (stands (bare t) k.1) 0
          by None e = refl
          by (Some s) e =
              gone s (found (bare t) ((path ++ seat.1 ∷ []) ++ s)) refl
              ∙ ap (λ q. option_map_or (seat_count k.0) (stands (bare t) q) 0) (sym (from_rest (path ++ seat.1 ∷ []) k.1 s e))

  -- whatever the call answers
  pub dropped : (m : ℕ) (v : Seat) → value_of (bare t) m ≡ Some v → ((j : Kind) → seat_count j v ≡ 0) → (result : Result (Unit {0}) FsError) (new : Tree (Vec ℕ Z) Seat)
      → Does (delete_refusal t m) tt (deleted t m) result t new → IsSeatTree (bare new) × ((k : Key) → count_of (bare new) k ≡ count_of (bare t) k)
  dropped m v is none result new does = by (delete_refusal t m) refl does where
    by : (o : Option FsError) → delete_refusal t m ≡ o → Does o tt (deleted t m) result t new → IsSeatTree (bare new) × ((k : Key) → count_of (bare new) k ≡ count_of (bare t) k)
    by (Some e) refused d = subst (λ (u : Tree (Vec ℕ Z) Seat). IsSeatTree (bare u) × ((k : Key) → count_of (bare u) k ≡ count_of (bare t) k)) (sym d.1) (grown, λ k. refl)
    by None refused d =
        subst (λ (u : Seats). IsSeatTree u × ((k : Key) → count_of u k ≡ count_of (bare t) k)) (deleted_bare t m ∙ ap bare (sym d.1))
        (tree_left m v is none refused, counts_left m v is none refused)

  -- ---- a node comes that counts no lock
  module _ (p : ℕ) (k : Vec ℕ Z) (v : Seat) (free : named (bare t) p k.items ≡ None) (none : (j : Kind) → seat_count j v ≡ 0) where
    abbrev next : ℕ
    next = t.last + 1

    abbrev more : Seats
    more = added is_same_name (bare t) p k.items v

    no_next : value_of (bare t) next ≡ None
    no_next = none_of_value (bare t) next (grown.above next (omega arith))

    module _ (path : Path) (at : found (bare t) path ≡ Some p) where
      there : IsSome (value_of (bare t) p)
      there = found_there (bare t) grown path p at

      node_there : (x : Node (List ℕ) Seat) × (node (bare t) p ≡ Some x)
      node_there = let w = some_is (value_of (bare t) p) there in let x = node_of_value (bare t) p w.0 w.1 in (x.0, x.1)

      tree_more : IsSeatTree more
      tree_more = grown_added (bare t) grown more path p k.items next v (is_added (bare t) grown p k.items v node_there.0 node_there.1 free) at free no_next there tt

      found_more : found more (path ++ k.items ∷ []) ≡ Some next
      found_more = found_full (bare t) grown more path p k.items next v (is_added (bare t) grown p k.items v node_there.0 node_there.1 free) at free no_next there tt

      counts_more : (j : Key) → count_of more j ≡ count_of (bare t) j
      unfolding count_of
      counts_more j =
          ap (λ o. option_map_or (seat_count j.0) o 0) (stands_added (bare t) grown more path p k.items next v (is_added (bare t) grown p k.items v node_there.0 node_there.1 free) at free no_next there tt j.1)
          ∙ ⊎_elim
          (λ same. ap (λ b. option_map_or (seat_count j.0) (cond b (Some v) (stands (bare t) j.1)) 0) same ∙ none j.0
          ∙ sym (ap (λ o. option_map_or (seat_count j.0) (option_and_then (value_of (bare t)) o) 0) (ap (found (bare t)) (same_path j.1 (path ++ k.items ∷ []) same) ∙ found-push (bare t) path p k.items at ∙ free)))
          (λ other. ap (λ b. option_map_or (seat_count j.0) (cond b (Some v) (stands (bare t) j.1)) 0) other)
          (cases_Bool (is_same_path j.1 (path ++ k.items ∷ [])))

    refused_lacking : (a : Bool) (o : Option FsError) → (if a then Some NotFound else o) ≡ None → a ≡ false
    refused_lacking true o e = cc
    refused_lacking false o e = refl

    module _ (result : Result ℕ FsError) (new : Tree (Vec ℕ Z) Seat) (does : DoesOrLacks true (add_refusal same_bytes t p k false) next (added same_bytes t p k v) result t new) where
      answered : (id : ℕ) → result ≡ Ok id → (new ≡ added same_bytes t p k v) × (id ≡ next) × (add_refusal same_bytes t p k false ≡ None)
      answered id is = answered_new true (add_refusal same_bytes t p k false) next id (added same_bytes t p k v) t new result is does

      new_is : (id : ℕ) → result ≡ Ok id → more ≡ bare new
      new_is id is = added_bare t p k v ∙ ap bare (sym (answered id is).0)

      -- the parent has a path
      place : (id : ℕ) → result ≡ Ok id → (q : Path) × (found (bare t) q ≡ Some p)
      place id is = grown.reached p (value_there (node t p) (refused_lacking (is_none (node t p)) _ (answered id is).2) (value_bare t p)) where
        value_there : (o : Option (Node (Vec ℕ Z) Seat)) → is_none o ≡ false → value_of (bare t) p ≡ option_map (λ x. x.value) o → IsSome (value_of (bare t) p)
        value_there None e f = cc
        value_there (Some x) e f = ap is_some f

      pub tree_came : (r : Result ℕ FsError) → result ≡ r → IsSeatTree (bare new)
      tree_came (Ok id) is = let q = place id is in subst IsSeatTree (new_is id is) (tree_more q.0 q.1)
      tree_came (Err e) is = subst (λ (u : Tree (Vec ℕ Z) Seat). IsSeatTree (bare u)) (sym (lacking_new true (add_refusal same_bytes t p k false) next (added same_bytes t p k v) t new result e is does)) grown

      pub found_came : (id : ℕ) → result ≡ Ok id → (q : Path) → found (bare t) q ≡ Some p → found (bare new) (q ++ k.items ∷ []) ≡ Some id
      found_came id is q at = ap (λ (u : Seats). found u (q ++ k.items ∷ [])) (sym (new_is id is)) ∙ found_more q at ∙ ap Some (sym (answered id is).1)

      pub counts_came : (id : ℕ) → result ≡ Ok id → (q : Path) → found (bare t) q ≡ Some p → (j : Key) → count_of (bare new) j ≡ count_of (bare t) j
      counts_came id is q at j = ap (λ (u : Seats). count_of u j) (sym (new_is id is)) ∙ counts_more q at j
