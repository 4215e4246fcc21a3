-- What is at a path and below it: the node there, and what is at and below each of its members.
use Rattle.std.proofs.Common.{◌≡◌, ◌++◌, Bool, true, false, cond, T, ℕ, zero, suc, ◌<◌, ◌≤◌, length, get_or, arith, length-append, List, [], ◌∷◌, Option, Some, None, refl, sym, ap, subst, ◌∙◌, append_assoc, append-nil}
use Rattle.std.proofs.lemmas.List.{map-append}
use Rattle.std.specs.declared.cmp.Ordering.{Ordering}
use Rattle.std.specs.declared.cmp.Ordering.TheVariants.{Less, Equal, Greater}
use Rattle.std.specs.Ordering.{is_eq, is_lt, ordering_then, ordering_reverse}
use Rattle.std.specs.Option.{option_map, option_or, is_some}
use Rattle.std.specs.List.{AllByRecursion}
use Rattle.std.specs.FinMap.{find, is_sorted}
use Rattle.std.specs.FinMap.Entries.{below_all, same_entries, find-where_key, is_sorted-where_key}
use Rattle.std.specs.Cmp.{tied_itself}
use Rattle.std.specs.Cmp.Lexicographic.{nat_list_cmp_total}
use Rattle.dav_core.specs.Path.{Path, name_cmp, path_cmp, is_same_path, is_at_or_under, rest_after}
use Rattle.dav_core.specs.World.{Node, Nodes, members, is_folder_kind}
use Rattle.dav_core.proofs.NodesLemmas.{path_total, path_exact, path-itself, apart}
use Rattle.dav_core.proofs.NodesAfter.{both_true, left_true, right_true}
use Rattle.dav_core.proofs.FrontLemmas.{rest_after-append, from_rest, cmp-append, name-itself}
use Rattle.dav_core.proofs.MemberLemmas.{members_stand_below, sorted-members}
use Rattle.dav_store.specs.Subtrees.{under, blocks, paths_of, IsClosed}

abbrev Listing : Type 0
Listing = List (List ℕ × Bool)

all_along : {P Q : Path × Node → Type 0} → ((e : Path × Node) → P e → Q e) → (es : Nodes) → AllByRecursion P es → AllByRecursion Q es
all_along f [] h = tt
all_along f (e ∷ es) h = (f e h.0, all_along f es h.1)

-- ---- what is at a path and below it

pub find-under : (p q : Path) (ns : Nodes) → find path_cmp q (under p ns) ≡ cond (is_at_or_under q p) (find path_cmp q ns) None
find-under p q ns = find-where_key path_cmp (λ x. is_at_or_under x p) q (λ x e. ap (λ (r : Path). is_at_or_under r p) (sym (path_exact q x e))) ns

pub sorted-under : (p : Path) (ns : Nodes) → T (is_sorted path_cmp ns) → T (is_sorted path_cmp (under p ns))
sorted-under p ns h = is_sorted-where_key path_cmp (λ x. is_at_or_under x p) ns h

-- a path is this one or below it
abbrev Continues : Path → Path × Node → Type 0
Continues p e = (r : Path) × (e.0 ≡ p ++ r)

all_step : (p : Path) (e : Path × Node) (rest : Nodes) (o : Option Path) → rest_after p e.0 ≡ o → AllByRecursion (Continues p) rest → AllByRecursion (Continues p) (cond (is_some o) (e ∷ rest) rest)
all_step p e rest None is h = h
all_step p e rest (Some r) is h = ((r, from_rest p e.0 r is), h)

all_under : (p : Path) (ns : Nodes) → AllByRecursion (Continues p) (under p ns)
all_under p [] = tt
all_under p (e ∷ es) = all_step p e (under p es) (rest_after p e.0) refl (all_under p es)

-- ---- order

below-append : (k : Path) (xs ys : Nodes) → T (below_all path_cmp k xs) → T (below_all path_cmp k ys) → T (below_all path_cmp k (xs ++ ys))
below-append k [] ys h g = g
below-append k (x ∷ xs) ys h g =
    both_true (is_lt (path_cmp k x.0)) (below_all path_cmp k (xs ++ ys)) (left_true (is_lt (path_cmp k x.0)) (below_all path_cmp k xs) h)
    (below-append k xs ys (right_true (is_lt (path_cmp k x.0)) (below_all path_cmp k xs) h) g)

sorted-append : (xs ys : Nodes) → T (is_sorted path_cmp xs) → T (is_sorted path_cmp ys) → AllByRecursion (λ e. T (below_all path_cmp e.0 ys)) xs → T (is_sorted path_cmp (xs ++ ys))
sorted-append [] ys h g all = g
sorted-append (x ∷ xs) ys h g all =
    both_true (below_all path_cmp x.0 (xs ++ ys)) (is_sorted path_cmp (xs ++ ys))
    (below-append x.0 xs ys (left_true (below_all path_cmp x.0 xs) (is_sorted path_cmp xs) h) all.0)
    (sorted-append xs ys (right_true (below_all path_cmp x.0 xs) (is_sorted path_cmp xs) h) g all.1)

below_each : (k : Path) (es : Nodes) → AllByRecursion (λ e. T (is_lt (path_cmp k e.0))) es → T (below_all path_cmp k es)
below_each k [] h = tt
below_each k (e ∷ es) h = both_true (is_lt (path_cmp k e.0)) (below_all path_cmp k es) h.0 (below_each k es h.1)

lt_then : (o q : Ordering) → T (is_lt o) → T (is_lt (ordering_then o q))
lt_then Less q h = tt
lt_then Equal q h = absurd h
lt_then Greater q h = absurd h

less_below : (p r s e : Path) (x y : List ℕ) → T (is_lt (name_cmp x y)) → e ≡ (p ++ y ∷ []) ++ s → T (is_lt (path_cmp (p ++ x ∷ r) e))
less_below p r s e x y less is =
    let same : path_cmp (p ++ x ∷ r) e ≡ ordering_then (name_cmp x y) (path_cmp r s) =
    ap (path_cmp (p ++ x ∷ r)) (is ∙ append_assoc p (y ∷ []) s) ∙ cmp-append p (x ∷ r) (y ∷ s) in
    subst (λ (o : Ordering). T (is_lt o)) (sym same) (lt_then (name_cmp x y) (path_cmp r s) less)

less_above : (p s e : Path) (y : List ℕ) → e ≡ (p ++ y ∷ []) ++ s → T (is_lt (path_cmp p e))
less_above p s e y is =
    let same : path_cmp p e ≡ Less =
    ap (λ (q : Path). path_cmp q e) (sym (append-nil p)) ∙ ap (path_cmp (p ++ [])) (is ∙ append_assoc p (y ∷ []) s) ∙ cmp-append p [] (y ∷ s) in
    subst (λ (o : Ordering). T (is_lt o)) (sym same) tt

below_blocks : (p r : Path) (x : List ℕ) (ns : Nodes) (ms : Listing) → T (below_all name_cmp x ms) → T (below_all path_cmp (p ++ x ∷ r) (blocks p ns ms))
below_blocks p r x ns [] h = tt
below_blocks p r x ns (m ∷ ms) h =
    let less = left_true (is_lt (name_cmp x m.0)) (below_all name_cmp x ms) h in
    let rest = right_true (is_lt (name_cmp x m.0)) (below_all name_cmp x ms) h in
    below-append (p ++ x ∷ r) (under (p ++ m.0 ∷ []) ns) (blocks p ns ms)
    (below_each (p ++ x ∷ r) (under (p ++ m.0 ∷ []) ns) (all_along (λ e c. less_below p r c.0 e.0 x m.0 less c.1) (under (p ++ m.0 ∷ []) ns) (all_under (p ++ m.0 ∷ []) ns)))
    (below_blocks p r x ns ms rest)

above_blocks : (p : Path) (ns : Nodes) (ms : Listing) → T (below_all path_cmp p (blocks p ns ms))
above_blocks p ns [] = tt
above_blocks p ns (m ∷ ms) =
    below-append p (under (p ++ m.0 ∷ []) ns) (blocks p ns ms)
    (below_each p (under (p ++ m.0 ∷ []) ns) (all_along (λ e c. less_above p c.0 e.0 m.0 c.1) (under (p ++ m.0 ∷ []) ns) (all_under (p ++ m.0 ∷ []) ns)))
    (above_blocks p ns ms)

sorted_blocks : (p : Path) (ns : Nodes) → T (is_sorted path_cmp ns) → (ms : Listing) → T (is_sorted name_cmp ms) → T (is_sorted path_cmp (blocks p ns ms))
sorted_blocks p ns s [] h = tt
sorted_blocks p ns s (m ∷ ms) h =
    let below = left_true (below_all name_cmp m.0 ms) (is_sorted name_cmp ms) h in
    let rest = right_true (below_all name_cmp m.0 ms) (is_sorted name_cmp ms) h in
    sorted-append (under (p ++ m.0 ∷ []) ns) (blocks p ns ms) (sorted-under (p ++ m.0 ∷ []) ns s) (sorted_blocks p ns s ms rest)
    (all_along
    (λ e c. subst (λ (q : Path). T (below_all path_cmp q (blocks p ns ms))) (sym (c.1 ∙ append_assoc p (m.0 ∷ []) c.0)) (below_blocks p c.0 m.0 ns ms below))
    (under (p ++ m.0 ∷ []) ns) (all_under (p ++ m.0 ∷ []) ns))

-- ---- what is found

or_cond : {X : Type 0} (b : Bool) (n : X) (o later : Option X) → cond b (Some n) (option_or o later) ≡ option_or (cond b (Some n) o) later
or_cond true n o later = refl
or_cond false n o later = refl

find-append : (q : Path) (xs ys : Nodes) → find path_cmp q (xs ++ ys) ≡ option_or (find path_cmp q xs) (find path_cmp q ys)
find-append q [] ys = refl
find-append q (x ∷ xs) ys = ap (cond (is_same_path q x.0) (Some x.1)) (find-append q xs ys) ∙ or_cond (is_same_path q x.0) x.1 (find path_cmp q xs) (find path_cmp q ys)

rest_both : (p a b : Path) → rest_after (p ++ a) (p ++ b) ≡ rest_after a b
rest_both [] a b = refl
rest_both (x ∷ p) a b = ap (λ c. cond c (rest_after (p ++ a) (p ++ b)) None) (name-itself x) ∙ rest_both p a b

eq_reverse : (o : Ordering) → is_eq (ordering_reverse o) ≡ is_eq o
eq_reverse Less = refl
eq_reverse Equal = refl
eq_reverse Greater = refl

name_turned : (x y : List ℕ) → is_eq (name_cmp y x) ≡ is_eq (name_cmp x y)
name_turned x y = ap is_eq (nat_list_cmp_total.antisymm y x) ∙ eq_reverse (name_cmp x y)

some_cond : (b : Bool) (r : Path) → is_some (cond b (Some r) None) ≡ b
some_cond true r = refl
some_cond false r = refl

-- a path with a name after p is below a member of p just where the name is the member's
under_member : (p r : Path) (x y : List ℕ) → is_at_or_under (p ++ x ∷ r) (p ++ y ∷ []) ≡ is_eq (name_cmp x y)
under_member p r x y = ap is_some (rest_both p (y ∷ []) (x ∷ r)) ∙ some_cond (is_eq (name_cmp y x)) r ∙ name_turned x y

or_step : (b : Bool) (o : Option Node) (m : Bool) (later : Option Bool) → option_or (cond b o None) (cond (is_some later) o None) ≡ cond (is_some (cond b (Some m) later)) o None
or_step true None m None = refl
or_step true None m (Some l) = refl
or_step true (Some n) m later = refl
or_step false o m later = refl

find-blocks : (p r : Path) (x : List ℕ) (ns : Nodes) (ms : Listing) → find path_cmp (p ++ x ∷ r) (blocks p ns ms) ≡ cond (is_some (find name_cmp x ms)) (find path_cmp (p ++ x ∷ r) ns) None
find-blocks p r x ns [] = refl
find-blocks p r x ns (m ∷ ms) =
    let q : Path = p ++ x ∷ r in
    let o : Option Node = find path_cmp q ns in
    let head : find path_cmp q (under (p ++ m.0 ∷ []) ns) ≡ cond (is_eq (name_cmp x m.0)) o None = find-under (p ++ m.0 ∷ []) q ns ∙ ap (λ b. cond b o None) (under_member p r x m.0) in
    find-append q (under (p ++ m.0 ∷ []) ns) (blocks p ns ms)
    ∙ (λ i. option_or (head i) (find-blocks p r x ns ms i))
    ∙ or_step (is_eq (name_cmp x m.0)) o m.1 (find name_cmp x ms)

not_below : (p q s : Path) (o : Option Path) → rest_after p q ≡ None → rest_after (p ++ s) q ≡ o → is_some o ≡ false
not_below p q s None none is = refl
not_below p q s (Some r) none is =
    let whole : q ≡ p ++ (s ++ r) = from_rest (p ++ s) q r is ∙ append_assoc p s r in
    let clash : None ≡ Some (s ++ r) = sym none ∙ ap (rest_after p) whole ∙ rest_after-append p (s ++ r) in
    cc

find-outside : (p q : Path) (ns : Nodes) (ms : Listing) → rest_after p q ≡ None → find path_cmp q (blocks p ns ms) ≡ None
find-outside p q ns [] none = refl
find-outside p q ns (m ∷ ms) none =
    let head : find path_cmp q (under (p ++ m.0 ∷ []) ns) ≡ None =
    find-under (p ++ m.0 ∷ []) q ns ∙ ap (λ b. cond b (find path_cmp q ns) None) (not_below p q (m.0 ∷ []) (rest_after (p ++ m.0 ∷ []) q) none refl) in
    find-append q (under (p ++ m.0 ∷ []) ns) (blocks p ns ms) ∙ (λ i. option_or (head i) (find-outside p q ns ms none i))

-- ---- one level

-- a node below p is below a member of p
listed_above : (p r : Path) (x : List ℕ) (ns : Nodes) → IsClosed ns → (o : Option Node) → find path_cmp (p ++ x ∷ r) ns ≡ o → o ≡ cond (is_some (find name_cmp x (members p ns))) o None
listed_above p r x ns closed None is = elim (is_some (find name_cmp x (members p ns))) as (λ b. ◌≡◌ {A = Option Node} None (cond b None None)) [
  | true ↦ refl
  | false ↦ refl
]
listed_above p r x ns closed (Some m) is =
    let (k, there) = closed (p ++ x ∷ []) r m (ap (λ (q : Path). find path_cmp q ns) (append_assoc p (x ∷ []) r) ∙ is) in
    let listed : is_some (find name_cmp x (members p ns)) ≡ true = ap is_some (members_stand_below p x ns ∙ ap (option_map (λ (n : Node). is_folder_kind n.kind)) there) in
    ap (λ b. cond b (Some m) None) (sym listed)

found_step : (p q : Path) (n : Node) (ns : Nodes) → IsClosed ns → find path_cmp p ns ≡ Some n → (o : Option Path) → rest_after p q ≡ o
    → cond (is_some o) (find path_cmp q ns) None ≡ cond (is_same_path q p) (Some n) (find path_cmp q (blocks p ns (members p ns)))
found_step p q n ns closed there None is =
    let other : is_same_path q p ≡ false = apart q p (λ same. let clash : None ≡ Some [] = sym is ∙ ap (rest_after p) (same ∙ sym (append-nil p)) ∙ rest_after-append p [] in cc) in
    sym (ap (λ b. cond b (Some n) (find path_cmp q (blocks p ns (members p ns)))) other ∙ find-outside p q ns (members p ns) is)
found_step p q n ns closed there (Some []) is =
    let same : q ≡ p = from_rest p q [] is ∙ append-nil p in
    ap (λ (x : Path). find path_cmp x ns) same ∙ there
    ∙ sym (ap (λ (x : Path). cond (is_same_path x p) (Some n) (find path_cmp q (blocks p ns (members p ns)))) same ∙ ap (λ b. cond b (Some n) (find path_cmp q (blocks p ns (members p ns)))) (path-itself p))
found_step p q n ns closed there (Some (x ∷ r)) is =
    let whole : q ≡ p ++ x ∷ r = from_rest p q (x ∷ r) is in
    let other : is_same_path q p ≡ false = apart q p (λ same. let clash : Some (x ∷ r) ≡ Some [] = sym is ∙ ap (rest_after p) (same ∙ sym (append-nil p)) ∙ rest_after-append p [] in cc) in
    ap (λ (y : Path). find path_cmp y ns) whole ∙ listed_above p r x ns closed (find path_cmp (p ++ x ∷ r) ns) refl ∙ sym (find-blocks p r x ns (members p ns))
    ∙ ap (λ (y : Path). find path_cmp y (blocks p ns (members p ns))) (sym whole)
    ∙ sym (ap (λ b. cond b (Some n) (find path_cmp q (blocks p ns (members p ns)))) other)

-- at a path and below it are the node there, and what is at and below each of its members
pub under_members : (p : Path) (n : Node) (ns : Nodes) → T (is_sorted path_cmp ns) → IsClosed ns → find path_cmp p ns ≡ Some n → under p ns ≡ (p, n) ∷ blocks p ns (members p ns)
under_members p n ns sorted closed there =
    let rest = blocks p ns (members p ns) in
    same_entries path_cmp path_total path_exact (under p ns) ((p, n) ∷ rest) (sorted-under p ns sorted)
    (both_true (below_all path_cmp p rest) (is_sorted path_cmp rest) (above_blocks p ns (members p ns)) (sorted_blocks p ns sorted (members p ns) (sorted-members p ns sorted)))
    (λ q. find-under p q ns ∙ found_step p q n ns closed there (rest_after p q) refl)

-- where nothing is at a path, nothing is below it
under_none_step : (p q : Path) (ns : Nodes) → IsClosed ns → find path_cmp p ns ≡ None → (o : Option Path) → rest_after p q ≡ o → (f : Option Node) → find path_cmp q ns ≡ f → cond (is_some o) f None ≡ None
under_none_step p q ns closed none None is f there = refl
under_none_step p q ns closed none (Some r) is None there = refl
under_none_step p q ns closed none (Some r) is (Some m) there =
    let (k, stands) = closed p r m (ap (λ (x : Path). find path_cmp x ns) (sym (from_rest p q r is)) ∙ there) in
    let clash : None ≡ Some k = sym none ∙ stands in
    cc

pub under_none : (p : Path) (ns : Nodes) → T (is_sorted path_cmp ns) → IsClosed ns → find path_cmp p ns ≡ None → under p ns ≡ []
under_none p ns sorted closed none =
    same_entries path_cmp path_total path_exact (under p ns) [] (sorted-under p ns sorted) tt
    (λ q. find-under p q ns ∙ under_none_step p q ns closed none (rest_after p q) refl (find path_cmp q ns) refl)

-- everything is at the root or below it
pub under_root : (ns : Nodes) → under [] ns ≡ ns
under_root [] = refl
under_root (e ∷ es) = ap (λ (xs : Nodes). e ∷ xs) (under_root es)

-- ---- members one after another

pub blocks-push : (p : Path) (ns : Nodes) (ms : Listing) (m : List ℕ × Bool) → blocks p ns (ms ++ m ∷ []) ≡ blocks p ns ms ++ under (p ++ m.0 ∷ []) ns
blocks-push p ns [] m = append-nil (under (p ++ m.0 ∷ []) ns)
blocks-push p ns (x ∷ ms) m = ap (λ (xs : Nodes). under (p ++ x.0 ∷ []) ns ++ xs) (blocks-push p ns ms m) ∙ sym (append_assoc (under (p ++ x.0 ∷ []) ns) (blocks p ns ms) (under (p ++ m.0 ∷ []) ns))

-- what is at and below one member is no more than what is at and below all
pub block_fits : (p : Path) (ns : Nodes) (before after : Listing) (m : List ℕ × Bool) → length (under (p ++ m.0 ∷ []) ns) ≤ length (blocks p ns (before ++ m ∷ after))
block_fits p ns [] after m = omega (arith, length-append (under (p ++ m.0 ∷ []) ns) (blocks p ns after))
block_fits p ns (x ∷ before) after m = omega (arith, block_fits p ns before after m, length-append (under (p ++ x.0 ∷ []) ns) (blocks p ns (before ++ m ∷ after)))

-- ---- the place of a path in the list

not_first : (k x : Path) → T (is_lt (path_cmp x k)) → is_same_path k x ≡ false
not_first k x less = apart k x (λ same. let clash : T (is_lt (path_cmp x x)) = subst (λ (q : Path). T (is_lt (path_cmp x q))) same less in let equal : path_cmp x x ≡ Equal = tied_itself path_total x in absurd (subst (λ (o : Ordering). T (is_lt o)) equal clash))

below_at : (x : Path) (es : Nodes) (i : ℕ) (e : Path × Node) → i < length es → e ≡ get_or es i e → T (below_all path_cmp x es) → T (is_lt (path_cmp x e.0))
below_at x [] i e lt is h = absurd (omega (arith, lt))
below_at x (y ∷ ys) zero e lt is h = subst (λ (z : Path × Node). T (is_lt (path_cmp x z.0))) (sym is) (left_true (is_lt (path_cmp x y.0)) (below_all path_cmp x ys) h)
below_at x (y ∷ ys) (suc i) e lt is h = below_at x ys i e (omega (arith, lt)) is (right_true (is_lt (path_cmp x y.0)) (below_all path_cmp x ys) h)

-- an entry of the list is found at its path
pub entry_found : (ns : Nodes) (i : ℕ) (e : Path × Node) → T (is_sorted path_cmp ns) → i < length ns → e ≡ get_or ns i e → find path_cmp e.0 ns ≡ Some e.1
entry_found [] i e sorted lt is = absurd (omega (arith, lt))
entry_found (x ∷ xs) zero e sorted lt is =
    ap (λ (z : Path × Node). cond (is_same_path z.0 x.0) (Some x.1) (find path_cmp z.0 xs)) is ∙ ap (λ b. cond b (Some x.1) (find path_cmp x.0 xs)) (path-itself x.0) ∙ ap (λ (z : Path × Node). Some z.1) (sym is)
entry_found (x ∷ xs) (suc i) e sorted lt is =
    let below = left_true (below_all path_cmp x.0 xs) (is_sorted path_cmp xs) sorted in
    let rest = right_true (below_all path_cmp x.0 xs) (is_sorted path_cmp xs) sorted in
    let later : i < length xs = omega (arith, lt) in
    ap (λ b. cond b (Some x.1) (find path_cmp e.0 xs)) (not_first e.0 x.0 (below_at x.0 xs i e later is below)) ∙ entry_found xs i e rest later is

-- a path of the list is that of an entry
pub entry_at : (ns : Nodes) (i : ℕ) (k : Path) → i < length (paths_of ns) → k ≡ get_or (paths_of ns) i k → (e : Path × Node) × (k ≡ e.0) × (e ≡ get_or ns i e)
entry_at [] i k lt is = absurd (omega (arith, lt))
entry_at (x ∷ xs) zero k lt is = (x, is, refl)
entry_at (x ∷ xs) (suc i) k lt is = entry_at xs i k (omega (arith, lt)) is

pub paths_len : (ns : Nodes) → length (paths_of ns) ≡ length ns
paths_len [] = refl
paths_len (x ∷ xs) = ap suc (paths_len xs)

-- ---- a walk down

module _ (p : Path) (n : Node) (ns : Nodes) (sorted : T (is_sorted path_cmp ns)) (closed : IsClosed ns) (there : find path_cmp p ns ≡ Some n) where
  -- fewer nodes are at and below a member
  pub smaller : (q : Path) (before after : Listing) (m : List ℕ × Bool) → before ++ m ∷ after ≡ members p ns → q ≡ p ++ m.0 ∷ [] → length (under q ns) < length (under p ns)
  smaller q before after m all is =
      let one : length (under q ns) ≡ length (under (p ++ m.0 ∷ []) ns) = ap (λ (x : Path). length (under x ns)) is in
      let whole : length (under p ns) ≡ suc (length (blocks p ns (members p ns))) = ap length (under_members p n ns sorted closed there) in
      let parts : length (blocks p ns (before ++ m ∷ after)) ≡ length (blocks p ns (members p ns)) = ap (λ (ms : Listing). length (blocks p ns ms)) all in
      omega (arith, block_fits p ns before after m, one, whole, parts)

  -- all members are walked
  pub walked : (ms : Listing) (base all : List Path) → ms ≡ members p ns → all ≡ base ++ (p ∷ paths_of (blocks p ns ms)) → all ≡ base ++ paths_of (under p ns)
  walked ms base all is e =
      e ∙ ap (λ (xs : Listing). base ++ (p ∷ paths_of (blocks p ns xs))) is ∙ ap (λ (xs : Nodes). base ++ paths_of xs) (sym (under_members p n ns sorted closed there))

-- one member more is walked
pub walks_on : (p q : Path) (ns : Nodes) (ms : Listing) (m : List ℕ × Bool) (base old now : List Path) → q ≡ p ++ m.0 ∷ [] → old ≡ base ++ (p ∷ paths_of (blocks p ns ms)) → now ≡ old ++ paths_of (under q ns)
    → now ≡ base ++ (p ∷ paths_of (blocks p ns (ms ++ m ∷ [])))
walks_on p q ns ms m base old now is before after =
    let done = blocks p ns ms in
    let one = under (p ++ m.0 ∷ []) ns in
    after ∙ (λ i. before i ++ paths_of (under (is i) ns)) ∙ append_assoc base (p ∷ paths_of done) (paths_of one)
    ∙ ap (λ (xs : List Path). base ++ (p ∷ xs)) (sym (map-append (λ (e : Path × Node). e.0) done one) ∙ ap paths_of (sym (blocks-push p ns ms m)))

-- ---- the entry at a place of the list of paths

pub record PlacedAt (ns : Nodes) (i : ℕ) (k : Path) : Type 0 where
  pub entry : Path × Node
  pub path : k ≡ entry.0
  pub within : i < length ns
  pub is : entry ≡ get_or ns i entry
  pub found : find path_cmp k ns ≡ Some entry.1

pub placed_at : (ns : Nodes) (ps : List Path) (i : ℕ) (k : Path) → T (is_sorted path_cmp ns) → ps ≡ paths_of ns → i < length ps → k ≡ get_or ps i k → PlacedAt ns i k
placed_at ns ps i k sorted same lt at =
    let below : i < length (paths_of ns) = subst (λ (qs : List Path). i < length qs) same lt in
    let here : k ≡ get_or (paths_of ns) i k = at ∙ ap (λ (qs : List Path). get_or qs i k) same in
    let e = entry_at ns i k below here in
    let within : i < length ns = subst (λ (n : ℕ). i < n) (paths_len ns) below in
    record { entry = e.0; path = e.1; within = within; is = e.2; found = ap (λ (q : Path). find path_cmp q ns) e.1 ∙ entry_found ns i e.0 sorted within e.2 }
