-- Lists of nodes in the order of their paths, and what holds of each.
use Rattle.std.proofs.Common.{◌≡◌, ◌≢◌, ◌++◌, Bool, true, false, cond, T, ℕ, zero, suc, ◌+◌, ◌<◌, ◌≤◌, length, get_or, take, drop, arith, List, [], ◌∷◌, Option, Some, None, refl, sym, ap, subst, ◌∙◌}
use Rattle.std.specs.declared.cmp.Ordering.{Ordering}
use Rattle.std.specs.declared.cmp.Ordering.TheVariants.{Less, Equal, Greater}
use Rattle.std.specs.Ordering.{is_eq, is_lt, ordering_then, ordering_reverse}
use Rattle.std.specs.Option.{option_or}
use Rattle.std.specs.List.{AllByRecursion}
use Rattle.std.specs.FinMap.{find, put, is_sorted}
use Rattle.std.specs.FinMap.Entries.{below_all, by_order}
use Rattle.std.specs.Cmp.{tied_itself}
use Rattle.std.specs.Cmp.Lexicographic.{nat_list_cmp_total}
use Rattle.dav_core.specs.Path.{Path, name_cmp, path_cmp, is_same_path, parent_of}
use Rattle.dav_core.specs.World.{Node, Nodes}
use Rattle.dav_core.proofs.NodesLemmas.{path_total, path-itself, same_path}
use Rattle.dav_core.proofs.NodesAfter.{both_true, left_true, right_true}
use Rattle.dav_store.proofs.Walks.{inner}

less : (o : Ordering) → T (is_lt o) → o ≡ Less
less Less h = refl
less Equal h = absurd h
less Greater h = absurd h

-- a path below all of some nodes is that of none
pub not_found : (q : Path) (es : Nodes) → T (below_all path_cmp q es) → find path_cmp q es ≡ None
not_found q [] h = refl
not_found q (e ∷ es) h =
    ap (λ (o : Ordering). cond (is_eq o) (Some e.1) (find path_cmp q es)) (less (path_cmp q e.0) (left_true (is_lt (path_cmp q e.0)) (below_all path_cmp q es) h))
    ∙ not_found q es (right_true (is_lt (path_cmp q e.0)) (below_all path_cmp q es) h)

pub found_first : (d : Path × Node) (ds : Nodes) → find path_cmp d.0 (d ∷ ds) ≡ Some d.1
found_first d ds = ap (λ b. cond b (Some d.1) (find path_cmp d.0 ds)) (path-itself d.0)

later_step : (d : Path × Node) (ds : Nodes) (p : Path) (n : Node) (b : Bool) → is_same_path p d.0 ≡ b → find path_cmp d.0 ds ≡ None → find path_cmp p ds ≡ Some n → cond b (Some d.1) (find path_cmp p ds) ≡ Some n
later_step d ds p n true is none e =
    let clash : None ≡ Some n = sym none ∙ ap (λ (q : Path). find path_cmp q ds) (sym (same_path p d.0 is)) ∙ e in cc
later_step d ds p n false is none e = e

pub found_later : (d : Path × Node) (ds : Nodes) (p : Path) (n : Node) → T (below_all path_cmp d.0 ds) → find path_cmp p ds ≡ Some n → find path_cmp p (d ∷ ds) ≡ Some n
found_later d ds p n below e = later_step d ds p n (is_same_path p d.0) refl (not_found d.0 ds below) e

-- what holds of each node holds of one that is found
at_step : (P : Path × Node → Type 0) (d : Path × Node) (ds : Nodes) (p : Path) (n : Node) (b : Bool) → is_same_path p d.0 ≡ b → P d → (find path_cmp p ds ≡ Some n → P (p, n))
    → cond b (Some d.1) (find path_cmp p ds) ≡ Some n → P (p, n)
at_step P d ds p n true is one ih e =
    let value : d.1 ≡ n = inner d.1 n e in
    let path : d.0 ≡ p = sym (same_path p d.0 is) in
    let same : d ≡ (p, n) = λ i. (path i, value i) in subst P same one
at_step P d ds p n false is one ih e = ih e

pub at_found : (P : Path × Node → Type 0) (ns : Nodes) (p : Path) (n : Node) → AllByRecursion P ns → find path_cmp p ns ≡ Some n → P (p, n)
at_found P [] p n h e = cc
at_found P (d ∷ ds) p n h e = at_step P d ds p n (is_same_path p d.0) refl h.0 (at_found P ds p n h.1) e

-- and what holds of each that is found holds of each node
pub each_found : (P : Path × Node → Type 0) (ns : Nodes) → T (is_sorted path_cmp ns) → ((p : Path) (n : Node) → find path_cmp p ns ≡ Some n → P (p, n)) → AllByRecursion P ns
each_found P [] s f = tt
each_found P (d ∷ ds) s f = (
  f d.0 d.1 (found_first d ds),
  each_found P ds (right_true (below_all path_cmp d.0 ds) (is_sorted path_cmp ds) s) (λ p n e. f p n (found_later d ds p n (left_true (below_all path_cmp d.0 ds) (is_sorted path_cmp ds) s) e)),
)

-- ---- a node among others in order

-- a path above those of all of these nodes
abbrev pub AreBelow : Path → Nodes → Type 0
AreBelow p es = AllByRecursion (λ e. path_cmp e.0 p ≡ Less) es

below_at : (q : Path) (xs : Nodes) (x : Path × Node) (ys : Nodes) → T (below_all path_cmp q (xs ++ x ∷ ys)) → path_cmp q x.0 ≡ Less
below_at q [] x ys h = less (path_cmp q x.0) (left_true (is_lt (path_cmp q x.0)) (below_all path_cmp q ys) h)
below_at q (d ∷ xs) x ys h = below_at q xs x ys (right_true (is_lt (path_cmp q d.0)) (below_all path_cmp q (xs ++ x ∷ ys)) h)

pub are_below : (xs : Nodes) (x : Path × Node) (ys : Nodes) → T (is_sorted path_cmp (xs ++ x ∷ ys)) → AreBelow x.0 xs
are_below [] x ys s = tt
are_below (d ∷ xs) x ys s = (
  below_at d.0 xs x ys (left_true (below_all path_cmp d.0 (xs ++ x ∷ ys)) (is_sorted path_cmp (xs ++ x ∷ ys)) s),
  are_below xs x ys (right_true (below_all path_cmp d.0 (xs ++ x ∷ ys)) (is_sorted path_cmp (xs ++ x ∷ ys)) s),
)

above_rest : (xs : Nodes) (x : Path × Node) (ys : Nodes) → T (is_sorted path_cmp (xs ++ x ∷ ys)) → T (below_all path_cmp x.0 ys)
above_rest [] x ys s = left_true (below_all path_cmp x.0 ys) (is_sorted path_cmp ys) s
above_rest (d ∷ xs) x ys s = above_rest xs x ys (right_true (below_all path_cmp d.0 (xs ++ x ∷ ys)) (is_sorted path_cmp (xs ++ x ∷ ys)) s)

turned : (p q : Path) → path_cmp p q ≡ Less → path_cmp q p ≡ Greater
turned p q h = path_total.antisymm q p ∙ ap ordering_reverse h

pub free_above : (p : Path) (es : Nodes) → AreBelow p es → find path_cmp p es ≡ None
free_above p [] h = refl
free_above p (e ∷ es) h = ap (λ (o : Ordering). cond (is_eq o) (Some e.1) (find path_cmp p es)) (turned e.0 p h.0) ∙ free_above p es h.1

pub put_last : (p : Path) (n : Node) (es : Nodes) → AreBelow p es → put path_cmp p n es ≡ es ++ (p, n) ∷ []
put_last p n [] h = refl
put_last p n (e ∷ es) h =
    ap (λ (o : Ordering). by_order o ((p, n) ∷ e ∷ es) ((e.0, n) ∷ es) (e ∷ put path_cmp p n es)) (turned e.0 p h.0) ∙ ap (λ (ds : Nodes). e ∷ ds) (put_last p n es h.1)

-- ---- the folder of a path

pub parent_less : (x : List ℕ) (p : Path) → path_cmp (parent_of (x ∷ p)) (x ∷ p) ≡ Less
parent_less x [] = refl
parent_less x (y ∷ p) = ap (λ (o : Ordering). ordering_then o (path_cmp (parent_of (y ∷ p)) (y ∷ p))) (tied_itself nat_list_cmp_total x) ∙ parent_less y p

pub below_less : (p q : Path) (es : Nodes) → path_cmp p q ≡ Less → T (below_all path_cmp q es) → T (below_all path_cmp p es)
below_less p q [] lt h = tt
below_less p q (e ∷ es) lt h =
    let first : path_cmp q e.0 ≡ Less = less (path_cmp q e.0) (left_true (is_lt (path_cmp q e.0)) (below_all path_cmp q es) h) in
    let here : T (is_lt (path_cmp p e.0)) = subst (λ (o : Ordering). T (is_lt o)) (sym (path_total.trans p q e.0 lt first)) tt in
    both_true (is_lt (path_cmp p e.0)) (below_all path_cmp p es) here (below_less p q es lt (right_true (is_lt (path_cmp q e.0)) (below_all path_cmp q es) h))

or_step : (b : Bool) (n : Node) (o later : Option Node) → cond b (Some n) (option_or o later) ≡ option_or (cond b (Some n) o) later
or_step true n o later = refl
or_step false n o later = refl

find-append : (q : Path) (xs ys : Nodes) → find path_cmp q (xs ++ ys) ≡ option_or (find path_cmp q xs) (find path_cmp q ys)
find-append q [] ys = refl
find-append q (x ∷ xs) ys = ap (cond (is_same_path q x.0) (Some x.1)) (find-append q xs ys) ∙ or_step (is_same_path q x.0) x.1 (find path_cmp q xs) (find path_cmp q ys)

or_none : (o : Option Node) → option_or o None ≡ o
or_none None = refl
or_none (Some n) = refl

-- the folder of a node stands before the node
pub folder_before : (q : Path) (xs : Nodes) (x : Path × Node) (ys : Nodes) → T (is_sorted path_cmp (xs ++ x ∷ ys)) → path_cmp q x.0 ≡ Less → find path_cmp q (xs ++ x ∷ ys) ≡ find path_cmp q xs
folder_before q xs x ys s lt =
    let here : T (is_lt (path_cmp q x.0)) = subst (λ (o : Ordering). T (is_lt o)) (sym lt) tt in
    let rest : find path_cmp q (x ∷ ys) ≡ None =
    not_found q (x ∷ ys) (both_true (is_lt (path_cmp q x.0)) (below_all path_cmp q ys) here (below_less q x.0 ys lt (above_rest xs x ys s))) in
    find-append q xs (x ∷ ys) ∙ ap (option_or (find path_cmp q xs)) rest ∙ or_none (find path_cmp q xs)

-- ---- lists

pub all_push : {A : Type 0} (P : A → Type 0) (xs : List A) (x : A) → AllByRecursion P xs → P x → AllByRecursion P (xs ++ x ∷ [])
all_push P [] x h one = (one, tt)
all_push P (d ∷ xs) x h one = (h.0, all_push P xs x h.1 one)

pub all_middle : {A : Type 0} (P : A → Type 0) (xs : List A) (x : A) (ys : List A) → AllByRecursion P (xs ++ x ∷ ys) → P x
all_middle P [] x ys h = h.0
all_middle P (d ∷ xs) x ys h = all_middle P xs x ys h.1
