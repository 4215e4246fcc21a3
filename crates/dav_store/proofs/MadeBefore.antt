-- The change numbers under which the nodes of a store were created, after each change of the nodes.
use Rattle.std.proofs.Common.{◌≡◌, ℕ, ◌+◌, ◌<◌, ◌≤◌, Bool, true, false, not, cond, if◌then◌else◌, List, [], ◌∷◌, ◌++◌, Option, None, Some, refl, sym, subst, arith}
use Rattle.std.specs.declared.cmp.Ordering.{Ordering}
use Rattle.std.specs.declared.cmp.Ordering.TheVariants.{Less, Equal, Greater}
use Rattle.std.specs.List.{cons_option}
use Rattle.std.specs.Option.{option_map}
use Rattle.std.specs.FinMap.{find, put}
use Rattle.std.specs.FinMap.Entries.{by_order}
use Rattle.dav_core.specs.Path.{Path, path_cmp, parent_of, is_same_path, is_at_or_under, rest_after}
use Rattle.dav_core.specs.World.{Node, Nodes, adjust, change_node, prune, graft, union, moved, touched, modified_at, is_file_made_with}
use Rattle.dav_core.specs.Calls.{emptied, written}
use Rattle.dav_store.specs.Makings.{AreMadeBefore, IsUnmade}

-- they are below a greater number too
before_later : (n m : ℕ) (ns : Nodes) → n ≤ m → AreMadeBefore n ns → AreMadeBefore m ns
before_later n m [] le h = tt
before_later n m (e ∷ es) le h = (omega (arith, le, h.0), before_later n m es le h.1)

-- none was created under this one
pub before_unmade : (n : ℕ) (ns : Nodes) → AreMadeBefore n ns → IsUnmade n ns
before_unmade n [] h = tt
before_unmade n (e ∷ es) h = ((λ same. omega (arith, h.0, same)), before_unmade n es h.1)

put_step : (n : ℕ) (p : Path) (v : Node) (e : Path × Node) (es done : Nodes) (o : Ordering) → v.made < n → AreMadeBefore n (e ∷ es) → AreMadeBefore n done → AreMadeBefore n (by_order o ((p, v) ∷ e ∷ es) ((e.0, v) ∷ es) (e ∷ done))
put_step n p v e es done Less new h ih = (new, h)
put_step n p v e es done Equal new h ih = (new, h.1)
put_step n p v e es done Greater new h ih = (h.0, ih)

before_put : (n : ℕ) (p : Path) (v : Node) (ns : Nodes) → v.made < n → AreMadeBefore n ns → AreMadeBefore n (put path_cmp p v ns)
before_put n p v [] new h = (new, tt)
before_put n p v (e ∷ es) new h = put_step n p v e es (put path_cmp p v es) (path_cmp p e.0) new h (before_put n p v es new h.1)

change_step : (n : ℕ) (f : Node → Node) (e : Path × Node) (es done : Nodes) (b : Bool) → ((v : Node) → (f v).made ≡ v.made) → AreMadeBefore n (e ∷ es) → AreMadeBefore n done → AreMadeBefore n (if b then (e.0, f e.1) ∷ es else e ∷ done)
change_step n f e es done true same h ih = (subst (λ m. m < n) (sym (same e.1)) h.0, h.1)
change_step n f e es done false same h ih = (h.0, ih)

-- a change that leaves each the number of its making
before_changed : (n : ℕ) (test : Path × Node → Bool) (f : Node → Node) (ns : Nodes) → ((v : Node) → (f v).made ≡ v.made) → AreMadeBefore n ns → AreMadeBefore n (change_node test f ns)
before_changed n test f [] same h = tt
before_changed n test f (e ∷ es) same h = change_step n f e es (change_node test f es) (test e) same h (before_changed n test f es same h.1)

filter_step : (n : ℕ) (e : Path × Node) (done : Nodes) (b : Bool) → e.1.made < n → AreMadeBefore n done → AreMadeBefore n (cond b (e ∷ done) done)
filter_step n e done true one ih = (one, ih)
filter_step n e done false one ih = ih

pub before_pruned : (n : ℕ) (p : Path) (ns : Nodes) → AreMadeBefore n ns → AreMadeBefore n (prune p ns)
before_pruned n p [] h = tt
before_pruned n p (e ∷ es) h = filter_step n e (prune p es) (not (is_at_or_under e.0 p)) h.0 (before_pruned n p es h.1)

graft_step : (n : ℕ) (q : Path) (e : Path × Node) (done : Nodes) (o : Option Path) → e.1.made < n → AreMadeBefore n done → AreMadeBefore n (cons_option (option_map (λ rest. (q ++ rest, e.1)) o) done)
graft_step n q e done None one ih = ih
graft_step n q e done (Some rest) one ih = (one, ih)

before_grafted : (n : ℕ) (p q : Path) (ns : Nodes) → AreMadeBefore n ns → AreMadeBefore n (graft p q ns)
before_grafted n p q [] h = tt
before_grafted n p q (e ∷ es) h = graft_step n q e (graft p q es) (rest_after p e.0) h.0 (before_grafted n p q es h.1)

before_united : (n : ℕ) (es ns : Nodes) → AreMadeBefore n es → AreMadeBefore n ns → AreMadeBefore n (union es ns)
before_united n [] ns h g = g
before_united n (e ∷ es) ns h g = before_put n e.0 e.1 (union es ns) h.0 (before_united n es ns h.1 g)

pub before_moved : (n : ℕ) (from to : Path) (ns : Nodes) → AreMadeBefore n ns → AreMadeBefore n (moved from to ns)
before_moved n from to ns h = before_united n (graft from to ns) (prune to (prune from ns)) (before_grafted n from to ns h) (before_pruned n to (prune from ns) (before_pruned n from ns h))

-- ---- what a call leaves, where it took a number or not
pub before_adjusted : (n : ℕ) (p : Path) (f : Node → Node) (ns later : Nodes) → ((v : Node) → (f v).made ≡ v.made) → later ≡ adjust p f ns → AreMadeBefore n ns → AreMadeBefore n later
before_adjusted n p f ns later same is h = subst (AreMadeBefore n) (sym is) (before_changed n (λ e. is_same_path p e.0) f ns same h)

pub before_touched : (n : ℕ) (p : Path) (now : ℕ) (ns later : Nodes) → later ≡ touched p now ns → AreMadeBefore n ns → AreMadeBefore n later
before_touched n p now ns later is h = before_adjusted n (parent_of p) (modified_at now) ns later (λ v. refl) is h

-- one more number was taken
pub next_before : (n : ℕ) (ns : Nodes) → AreMadeBefore n ns → AreMadeBefore (n + 1) ns
next_before n ns h = before_later n (n + 1) ns (omega arith) h

pub before_added : (n : ℕ) (p : Path) (v : Node) (now : ℕ) (ns later : Nodes) → v.made ≡ n → later ≡ touched p now (put path_cmp p v ns) → AreMadeBefore n ns → AreMadeBefore (n + 1) later
before_added n p v now ns later new is h = before_touched (n + 1) p now (put path_cmp p v ns) later is (before_put (n + 1) p v ns (omega (arith, new)) (next_before n ns h))

pub before_emptied : (n : ℕ) (p : Path) (number now : ℕ) (ns later : Nodes) → later ≡ adjust p (emptied number now) ns → AreMadeBefore n ns → AreMadeBefore (n + 1) later
before_emptied n p number now ns later is h = before_adjusted (n + 1) p (emptied number now) ns later (λ v. refl) is (next_before n ns h)

pub before_copied : (n : ℕ) (p : Path) (copy : Node) (ns later : Nodes) → later ≡ adjust p (λ v. record copy { made = v.made }) ns → AreMadeBefore n ns → AreMadeBefore (n + 1) later
before_copied n p copy ns later is h = before_adjusted (n + 1) p (λ v. record copy { made = v.made }) ns later (λ v. refl) is (next_before n ns h)

pub before_written : (n made k : ℕ) (c : List ℕ) (number now : ℕ) (ns later : Nodes) → later ≡ change_node (is_file_made_with made) (written k c number now) ns → AreMadeBefore n ns → AreMadeBefore (n + 1) later
before_written n made k c number now ns later is h = subst (AreMadeBefore (n + 1)) (sym is) (before_changed (n + 1) (is_file_made_with made) (written k c number now) ns (λ v. refl) (next_before n ns h))
