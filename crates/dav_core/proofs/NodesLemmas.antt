-- What is at a path of a list of nodes after a change.
use Rattle.std.proofs.Common.{◌≡◌, ◌≢◌, Bool, true, false, cond, ◌&&◌, T, [], ◌∷◌, Option, Some, None, ◌⊎◌, inl, inr, refl, sym, ap, subst, ◌∙◌, if◌then◌else◌}
use Rattle.std.specs.Option.{option_map}
use Rattle.std.specs.declared.cmp.Ordering.{Ordering}
use Rattle.std.specs.declared.cmp.Ordering.TheVariants.{Less, Equal, Greater}
use Rattle.std.specs.Ordering.{is_eq, is_lt}
use Rattle.std.specs.Cmp.{IsTotalOrder, tied_itself}
use Rattle.std.specs.Cmp.Lexicographic.{lists_total, nat_list_cmp_total}
use Rattle.std.specs.FinMap.{IsAntisymmetric, slice_cmp-IsAntisymmetric, nat_cmp-IsAntisymmetric, find, put, is_sorted}
use Rattle.std.specs.FinMap.Entries.{find-put, is_sorted-put, below_all}
use Rattle.dav_core.specs.Path.{Path, path_cmp, is_same_path}
use Rattle.dav_core.specs.World.{Node, Nodes, change_node, adjust, is_folder_kind, is_folder_node}

-- paths are in one order, in which only equal ones tie
pub path_total : IsTotalOrder path_cmp
path_total = lists_total nat_list_cmp_total

pub path_exact : IsAntisymmetric path_cmp
path_exact = slice_cmp-IsAntisymmetric (slice_cmp-IsAntisymmetric nat_cmp-IsAntisymmetric)

pub eq_true : (o : Ordering) → is_eq o ≡ true → o ≡ Equal
eq_true Less h = cc
eq_true Equal h = refl
eq_true Greater h = cc

-- the test for one path is true of that path only
pub same_path : (p q : Path) → is_same_path p q ≡ true → p ≡ q
same_path p q h = path_exact p q (eq_true (path_cmp p q) h)

pub path-itself : (p : Path) → is_same_path p p ≡ true
path-itself p = ap is_eq (tied_itself path_total p)

not_itself : (p q : Path) (b : Bool) → is_same_path p q ≡ b → p ≢ q → b ≡ false
not_itself p q true h differ = absurd (differ (same_path p q h))
not_itself p q false h differ = refl

pub apart : (p q : Path) → p ≢ q → is_same_path p q ≡ false
apart p q differ = not_itself p q (is_same_path p q) refl differ

pub differ_from : (p q : Path) → is_same_path p q ≡ false → p ≢ q
differ_from p q h e = let t : is_same_path p q ≡ true = subst (λ (r : Path). is_same_path p r ≡ true) e (path-itself p) in cc

turned_by : (p q : Path) (b : Bool) → is_same_path p q ≡ b → is_same_path q p ≡ b
turned_by p q true h = subst (λ (r : Path). is_same_path q r ≡ true) (sym (same_path p q h)) (path-itself q)
turned_by p q false h = apart q p (λ e. differ_from p q h (sym e))

pub turned : (p q : Path) → is_same_path q p ≡ is_same_path p q
turned p q = turned_by p q (is_same_path p q) refl

module _ (p : Path) (f : Node → Node) (q : Path) where
  adjust_step : (e : Path × Node) (es rest : Nodes) (b : Bool) → is_same_path p e.0 ≡ b
      → find path_cmp q rest ≡ cond (is_same_path p q) (option_map f (find path_cmp q es)) (find path_cmp q es)
      → find path_cmp q (if b then (e.0, f e.1) ∷ es else e ∷ rest) ≡ cond (is_same_path p q) (option_map f (find path_cmp q (e ∷ es))) (find path_cmp q (e ∷ es))
  adjust_step e es rest true t ih =
      subst (λ c. find path_cmp q ((e.0, f e.1) ∷ es) ≡ cond c (option_map f (find path_cmp q (e ∷ es))) (find path_cmp q (e ∷ es)))
      (turned e.0 q ∙ ap (λ (x : Path). is_same_path x q) (sym (same_path p e.0 t)))
      (elim (is_same_path q e.0) as (λ c. cond c (Some (f e.1)) (find path_cmp q es) ≡ cond c (option_map f (cond c (Some e.1) (find path_cmp q es))) (cond c (Some e.1) (find path_cmp q es))) [ true ↦ refl | false ↦ refl ])
  adjust_step e es rest false t ih =
      elim (is_same_path q e.0) as (λ c. is_same_path q e.0 ≡ c → cond c (Some e.1) (find path_cmp q rest) ≡ cond (is_same_path p q) (option_map f (cond c (Some e.1) (find path_cmp q es))) (cond c (Some e.1) (find path_cmp q es))) [
        | true ↦ λ h.
            let differ : is_same_path p q ≡ false = ap (is_same_path p) (same_path q e.0 h) ∙ t in
            sym (ap (λ c. cond c (Some (f e.1)) (Some e.1)) differ)
        | false ↦ λ h. ih
      ] refl

-- what is at a path after the node at one path was changed
pub find-adjust : (p : Path) (f : Node → Node) (q : Path) (ns : Nodes) → find path_cmp q (adjust p f ns) ≡ cond (is_same_path p q) (option_map f (find path_cmp q ns)) (find path_cmp q ns)
find-adjust p f q [] = elim (is_same_path p q) as (λ b. None ≡ cond b (option_map f None) None) [ true ↦ refl | false ↦ refl ]
find-adjust p f q (e ∷ es) = adjust_step p f q e es (adjust p f es) _ refl (find-adjust p f q es)

below_change_step : (x : Path) (f : Node → Node) (e : Path × Node) (es rest : Nodes) (b : Bool) → below_all path_cmp x rest ≡ below_all path_cmp x es
    → below_all path_cmp x (if b then (e.0, f e.1) ∷ es else e ∷ rest) ≡ below_all path_cmp x (e ∷ es)
below_change_step x f e es rest true ih = refl
below_change_step x f e es rest false ih = ap (λ b. is_lt (path_cmp x e.0) && b) ih

-- a change of one node keeps the paths, and so their order
below-change : (x : Path) (test : Path × Node → Bool) (f : Node → Node) (ns : Nodes) → below_all path_cmp x (change_node test f ns) ≡ below_all path_cmp x ns
below-change x test f [] = refl
below-change x test f (e ∷ es) = below_change_step x f e es (change_node test f es) (test e) (below-change x test f es)

sorted_change_step : (f : Node → Node) (e : Path × Node) (es rest : Nodes) (b : Bool) → below_all path_cmp e.0 rest ≡ below_all path_cmp e.0 es → is_sorted path_cmp rest ≡ is_sorted path_cmp es
    → is_sorted path_cmp (if b then (e.0, f e.1) ∷ es else e ∷ rest) ≡ is_sorted path_cmp (e ∷ es)
sorted_change_step f e es rest true below ih = refl
sorted_change_step f e es rest false below ih = ap (λ b. b && is_sorted path_cmp rest) below ∙ ap (λ b. below_all path_cmp e.0 es && b) ih

pub sorted-change : (test : Path × Node → Bool) (f : Node → Node) (ns : Nodes) → is_sorted path_cmp (change_node test f ns) ≡ is_sorted path_cmp ns
sorted-change test f [] = refl
sorted-change test f (e ∷ es) = sorted_change_step f e es (change_node test f es) (test e) (below-change e.0 test f es) (sorted-change test f es)

-- what is at a path after a node was put at one path
pub find-put_node : (q p : Path) (n : Node) (ns : Nodes) → find path_cmp q (put path_cmp p n ns) ≡ cond (is_same_path q p) (Some n) (find path_cmp q ns)
find-put_node q p n ns = find-put path_cmp path_total q p n ns

pub sorted-put_node : (p : Path) (n : Node) (ns : Nodes) → T (is_sorted path_cmp ns) → T (is_sorted path_cmp (put path_cmp p n ns))
sorted-put_node p n ns h = is_sorted-put path_cmp path_total p n ns h

-- what is at q after the change came from what was there
pub record CameFrom (p : Path) (f : Node → Node) (ns : Nodes) (q : Path) (m : Node) : Type 0 where
  pub node : Node
  pub stood : find path_cmp q ns ≡ Some node
  pub became : ((p ≡ q) × (m ≡ f node)) ⊎ ((p ≢ q) × (m ≡ node))

came_by : (p : Path) (f : Node → Node) (ns : Nodes) (q : Path) (m : Node) (b : Bool) → is_same_path p q ≡ b → (o : Option Node) → find path_cmp q ns ≡ o
    → cond b (option_map f o) o ≡ Some m → CameFrom p f ns q m
came_by p f ns q m true is (Some n) stood h = record { node = n; stood = stood; became = inl (same_path p q is, let e : f n ≡ m = cc in sym e) }
came_by p f ns q m false is (Some n) stood h = record { node = n; stood = stood; became = inr (differ_from p q is, let e : n ≡ m = cc in sym e) }
came_by p f ns q m true is None stood h = cc
came_by p f ns q m false is None stood h = cc

pub back-adjust : (p : Path) (f : Node → Node) (ns : Nodes) (q : Path) (m : Node) → find path_cmp q (adjust p f ns) ≡ Some m → CameFrom p f ns q m
back-adjust p f ns q m h = came_by p f ns q m (is_same_path p q) refl (find path_cmp q ns) refl (sym (find-adjust p f q ns) ∙ h)

folder_by : (p : Path) (f : Node → Node) (ns : Nodes) → ((n : Node) → find path_cmp p ns ≡ Some n → is_folder_kind (f n).kind ≡ is_folder_kind n.kind)
    → (q : Path) (b : Bool) → is_same_path p q ≡ b → (o : Option Node) → find path_cmp q ns ≡ o → is_folder_node (cond b (option_map f o) o) ≡ is_folder_node o
folder_by p f ns keeps q true is (Some n) stood = keeps n (subst (λ (r : Path). find path_cmp r ns ≡ Some n) (sym (same_path p q is)) stood)
folder_by p f ns keeps q true is None stood = refl
folder_by p f ns keeps q false is o stood = refl

-- a change that keeps a node a folder or a file leaves folders where they are
pub folder-adjust : (p : Path) (f : Node → Node) (ns : Nodes) → ((n : Node) → find path_cmp p ns ≡ Some n → is_folder_kind (f n).kind ≡ is_folder_kind n.kind)
    → (q : Path) → is_folder_node (find path_cmp q (adjust p f ns)) ≡ is_folder_node (find path_cmp q ns)
folder-adjust p f ns keeps q =
    ap is_folder_node (find-adjust p f q ns) ∙ folder_by p f ns keeps q (is_same_path p q) refl (find path_cmp q ns) refl

-- what is at q after a node was put at p is that node, or what was there
put_by : (p : Path) (n : Node) (ns : Nodes) (q : Path) (m : Node) (b : Bool) → is_same_path q p ≡ b → cond b (Some n) (find path_cmp q ns) ≡ Some m
    → ((q ≡ p) × (m ≡ n)) ⊎ (find path_cmp q ns ≡ Some m)
put_by p n ns q m true is h = inl (same_path q p is, let e : n ≡ m = cc in sym e)
put_by p n ns q m false is h = inr h

pub back-put : (p : Path) (n : Node) (ns : Nodes) (q : Path) (m : Node) → find path_cmp q (put path_cmp p n ns) ≡ Some m
    → ((q ≡ p) × (m ≡ n)) ⊎ (find path_cmp q ns ≡ Some m)
back-put p n ns q m h = put_by p n ns q m (is_same_path q p) refl (sym (find-put_node q p n ns) ∙ h)

stays_by : (p : Path) (n : Node) (ns : Nodes) (q : Path) (b : Bool) → is_same_path q p ≡ b → find path_cmp p ns ≡ None → is_folder_node (find path_cmp q ns) ≡ true
    → is_folder_node (cond b (Some n) (find path_cmp q ns)) ≡ true
stays_by p n ns q true is none h =
    let gone : is_folder_node (find path_cmp q ns) ≡ false = ap (λ (r : Path). is_folder_node (find path_cmp r ns)) (same_path q p is) ∙ ap is_folder_node none in
    cc
stays_by p n ns q false is none h = h

-- a folder stays where a node was put at a path at which nothing was
pub folder-put : (p : Path) (n : Node) (ns : Nodes) (q : Path) → find path_cmp p ns ≡ None → is_folder_node (find path_cmp q ns) ≡ true
    → is_folder_node (find path_cmp q (put path_cmp p n ns)) ≡ true
folder-put p n ns q none h = ap is_folder_node (find-put_node q p n ns) ∙ stays_by p n ns q (is_same_path q p) refl none h
