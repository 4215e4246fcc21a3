-- What a folder lists.
use Rattle.std.proofs.Common.{length, suc, zero, ◌≤◌, ◌&&◌, append-nil, append_assoc, arith, All, Contains, ◌≢◌, ◌≡◌, ℕ, Bool, true, false, cond, T, List, [], ◌∷◌, ◌++◌, Option, Some, None, refl, sym, ap, subst, ◌∙◌}
use Rattle.std.specs.declared.cmp.Ordering.{Ordering}
use Rattle.std.specs.declared.cmp.Ordering.TheVariants.{Less, Equal, Greater}
use Rattle.std.specs.Ordering.{is_eq, is_lt, ordering_then}
use Rattle.std.specs.Option.{option_map, is_some}
use Rattle.std.specs.List.{cons_option, slice_index_or}
use Rattle.std.specs.FinMap.{find, is_sorted, slice_cmp-IsAntisymmetric, nat_cmp-IsAntisymmetric}
use Rattle.std.specs.FinMap.Entries.{below_all, same_entries}
use Rattle.std.proofs.lemmas.List.Elements.{All-nil}
use Rattle.dav_core.specs.Path.{Path, parent_of, is_nonempty, is_at_or_under, name_cmp, path_cmp, is_same_path, rest_after, only_name}
use Rattle.dav_core.specs.World.{World, IsWorld, is_folder_node, is_folder, has_members, IsTree, Node, Nodes, node_at, members, is_folder_kind}
use Rattle.std.proofs.lemmas.List.Elements.{All-contains, All-cons, Contains-get_or, Contains-append_right}
use Rattle.std.specs.Cmp.Lexicographic.{nat_list_cmp_total}
use Rattle.dav_core.proofs.MadeLemmas.{later}
use Rattle.dav_core.specs.CallLaws.{MembersStandBelow, MembersRise, ListsWhatStands}
use Rattle.dav_core.proofs.NodesLemmas.{apart}
use Rattle.dav_core.proofs.FrontLemmas.{parent-append, same_name, name-itself, rest_after-append, from_rest, same-append, cmp-append}
use Rattle.dav_core.proofs.NodesAfter.{both_true, left_true, right_true}

then_none : (o : Ordering) → is_eq (ordering_then o Equal) ≡ is_eq o
then_none Less = refl
then_none Equal = refl
then_none Greater = refl

lt_then_none : (o : Ordering) → is_lt (ordering_then o Equal) ≡ is_lt o
lt_then_none Less = refl
lt_then_none Equal = refl
lt_then_none Greater = refl

module _ (p : Path) where
  -- the entry of a node in the listing of p, where it is directly below p
  abbrev listed : Path × Node → Option Path → Option (List ℕ × Bool)
  listed e o = option_map (λ name. (name, is_folder_kind e.1.kind)) (only_name o)

  missing : (x : List ℕ) (e : Path × Node) → rest_after p e.0 ≢ Some (x ∷ []) → is_same_path (p ++ x ∷ []) e.0 ≡ false
  missing x e other = apart (p ++ x ∷ []) e.0 (λ same. other (ap (rest_after p) (sym same) ∙ rest_after-append p (x ∷ [])))

  skips : (x : List ℕ) (e : Path × Node) (es : Nodes) → rest_after p e.0 ≢ Some (x ∷ [])
      → find name_cmp x (members p es) ≡ option_map (λ n. is_folder_kind n.kind) (find path_cmp (p ++ x ∷ []) es)
      → find name_cmp x (members p es) ≡ option_map (λ n. is_folder_kind n.kind) (find path_cmp (p ++ x ∷ []) (e ∷ es))
  skips x e es other ih = ih ∙ sym (ap (λ b. option_map (λ (n : Node). is_folder_kind n.kind) (cond b (Some e.1) (find path_cmp (p ++ x ∷ []) es))) (missing x e other))

  hits : (x y : List ℕ) (e : Path × Node) (es : Nodes) (b : Bool)
      → find name_cmp x (members p es) ≡ option_map (λ n. is_folder_kind n.kind) (find path_cmp (p ++ x ∷ []) es)
      → cond b (Some (is_folder_kind e.1.kind)) (find name_cmp x (members p es)) ≡ option_map (λ n. is_folder_kind n.kind) (cond b (Some e.1) (find path_cmp (p ++ x ∷ []) es))
  hits x y e es true ih = refl
  hits x y e es false ih = ih

  members_step : (x : List ℕ) (e : Path × Node) (es : Nodes) (o : Option Path) → rest_after p e.0 ≡ o
      → find name_cmp x (members p es) ≡ option_map (λ n. is_folder_kind n.kind) (find path_cmp (p ++ x ∷ []) es)
      → find name_cmp x (cons_option (listed e o) (members p es)) ≡ option_map (λ n. is_folder_kind n.kind) (find path_cmp (p ++ x ∷ []) (e ∷ es))
  members_step x e es None is ih = skips x e es (λ h. let clash : None ≡ Some (x ∷ []) = sym is ∙ h in cc) ih
  members_step x e es (Some []) is ih = skips x e es (λ h. let clash : Some [] ≡ Some (x ∷ []) = sym is ∙ h in cc) ih
  members_step x e es (Some (y ∷ [])) is ih =
      let same : is_eq (name_cmp x y) ≡ is_same_path (p ++ x ∷ []) e.0 =
      sym (then_none (name_cmp x y)) ∙ sym (same-append p (x ∷ []) (y ∷ [])) ∙ ap (is_same_path (p ++ x ∷ [])) (sym (from_rest p e.0 (y ∷ []) is)) in
      ap (λ b. cond b (Some (is_folder_kind e.1.kind)) (find name_cmp x (members p es))) same ∙ hits x y e es (is_same_path (p ++ x ∷ []) e.0) ih
  members_step x e es (Some (y ∷ z ∷ r)) is ih = skips x e es (λ h. let clash : Some (y ∷ z ∷ r) ≡ Some (x ∷ []) = sym is ∙ h in cc) ih

  stand_below : (x : List ℕ) (ns : Nodes) → find name_cmp x (members p ns) ≡ option_map (λ n. is_folder_kind n.kind) (find path_cmp (p ++ x ∷ []) ns)
  stand_below x [] = refl
  stand_below x (e ∷ es) = members_step x e es (rest_after p e.0) refl (stand_below x es)

  below_members_step : (x : List ℕ) (e : Path × Node) (rest : List (List ℕ × Bool)) (o : Option Path) → rest_after p e.0 ≡ o → T (is_lt (path_cmp (p ++ x ∷ []) e.0))
      → T (below_all name_cmp x rest) → T (below_all name_cmp x (cons_option (listed e o) rest))
  below_members_step x e rest None is less ih = ih
  below_members_step x e rest (Some []) is less ih = ih
  below_members_step x e rest (Some (y ∷ [])) is less ih =
      let same : is_lt (path_cmp (p ++ x ∷ []) e.0) ≡ is_lt (name_cmp x y) =
      ap (λ (q : Path). is_lt (path_cmp (p ++ x ∷ []) q)) (from_rest p e.0 (y ∷ []) is) ∙ ap is_lt (cmp-append p (x ∷ []) (y ∷ [])) ∙ lt_then_none (name_cmp x y) in
      both_true (is_lt (name_cmp x y)) (below_all name_cmp x rest) (subst T same less) ih
  below_members_step x e rest (Some (y ∷ z ∷ r)) is less ih = ih

  below-members : (x : List ℕ) (ns : Nodes) → T (below_all path_cmp (p ++ x ∷ []) ns) → T (below_all name_cmp x (members p ns))
  below-members x [] h = tt
  below-members x (e ∷ es) h =
      below_members_step x e (members p es) (rest_after p e.0) refl (left_true (is_lt (path_cmp (p ++ x ∷ []) e.0)) (below_all path_cmp (p ++ x ∷ []) es) h)
      (below-members x es (right_true (is_lt (path_cmp (p ++ x ∷ []) e.0)) (below_all path_cmp (p ++ x ∷ []) es) h))

  sorted_members_step : (e : Path × Node) (es : Nodes) (o : Option Path) → rest_after p e.0 ≡ o → T (below_all path_cmp e.0 es)
      → T (is_sorted name_cmp (members p es)) → T (is_sorted name_cmp (cons_option (listed e o) (members p es)))
  sorted_members_step e es None is below ih = ih
  sorted_members_step e es (Some []) is below ih = ih
  sorted_members_step e es (Some (y ∷ [])) is below ih =
      both_true (below_all name_cmp y (members p es)) (is_sorted name_cmp (members p es))
      (below-members y es (subst (λ (q : Path). T (below_all path_cmp q es)) (from_rest p e.0 (y ∷ []) is) below)) ih
  sorted_members_step e es (Some (y ∷ z ∷ r)) is below ih = ih

  -- the members of a list in order are in order of their names
  pub sorted-members : (ns : Nodes) → T (is_sorted path_cmp ns) → T (is_sorted name_cmp (members p ns))
  sorted-members [] h = tt
  sorted-members (e ∷ es) h =
      sorted_members_step e es (rest_after p e.0) refl (left_true (below_all path_cmp e.0 es) (is_sorted path_cmp es) h)
      (sorted-members es (right_true (below_all path_cmp e.0 es) (is_sorted path_cmp es) h))

pub members_stand_below : MembersStandBelow
members_stand_below p x ns = stand_below p x ns

pub members_rise : MembersRise
members_rise p w world = sorted-members p w.nodes world.tree.sorted

abbrev Listing : Type 0
Listing = List (List ℕ × Bool)

contained_step : (x : List ℕ) (d : Bool) (e : List ℕ × Bool) (es : Listing) (b : Bool) → is_eq (name_cmp x e.0) ≡ b
    → (find name_cmp x es ≡ Some d → Contains es (x, d)) → cond b (Some e.1) (find name_cmp x es) ≡ Some d → Contains (e ∷ es) (x, d)
contained_step x d e es true is ih h =
    let name : e.0 ≡ x = sym (same_name x e.0 is) in
    let dir : e.1 ≡ d = cc in
    subst (Contains (e ∷ es)) (λ i. (name i, dir i)) (Contains-get_or (e ∷ es) 0 e (omega arith))
contained_step x d e es false is ih h = Contains-append_right (e ∷ []) es (x, d) (ih h)

-- what is found under a name is in the listing
contained : (x : List ℕ) (d : Bool) (es : Listing) → find name_cmp x es ≡ Some d → Contains es (x, d)
contained x d [] h = cc
contained x d (e ∷ es) h = contained_step x d e es (is_eq (name_cmp x e.0)) refl (contained x d es) h

combined : {X : Type 0} (P Q R : X → Type 0) → ((x : X) → P x → Q x → R x) → (xs : List X) → All P xs → All Q xs → All R xs
combined P Q R f xs a b = λ k d lt. f (slice_index_or xs k d) (a k d lt) (b k d lt)

below_each : (x : List ℕ) (es : Listing) → T (below_all name_cmp x es) → All (λ e. T (is_lt (name_cmp x e.0))) es
below_each x [] h = All-nil (λ e. T (is_lt (name_cmp x e.0)))
below_each x (e ∷ es) h =
    All-cons (λ e. T (is_lt (name_cmp x e.0))) e es (left_true (is_lt (name_cmp x e.0)) (below_all name_cmp x es) h)
    (below_each x es (right_true (is_lt (name_cmp x e.0)) (below_all name_cmp x es) h))

passed : (e f : List ℕ × Bool) (es : Listing) → find name_cmp f.0 es ≡ Some f.1 → T (is_lt (name_cmp e.0 f.0)) → find name_cmp f.0 (e ∷ es) ≡ Some f.1
passed e f es h less =
    let other : is_eq (name_cmp f.0 e.0) ≡ false = later (name_cmp f.0 e.0) (subst (λ (o : Ordering). T (is_lt o)) (nat_list_cmp_total.antisymm e.0 f.0) less) in
    ap (λ b. cond b (Some e.1) (find name_cmp f.0 es)) other ∙ h

-- what is in a listing in order is found under its name
each_found : (es : Listing) → T (is_sorted name_cmp es) → All (λ e. find name_cmp e.0 es ≡ Some e.1) es
each_found [] h = All-nil (λ e. find name_cmp e.0 [] ≡ Some e.1)
each_found (e ∷ es) h =
    All-cons (λ f. find name_cmp f.0 (e ∷ es) ≡ Some f.1) e es (ap (λ b. cond b (Some e.1) (find name_cmp e.0 es)) (name-itself e.0))
    (combined (λ f. find name_cmp f.0 es ≡ Some f.1) (λ f. T (is_lt (name_cmp e.0 f.0))) (λ f. find name_cmp f.0 (e ∷ es) ≡ Some f.1) (λ f. passed e f es) es
    (each_found es (right_true (below_all name_cmp e.0 es) (is_sorted name_cmp es) h))
    (below_each e.0 es (left_true (below_all name_cmp e.0 es) (is_sorted name_cmp es) h)))

stands_by : (o : Option Node) (dir : Bool) → option_map (λ (n : Node). is_folder_kind n.kind) o ≡ Some dir → (n : Node) × (o ≡ Some n) × (is_folder_kind n.kind ≡ dir)
stands_by None dir h = cc
stands_by (Some n) dir h = (n, refl, cc)

pub lists_what_stands : ListsWhatStands
lists_what_stands p name dir w world = (
  λ listed.
      let there : find name_cmp name (members p w.nodes) ≡ Some dir =
      All-contains (λ e. find name_cmp e.0 (members p w.nodes) ≡ Some e.1) (members p w.nodes) (name, dir) (each_found (members p w.nodes) (members_rise p w world)) listed in
      stands_by (node_at w (p ++ name ∷ [])) dir (sym (stand_below p name w.nodes) ∙ there),
  λ stands.
      let (n, there, is) = stands in
      let both : option_map (λ (n : Node). is_folder_kind n.kind) (node_at w (p ++ name ∷ [])) ≡ Some dir = ap (option_map (λ (n : Node). is_folder_kind n.kind)) there ∙ ap (λ b. Some b) is in
      contained name dir (members p w.nodes) (stand_below p name w.nodes ∙ both),
)

length-parent : (x : List ℕ) (s : Path) → length (parent_of (x ∷ s)) ≡ length s
length-parent x [] = refl
length-parent x (y ∷ s) = ap (λ k. suc k) (length-parent y s)

folder_stands : (o : Option Node) → is_folder_node o ≡ true → (m : Node) × (o ≡ Some m)
folder_stands None h = cc
folder_stands (Some m) h = (m, refl)

above_by : (ns : Nodes) → IsTree ns → (k : ℕ) (q r : Path) (n : Node) → length r ≤ k → find path_cmp (q ++ r) ns ≡ Some n → (m : Node) × (find path_cmp q ns ≡ Some m)
above_by ns t k q [] n small h = (n, ap (λ (x : Path). find path_cmp x ns) (sym (append-nil q)) ∙ h)
above_by ns t zero q (x ∷ s) n small h = absurd (omega arith)
above_by ns t (suc k) q (x ∷ s) n small h =
    let (m, stood) = folder_stands (find path_cmp (parent_of (q ++ x ∷ s)) ns) (t.parents (q ++ x ∷ s) n h) in
    let up : length (parent_of (x ∷ s)) ≡ length s = length-parent x s in
    above_by ns t k q (parent_of (x ∷ s)) m (omega (arith, small, up)) (ap (λ (y : Path). find path_cmp y ns) (sym (parent-append q x s)) ∙ stood)

-- in a tree there is a node at every path above a node
pub above : (ns : Nodes) → IsTree ns → (q r : Path) (n : Node) → find path_cmp (q ++ r) ns ≡ Some n → (m : Node) × (find path_cmp q ns ≡ Some m)
above ns t q r n h = above_by ns t (length r) q r n (omega arith) h

some_member : (x : List ℕ) (d : Bool) (es : Listing) → find name_cmp x es ≡ Some d → is_nonempty es ≡ true
some_member x d [] h = cc
some_member x d (e ∷ es) h = refl

below_by : (w : World) → IsWorld w → (q x : Path) (n : Node) → (is_folder w q && has_members w q) ≡ false → node_at w x ≡ Some n
    → (o : Option Path) → rest_after q x ≡ o → is_some o ≡ true → q ≡ x
below_by w world q x n empty stood None is some = cc
below_by w world q x n empty stood (Some []) is some = sym (append-nil q) ∙ sym (from_rest q x [] is)
below_by w world q x n empty stood (Some (y ∷ s)) is some =
    let path : x ≡ (q ++ y ∷ []) ++ s = from_rest q x (y ∷ s) is ∙ sym (append_assoc q (y ∷ []) s) in
    let (m, there) = above w.nodes world.tree (q ++ y ∷ []) s n (ap (node_at w) (sym path) ∙ stood) in
    let folder : is_folder w q ≡ true = ap (is_folder w) (sym (parent-append q y [] ∙ append-nil q)) ∙ world.tree.parents (q ++ y ∷ []) m there in
    let listed : find name_cmp y (members q w.nodes) ≡ Some (is_folder_kind m.kind) = stand_below q y w.nodes ∙ ap (option_map (λ (z : Node). is_folder_kind z.kind)) there in
    let members : has_members w q ≡ true = some_member y (is_folder_kind m.kind) (members q w.nodes) listed in
    let both : (is_folder w q && has_members w q) ≡ true = ap (λ b. b && has_members w q) folder ∙ members in
    let clash : false ≡ true = sym empty ∙ both in
    cc

-- there is nothing below a path that isn't a folder with members
pub nothing_below : (w : World) → IsWorld w → (q x : Path) (n : Node) → (is_folder w q && has_members w q) ≡ false → node_at w x ≡ Some n → is_at_or_under x q ≡ true → q ≡ x
nothing_below w world q x n empty stood at = below_by w world q x n empty stood (rest_after q x) refl at

-- two folders, in two worlds, list the same where the same names are directly below them
pub members_same : (p q : Path) (w v : World) → IsWorld w → IsWorld v
    → ((x : List ℕ) → option_map (λ n. is_folder_kind n.kind) (node_at w (p ++ x ∷ [])) ≡ option_map (λ n. is_folder_kind n.kind) (node_at v (q ++ x ∷ [])))
    → members p w.nodes ≡ members q v.nodes
members_same p q w v world other alike =
    same_entries name_cmp nat_list_cmp_total (slice_cmp-IsAntisymmetric nat_cmp-IsAntisymmetric) (members p w.nodes) (members q v.nodes) (members_rise p w world) (members_rise q v other)
    (λ x. stand_below p x w.nodes ∙ alike x ∙ sym (stand_below q x v.nodes))
