-- The file that was created under a change number, and the path where it is.
use Rattle.std.proofs.Common.{◌==◌, ◌&&◌, ◌≡◌, ℕ, Bool, true, false, not, cond, T, [], ◌∷◌, Option, Some, None, refl, sym, ap, subst, ◌∙◌, if◌then◌else◌}
use Rattle.std.proofs.lemmas.Bool.{eqb-true, eq-eqb}
use Rattle.std.specs.declared.cmp.Ordering.{Ordering}
use Rattle.std.specs.declared.cmp.Ordering.TheVariants.{Less, Equal, Greater}
use Rattle.std.specs.Ordering.{is_eq, is_lt, ordering_reverse}
use Rattle.std.specs.Option.{option_map}
use Rattle.std.specs.List.{find as first}
use Rattle.std.specs.FinMap.{find, is_sorted}
use Rattle.std.specs.FinMap.Entries.{below_all}
use Rattle.dav_core.specs.Path.{Path, path_cmp, is_same_path}
use Rattle.dav_core.specs.World.{Node, Nodes, World, change_node, adjust, is_folder_kind, is_file_made_with, file_made_with, node_at, IsWorld}
use Rattle.dav_core.proofs.NodesLemmas.{path_total, path-itself}
use Rattle.dav_core.proofs.NodesAfter.{left_true, right_true}

unequal : (o : Ordering) → T (is_lt o) → is_eq o ≡ false
unequal Less h = refl
unequal Equal h = absurd h
unequal Greater h = refl

pub later : (o : Ordering) → T (is_lt (ordering_reverse o)) → is_eq o ≡ false
later Less h = refl
later Equal h = absurd h
later Greater h = refl

-- the first that passes a test is at a path after x, as all of them are
first_below_step : (x : Path) (test : Path × Node → Bool) (d e : Path × Node) (es : Nodes) (b : Bool) → T (is_lt (path_cmp x d.0))
    → (first test es ≡ Some e → T (is_lt (path_cmp x e.0))) → cond b (Some d) (first test es) ≡ Some e → T (is_lt (path_cmp x e.0))
first_below_step x test d e es true less ih h = let same : d ≡ e = cc in subst (λ (y : Path × Node). T (is_lt (path_cmp x y.0))) same less
first_below_step x test d e es false less ih h = ih h

first_below : (x : Path) (test : Path × Node → Bool) (e : Path × Node) (ns : Nodes) → T (below_all path_cmp x ns) → first test ns ≡ Some e → T (is_lt (path_cmp x e.0))
first_below x test e [] below h = cc
first_below x test e (d ∷ es) below h =
    first_below_step x test d e es (test d) (left_true (is_lt (path_cmp x d.0)) (below_all path_cmp x es) below)
    (first_below x test e es (right_true (is_lt (path_cmp x d.0)) (below_all path_cmp x es) below)) h

-- its path isn't that of one before it
not_before : (x y : Path) → T (is_lt (path_cmp x y)) → is_same_path y x ≡ false
not_before x y h = later (path_cmp y x) (subst (λ (o : Ordering). T (is_lt o)) (path_total.antisymm x y) h)

module _ (test : Path × Node → Bool) (e : Path × Node) where
  first_at_step : (d : Path × Node) (es : Nodes) (b : Bool) → T (below_all path_cmp d.0 es)
      → (first test es ≡ Some e → find path_cmp e.0 es ≡ Some e.1) → cond b (Some d) (first test es) ≡ Some e → find path_cmp e.0 (d ∷ es) ≡ Some e.1
  first_at_step d es true below ih h =
      let same : d ≡ e = cc in
      subst (λ (y : Path × Node). find path_cmp y.0 (d ∷ es) ≡ Some y.1) same (ap (λ b. cond b (Some d.1) (find path_cmp d.0 es)) (path-itself d.0))
  first_at_step d es false below ih h =
      ap (λ b. cond b (Some d.1) (find path_cmp e.0 es)) (not_before d.0 e.0 (first_below d.0 test e es below h)) ∙ ih h

  -- in a list in order the first that passes a test is the one at its path
  pub first_at : (ns : Nodes) → T (is_sorted path_cmp ns) → first test ns ≡ Some e → find path_cmp e.0 ns ≡ Some e.1
  first_at [] sorted h = cc
  first_at (d ∷ es) sorted h =
      first_at_step d es (test d) (left_true (below_all path_cmp d.0 es) (is_sorted path_cmp es) sorted)
      (first_at es (right_true (below_all path_cmp d.0 es) (is_sorted path_cmp es) sorted)) h

  first_passes_step : (d : Path × Node) (es : Nodes) (b : Bool) → test d ≡ b → (first test es ≡ Some e → test e ≡ true) → cond b (Some d) (first test es) ≡ Some e → test e ≡ true
  first_passes_step d es true is ih h = let same : d ≡ e = cc in subst (λ (y : Path × Node). test y ≡ true) same is
  first_passes_step d es false is ih h = ih h

  first_passes : (ns : Nodes) → first test ns ≡ Some e → test e ≡ true
  first_passes [] h = cc
  first_passes (d ∷ es) h = first_passes_step d es (test d) refl (first_passes es) h

  module _ (f : Node → Node) where
    change_step : (d : Path × Node) (es : Nodes) (b : Bool) → T (below_all path_cmp d.0 es)
        → (first test es ≡ Some e → change_node test f es ≡ adjust e.0 f es) → cond b (Some d) (first test es) ≡ Some e
        → (if b then (d.0, f d.1) ∷ es else d ∷ change_node test f es) ≡ adjust e.0 f (d ∷ es)
    change_step d es true below ih h =
        let same : d ≡ e = cc in
        subst (λ (y : Path × Node). (d.0, f d.1) ∷ es ≡ adjust y.0 f (d ∷ es)) same
        (sym (ap (λ b. cond b ((d.0, f d.1) ∷ es) (d ∷ adjust d.0 f es)) (path-itself d.0)))
    change_step d es false below ih h =
        ap (λ (rest : Nodes). d ∷ rest) (ih h)
        ∙ sym (ap (λ b. cond b ((d.0, f d.1) ∷ es) (d ∷ adjust e.0 f es)) (not_before d.0 e.0 (first_below d.0 test e es below h)))

    -- a change of the first that passes the test is the change at its path
    pub change_at : (ns : Nodes) → T (is_sorted path_cmp ns) → first test ns ≡ Some e → change_node test f ns ≡ adjust e.0 f ns
    change_at [] sorted h = cc
    change_at (d ∷ es) sorted h =
        change_step d es (test d) (left_true (below_all path_cmp d.0 es) (is_sorted path_cmp es) sorted)
        (change_at es (right_true (below_all path_cmp d.0 es) (is_sorted path_cmp es) sorted)) h

entry_of : (o : Option (Path × Node)) (n : Node) → option_map (λ (e : Path × Node). e.1) o ≡ Some n → (p : Path) × (o ≡ Some (p, n))
entry_of None n h = cc
entry_of (Some e) n h = let same : e.1 ≡ n = cc in (e.0, ap (λ (m : Node). Some (e.0, m)) same)

both_passed : (a b : Bool) → (a && not b) ≡ true → (a ≡ true) × (b ≡ false)
both_passed true true h = cc
both_passed true false h = (refl, refl)
both_passed false b h = cc

-- what passes the test for it is a file that was created under the number
pub passed : (made : ℕ) (n : Node) → ((n.made == made) && not (is_folder_kind n.kind)) ≡ true → (n.made ≡ made) × (is_folder_kind n.kind ≡ false)
passed made n h =
    let (same, file) = both_passed (n.made == made) (is_folder_kind n.kind) h in
    (eqb-true n.made made same, file)

-- the file that was created under a number is at some path
pub made_stands : (made : ℕ) (ns : Nodes) → T (is_sorted path_cmp ns) → (n : Node) → file_made_with made ns ≡ Some n
    → (p : Path) × (find path_cmp p ns ≡ Some n) × (n.made ≡ made) × (is_folder_kind n.kind ≡ false)
made_stands made ns sorted n h =
    let (p, is) = entry_of (first (is_file_made_with made) ns) n h in
    let (same, file) = passed made n (first_passes (is_file_made_with made) (p, n) ns is) in
    (p, first_at (is_file_made_with made) (p, n) ns sorted is, same, file)

-- and a change of it is the change there
pub change_made : (made : ℕ) (f : Node → Node) (ns : Nodes) → T (is_sorted path_cmp ns) → (n : Node) → file_made_with made ns ≡ Some n
    → (p : Path) × (find path_cmp p ns ≡ Some n) × (change_node (is_file_made_with made) f ns ≡ adjust p f ns)
change_made made f ns sorted n h =
    let (p, is) = entry_of (first (is_file_made_with made) ns) n h in
    (p, first_at (is_file_made_with made) (p, n) ns sorted is, change_at (is_file_made_with made) (p, n) f ns sorted is)

some_first_step : (test : Path × Node → Bool) (q : Path) (n : Node) (d : Path × Node) (es : Nodes) (b c : Bool) → test d ≡ b → is_same_path q d.0 ≡ c
    → ((e : Path) → is_same_path q e ≡ true → test (e, n) ≡ true)
    → (find path_cmp q es ≡ Some n → (x : Path × Node) × (first test es ≡ Some x))
    → cond c (Some d.1) (find path_cmp q es) ≡ Some n → (x : Path × Node) × (cond b (Some d) (first test es) ≡ Some x)
some_first_step test q n d es true c is same passes ih h = (d, refl)
some_first_step test q n d es false true is same passes ih h =
    let one : d.1 ≡ n = cc in
    let yes : test d ≡ true = subst (λ (m : Node). test (d.0, m) ≡ true) (sym one) (passes d.0 same) in cc
some_first_step test q n d es false false is same passes ih h = ih h

some_first : (test : Path × Node → Bool) (q : Path) (n : Node) → ((e : Path) → is_same_path q e ≡ true → test (e, n) ≡ true) → (ns : Nodes)
    → find path_cmp q ns ≡ Some n → (x : Path × Node) × (first test ns ≡ Some x)
some_first test q n passes [] h = cc
some_first test q n passes (d ∷ es) h = some_first_step test q n d es (test d) (is_same_path q d.0) refl refl passes (some_first test q n passes es) h

-- a file that is at a path is the one that was created under its number
pub stands_made : (w : World) → IsWorld w → (p : Path) (n : Node) → node_at w p ≡ Some n → is_folder_kind n.kind ≡ false → file_made_with n.made w.nodes ≡ Some n
stands_made w world p n h file =
    let passes : ((n.made == n.made) && not (is_folder_kind n.kind)) ≡ true = ap (λ b. b && not (is_folder_kind n.kind)) (eq-eqb n.made n.made refl) ∙ ap not file in
    let (e, is) = some_first (is_file_made_with n.made) p n (λ _ _. passes) w.nodes h in
    let there : find path_cmp e.0 w.nodes ≡ Some e.1 = first_at (is_file_made_with n.made) e w.nodes world.tree.sorted is in
    let made : e.1.made ≡ n.made = (passed n.made e.1 (first_passes (is_file_made_with n.made) e w.nodes is)).0 in
    let path : e.0 ≡ p = world.makings.once e.0 p e.1 n there h made in
    let same : Some e.1 ≡ Some n = sym there ∙ ap (λ (q : Path). find path_cmp q w.nodes) path ∙ h in
    ap (option_map (λ (x : Path × Node). x.1)) is ∙ same

module _ (made : ℕ) (f : Node → Node) (q : Path) (n : Node) (other : ((n.made == made) && not (is_folder_kind n.kind)) ≡ false) where
  other_step : (d : Path × Node) (es rest : Nodes) (b c : Bool) → is_file_made_with made d ≡ b → (find path_cmp q es ≡ Some n → find path_cmp q rest ≡ Some n)
      → is_same_path q d.0 ≡ c → cond c (Some d.1) (find path_cmp q es) ≡ Some n → find path_cmp q (if b then (d.0, f d.1) ∷ es else d ∷ rest) ≡ Some n
  other_step d es rest true true is ih same h =
      let one : d.1 ≡ n = cc in
      let passes : ((n.made == made) && not (is_folder_kind n.kind)) ≡ true = subst (λ (x : Node). ((x.made == made) && not (is_folder_kind x.kind)) ≡ true) one is in
      cc
  other_step d es rest true false is ih same h = ap (λ b. cond b (Some (f d.1)) (find path_cmp q es)) same ∙ h
  other_step d es rest false true is ih same h = ap (λ b. cond b (Some d.1) (find path_cmp q rest)) same ∙ h
  other_step d es rest false false is ih same h = ap (λ b. cond b (Some d.1) (find path_cmp q rest)) same ∙ ih h

  -- everything but the file that was created under the number is as it was
  pub find-change_other : (ns : Nodes) → find path_cmp q ns ≡ Some n → find path_cmp q (change_node (is_file_made_with made) f ns) ≡ Some n
  find-change_other [] h = cc
  find-change_other (d ∷ es) h =
      other_step d es (change_node (is_file_made_with made) f es) (is_file_made_with made d) (is_same_path q d.0) refl (find-change_other es) refl h
