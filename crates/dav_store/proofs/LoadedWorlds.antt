-- A listing of fit nodes whose folders are there is a world, and a world is one.
use Rattle.std.proofs.Common.{◌≡◌, ◌≢◌, ◌++◌, ◌==◌, ◌&&◌, ◌||◌, ◌+◌, ◌⊎◌, inl, inr, not, add-one, Bool, true, false, cond, T, ℕ, ◌<◌, ◌≤◌, length, get_or, take, drop, arith, eqb, List, [], ◌∷◌, All, map, Option, Some, None, refl, sym, ap, subst, ◌∙◌}
use Rattle.std.specs.List.{AllByRecursion, IsDistinct, list_any, remove}
use Rattle.std.specs.FinMap.{find, is_sorted}
use Rattle.std.specs.FinMap.Entries.{below_all}
use Rattle.std.proofs.lemmas.Bool.{eqb-true, eq-eqb, ne_eqb}
use Rattle.std.proofs.lemmas.List.{length-map, take_more, drop_more, take-append-drop}
use Rattle.std.proofs.lemmas.List.Elements.{All-from_recursion, recursion_from_All, All-weaker, All-get_or}
use Rattle.std.proofs.lemmas.List.Folds.{list_any-append}
use Rattle.std.proofs.lemmas.Map.Keys.{IsDistinct-cons}
use Rattle.std.proofs.lemmas.Map.Steps.{length-le_from_distinct_below}
use Rattle.dav_core.specs.Path.{Path, path_cmp, is_same_path, parent_of, is_root, IsName}
use Rattle.dav_core.specs.World.{World, Node, Nodes, is_folder_kind, is_folder_node, last_number, IsWorld}
use Rattle.dav_core.proofs.NodesLemmas.{same_path}
use Rattle.dav_core.proofs.NodesAfter.{left_true, right_true}
use Rattle.dav_store.specs.Loaded.{IsNameOfBytes, IsFit, IsApart, AreApart, is_taken, begins_with_root, IsListing, HaveFolders}
use Rattle.dav_store.specs.Makings.{AreMadeBefore}
use Rattle.dav_store.proofs.Walks.{inner}
use Rattle.dav_store.proofs.LoadedNodes.{at_found, each_found, found_first, found_later, not_found, below_less, all_push, all_middle}

-- ---- the root

and_left : (a b : Bool) → (a && b) ≡ true → a ≡ true
and_left true b h = refl
and_left false b h = cc

and_right : (a b : Bool) → (a && b) ≡ true → b ≡ true
and_right true b h = h
and_right false b h = cc

and_true : (a b : Bool) → a ≡ true → b ≡ true → (a && b) ≡ true
and_true true b h k = k
and_true false b h k = cc

root_is : (p : Path) → is_root p ≡ true → p ≡ []
root_is [] h = refl
root_is (x ∷ p) h = cc

-- the first node is the root
pub record IsRootFirst (ns : Nodes) : Type 0 where
  pub node : Node
  pub found : find path_cmp [] ns ≡ Some node
  pub folder : is_folder_kind node.kind ≡ true
  pub made : node.made ≡ 0

pub root_first : (ns : Nodes) → begins_with_root ns ≡ true → IsRootFirst ns
root_first [] h = absurd cc
root_first (e ∷ es) h =
    let at : e.0 ≡ [] = root_is e.0 (and_left (is_root e.0) (is_folder_kind e.1.kind && (e.1.made == 0)) h) in
    let rest = and_right (is_root e.0) (is_folder_kind e.1.kind && (e.1.made == 0)) h in
    record {
      node = e.1;
      found = ap (λ (q : Path). find path_cmp q (e ∷ es)) (sym at) ∙ found_first e es;
      folder = and_left (is_folder_kind e.1.kind) (e.1.made == 0) rest;
      made = eqb-true e.1.made 0 (and_right (is_folder_kind e.1.kind) (e.1.made == 0) rest);
    }

some_folder : (o : Option Node) → is_folder_node o ≡ true → (n : Node) × (o ≡ Some n) × (is_folder_kind n.kind ≡ true)
some_folder None h = absurd cc
some_folder (Some n) h = (n, refl, h)

first_is : (ns : Nodes) (n : Node) → T (is_sorted path_cmp ns) → find path_cmp [] ns ≡ Some n → is_folder_kind n.kind ≡ true → n.made ≡ 0 → begins_with_root ns ≡ true
first_is [] n s e folder made = cc
first_is (([], m) ∷ es) n s e folder made =
    let same : n ≡ m = sym (inner m n e) in
    let file : is_folder_kind m.kind ≡ true = subst (λ (x : Node). is_folder_kind x.kind ≡ true) same folder in
    let zero : m.made ≡ 0 = subst (λ (x : Node). x.made ≡ 0) same made in
    and_true (is_folder_kind m.kind) (m.made == 0) file (eq-eqb m.made 0 zero)
first_is ((x ∷ p, m) ∷ es) n s e folder made =
    let none : find path_cmp [] es ≡ None = not_found [] es (below_less [] (x ∷ p) es refl (left_true (below_all path_cmp (x ∷ p) es) (is_sorted path_cmp es) s)) in
    let clash : None ≡ Some n = sym none ∙ e in cc

-- ---- change numbers

module _ (f g : Node → ℕ) (one : (e d : Path × Node) → IsApart e d → f e.1 ≡ g d.1 → ⊥) (two : (e d : Path × Node) → IsApart e d → g e.1 ≡ f d.1 → ⊥) where
  once_step : (d : Path × Node) (ds : Nodes) (p q : Path) (n m : Node) (b c : Bool) → is_same_path p d.0 ≡ b → is_same_path q d.0 ≡ c → AllByRecursion (IsApart d) ds
      → cond b (Some d.1) (find path_cmp p ds) ≡ Some n → cond c (Some d.1) (find path_cmp q ds) ≡ Some m → f n ≡ g m
      → (find path_cmp p ds ≡ Some n → find path_cmp q ds ≡ Some m → p ≡ q) → p ≡ q
  once_step d ds p q n m true true a b apart e h same ih = same_path p d.0 a ∙ sym (same_path q d.0 b)
  once_step d ds p q n m true false a b apart e h same ih = absurd (one d (q, m) (at_found (IsApart d) ds q m apart h) (ap f (inner d.1 n e) ∙ same))
  once_step d ds p q n m false true a b apart e h same ih = absurd (two d (p, n) (at_found (IsApart d) ds p n apart e) (ap g (inner d.1 m h) ∙ sym same))
  once_step d ds p q n m false false a b apart e h same ih = ih e h

  once_by : (ns : Nodes) (p q : Path) (n m : Node) → AreApart ns → find path_cmp p ns ≡ Some n → find path_cmp q ns ≡ Some m → f n ≡ g m → p ≡ q
  once_by [] p q n m apart e h same = cc
  once_by (d ∷ ds) p q n m apart e h same =
      once_step d ds p q n m (is_same_path p d.0) (is_same_path q d.0) refl refl apart.0 e h same (λ e h. once_by ds p q n m apart.1 e h same)

-- nodes at two paths differ in these numbers
abbrev Once : (Node → ℕ) → (Node → ℕ) → Nodes → Type 0
Once f g ns = (p q : Path) (n m : Node) → find path_cmp p ns ≡ Some n → find path_cmp q ns ≡ Some m → f n ≡ g m → p ≡ q

once_later : (f g : Node → ℕ) (d : Path × Node) (ds : Nodes) → T (below_all path_cmp d.0 ds) → Once f g (d ∷ ds) → Once f g ds
once_later f g d ds below once = λ p q n m e h. once p q n m (found_later d ds p n below e) (found_later d ds q m below h)

apart_pair : (d : Path × Node) (ds : Nodes) (p : Path) (n : Node) → T (below_all path_cmp d.0 ds) → Once (λ n. n.number) (λ n. n.number) (d ∷ ds) → Once (λ n. n.made) (λ n. n.made) (d ∷ ds)
    → Once (λ n. n.made) (λ n. n.number) (d ∷ ds) → find path_cmp p ds ≡ Some n → IsApart d (p, n)
apart_pair d ds p n below a b c e =
    let first = found_first d ds in
    let later = found_later d ds p n below e in
    let differ : d.0 ≡ p → ⊥ = λ same. let clash : None ≡ Some n = sym (not_found d.0 ds below) ∙ ap (λ (q : Path). find path_cmp q ds) same ∙ e in cc in (
      λ same. differ (a d.0 p d.1 n first later same),
      (λ same. differ (b d.0 p d.1 n first later same), (λ same. differ (c d.0 p d.1 n first later same), λ same. differ (sym (c p d.0 n d.1 later first (sym same))))),
    )

apart_from : (ns : Nodes) → T (is_sorted path_cmp ns) → Once (λ n. n.number) (λ n. n.number) ns → Once (λ n. n.made) (λ n. n.made) ns → Once (λ n. n.made) (λ n. n.number) ns → AreApart ns
apart_from [] s a b c = tt
apart_from (d ∷ ds) s a b c =
    let below = left_true (below_all path_cmp d.0 ds) (is_sorted path_cmp ds) s in
    let rest = right_true (below_all path_cmp d.0 ds) (is_sorted path_cmp ds) s in (
      each_found (IsApart d) ds rest (λ p n e. apart_pair d ds p n below a b c e),
      apart_from ds rest (once_later (λ n. n.number) (λ n. n.number) d ds below a) (once_later (λ n. n.made) (λ n. n.made) d ds below b) (once_later (λ n. n.made) (λ n. n.number) d ds below c),
    )

-- ---- numbers that are taken

or_left : (a b : Bool) → (a || b) ≡ false → a ≡ false
or_left true b h = cc
or_left false b h = refl

or_right : (a b : Bool) → (a || b) ≡ false → b ≡ false
or_right true b h = cc
or_right false b h = h

differ : (k n : ℕ) → (k == n) ≡ false → n ≢ k
differ k n h same = let yes : (k == n) ≡ true = eq-eqb k n (sym same) in cc

pub apart_untaken : (ns : Nodes) (x : Path × Node) → is_taken x.1.number ns ≡ false → is_taken x.1.made ns ≡ false → AllByRecursion (λ e. IsApart e x) ns
apart_untaken [] x a b = tt
apart_untaken (e ∷ es) x a b =
    let a-here = or_left ((x.1.number == e.1.number) || (x.1.number == e.1.made)) (is_taken x.1.number es) a in
    let b-here = or_left ((x.1.made == e.1.number) || (x.1.made == e.1.made)) (is_taken x.1.made es) b in (
      (
        differ x.1.number e.1.number (or_left (x.1.number == e.1.number) (x.1.number == e.1.made) a-here),
        (
          differ x.1.made e.1.made (or_right (x.1.made == e.1.number) (x.1.made == e.1.made) b-here),
          (
            differ x.1.number e.1.made (or_right (x.1.number == e.1.number) (x.1.number == e.1.made) a-here),
            differ x.1.made e.1.number (or_left (x.1.made == e.1.number) (x.1.made == e.1.made) b-here),
          ),
        ),
      ),
      apart_untaken es x (or_right ((x.1.number == e.1.number) || (x.1.number == e.1.made)) (is_taken x.1.number es) a)
          (or_right ((x.1.made == e.1.number) || (x.1.made == e.1.made)) (is_taken x.1.made es) b),
    )

clash_step : (k a b : ℕ) (c d rest : Bool) → (k == a) ≡ c → (k == b) ≡ d → a ≢ k → b ≢ k → ((c || d) || rest) ≡ true → rest ≡ true
clash_step k a b true d rest x y p q h = absurd (p (sym (eqb-true k a x)))
clash_step k a b false true rest x y p q h = absurd (q (sym (eqb-true k b y)))
clash_step k a b false false rest x y p q h = h

pub taken_clash : (k : ℕ) (ns : Nodes) → AllByRecursion (λ e. (e.1.number ≢ k) × (e.1.made ≢ k)) ns → is_taken k ns ≡ true → ⊥
taken_clash k [] h t = cc
taken_clash k (e ∷ es) h t =
    taken_clash k es h.1 (clash_step k e.1.number e.1.made (k == e.1.number) (k == e.1.made) (is_taken k es) refl refl h.0.0 h.0.1 t)

abbrev pub along : {P Q : Path × Node → Type 0} → ((e : Path × Node) → P e → Q e) → (es : Nodes) → AllByRecursion P es → AllByRecursion Q es
along f [] h = tt
along f (e ∷ es) h = (f e h.0, along f es h.1)

pub number_free : (x : Path × Node) (ns : Nodes) → AllByRecursion (λ e. IsApart e x) ns → is_taken x.1.number ns ≡ true → ⊥
number_free x ns h t = taken_clash x.1.number ns (along (λ e a. (a.0, a.1.1.0)) ns h) t

pub made_free : (x : Path × Node) (ns : Nodes) → AllByRecursion (λ e. IsApart e x) ns → is_taken x.1.made ns ≡ true → ⊥
made_free x ns h t = taken_clash x.1.made ns (along (λ e a. (a.1.1.1, a.1.0)) ns h) t

pub apart_push : (ns : Nodes) (x : Path × Node) → AreApart ns → AllByRecursion (λ e. IsApart e x) ns → AreApart (ns ++ x ∷ [])
apart_push [] x a h = (tt, tt)
apart_push (e ∷ es) x a h = (all_push (IsApart e) es x a.0 h.0, apart_push es x a.1 h.1)

pub apart_middle : (xs : Nodes) (x : Path × Node) (ys : Nodes) → AreApart (xs ++ x ∷ ys) → AllByRecursion (λ e. IsApart e x) xs
apart_middle [] x ys a = tt
apart_middle (e ∷ xs) x ys a = (all_middle (IsApart e) xs x ys a.0, apart_middle xs x ys a.1)

swap_or : (a b : Bool) → (a || (b || false)) ≡ (b || a)
swap_or true true = refl
swap_or true false = refl
swap_or false true = refl
swap_or false false = refl

pub taken_push : (ns : Nodes) (x : Path × Node) (k : ℕ) → is_taken k (ns ++ x ∷ []) ≡ (((k == x.1.number) || (k == x.1.made)) || is_taken k ns)
taken_push ns x k =
    list_any-append (λ (e : Path × Node). (k == e.1.number) || (k == e.1.made)) ns (x ∷ []) ∙ swap_or (is_taken k ns) ((k == x.1.number) || (k == x.1.made))

pub one_taken : (free a b : Bool) → free ≡ not (a || b) → free ≡ false → (a ≡ true) ⊎ (b ≡ true)
one_taken free true b e f = inl refl
one_taken free false true e f = inr refl
one_taken free false false e f = cc

pub none_taken : (free a b : Bool) → free ≡ not (a || b) → free ≡ true → (a ≡ false) × (b ≡ false)
none_taken free true b e f = cc
none_taken free false true e f = cc
none_taken free false false e f = (refl, refl)

-- ---- places in a list

pub split_at : {A : Type 0} (xs : List A) (i : ℕ) (x : A) → i < length xs → x ≡ get_or xs i x → xs ≡ take i xs ++ x ∷ drop (i + 1) xs
split_at {A} xs i x lt is =
    sym (take-append-drop i xs) ∙ ap (λ (ys : List A). take i xs ++ ys) (drop_more xs i x lt ∙ ap (λ (y : A). y ∷ drop (i + 1) xs) (sym is))

pub one_more : {A : Type 0} (xs : List A) (i : ℕ) (x : A) → i < length xs → x ≡ get_or xs i x → take (i + 1) xs ≡ take i xs ++ x ∷ []
one_more {A} xs i x lt is = take_more xs i x lt ∙ ap (λ (y : A). take i xs ++ y ∷ []) (sym is)

-- an item of a list without its first
pub behind_first : {A : Type 0} (xs others : List A) (n : ℕ) (x : A) → others ≡ remove xs 0 → n < length others → x ≡ get_or others n x → (n + 1 < length xs) × (x ≡ get_or xs (n + 1) x)
behind_first {A} [] others n x is lt at = let none : length others ≡ 0 = ap (λ (ys : List A). length ys) is in absurd (omega (arith, lt, none))
behind_first {A} (e ∷ xs) others n x is lt at =
    let long : length others ≡ length xs = ap (λ (ys : List A). length ys) is in (
      omega (arith, lt, long),
      at ∙ ap (λ (ys : List A). get_or ys n x) is ∙ sym (ap (λ (m : ℕ). get_or (e ∷ xs) m x) (add-one n)),
    )

-- ---- how many nodes there are

others : (e : Path × Node) (es : Nodes) → AllByRecursion (IsApart e) es → AllByRecursion (λ y. eqb e.1.number y ≡ false) (map (λ (f : Path × Node). f.1.number) es)
others e [] h = tt
others e (f ∷ es) h = (ne_eqb e.1.number f.1.number h.0.0, others e es h.1)

numbers_distinct : (ns : Nodes) → AreApart ns → IsDistinct eqb (map (λ (f : Path × Node). f.1.number) ns)
unfolding IsDistinct
numbers_distinct [] a = tt
numbers_distinct (e ∷ es) a = (others e es a.0, numbers_distinct es a.1)

below_step : (q n next : ℕ) (b rest : Bool) → eqb q n ≡ b → n < next → (rest ≡ true → q < next) → (b || rest) ≡ true → q < next
below_step q n next true rest is lt ih h = let same : q ≡ n = eqb-true q n is in omega (arith, same, lt)
below_step q n next false rest is lt ih h = ih h

numbers_below : (next : ℕ) (ns : Nodes) → AllByRecursion (IsFit next) ns → (q : ℕ) → list_any (eqb q) (map (λ (f : Path × Node). f.1.number) ns) ≡ true → q < next
numbers_below next [] fit q h = absurd cc
numbers_below next (e ∷ es) fit q h =
    below_step q e.1.number next (eqb q e.1.number) (list_any (eqb q) (map (λ (f : Path × Node). f.1.number) es)) refl fit.0.1.below (numbers_below next es fit.1 q) h

pub few_nodes : (next : ℕ) (ns : Nodes) → AllByRecursion (IsFit next) ns → AreApart ns → length ns ≤ next
few_nodes next ns fit apart =
    let few = length-le_from_distinct_below (map (λ (f : Path × Node). f.1.number) ns) next (numbers_distinct ns apart) (numbers_below next ns fit) in
    let len : length (map (λ (f : Path × Node). f.1.number) ns) ≡ length ns = length-map ns (λ (f : Path × Node). f.1.number) in
    omega (arith, few, len)

pub made_before : (next : ℕ) (ns : Nodes) → AllByRecursion (IsFit next) ns → AreMadeBefore next ns
made_before next [] fit = tt
made_before next (e ∷ es) fit = let g = fit.0.1.grown in let b = fit.0.1.below in (omega (arith, g, b), made_before next es fit.1)

-- ---- worlds

pub names_of_fit : (next : ℕ) (ns : Nodes) → AllByRecursion (IsFit next) ns → AllByRecursion (λ e. All IsName e.0) ns
names_of_fit next ns fit = along (λ e f. All-weaker IsNameOfBytes IsName (λ n h. h.0) e.0 (All-from_recursion IsNameOfBytes e.0 f.0)) ns fit

pub is_world : (next : ℕ) (ns : Nodes) → next ≤ last_number → IsListing ns → AllByRecursion (IsFit next) ns → HaveFolders ns ns → IsWorld (record { nodes = ns; next = next })
is_world next ns le listing fit folders =
    let root = root_first ns listing.root in
    record {
      tree = record {
        sorted = listing.sorted;
        root = ap is_folder_node root.found ∙ root.folder;
        parents = λ p n e. at_found (λ d. is_folder_node (find path_cmp (parent_of d.0) ns) ≡ true) ns p n folders e;
      };
      numbers = record {
        below = λ p n e. (at_found (IsFit next) ns p n fit e).1.below;
        once = λ p q n m e h same. once_by (λ (x : Node). x.number) (λ (x : Node). x.number) (λ a b x s. x.0 s) (λ a b x s. x.0 s) ns p q n m listing.apart e h same;
      };
      makings = record {
        below = λ p n e. let f = (at_found (IsFit next) ns p n fit e).1 in omega (arith, f.grown, f.below);
        once = λ p q n m e h same. once_by (λ (x : Node). x.made) (λ (x : Node). x.made) (λ a b x s. x.1.0 s) (λ a b x s. x.1.0 s) ns p q n m listing.apart e h same;
      };
      apart = λ p q n m e h same. once_by (λ (x : Node). x.made) (λ (x : Node). x.number) (λ a b x s. x.1.1.0 s) (λ a b x s. x.1.1.1 s) ns p q n m listing.apart e h same;
      root_made = λ n e. ap (λ (x : Node). x.made) (sym (inner root.node n (sym root.found ∙ e))) ∙ root.made;
      next = le;
      sound = λ p n e.
          let f = at_found (IsFit next) ns p n fit e in
          let all = All-from_recursion IsNameOfBytes p f.0 in
          record {
            names = All-weaker IsNameOfBytes IsName (λ x h. h.0) p all;
            bytes = All-weaker IsNameOfBytes (All (λ b. b < 256)) (λ x h. h.1) p all;
            grown = f.1.grown;
            properties = f.1.properties;
            created = f.1.created;
            modified = f.1.modified;
          };
    }

zip_names : (p : Path) → AllByRecursion IsName p → AllByRecursion (All (λ b. b < 256)) p → AllByRecursion IsNameOfBytes p
zip_names [] h k = tt
zip_names (x ∷ p) h k = ((h.0, k.0), zip_names p h.1 k.1)

pub fit_of : (w : World) → IsWorld w → AllByRecursion (IsFit w.next) w.nodes
fit_of w is = each_found (IsFit w.next) w.nodes is.tree.sorted (λ p n e.
    let s = is.sound p n e in (
      zip_names p (recursion_from_All IsName p s.names) (recursion_from_All (All (λ b. b < 256)) p s.bytes),
      record { grown = s.grown; below = is.numbers.below p n e; properties = s.properties; created = s.created; modified = s.modified },
    ))

pub listing_of : (w : World) → IsWorld w → IsListing w.nodes
listing_of w is =
    let root = some_folder (find path_cmp [] w.nodes) is.tree.root in
    record {
      sorted = is.tree.sorted;
      root = first_is w.nodes root.0 is.tree.sorted root.1 root.2 (is.root_made root.0 root.1);
      apart = apart_from w.nodes is.tree.sorted is.numbers.once is.makings.once is.apart;
    }

pub folders_of : (w : World) → IsWorld w → HaveFolders w.nodes w.nodes
folders_of w is = each_found (λ d. is_folder_node (find path_cmp (parent_of d.0) w.nodes) ≡ true) w.nodes is.tree.sorted is.tree.parents
