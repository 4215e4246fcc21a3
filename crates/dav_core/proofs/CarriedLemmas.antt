-- Worlds in which each node was carried over from an older one: after a removal, a move, or a change of properties.
use Rattle.std.proofs.Common.{◌≡◌, ℕ, ◌<◌, ◌≤◌, Bool, true, false, cond, T, List, [], ◌∷◌, ◌++◌, All, Option, Some, None, ◌⊎◌, inl, inr, refl, sym, ap, subst, ◌∙◌, arith, append-nil}
use Rattle.std.proofs.lemmas.List.Elements.{All-append, All-tail}
use Rattle.std.specs.Option.{is_some, option_or, option_and_then}
use Rattle.std.specs.FinMap.{find, is_sorted}
use Rattle.dav_core.specs.Path.{Path, path_cmp, rest_after, is_at_or_under, is_root, parent_of, IsName}
use Rattle.dav_core.specs.Property.{key_cmp}
use Rattle.dav_core.specs.World.{Node, Nodes, World, prune, moved, adjust, touched, modified_at, is_folder_kind, is_folder_node, last_moment, IsTree, IsNumbered, IsSound, IsWorld}
use Rattle.dav_core.proofs.NodesLemmas.{CameFrom, back-adjust}
use Rattle.dav_core.proofs.FrontLemmas.{rest_after-append, from_rest, parent-append, up_false, not_above, no_rest}
use Rattle.dav_core.proofs.NodesAfter.{find-prune, find-moved, sorted-prune, sorted-moved}
use Rattle.dav_core.proofs.WorldLemmas.{tree-adjust}

-- m is the node n after a change that takes no number
pub record Same (n m : Node) : Type 0 where
  pub made : m.made ≡ n.made
  pub number : m.number ≡ n.number
  pub kind : m.kind ≡ n.kind
  pub properties : T (is_sorted key_cmp n.properties) → T (is_sorted key_cmp m.properties)
  pub created : n.created ≤ last_moment → m.created ≤ last_moment
  pub modified : n.modified ≤ last_moment → m.modified ≤ last_moment

pub Same-itself : (n : Node) → Same n n
Same-itself n = record { made = refl; number = refl; kind = refl; properties = λ h. h; created = λ h. h; modified = λ h. h }

pub Same-trans : (a b c : Node) → Same a b → Same b c → Same a c
Same-trans a b c s t = record {
  made = t.made ∙ s.made;
  number = t.number ∙ s.number;
  kind = t.kind ∙ s.kind;
  properties = λ h. t.properties (s.properties h);
  created = λ h. t.created (s.created h);
  modified = λ h. t.modified (s.modified h);
}

pub Same-modified : (now : ℕ) (n : Node) → now ≤ last_moment → Same n (modified_at now n)
Same-modified now n small = record { made = refl; number = refl; kind = refl; properties = λ h. h; created = λ h. h; modified = λ h. small }

-- a change of the node at one path that keeps it the same
pub Same-adjust : (p : Path) (f : Node → Node) (ns : Nodes) → ((n : Node) → Same n (f n)) → (q : Path) (m : Node) (from : CameFrom p f ns q m) → Same from.node m
Same-adjust p f ns same q m from =
    elim from.became as (λ _. Same from.node m) [
      | inl e ↦ subst (λ (x : Node). Same from.node x) (sym e.1) (same from.node)
      | inr e ↦ subst (λ (x : Node). Same from.node x) (sym e.1) (Same-itself from.node)
    ]

-- each node of the new world is one of the old, from another path each, and no number was taken
pub record Carried (old new : World) (Came : Path → Path → Type 0) : Type 0 where
  pub came : (q : Path) (m : Node) → find path_cmp q new.nodes ≡ Some m → (s : Path) × (n : Node) × Came q s × (find path_cmp s old.nodes ≡ Some n) × Same n m
  pub once : (p q s : Path) → Came p s → Came q s → p ≡ q
  pub root : (s : Path) → Came [] s → s ≡ []
  pub names : (q s : Path) → Came q s → All IsName s → All IsName q
  pub bytes : (q s : Path) → Came q s → All (All (λ b. b < 256)) s → All (All (λ b. b < 256)) q
  pub next : new.next ≡ old.next

module _ (old new : World) (Came : Path → Path → Type 0) (c : Carried old new Came) (world : IsWorld old) where
  carried_numbers : (tag : Node → ℕ) → ((n m : Node) → Same n m → tag m ≡ tag n) → IsNumbered tag old → IsNumbered tag new
  carried_numbers tag same t = record {
    below = λ q m h.
        let (s, n, came, stood, is) = c.came q m h in
        let small : tag n < old.next = t.below s n stood in
        let e : tag m ≡ tag n = same n m is in
        let next : new.next ≡ old.next = c.next in
        omega (arith, small, e, next);
    once = λ p q n m h k equal.
        let (s, a, came, stood, is) = c.came p n h in
        let (t', b, came', stood', is') = c.came q m k in
        let one : s ≡ t' = t.once s t' a b stood stood' (sym (same a n is) ∙ equal ∙ same b m is') in
        c.once p q t' (subst (λ (x : Path). Came p x) one came) came';
  }

  carried_sound : (q : Path) (m : Node) → find path_cmp q new.nodes ≡ Some m → IsSound q m
  carried_sound q m h =
      let (s, n, came, stood, is) = c.came q m h in
      let before : IsSound s n = world.sound s n stood in
      let grown : n.made ≤ n.number = before.grown in
      let made : m.made ≡ n.made = is.made in
      let number : m.number ≡ n.number = is.number in
      record {
        names = c.names q s came before.names;
        bytes = c.bytes q s came before.bytes;
        grown = omega (arith, grown, made, number);
        properties = is.properties before.properties;
        created = is.created before.created;
        modified = is.modified before.modified;
      }

  -- and where the new one is a tree, it is a world
  pub carried_keeps : IsTree new.nodes → IsWorld new
  carried_keeps tree = record {
    tree = tree;
    numbers = carried_numbers (λ n. n.number) (λ n m is. is.number) world.numbers;
    makings = carried_numbers (λ n. n.made) (λ n m is. is.made) world.makings;
    apart = λ p q n m h k equal.
        let (s, a, came, stood, is) = c.came p n h in
        let (t, b, came', stood', is') = c.came q m k in
        let one : s ≡ t = world.apart s t a b stood stood' (sym is.made ∙ equal ∙ is'.number) in
        c.once p q t (subst (λ (x : Path). Came p x) one came) came';
    root_made = λ n h.
        let (s, a, came, stood, is) = c.came [] n h in
        is.made ∙ world.root_made a (subst (λ (x : Path). find path_cmp x old.nodes ≡ Some a) (c.root s came) stood);
    next = subst (λ k. k ≤ 18446744073709551615) (sym c.next) world.next;
    sound = carried_sound;
  }

prune_by : (p q : Path) (ns : Nodes) (m : Node) (b : Bool) → is_at_or_under q p ≡ b → cond b None (find path_cmp q ns) ≡ Some m
    → (is_at_or_under q p ≡ false) × (find path_cmp q ns ≡ Some m)
prune_by p q ns m true is h = cc
prune_by p q ns m false is h = (is, h)

-- what is left after a prune was there before, and not at the path or below it
pub back-prune : (p : Path) (ns : Nodes) (q : Path) (m : Node) → find path_cmp q (prune p ns) ≡ Some m → (is_at_or_under q p ≡ false) × (find path_cmp q ns ≡ Some m)
back-prune p ns q m h = prune_by p q ns m (is_at_or_under q p) refl (sym (find-prune p q ns) ∙ h)

pub stays-prune : (p q : Path) (ns : Nodes) → is_at_or_under q p ≡ false → find path_cmp q (prune p ns) ≡ find path_cmp q ns
stays-prune p q ns out = find-prune p q ns ∙ ap (λ b. cond b None (find path_cmp q ns)) out

-- all but the root may be pruned
pub tree-prune : (p : Path) (ns : Nodes) → is_root p ≡ false → IsTree ns → IsTree (prune p ns)
tree-prune [] ns some t = cc
tree-prune (x ∷ p) ns some t = record {
  sorted = sorted-prune (x ∷ p) ns t.sorted;
  root = ap is_folder_node (stays-prune (x ∷ p) [] ns refl) ∙ t.root;
  parents = λ q m h.
      let (out, stood) = back-prune (x ∷ p) ns q m h in
      ap is_folder_node (stays-prune (x ∷ p) (parent_of q) ns (up_false (x ∷ p) q out)) ∙ t.parents q m stood;
}

-- after a move, what is at q was at s
abbrev pub CameBy : Path → Path → Path → Path → Type 0
CameBy from to q s = ((r : Path) × (q ≡ to ++ r) × (s ≡ from ++ r)) ⊎ ((q ≡ s) × (is_at_or_under q from ≡ false) × (is_at_or_under q to ≡ false))

or_none : {X : Type 0} (o : Option X) → option_or o None ≡ o
or_none None = refl
or_none (Some x) = refl

moved_by : (from to q : Path) (ns : Nodes) (m : Node) (o : Option Path) → rest_after to q ≡ o → (b : Bool) → is_at_or_under q from ≡ b
    → option_or (option_and_then (λ rest. find path_cmp (from ++ rest) ns) o) (cond (is_some o) None (cond b None (find path_cmp q ns))) ≡ Some m
    → (s : Path) × CameBy from to q s × (find path_cmp s ns ≡ Some m)
moved_by from to q ns m None is true isb h = cc
moved_by from to q ns m None is false isb h = (q, inr (refl, isb, ap is_some is), h)
moved_by from to q ns m (Some r) is b isb h = (from ++ r, inl (r, from_rest to q r is, refl), sym (or_none (find path_cmp (from ++ r) ns)) ∙ h)

pub back-moved : (from to q : Path) (ns : Nodes) (m : Node) → find path_cmp q (moved from to ns) ≡ Some m → (s : Path) × CameBy from to q s × (find path_cmp s ns ≡ Some m)
back-moved from to q ns m h = moved_by from to q ns m (rest_after to q) refl (is_at_or_under q from) refl (sym (find-moved from to q ns) ∙ h)

-- what is at neither path nor below one of them stays
pub stays-moved : (from to q : Path) (ns : Nodes) → is_at_or_under q from ≡ false → is_at_or_under q to ≡ false → find path_cmp q (moved from to ns) ≡ find path_cmp q ns
stays-moved from to q ns a b =
    find-moved from to q ns
    ∙ ap (λ (o : Option Path). option_or (option_and_then (λ rest. find path_cmp (from ++ rest) ns) o) (cond (is_some o) None (cond (is_at_or_under q from) None (find path_cmp q ns)))) (no_rest to q b)
    ∙ ap (λ c. cond c None (find path_cmp q ns)) a

-- what was at a path below `from`, or at it, is at the same path below `to`
pub arrives-moved : (from to r : Path) (ns : Nodes) → find path_cmp (to ++ r) (moved from to ns) ≡ find path_cmp (from ++ r) ns
arrives-moved from to r ns =
    find-moved from to (to ++ r) ns
    ∙ ap (λ (o : Option Path). option_or (option_and_then (λ rest. find path_cmp (from ++ rest) ns) o) (cond (is_some o) None (cond (is_at_or_under (to ++ r) from) None (find path_cmp (to ++ r) ns)))) (rest_after-append to r)
    ∙ or_none (find path_cmp (from ++ r) ns)

module _ (from : Path) (y : List ℕ) (t : Path) (ns : Nodes) (tree : IsTree ns) (out : is_at_or_under (y ∷ t) from ≡ false) (folder : is_folder_node (find path_cmp (parent_of (y ∷ t)) ns) ≡ true) where
  moved_parents : (q : Path) (m : Node) (s : Path) → CameBy from (y ∷ t) q s → find path_cmp s ns ≡ Some m → is_folder_node (find path_cmp (parent_of q) (moved from (y ∷ t) ns)) ≡ true
  moved_parents q m s (inl ([], e, g)) h =
      ap (λ (x : Path). is_folder_node (find path_cmp (parent_of x) (moved from (y ∷ t) ns))) (e ∙ append-nil (y ∷ t))
      ∙ ap is_folder_node (stays-moved from (y ∷ t) (parent_of (y ∷ t)) ns (up_false from (y ∷ t) out) (not_above y t)) ∙ folder
  moved_parents q m s (inl (z ∷ r, e, g)) h =
      ap (λ (x : Path). is_folder_node (find path_cmp x (moved from (y ∷ t) ns))) (ap parent_of e ∙ parent-append (y ∷ t) z r)
      ∙ ap is_folder_node (arrives-moved from (y ∷ t) (parent_of (z ∷ r)) ns)
      ∙ ap (λ (x : Path). is_folder_node (find path_cmp x ns)) (sym (ap parent_of g ∙ parent-append from z r))
      ∙ tree.parents s m h
  moved_parents q m s (inr (e, a, b)) h =
      ap is_folder_node (stays-moved from (y ∷ t) (parent_of q) ns (up_false from q a) (up_false (y ∷ t) q b))
      ∙ tree.parents q m (subst (λ (x : Path). find path_cmp x ns ≡ Some m) (sym e) h)

-- a move below a folder, to a path that isn't the source or below it, keeps the tree
pub tree-moved : (from to : Path) (ns : Nodes) → is_root from ≡ false → is_root to ≡ false → is_at_or_under to from ≡ false
    → is_folder_node (find path_cmp (parent_of to) ns) ≡ true → IsTree ns → IsTree (moved from to ns)
tree-moved [] to ns a b out folder t = cc
tree-moved (x ∷ f) [] ns a b out folder t = cc
tree-moved (x ∷ f) (y ∷ g) ns a b out folder t = record {
  sorted = sorted-moved (x ∷ f) (y ∷ g) ns t.sorted;
  root = ap is_folder_node (stays-moved (x ∷ f) (y ∷ g) [] ns refl refl) ∙ t.root;
  parents = λ q m h.
      let (s, came, stood) = back-moved (x ∷ f) (y ∷ g) q ns m h in
      moved_parents (x ∷ f) y g ns t out folder q m s came stood;
}

-- nodes that each stay where they were are carried over
pub in_place : (old new : World) → new.next ≡ old.next
    → ((q : Path) (m : Node) → find path_cmp q new.nodes ≡ Some m → (n : Node) × (find path_cmp q old.nodes ≡ Some n) × Same n m)
    → Carried old new (λ q s. q ≡ s)
in_place old new next stayed = record {
  came = λ q m h. let (n, stood, is) = stayed q m h in (q, n, refl, stood, is);
  once = λ p q s a b. a ∙ sym b;
  root = λ s a. sym a;
  names = λ q s a h. subst (All IsName) (sym a) h;
  bytes = λ q s a h. subst (All (All (λ b. b < 256))) (sym a) h;
  next = next;
}

-- a change of one node that keeps it the same leaves a world
pub same_keeps : (w : World) (p : Path) (f : Node → Node) → ((n : Node) → Same n (f n)) → IsWorld w → IsWorld (record w { nodes = adjust p f w.nodes })
same_keeps w p f same world =
    carried_keeps w (record w { nodes = adjust p f w.nodes }) (λ q s. q ≡ s)
    (in_place w (record w { nodes = adjust p f w.nodes }) refl (λ q m h.
    let from : CameFrom p f w.nodes q m = back-adjust p f w.nodes q m h in
    (from.node, from.stood, Same-adjust p f w.nodes same q m from)))
    world
    (tree-adjust p f w.nodes world.tree (λ n _. ap is_folder_kind (same n).kind))

-- a removal leaves a world
pub without_keeps : (w : World) (p : Path) (now : ℕ) → is_root p ≡ false → now ≤ last_moment → IsWorld w → IsWorld (record w { nodes = touched p now (prune p w.nodes) })
without_keeps w p now some small world =
    carried_keeps w (record w { nodes = touched p now (prune p w.nodes) }) (λ q s. q ≡ s)
    (in_place w (record w { nodes = touched p now (prune p w.nodes) }) refl (λ q m h.
    let from : CameFrom (parent_of p) (modified_at now) (prune p w.nodes) q m = back-adjust (parent_of p) (modified_at now) (prune p w.nodes) q m h in
    let (out, stood) = back-prune p w.nodes q from.node from.stood in
    (from.node, stood, Same-adjust (parent_of p) (modified_at now) (prune p w.nodes) (λ n. Same-modified now n small) q m from)))
    world
    (tree-adjust (parent_of p) (modified_at now) (prune p w.nodes) (tree-prune p w.nodes some world.tree) (λ n _. refl))

rest_all : (P : List ℕ → Type 0) (p r : Path) → All P (p ++ r) → All P r
rest_all P [] r h = h
rest_all P (x ∷ p) r h = rest_all P p r (All-tail P x (p ++ r) h)

came_all : (P : List ℕ → Type 0) (from to q s : Path) → All P to → CameBy from to q s → All P s → All P q
came_all P from to q s names (inl (r, e, g)) h = subst (All P) (sym e) (All-append P to r names (rest_all P from r (subst (All P) g h)))
came_all P from to q s names (inr (e, a, b)) h = subst (All P) (sym e) h

came_once : (from to p q s : Path) → CameBy from to p s → CameBy from to q s → p ≡ q
came_once from to p q s (inl (r, e, g)) (inl (z, f, k)) =
    let same : Some r ≡ Some z = sym (rest_after-append from r) ∙ ap (rest_after from) (sym g ∙ k) ∙ rest_after-append from z in
    let one : r ≡ z = cc in
    e ∙ ap (λ (x : Path). to ++ x) one ∙ sym f
came_once from to p q s (inl (r, e, g)) (inr (f, a, b)) =
    let met : is_at_or_under q from ≡ true = ap (λ y. is_at_or_under y from) (f ∙ g) ∙ ap is_some (rest_after-append from r) in cc
came_once from to p q s (inr (e, a, b)) (inl (r, f, g)) =
    let met : is_at_or_under p from ≡ true = ap (λ y. is_at_or_under y from) (e ∙ g) ∙ ap is_some (rest_after-append from r) in cc
came_once from to p q s (inr (e, a, b)) (inr (f, c, d)) = e ∙ sym f

came_root : (from to s : Path) → is_root to ≡ false → CameBy from to [] s → s ≡ []
came_root from [] s some h = cc
came_root from (y ∷ t) s some (inl (r, e, g)) = cc
came_root from (y ∷ t) s some (inr (e, a, b)) = sym e

abbrev pub renamed_world : World → Path → Path → ℕ → World
renamed_world w from to now = record w { nodes = touched from now (touched to now (moved from to w.nodes)) }

module _ (w : World) (from to : Path) (now : ℕ) (small : now ≤ last_moment) where
  -- what is at a path after a rename came from another path, or stayed
  pub back-renamed : (q : Path) (m : Node) → find path_cmp q (renamed_world w from to now).nodes ≡ Some m
      → (s : Path) × (n : Node) × CameBy from to q s × (find path_cmp s w.nodes ≡ Some n) × Same n m
  back-renamed q m h =
      let last : CameFrom (parent_of from) (modified_at now) (touched to now (moved from to w.nodes)) q m = back-adjust (parent_of from) (modified_at now) (touched to now (moved from to w.nodes)) q m h in
      let first : CameFrom (parent_of to) (modified_at now) (moved from to w.nodes) q last.node = back-adjust (parent_of to) (modified_at now) (moved from to w.nodes) q last.node last.stood in
      let (s, came, stood) = back-moved from to q w.nodes first.node first.stood in (
        s,
        first.node,
        came,
        stood,
        Same-trans first.node last.node m
            (Same-adjust (parent_of to) (modified_at now) (moved from to w.nodes) (λ n. Same-modified now n small) q last.node first)
            (Same-adjust (parent_of from) (modified_at now) (touched to now (moved from to w.nodes)) (λ n. Same-modified now n small) q m last),
      )

  -- a rename below a folder, to a path of names that isn't the source or below it, leaves a world
  pub renamed_keeps : is_root from ≡ false → is_root to ≡ false → is_at_or_under to from ≡ false → is_folder_node (find path_cmp (parent_of to) w.nodes) ≡ true
      → All IsName to → All (All (λ b. b < 256)) to → IsWorld w → IsWorld (renamed_world w from to now)
  renamed_keeps a b out folder names bytes world =
      carried_keeps w (renamed_world w from to now) (CameBy from to)
      (record {
        came = back-renamed;
        once = came_once from to;
        root = λ s h. came_root from to s b h;
        names = λ q s came h. came_all IsName from to q s names came h;
        bytes = λ q s came h. came_all (All (λ b. b < 256)) from to q s bytes came h;
        next = refl;
      })
      world
      (tree-adjust (parent_of from) (modified_at now) (touched to now (moved from to w.nodes))
      (tree-adjust (parent_of to) (modified_at now) (moved from to w.nodes) (tree-moved from to w.nodes a b out folder world.tree) (λ n _. refl))
      (λ n _. refl))
