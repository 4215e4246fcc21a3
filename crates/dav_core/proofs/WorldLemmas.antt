-- What makes a map a world.
use Rattle.std.proofs.Common.{◌≡◌, ℕ, ◌<◌, ◌≤◌, true, false, T, ◌+◌, ◌⊎◌, inl, inr, [], ◌∷◌, All, Some, None, refl, sym, ap, subst, ◌∙◌, arith}
use Rattle.std.specs.FinMap.{find, put, is_sorted}
use Rattle.std.proofs.lemmas.List.Elements.{All-nil}
use Rattle.dav_core.specs.Path.{Path, path_cmp, is_same_path, parent_of, IsName}
use Rattle.dav_core.proofs.NodesLemmas.{CameFrom, back-adjust, folder-adjust, sorted-change, back-put, folder-put, sorted-put_node}
use Rattle.dav_core.specs.Laws.{EmptyIsWorld, NewKeepsWorld, ChangeKeepsWorld}
use Rattle.dav_core.specs.Property.{Properties, key_cmp}
use Rattle.dav_core.specs.World.{Node, Nodes, Kind, World, Folder, fresh, empty_from, node_at, adjust, modified_at, with_new, is_folder, is_folder_kind, is_folder_node, last_moment, last_number, IsTree, IsNumbered, IsSound, IsWorld, Renumbers}

-- what is in the empty world is the root
only_root : (p : Path) (n : Node) → find path_cmp p (([], fresh 0 Folder 0) ∷ []) ≡ Some n → (p ≡ []) × (fresh 0 Folder 0 ≡ n)
only_root [] n e = (refl, cc)
only_root (x ∷ p) n e = cc

root_is_sound : IsSound [] (fresh 0 Folder 0)
root_is_sound = record {
  names = All-nil IsName;
  bytes = All-nil (All (λ b. b < 256));
  grown = omega arith;
  properties = tt;
  created = omega arith;
  modified = omega arith;
}

-- in the empty world the numbers of nodes differ and are below the next, where the root's number is below it
numbered : (tag : Node → ℕ) (next : ℕ) → tag (fresh 0 Folder 0) < next → IsNumbered tag (empty_from next)
numbered tag next small = record {
  below = λ p n e. subst (λ (m : Node). tag m < next) (only_root p n e).1 small;
  once = λ p q n m e f same. (only_root p n e).0 ∙ sym (only_root q m f).0;
}

parents : (p : Path) (n : Node) → find path_cmp p (([], fresh 0 Folder 0) ∷ []) ≡ Some n → is_folder_node (find path_cmp (parent_of p) (([], fresh 0 Folder 0) ∷ [])) ≡ true
parents [] n e = refl
parents (x ∷ p) n e = cc

-- the empty world is one
pub empty_is_world : EmptyIsWorld
empty_is_world next some small = record {
  tree = record { sorted = tt; root = refl; parents = parents };
  numbers = numbered (λ n. n.number) next some;
  makings = numbered (λ n. n.made) next some;
  apart = λ p q n m e f same. (only_root p n e).0 ∙ sym (only_root q m f).0;
  root_made = λ n e. ap (λ (m : Node). m.made) (sym (only_root [] n e).1);
  next = small;
  sound = λ p n e. subst (λ (m : Node). IsSound p m) (only_root p n e).1 (subst (λ (q : Path). IsSound q (fresh 0 Folder 0)) (sym (only_root p n e).0) root_is_sound);
}

-- a change that keeps a node a folder or a file keeps the tree
pub tree-adjust : (p : Path) (f : Node → Node) (ns : Nodes) → IsTree ns → ((n : Node) → find path_cmp p ns ≡ Some n → is_folder_kind (f n).kind ≡ is_folder_kind n.kind) → IsTree (adjust p f ns)
tree-adjust p f ns t keeps = record {
  sorted = subst T (sym (sorted-change (λ e. is_same_path p e.0) f ns)) t.sorted;
  root = folder-adjust p f ns keeps [] ∙ t.root;
  parents = λ q m h. let from = back-adjust p f ns q m h in folder-adjust p f ns keeps (parent_of q) ∙ t.parents q from.node from.stood;
}

put_parents : (p : Path) (n : Node) (ns : Nodes) → IsTree ns → find path_cmp p ns ≡ None → is_folder_node (find path_cmp (parent_of p) ns) ≡ true
    → (q : Path) (m : Node) → ((q ≡ p) × (m ≡ n)) ⊎ (find path_cmp q ns ≡ Some m) → is_folder_node (find path_cmp (parent_of q) ns) ≡ true
put_parents p n ns t none folder q m (inl (e, _)) = ap (λ (r : Path). is_folder_node (find path_cmp (parent_of r) ns)) e ∙ folder
put_parents p n ns t none folder q m (inr h) = t.parents q m h

-- a node below a folder, where nothing was, keeps the tree
tree-put : (p : Path) (n : Node) (ns : Nodes) → IsTree ns → find path_cmp p ns ≡ None → is_folder_node (find path_cmp (parent_of p) ns) ≡ true → IsTree (put path_cmp p n ns)
tree-put p n ns t none folder = record {
  sorted = sorted-put_node p n ns t.sorted;
  root = folder-put p n ns [] none t.root;
  parents = λ q m h. folder-put p n ns (parent_of q) none (put_parents p n ns t none folder q m (back-put p n ns q m h));
}

-- a node of the new world has the number of a node that was at its path, or is at the one path that took the next number
abbrev Origin : (Node → ℕ) → Path → World → World → Path → Node → Type 0
Origin tag place old new q m =
    ((n : Node) × (find path_cmp q old.nodes ≡ Some n) × (tag m ≡ tag n)) ⊎ ((q ≡ place) × (tag m ≡ old.next) × (old.next < new.next))

module _ (tag : Node → ℕ) (place : Path) (old new : World) (grows : old.next ≤ new.next) (t : IsNumbered tag old) where
  origin_below : (q : Path) (m : Node) → Origin tag place old new q m → tag m < new.next
  origin_below q m (inl (n, stood, same)) = let small = t.below q n stood in omega (arith, small, same, grows)
  origin_below q m (inr (at, is, more)) = omega (arith, is, more)

  origin_once : (p q : Path) (n m : Node) → Origin tag place old new p n → Origin tag place old new q m → tag n ≡ tag m → p ≡ q
  origin_once p q n m (inl (a, stood, e)) (inl (b, other, f)) same = t.once p q a b stood other (sym e ∙ same ∙ f)
  origin_once p q n m (inl (a, stood, e)) (inr (at, f, more)) same = let small = t.below p a stood in absurd (omega (arith, small, e, f, same))
  origin_once p q n m (inr (at, e, more)) (inl (b, stood, f)) same = let small = t.below q b stood in absurd (omega (arith, small, e, f, same))
  origin_once p q n m (inr (at, _, _)) (inr (here, _, _)) same = at ∙ sym here

  -- where each node has such an origin, the numbers still differ and are below the next
  tagged : ((q : Path) (m : Node) → find path_cmp q new.nodes ≡ Some m → Origin tag place old new q m) → IsNumbered tag new
  tagged origin = record {
    below = λ q m h. origin_below q m (origin q m h);
    once = λ p q n m h k same. origin_once p q n m (origin p n h) (origin q m k) same;
  }

-- where the two kinds of numbers differ between the nodes of the old world, they do between those of the new one
crossed : (tag other : Node → ℕ) (place : Path) (old new : World) → IsNumbered tag old → IsNumbered other old
    → ((p q : Path) (n m : Node) → find path_cmp p old.nodes ≡ Some n → find path_cmp q old.nodes ≡ Some m → tag n ≡ other m → p ≡ q)
    → (p q : Path) (n m : Node) → Origin tag place old new p n → Origin other place old new q m → tag n ≡ other m → p ≡ q
crossed tag other place old new t u apart p q n m (inl (a, stood, e)) (inl (b, there, f)) same = apart p q a b stood there (sym e ∙ same ∙ f)
crossed tag other place old new t u apart p q n m (inl (a, stood, e)) (inr (at, f, more)) same = let small = t.below p a stood in absurd (omega (arith, small, e, f, same))
crossed tag other place old new t u apart p q n m (inr (at, e, more)) (inl (b, there, f)) same = let small = u.below q b there in absurd (omega (arith, small, e, f, same))
crossed tag other place old new t u apart p q n m (inr (at, _, _)) (inr (here, _, _)) same = at ∙ sym here

-- a change of the moment of the last change leaves the number
abbrev ByNumber : (Node → ℕ) → Type 0
ByNumber tag = (moment : ℕ) (n : Node) → tag (modified_at moment n) ≡ tag n

touched_tag : (tag : Node → ℕ) → ByNumber tag → (now : ℕ) (q : Path) (ns : Nodes) (r : Path) (m : Node) (from : CameFrom q (modified_at now) ns r m) → tag m ≡ tag from.node
touched_tag tag same now q ns r m from =
    elim from.became as (λ _. tag m ≡ tag from.node) [ inl h ↦ ap tag h.1 ∙ same now from.node | inr h ↦ ap tag h.1 ]

module _ (w : World) (p : Path) (kind : Kind) (properties : Properties) (now : ℕ) where
  abbrev the_new : Node
  the_new = record (fresh w.next kind now) { properties = properties }

  new_origin : (tag : Node → ℕ) → ByNumber tag → tag the_new ≡ w.next → (q : Path) (m : Node)
      → find path_cmp q (with_new w p kind properties now).nodes ≡ Some m → Origin tag p w (with_new w p kind properties now) q m
  new_origin tag same is q m h =
      let from = back-adjust (parent_of p) (modified_at now) (put path_cmp p the_new w.nodes) q m h in
      let keeps = touched_tag tag same now (parent_of p) (put path_cmp p the_new w.nodes) q m from in
      elim (back-put p the_new w.nodes q from.node from.stood) as (λ _. Origin tag p w (with_new w p kind properties now) q m) [
        | inl at ↦ inr (at.0, keeps ∙ ap tag at.1 ∙ is, omega arith)
        | inr stood ↦ inl (from.node, stood, keeps)
      ]

  new_sound : IsWorld w → All IsName p → All (All (λ b. b < 256)) p → T (is_sorted key_cmp properties) → now ≤ last_moment → (q : Path) (m : Node)
      → find path_cmp q (with_new w p kind properties now).nodes ≡ Some m → IsSound q m
  new_sound world names bytes sorted small q m h =
      let from = back-adjust (parent_of p) (modified_at now) (put path_cmp p the_new w.nodes) q m h in
      let before : IsSound q from.node = elim (back-put p the_new w.nodes q from.node from.stood) as (λ _. IsSound q from.node) [
        | inl at ↦ subst (λ (n : Node). IsSound q n) (sym at.1) (record {
          names = subst (All IsName) (sym at.0) names;
          bytes = subst (All (All (λ b. b < 256))) (sym at.0) bytes;
          grown = omega arith;
          properties = sorted;
          created = small;
          modified = small;
        })
        | inr stood ↦ world.sound q from.node stood
      ] in
      elim from.became as (λ _. IsSound q m) [
        | inl e ↦ subst (λ (n : Node). IsSound q n) (sym e.1) (record {
          names = before.names;
          bytes = before.bytes;
          grown = before.grown;
          properties = before.properties;
          created = before.created;
          modified = small;
        })
        | inr e ↦ subst (λ (n : Node). IsSound q n) (sym e.1) before
      ]

  root_stood : IsWorld w → node_at w p ≡ None → (n : Node) → (([] ≡ p) × (n ≡ the_new)) ⊎ (find path_cmp [] w.nodes ≡ Some n) → n.made ≡ 0
  root_stood world none n (inl (e, _)) =
      let gone : is_folder_node (find path_cmp [] w.nodes) ≡ false = ap (λ (r : Path). is_folder_node (find path_cmp r w.nodes)) e ∙ ap is_folder_node none in
      let root = world.tree.root in
      cc
  root_stood world none n (inr stood) = world.root_made n stood

  -- a new folder or file leaves a world
  new_keeps : IsWorld w → w.next < last_number → node_at w p ≡ None → is_folder w (parent_of p) ≡ true → All IsName p → All (All (λ b. b < 256)) p
      → T (is_sorted key_cmp properties) → now ≤ last_moment → IsWorld (with_new w p kind properties now)
  new_keeps world room none folder names bytes sorted small =
      let made = new_origin (λ n. n.made) (λ _ _. refl) refl in
      let number = new_origin (λ n. n.number) (λ _ _. refl) refl in
      record {
        tree = tree-adjust (parent_of p) (modified_at now) (put path_cmp p the_new w.nodes) (tree-put p the_new w.nodes world.tree none folder) (λ n _. refl);
        numbers = tagged (λ n. n.number) p w (with_new w p kind properties now) (omega arith) world.numbers number;
        makings = tagged (λ n. n.made) p w (with_new w p kind properties now) (omega arith) world.makings made;
        apart = λ q r n m h k. crossed (λ n. n.made) (λ n. n.number) p w (with_new w p kind properties now) world.makings world.numbers world.apart q r n m (made q n h) (number r m k);
        root_made = λ n h.
            let from = back-adjust (parent_of p) (modified_at now) (put path_cmp p the_new w.nodes) [] n h in
            touched_tag (λ n. n.made) (λ _ _. refl) now (parent_of p) (put path_cmp p the_new w.nodes) [] n from
            ∙ root_stood world none from.node (back-put p the_new w.nodes [] from.node from.stood);
        next = omega arith;
        sound = new_sound world names bytes sorted small;
      }

pub new_keeps_world : NewKeepsWorld
new_keeps_world w p kind properties now = new_keeps w p kind properties now

module _ (w : World) (p : Path) (f : Node → Node) (change : (n : Node) → node_at w p ≡ Some n → Renumbers w.next n (f n)) where
  abbrev changed : World
  changed = record { nodes = adjust p f w.nodes; next = w.next + 1 }

  changes : (q : Path) (m : Node) (from : CameFrom p f w.nodes q m) → (p ≡ q) × (m ≡ f from.node) → Renumbers w.next from.node m
  changes q m from (e, is) =
      subst (λ (n : Node). Renumbers w.next from.node n) (sym is) (change from.node (subst (λ (r : Path). find path_cmp r w.nodes ≡ Some from.node) (sym e) from.stood))

  number_origin : (q : Path) (m : Node) → find path_cmp q changed.nodes ≡ Some m → Origin (λ n. n.number) p w changed q m
  number_origin q m h =
      let from = back-adjust p f w.nodes q m h in
      elim from.became as (λ _. Origin (λ n. n.number) p w changed q m) [
        | inl e ↦ inr (sym e.0, (changes q m from e).number_is, omega arith)
        | inr e ↦ inl (from.node, from.stood, ap (λ (n : Node). n.number) e.1)
      ]

  same_made : (q : Path) (m : Node) (from : CameFrom p f w.nodes q m) → m.made ≡ from.node.made
  same_made q m from =
      elim from.became as (λ _. m.made ≡ from.node.made) [
        | inl e ↦ (changes q m from e).made
        | inr e ↦ ap (λ (n : Node). n.made) e.1
      ]

  made_origin : (q : Path) (m : Node) → find path_cmp q changed.nodes ≡ Some m → Origin (λ n. n.made) p w changed q m
  made_origin q m h =
      let from = back-adjust p f w.nodes q m h in
      inl (from.node, from.stood, same_made q m from)

  change_sound : IsWorld w → (q : Path) (m : Node) → find path_cmp q changed.nodes ≡ Some m → IsSound q m
  change_sound world q m h =
      let from = back-adjust p f w.nodes q m h in
      let before = world.sound q from.node from.stood in
      let below = world.makings.below q from.node from.stood in
      elim from.became as (λ _. IsSound q m) [
        | inl e ↦
            let r = changes q m from e in
            record {
              names = before.names;
              bytes = before.bytes;
              grown = omega (arith, r.made, r.number_is, below);
              properties = r.properties;
              created = r.created;
              modified = r.modified;
            }
        | inr e ↦ subst (λ (n : Node). IsSound q n) (sym e.1) before
      ]

  -- a change that takes the next number leaves a world
  change_keeps : IsWorld w → w.next < last_number → IsWorld changed
  change_keeps world room = record {
    tree = tree-adjust p f w.nodes world.tree (λ n stood. (change n stood).kind);
    numbers = tagged (λ n. n.number) p w changed (omega arith) world.numbers number_origin;
    makings = tagged (λ n. n.made) p w changed (omega arith) world.makings made_origin;
    apart = λ q r n m h k. crossed (λ n. n.made) (λ n. n.number) p w changed world.makings world.numbers world.apart q r n m (made_origin q n h) (number_origin r m k);
    root_made = λ n h.
        let from = back-adjust p f w.nodes [] n h in
        same_made [] n from ∙ world.root_made from.node from.stood;
    next = omega arith;
    sound = change_sound world;
  }

pub change_keeps_world : ChangeKeepsWorld
change_keeps_world w p f world room change = change_keeps w p f change world room
