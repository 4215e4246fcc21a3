-- What the calls of a copy do to what is at each path, but for its times.
use Rattle.std.proofs.Common.{◌≡◌, ℕ, ◌==◌, ◌≤◌, Bool, true, false, not, List, [], ◌∷◌, ◌++◌, cond, Option, Some, None, Ok, ◌⊎◌, inl, inr, refl, sym, ap, ◌∙◌, arith, append_assoc, append-nil}
use Rattle.std.specs.Option.{option_map}
use Rattle.std.specs.FinMap.{find, put}
use Rattle.dav_core.specs.declared.errors.FsError.TheVariants.{GeneralFailure, Exists, NotFound, Forbidden}
use Rattle.dav_core.specs.declared.fs.DavMetaData.{DavMetaData}
use Rattle.dav_core.specs.Path.{Path, path_cmp, name_cmp, is_same_path, parent_of}
use Rattle.dav_core.specs.Property.{Properties}
use Rattle.dav_core.specs.World.{World, Node, Kind, Folder, fresh, node_at, is_folder_kind, is_folder_node, is_folder, is_missing, members, modified_at, with_new, last_number, IsTree}
use Rattle.dav_core.specs.Calls.{metadata_of, copied_over, with_copy}
use Rattle.dav_core.specs.Asking.{Metadata, CreateDir, Copy, meaning, StoreState, Asks}
use Rattle.dav_core.proofs.Theorems.{find-adjust, find-put_node, path-itself, same_path, turned, parent-append, above, members_stand_below, went_on, found, left}
use Rattle.dav_engine.specs.RemovalLaws.{timeless, timeless_at}
use Rattle.dav_engine.proofs.SurvivorLemmas.{answered}

-- the metadata of a path tell whether a folder is there
pub record Found (w : World) (p : Path) (m : DavMetaData) (new : World) : Type 0 where
  pub node : Node
  pub there : node_at w p ≡ Some node
  pub dir : m.dir ≡ is_folder_kind node.kind
  pub same : new ≡ w

pub found_did : {p : Path} {old new : StoreState} {m : DavMetaData} → Asks (Metadata p) old (Ok m) new → Found old.world p m new.world
unfolding meaning
found_did {p} {old} {new} {m} one =
    let (r, h, is, after) = answered one in
    let (n, there, told) = found (node_at old.world p) _ r h in
    let same : ◌≡◌ {A = DavMetaData × World} (metadata_of n, old.world) r = cc in
    record { node = n; there = there; dir = ap (λ (x : DavMetaData). x.dir) (sym is ∙ sym (ap (λ x. x.0) same)); same = after ∙ sym (ap (λ x. x.1) same) }

-- ---- one node was put

-- At this path is one of this kind with these properties and a new number, and nothing else changed but in times.
pub record Put (w : World) (p : Path) (kind : Kind) (properties : Properties) (new : World) : Type 0 where
  pub node : Node
  pub kind_is : node.kind ≡ kind
  pub properties_are : node.properties ≡ properties
  pub number : w.next ≤ node.number
  pub here : timeless_at new p ≡ Some node
  pub came : (q : Path) (m : Node) → timeless_at new q ≡ Some m → (timeless_at w q ≡ Some m) ⊎ ((q ≡ p) × (m ≡ node))
  pub kept : (q : Path) → timeless_at new q ≡ None → timeless_at w q ≡ None

module _ (w new : World) (p : Path) (x : Node) (after : (q : Path) → timeless_at new q ≡ cond (is_same_path q p) (Some x) (timeless_at w q)) where
  came_by : (q : Path) (m : Node) (b : Bool) → is_same_path q p ≡ b → cond b (Some x) (timeless_at w q) ≡ Some m → (timeless_at w q ≡ Some m) ⊎ ((q ≡ p) × (m ≡ x))
  came_by q m true is h = inr (same_path q p is, let e : x ≡ m = cc in sym e)
  came_by q m false is h = inl h

  kept_by : (q : Path) (b : Bool) → cond b (Some x) (timeless_at w q) ≡ None → timeless_at w q ≡ None
  kept_by q true h = cc
  kept_by q false h = h

  put_after : w.next ≤ x.number → Put w p x.kind x.properties new
  put_after number = record {
    node = x;
    kind_is = refl;
    properties_are = refl;
    number = number;
    here = after p ∙ ap (λ b. cond b (Some x) (timeless_at w p)) (path-itself p);
    came = λ q m h. came_by q m (is_same_path q p) refl (sym (after q) ∙ h);
    kept = λ q h. kept_by q (is_same_path q p) (sym (after q) ∙ h);
  }

-- a touch changes times alone
pub timed : (b : Bool) (now : ℕ) (o : Option Node) → option_map timeless (cond b (option_map (modified_at now) o) o) ≡ option_map timeless o
timed true now None = refl
timed true now (Some n) = refl
timed false now o = refl

one_more : (b : Bool) (n : Node) (o : Option Node) → option_map timeless (cond b (Some n) o) ≡ cond b (Some (timeless n)) (option_map timeless o)
one_more true n o = refl
one_more false n o = refl

new_did : (w : World) (p : Path) (kind : Kind) (properties : Properties) (now : ℕ) (new : World) → new ≡ with_new w p kind properties now → Put w p kind properties new
new_did w p kind properties now new is =
    let n : Node = record (fresh w.next kind now) { properties = properties } in
    put_after w new p (timeless n) (λ q.
    ap (λ (v : World). timeless_at v q) is
    ∙ ap (option_map timeless) (find-adjust (parent_of p) (modified_at now) q (put path_cmp p n w.nodes))
    ∙ timed (is_same_path (parent_of p) q) now (find path_cmp q (put path_cmp p n w.nodes))
    ∙ ap (option_map timeless) (find-put_node q p n w.nodes)
    ∙ one_more (is_same_path q p) n (node_at w q)) (omega arith)

over_by : (w : World) (p q : Path) (n : Node) (f : Node → Node) (b : Bool) → is_same_path p q ≡ b → node_at w p ≡ Some n
    → option_map timeless (cond b (option_map f (node_at w q)) (node_at w q)) ≡ cond b (Some (timeless (f n))) (timeless_at w q)
over_by w p q n f true is there = ap (λ o. option_map timeless (option_map f o)) (ap (node_at w) (sym (same_path p q is)) ∙ there)
over_by w p q n f false is there = refl

over_did : (w : World) (p : Path) (source n : Node) (now : ℕ) (new : World) → node_at w p ≡ Some n → new ≡ with_copy w p source (Some n) now → Put w p source.kind source.properties new
over_did w p source n now new there is =
    put_after w new p (timeless (copied_over source w.next now n)) (λ q.
    ap (λ (v : World). timeless_at v q) is
    ∙ ap (option_map timeless) (find-adjust p (copied_over source w.next now) q w.nodes)
    ∙ over_by w p q n (copied_over source w.next now) (is_same_path p q) refl there
    ∙ ap (λ b. cond b (Some (timeless (copied_over source w.next now n))) (timeless_at w q)) (turned q p)) (omega arith)

copy_by : (w : World) (p : Path) (source : Node) (now : ℕ) (new : World) (o : Option Node) → node_at w p ≡ o → new ≡ with_copy w p source o now → Put w p source.kind source.properties new
copy_by w p source now new None none is = new_did w p source.kind source.properties now new is
copy_by w p source now new (Some n) there is = over_did w p source n now new there is

pub folder_did : {p : Path} {now : ℕ} {old new : StoreState} {u : Unit {0}} → Asks (CreateDir p now) old (Ok u) new → Put old.world p Folder [] new.world
unfolding meaning
folder_did {p} {now} {old} {new} one =
    let (r, h, is, after) = answered one in
    let (none, h1) = went_on (not (is_missing old.world p)) Exists _ r h in
    let (folder, h2) = went_on (not (is_folder old.world (parent_of p))) NotFound _ r h1 in
    let (room, h3) = went_on (old.world.next == last_number) GeneralFailure _ r h2 in
    new_did old.world p Folder [] now new.world (after ∙ left tt (with_new old.world p Folder [] now) r h3)

-- a copy is that of a file
pub record FileCopied (w : World) (from to : Path) (new : World) : Type 0 where
  pub source : Node
  pub there : node_at w from ≡ Some source
  pub file : is_folder_kind source.kind ≡ false
  pub put : Put w to source.kind source.properties new

pub copy_did : {from to : Path} {now : ℕ} {old new : StoreState} {u : Unit {0}} → Asks (Copy from to now) old (Ok u) new → FileCopied old.world from to new.world
unfolding meaning
copy_did {from} {to} {now} {old} {new} one =
    let (r, h, is, after) = answered one in
    let (source, there, h1) = found (node_at old.world from) _ r h in
    let (file, h2) = went_on (is_folder_kind source.kind) Forbidden _ r h1 in
    let (differ, h3) = went_on (is_same_path from to) Forbidden _ r h2 in
    let (over, h4) = went_on (is_folder old.world to) Forbidden _ r h3 in
    let (folder, h5) = went_on (not (is_folder old.world (parent_of to))) NotFound _ r h4 in
    let (room, h6) = went_on (old.world.next == last_number) GeneralFailure _ r h5 in
    record {
      source = source;
      there = there;
      file = file;
      put = copy_by old.world to source now new.world (node_at old.world to) refl (after ∙ left tt (with_copy old.world to source (node_at old.world to) now) r h6);
    }

-- ---- what is in a world

-- what is there but for its times is there
pub there_by : (o : Option Node) (x : Node) → option_map timeless o ≡ Some x → (n : Node) × (o ≡ Some n) × (timeless n ≡ x)
there_by None x h = cc
there_by (Some n) x h = let e : timeless n ≡ x = cc in (n, refl, e)

folder_there : (o : Option Node) → is_folder_node o ≡ true → (n : Node) × (o ≡ Some n) × (is_folder_kind n.kind ≡ true)
folder_there None h = cc
folder_there (Some n) h = (n, refl, h)

module _ (w : World) (tree : IsTree w.nodes) (p : Path) (x : List ℕ) (r : Path) (n : Node) (there : node_at w (p ++ x ∷ r) ≡ Some n) where
  member_above : (m : Node) × (node_at w (p ++ x ∷ []) ≡ Some m)
  member_above = above w.nodes tree (p ++ x ∷ []) r n (ap (node_at w) (append_assoc p (x ∷ []) r) ∙ there)

  -- what has something below it is a folder
  pub folder_above : (m : Node) × (node_at w p ≡ Some m) × (is_folder_kind m.kind ≡ true)
  folder_above =
      let (m, is) = member_above in
      let up : parent_of (p ++ x ∷ []) ≡ p = parent-append p x [] ∙ append-nil p in
      folder_there (node_at w p) (ap (λ (q : Path). is_folder w q) (sym up) ∙ tree.parents (p ++ x ∷ []) m is)

  -- and lists the member
  pub member_listed : (dir : Bool) × (find name_cmp x (members p w.nodes) ≡ Some dir)
  member_listed =
      let (m, is) = member_above in
      (is_folder_kind m.kind, members_stand_below p x w.nodes ∙ ap (option_map (λ (k : Node). is_folder_kind k.kind)) is)
