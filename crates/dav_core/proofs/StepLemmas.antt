-- What a call that isn't refused did to the world, and that it left a world.
use Rattle.std.proofs.Common.{◌++◌, ◌≡◌, ℕ, ◌+◌, ◌<◌, ◌≤◌, ◌==◌, ◌||◌, ◌&&◌, Bool, true, false, not, if◌then◌else◌, T, List, [], ◌∷◌, length, Option, Some, None, Ok, Err, ◌⊎◌, inl, inr, refl, sym, ap, ◌∙◌, arith, nat_lt, map}
use Rattle.std.proofs.lemmas.Bool.{eqb-false, not-false}
use Rattle.std.specs.Option.{is_none, option_map, unwrap_or}
use Rattle.std.specs.FinMap.{find, is_sorted}
use Rattle.std.specs.FinMap.Entries.{is_sorted-put, is_sorted-where_key}
use Rattle.std.specs.Cmp.{IsTotalOrder, then_total, on_total}
use Rattle.std.specs.Cmp.Lexicographic.{nat_list_cmp_total}
use Rattle.dav_core.specs.declared.errors.FsError.{FsError}
use Rattle.dav_core.specs.declared.errors.FsError.TheVariants.{GeneralFailure, Exists, NotFound, Forbidden, TooLarge}
use Rattle.dav_core.specs.Element.{ElementTree}
use Rattle.dav_core.specs.Path.{Path, rest_after, is_same_path, is_at_or_under, is_under, is_root, is_nonempty, parent_of}
use Rattle.dav_core.specs.Property.{Properties, PropertyKey, Patch, SetTo, Remove, key_cmp, property_key, is_same_key, patched, patched_by, shown_property}
use Rattle.dav_core.specs.World.{World, Node, Kind, Folder, File, node_at, is_folder_kind, is_folder_node, is_folder, is_file, is_missing, bytes_of, members, has_members, with_new, adjust, change_node, is_file_made_with, file_made_with, last_moment, last_number, max_file_len, IsWorld, Renumbers}
use Rattle.dav_core.specs.Handle.{Handle, Opening, opened, write_place, place_for}
use Rattle.dav_core.specs.Meaning.{Meaning, refuse_if, at_node}
use Rattle.dav_core.specs.Calls.{metadata_of, read_dir, create_dir, without, remove_dir, remove_file, rename, copy, copied_over, with_copy, emptied, open_at, open_file, read_bytes, written, write_bytes, sought, repatched, stored_tree}
use Rattle.dav_core.specs.Asking.{Call, Metadata, ReadDir, EntryMetadata, CreateDir, RemoveDir, RemoveFile, Rename, Copy, HaveProps, PatchProps, GetProps, GetProp, GetQuota, SetAccessed, SetModified, Open, Read, Write, Seek, Flush, FileMetadata, Answer, meaning}
use Rattle.dav_core.specs.CallLaws.{IsStorable, IsProper, TakesAway, MayChange, path_after, brought}
use Rattle.std.proofs.lemmas.Bool.{or_parts, and_right}
use Rattle.dav_core.proofs.FrontLemmas.{outside, from_rest}
use Rattle.dav_core.proofs.MadeLemmas.{made_stands}
use Rattle.dav_core.proofs.NodesLemmas.{differ_from, same_path}
use Rattle.dav_core.proofs.MemberLemmas.{nothing_below}
use Rattle.dav_core.proofs.CarriedLemmas.{Same, renamed_world}

-- where a call isn't refused, the test that would refuse it is false
pub went_on : {A : Type 0} (b : Bool) (e : FsError) (m : Meaning A) (r : A × World) → refuse_if b e m ≡ Ok r → (b ≡ false) × (m ≡ Ok r)
went_on true e m r h = cc
went_on false e m r h = (refl, h)

-- and its node is there
pub found : {A : Type 0} (o : Option Node) (f : Node → Meaning A) (r : A × World) → at_node o f ≡ Ok r → (n : Node) × (o ≡ Some n) × (f n ≡ Ok r)
found None f r h = cc
found (Some n) f r h = (n, refl, h)

pub went_if : {A : Type 0} (b : Bool) (x y : Meaning A) (r : A × World) → (if b then x else y) ≡ Ok r → ((b ≡ true) × (x ≡ Ok r)) ⊎ ((b ≡ false) × (y ≡ Ok r))
went_if true x y r h = inl (refl, h)
went_if false x y r h = inr (refl, h)

world_after : {A : Type 0} → World → Meaning A → World
world_after w (Ok r) = r.1
world_after w (Err e) = w

-- the world that an answer comes with
pub left : {A : Type 0} (a : A) (w : World) (r : A × World) → ◌≡◌ {A = Meaning A} (Ok (a, w)) (Ok r) → r.1 ≡ w
unfolding world_after
left a w r h = sym (ap (world_after w) h)

pub nothing_there : (o : Option Node) → not (is_none o) ≡ false → o ≡ None
nothing_there None h = refl
nothing_there (Some n) h = cc

pub some_number : (w : World) → (w.next == last_number) ≡ false → w.next ≤ last_number → w.next < last_number
some_number w room top = let differ = eqb-false w.next last_number room in omega (arith, top, differ)

-- the call leaves all paths
abbrev pub InPlace : Call → Type 0
InPlace call = (x : Path) → brought call x ≡ x

path_by : (from to x : Path) → from ≡ to → (o : Option Path) → rest_after from x ≡ o → unwrap_or (option_map (λ rest. to ++ rest) o) x ≡ x
path_by from to x same None is = refl
path_by from to x same (Some r) is = ap (λ (p : Path). p ++ r) (sym same) ∙ sym (from_rest from x r is)

-- a rename to the same path leaves all paths
path_itself : (from to x : Path) → from ≡ to → path_after from to x ≡ x
path_itself from to x same = path_by from to x same (rest_after from x) refl

-- What a call that isn't refused did: nothing; or it made a node, changed one with the next number, wrote to an open file,
-- patched one without a number, removed or renamed.
pub data Step (call : Call) (w new : World) : Type 0 where
  unchanged : InPlace call → new ≡ w → Step call w new
  makes : (p : Path) (kind : Kind) (properties : Properties) (now : ℕ) → node_at w p ≡ None → is_folder w (parent_of p) ≡ true → (w.next == last_number) ≡ false
      → (IsProper call → IsWorld w → IsStorable p × T (is_sorted key_cmp properties) × (now ≤ last_moment)) → InPlace call → new ≡ with_new w p kind properties now → Step call w new
  renumbers : (p : Path) (n : Node) (f : Node → Node) → node_at w p ≡ Some n → (w.next == last_number) ≡ false
      → (IsProper call → IsWorld w → Renumbers w.next n (f n)) → ((m : Node) → MayChange call p m) → InPlace call → new ≡ record { nodes = adjust p f w.nodes; next = w.next + 1 } → Step call w new
  writes : (made : ℕ) (n : Node) (f : Node → Node) → file_made_with made w.nodes ≡ Some n → (w.next == last_number) ≡ false
      → (IsProper call → IsWorld w → Renumbers w.next n (f n)) → ((q : Path) (m : Node) → made ≡ m.made → is_folder_kind m.kind ≡ false → MayChange call q m) → InPlace call → new ≡ record { nodes = change_node (is_file_made_with made) f w.nodes; next = w.next + 1 } → Step call w new
  patches : (p : Path) (f : Node → Node) → ((n : Node) → Same n (f n)) → ((m : Node) → MayChange call p m) → InPlace call → new ≡ record w { nodes = adjust p f w.nodes } → Step call w new
  removes : (p : Path) (now : ℕ) → (IsWorld w → is_root p ≡ false) → (IsProper call → now ≤ last_moment)
      → (IsWorld w → (x : Path) (n : Node) → node_at w x ≡ Some n → is_at_or_under x p ≡ true → TakesAway call x) → InPlace call → new ≡ without w p now → Step call w new
  renames : (from to : Path) (now : ℕ) → is_root from ≡ false → is_root to ≡ false → is_at_or_under to from ≡ false → is_folder w (parent_of to) ≡ true
      → (IsProper call → IsStorable to × (now ≤ last_moment))
      → (IsWorld w → (x : Path) (n : Node) → node_at w x ≡ Some n → is_at_or_under x to ≡ true → TakesAway call x) → ((x : Path) → brought call x ≡ path_after from to x) → new ≡ renamed_world w from to now → Step call w new

key_total : IsTotalOrder key_cmp
key_total = then_total (on_total (λ (k : PropertyKey). k.0) nat_list_cmp_total) (on_total (λ (k : PropertyKey). k.1) nat_list_cmp_total)

patched_once : (patch : Patch) (ps : Properties) → T (is_sorted key_cmp ps) → T (is_sorted key_cmp (patched_by patch ps))
patched_once (SetTo p) ps h = is_sorted-put key_cmp key_total (property_key p) p.xml ps h
patched_once (Remove p) ps h = is_sorted-where_key key_cmp (λ k. not (is_same_key (property_key p) k)) ps h

-- patches keep the order of the properties
pub sorted-patched : (changes : List Patch) (ps : Properties) → T (is_sorted key_cmp ps) → T (is_sorted key_cmp (patched changes ps))
sorted-patched [] ps h = h
sorted-patched (change ∷ changes) ps h = sorted-patched changes (patched_by change ps) (patched_once change ps h)

Same-repatched : (changes : List Patch) (n : Node) → Same n (repatched changes n)
Same-repatched changes n = record { made = refl; number = refl; kind = refl; properties = λ h. sorted-patched changes n.properties h; created = λ h. h; modified = λ h. h }

looks_up : (call : Call) → InPlace call → {A : Type 0} (w : World) (o : Option Node) (f : Node → A) (r : A × World) → at_node o (λ n. Ok (f n, w)) ≡ Ok r → Step call w r.1
looks_up call brings w o f r h =
    let (n, stood, is) = found o (λ n. Ok (f n, w)) r h in
    unchanged brings (left (f n) w r is)

lists : (call : Call) → InPlace call → (w : World) (p : Path) (r : List (List ℕ × Bool) × World) → read_dir w p ≡ Ok r → Step call w r.1
lists call brings w p r h =
    let (there, h1) = went_on (is_missing w p) NotFound _ r h in
    let (folder, h2) = went_on (is_file w p) Forbidden _ r h1 in
    unchanged brings (left (members p w.nodes) w r h2)

makes_dir : (w : World) (p : Path) (now : ℕ) (r : Unit {0} × World) → create_dir w p now ≡ Ok r → Step (CreateDir p now) w r.1
makes_dir w p now r h =
    let (none, h1) = went_on (not (is_missing w p)) Exists _ r h in
    let (folder, h2) = went_on (not (is_folder w (parent_of p))) NotFound _ r h1 in
    let (room, h3) = went_on (w.next == last_number) GeneralFailure _ r h2 in
    makes p Folder [] now (nothing_there (node_at w p) none) (not-false (is_folder w (parent_of p)) folder) room
    (λ proper world. (proper.0, tt, proper.1)) (λ x. refl) (left tt (with_new w p Folder [] now) r h3)

unroot : (w : World) (p : Path) → is_folder w p ≡ false → IsWorld w → is_root p ≡ false
unroot w [] file world = let folder : is_folder w [] ≡ true = world.tree.root in cc
unroot w (x ∷ p) file world = refl

removes_file : (w : World) (p : Path) (now : ℕ) (r : Unit {0} × World) → remove_file w p now ≡ Ok r → Step (RemoveFile p now) w r.1
removes_file w p now r h =
    let (there, h1) = went_on (is_missing w p) NotFound _ r h in
    let (file, h2) = went_on (is_folder w p) Forbidden _ r h1 in
    removes p now (unroot w p file) (λ small. small) (λ world x n stood at. nothing_below w world p x n (ap (λ b. b && has_members w p) file) stood at) (λ x. refl) (left tt (without w p now) r h2)

removes_dir : (w : World) (p : Path) (now : ℕ) (r : Unit {0} × World) → remove_dir w p now ≡ Ok r → Step (RemoveDir p now) w r.1
removes_dir w p now r h =
    let (some, h1) = went_on (is_root p) Forbidden _ r h in
    let (there, h2) = went_on (is_missing w p) NotFound _ r h1 in
    let (folder, h3) = went_on (is_file w p) Forbidden _ r h2 in
    let (empty, h4) = went_on (has_members w p) Exists _ r h3 in
    removes p now (λ _. some) (λ small. small) (λ world x n stood at. nothing_below w world p x n (and_right (is_folder w p) (has_members w p) empty) stood at) (λ x. refl) (left tt (without w p now) r h4)

module _ (w : World) (from to : Path) (now : ℕ) (r : Unit {0} × World) where
  renames_to : rename w from to now ≡ Ok r → Step (Rename from to now) w r.1
  renames_to h =
      let (roots, h1) = went_on (is_root from || is_root to) Forbidden _ r h in
      let (there, h2) = went_on (is_missing w from) NotFound _ r h1 in
      elim (went_if (is_same_path from to) (Ok (tt, w)) _ r h2) as (λ _. Step (Rename from to now) w r.1) [
        | inl same ↦ unchanged (λ x. path_itself from to x (same_path from to same.0)) (left tt w r same.1)
        | inr other ↦
            let (below, h3) = went_on (is_under to from) Forbidden _ r other.1 in
            let (folder, h4) = went_on (not (is_folder w (parent_of to))) NotFound _ r h3 in
            let (empty, h5) = went_on (is_folder w to && has_members w to) Exists _ r h4 in
            let (a, b) = or_parts (is_root from) (is_root to) roots in
            renames from to now a b (outside from to other.0 below) (not-false (is_folder w (parent_of to)) folder) (λ proper. proper)
            (λ world x n stood at. (differ_from from to other.0, nothing_below w world to x n empty stood at)) (λ x. refl) (left tt (renamed_world w from to now) r h5)
      ]

  copies_by : (source : Node) → node_at w from ≡ Some source → is_folder_kind source.kind ≡ false → is_folder w (parent_of to) ≡ true → (w.next == last_number) ≡ false
      → (o : Option Node) → node_at w to ≡ o → is_folder_node o ≡ false → r.1 ≡ with_copy w to source o now → Step (Copy from to now) w r.1
  copies_by source stood file folder room None none over is =
      makes to source.kind source.properties now none folder room (λ proper world. (proper.0, (world.sound from source stood).properties, proper.1)) (λ x. refl) is
  copies_by source stood file folder room (Some n) there over is =
      renumbers to n (copied_over source w.next now) there room
      (λ proper world. record {
        made = refl;
        number_is = refl;
        kind = file ∙ sym over;
        properties = (world.sound from source stood).properties;
        created = proper.1;
        modified = proper.1;
      }) (λ m. refl) (λ x. refl) is

  copies : copy w from to now ≡ Ok r → Step (Copy from to now) w r.1
  copies h =
      let (source, stood, h1) = found (node_at w from) _ r h in
      let (file, h2) = went_on (is_folder_kind source.kind) Forbidden _ r h1 in
      let (differ, h3) = went_on (is_same_path from to) Forbidden _ r h2 in
      let (over, h4) = went_on (is_folder w to) Forbidden _ r h3 in
      let (folder, h5) = went_on (not (is_folder w (parent_of to))) NotFound _ r h4 in
      let (room, h6) = went_on (w.next == last_number) GeneralFailure _ r h5 in
      copies_by source stood file (not-false (is_folder w (parent_of to)) folder) room (node_at w to) refl over (left tt (with_copy w to source (node_at w to) now) r h6)

module _ (w : World) (p : Path) (how : Opening) (now : ℕ) (r : Handle × World) where
  opens_by : (o : Option Node) → node_at w p ≡ o → open_at w p how now o ≡ Ok r → Step (Open p how now) w r.1
  opens_by None none h =
      let (create, h1) = went_on (not (how.create || how.create_new)) NotFound _ r h in
      let (folder, h2) = went_on (not (is_folder w (parent_of p))) NotFound _ r h1 in
      let (room, h3) = went_on (w.next == last_number) GeneralFailure _ r h2 in
      makes p (File []) [] now none (not-false (is_folder w (parent_of p)) folder) room (λ proper world. (proper.0, tt, proper.1)) (λ x. refl)
      (left (opened w.next how) (with_new w p (File []) [] now) r h3)
  opens_by (Some n) there h =
      let (file, h1) = went_on (is_folder_kind n.kind) Forbidden _ r h in
      let (fresh, h2) = went_on how.create_new Exists _ r h1 in
      elim (went_if how.truncate _ _ r h2) as (λ _. Step (Open p how now) w r.1) [
        | inl empties ↦
            let (room, h3) = went_on (w.next == last_number) GeneralFailure _ r empties.1 in
            renumbers p n (emptied w.next now) there room
            (λ proper world. record {
              made = refl;
              number_is = refl;
              kind = sym file;
              properties = (world.sound p n there).properties;
              created = (world.sound p n there).created;
              modified = proper.1;
            }) (λ m. refl) (λ x. refl) (left (opened n.made how) (record { nodes = adjust p (emptied w.next now) w.nodes; next = w.next + 1 }) r h3)
        | inr keeps ↦ unchanged (λ x. refl) (left (opened n.made how) w r keeps.1)
      ]

  opens : open_file w p how now ≡ Ok r → Step (Open p how now) w r.1
  opens h = opens_by (node_at w p) refl h

reads_on : (w : World) (file : Handle) (count : ℕ) (r : (List ℕ × Handle) × World) → read_bytes w file count ≡ Ok r → Step (Read file count) w r.1
reads_on w file count r h =
    let (n, stood, h1) = found (file_made_with file.made w.nodes) _ r h in
    let (allowed, h2) = went_on (not file.reads) Forbidden _ r h1 in
    unchanged (λ x. refl) (left _ w r h2)

seeks : (w : World) (file : Handle) (o : Option ℕ) (call : Call) → InPlace call → (r : (ℕ × Handle) × World) → sought file o w ≡ Ok r → Step call w r.1
seeks w file None call brings r h = cc
seeks w file (Some k) call brings r h = unchanged brings (left (k, record file { position = k }) w r h)

finds : (call : Call) → InPlace call → (o : Option (Option ElementTree)) (w : World) (r : ElementTree × World) → stored_tree o w ≡ Ok r → Step call w r.1
finds call brings None w r h = cc
finds call brings (Some None) w r h = cc
finds call brings (Some (Some tree)) w r h = unchanged brings (left tree w r h)

writes_to : (w : World) (file : Handle) (c : List ℕ) (now : ℕ) (r : Handle × World) → write_bytes w file c now ≡ Ok r → Step (Write file c now) w r.1
writes_to w file c now r h =
    let (n, stood, h1) = found (file_made_with file.made w.nodes) _ r h in
    let k = write_place file (bytes_of n.kind) in
    let (allowed, h2) = went_on (not file.writes) Forbidden _ r h1 in
    let (fits, h3) = went_on (nat_lt max_file_len (k + length c)) TooLarge _ r h2 in
    elim (went_if (is_nonempty c) _ _ r h3) as (λ _. Step (Write file c now) w r.1) [
      | inl some ↦
          let (room, h4) = went_on (w.next == last_number) GeneralFailure _ r some.1 in
          writes file.made n (written k c w.next now) stood room
          (λ proper world.
          let (p, there, made, is_file) = made_stands file.made w.nodes world.tree.sorted n stood in
          record {
            made = refl;
            number_is = refl;
            kind = sym is_file;
            properties = (world.sound p n there).properties;
            created = (world.sound p n there).created;
            modified = proper;
          }) (λ q m same is. (same, is)) (λ x. refl) (left (record file { position = k + length c }) (record { nodes = change_node (is_file_made_with file.made) (written k c w.next now) w.nodes; next = w.next + 1 }) r h4)
      | inr none ↦ unchanged (λ x. refl) (left file w r none.1)
    ]

-- what each call that isn't refused did
pub steps : (call : Call) (w : World) (r : Answer call × World) → meaning call w ≡ Ok r → Step call w r.1
unfolding meaning
steps (Metadata p) w r h = looks_up (Metadata p) (λ x. refl) w (node_at w p) metadata_of r h
steps (ReadDir p) w r h = lists (ReadDir p) (λ x. refl) w p r h
steps (EntryMetadata p) w r h = looks_up (EntryMetadata p) (λ x. refl) w (node_at w p) metadata_of r h
steps (CreateDir p now) w r h = makes_dir w p now r h
steps (RemoveDir p now) w r h = removes_dir w p now r h
steps (RemoveFile p now) w r h = removes_file w p now r h
steps (Rename from to now) w r h = renames_to w from to now r h
steps (Copy from to now) w r h = copies w from to now r h
steps (HaveProps p) w r h = unchanged (λ x. refl) (left true w r h)
steps (PatchProps p changes) w r h =
    let (n, stood, is) = found (node_at w p) _ r h in
    patches p (repatched changes) (Same-repatched changes) (λ m. refl) (λ x. refl) (left _ (record w { nodes = adjust p (repatched changes) w.nodes }) r is)
steps (GetProps p content) w r h = looks_up (GetProps p content) (λ x. refl) w (node_at w p) (λ n. map (shown_property content) n.properties) r h
steps (GetProp p key) w r h =
    let (n, stood, is) = found (node_at w p) _ r h in
    finds (GetProp p key) (λ x. refl) (find key_cmp key n.properties) w r is
steps GetQuota w r h = cc
steps (SetAccessed p time) w r h = cc
steps (SetModified p time) w r h = cc
steps (Open p how now) w r h = opens w p how now r h
steps (Read file count) w r h = reads_on w file count r h
steps (Write file c now) w r h = writes_to w file c now r h
steps (Seek file to) w r h =
    let (n, stood, is) = found (file_made_with file.made w.nodes) _ r h in
    seeks w file (place_for to file.position (length (bytes_of n.kind))) (Seek file to) (λ x. refl) r is
steps (Flush file) w r h = looks_up (Flush file) (λ x. refl) w (file_made_with file.made w.nodes) (λ n. tt) r h
steps (FileMetadata file) w r h = looks_up (FileMetadata file) (λ x. refl) w (file_made_with file.made w.nodes) metadata_of r h
