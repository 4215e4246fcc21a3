-- What calls do to the elements that properties keep.
use Rattle.std.proofs.Common.{◌≡◌, inl, inr, ℕ, ◌+◌, ◌==◌, ◌&&◌, ◌||◌, nat_lt, Bool, true, false, not, List, [], ◌∷◌, ◌++◌, map, length, Option, Some, None, Ok, refl, sym, ap, subst}
use Rattle.std.specs.Bool.{⊤}
use Rattle.std.specs.FinMap.{find, put}
use Rattle.std.specs.List.{AllByRecursion}
use Rattle.std.specs.Option.{option_map}
use Rattle.dav_core.specs.declared.errors.FsError.TheVariants.{GeneralFailure, NotFound, Forbidden, Exists, TooLarge}
use Rattle.dav_core.specs.Asking.{Call, Metadata, ReadDir, EntryMetadata, CreateDir, RemoveDir, RemoveFile, Rename, Copy, HaveProps, PatchProps, GetProps, GetProp, GetQuota, SetAccessed, SetModified, Open, Read, Write, Seek, Flush, FileMetadata, Answer, meaning}
use Rattle.dav_core.specs.Calls.{metadata_of, read_dir, create_dir, remove_file, remove_dir, rename, copy, copied_over, with_copy, without, emptied, open_at, read_bytes, written, write_bytes, sought, repatched, patch_props, get_props, stored_tree, get_prop}
use Rattle.dav_core.specs.Element.{ElementTree}
use Rattle.dav_core.specs.Handle.{Handle, Opening, opened, write_place, place_for}
use Rattle.dav_core.specs.Meaning.{Meaning, at_node}
use Rattle.dav_core.specs.Path.{Path, path_cmp, is_same_path, is_under, is_root, is_at_or_under, is_nonempty, parent_of, rest_after}
use Rattle.dav_core.specs.Property.{Property, PropertyKey, Properties, Patch, SetTo, Remove, key_cmp, property_key, is_same_key, patched_by, patched, patched_property, without_xml, shown_property}
use Rattle.dav_core.specs.World.{World, Node, Nodes, Kind, Folder, File, node_at, is_folder_kind, is_folder, is_file, is_missing, bytes_of, members, has_members, prune, graft, union, moved, touched, modified_at, with_new, fresh, adjust, change_node, is_file_made_with, file_made_with, last_number, max_file_len}
use Rattle.dav_core.proofs.Theorems.{went_on, found, left, went_if}
use Rattle.dav_http.proofs.Each.{each_filter, each_change_first, each_put, each_found, each_filter_map}

-- `Q` holds of the element of each property
module _ (Q : Option ElementTree → Type 0) where
  abbrev pub AreKept : Properties → Type 0
  AreKept ps = AllByRecursion (λ e. Q e.1) ps

  abbrev IsFit : Node → Type 0
  IsFit n = AreKept n.properties

  abbrev pub AreFit : Nodes → Type 0
  AreFit ns = AllByRecursion (λ e. AreKept e.1.properties) ns

  -- a change sets what fits
  abbrev pub Sets : Patch → Type 0
  Sets (SetTo p) = Q p.xml
  Sets (Remove p) = ⊤

  abbrev pub SetsFit : Call → Type 0
  SetsFit (PatchProps p patches) = AllByRecursion Sets patches
  SetsFit _ = ⊤

  -- ---- parts of worlds

  adjusted : (p : Path) (f : Node → Node) → ((n : Node) → IsFit n → IsFit (f n)) → (ns : Nodes) → AreFit ns → AreFit (adjust p f ns)
  adjusted p f keeps ns h = each_change_first (λ e. IsFit e.1) (λ e. is_same_path p e.0) (λ e. (e.0, f e.1)) (λ e fit. keeps e.1 fit) ns h

  touched_fit : (p : Path) (now : ℕ) (ns : Nodes) → AreFit ns → AreFit (touched p now ns)
  touched_fit p now ns h = adjusted (parent_of p) (modified_at now) (λ n fit. fit) ns h

  put_fit : (p : Path) (n : Node) (ns : Nodes) → IsFit n → AreFit ns → AreFit (put path_cmp p n ns)
  put_fit p n ns one h = each_put path_cmp IsFit p n ns one h

  node_fit : (p : Path) (w : World) (n : Node) → AreFit w.nodes → node_at w p ≡ Some n → IsFit n
  node_fit p w n h is = each_found path_cmp IsFit p w.nodes h n is

  new_fit : (w : World) (p : Path) (kind : Kind) (properties : Properties) (now : ℕ) → AreKept properties → AreFit w.nodes → AreFit (with_new w p kind properties now).nodes
  new_fit w p kind properties now fit h = touched_fit p now _ (put_fit p (record (fresh w.next kind now) { properties = properties }) w.nodes fit h)

  prune_fit : (p : Path) (ns : Nodes) → AreFit ns → AreFit (prune p ns)
  prune_fit p ns h = each_filter (λ e. IsFit e.1) (λ e. not (is_at_or_under e.0 p)) ns h

  grafted : (p q : Path) (e f : Path × Node) (o : Option Path) → IsFit e.1 → option_map (λ rest. (q ++ rest, e.1)) o ≡ Some f → IsFit f.1
  grafted p q e f None fit is = absurd cc
  grafted p q e f (Some rest) fit is = let same : (q ++ rest, e.1) ≡ f = cc in subst (λ (x : Path × Node). IsFit x.1) same fit

  graft_fit : (p q : Path) (ns : Nodes) → AreFit ns → AreFit (graft p q ns)
  graft_fit p q ns h = each_filter_map (λ e. IsFit e.1) (λ e. IsFit e.1) (λ e. option_map (λ rest. (q ++ rest, e.1)) (rest_after p e.0)) (λ e f fit is. grafted p q e f (rest_after p e.0) fit is) ns h

  union_fit : (es ns : Nodes) → AreFit es → AreFit ns → AreFit (union es ns)
  union_fit [] ns h k = k
  union_fit (e ∷ es) ns h k = put_fit e.0 e.1 (union es ns) h.0 (union_fit es ns h.1 k)

  moved_fit : (from to : Path) (ns : Nodes) → AreFit ns → AreFit (moved from to ns)
  moved_fit from to ns h = union_fit (graft from to ns) (prune to (prune from ns)) (graft_fit from to ns h) (prune_fit to (prune from ns) (prune_fit from ns h))

  once_fit : (patch : Patch) (ps : Properties) → Sets patch → AreKept ps → AreKept (patched_by patch ps)
  once_fit (SetTo p) ps one h = each_put key_cmp Q (property_key p) p.xml ps one h
  once_fit (Remove p) ps one h = each_filter (λ e. Q e.1) (λ e. not (is_same_key (property_key p) e.0)) ps h

  patched_fit : (patches : List Patch) (ps : Properties) → AllByRecursion Sets patches → AreKept ps → AreKept (patched patches ps)
  patched_fit [] ps all h = h
  patched_fit (patch ∷ patches) ps all h = patched_fit patches (patched_by patch ps) all.1 (once_fit patch ps all.0 h)

  -- ---- calls

  abbrev Leaves : {A : Type 0} → World → Meaning A → Type 0
  Leaves {A} w m = (r : A × World) → m ≡ Ok r → AreFit r.1.nodes

  as_it_was : {A : Type 0} (a : A) (w new : World) (r : A × World) → AreFit new.nodes → ◌≡◌ {A = Meaning A} (Ok (a, new)) (Ok r) → AreFit r.1.nodes
  as_it_was a w new r h is = subst (λ (x : World). AreFit x.nodes) (sym (left a new r is)) h

  looked : {A : Type 0} (w : World) (o : Option Node) (f : Node → A) → AreFit w.nodes → Leaves w (at_node o (λ n. Ok (f n, w)))
  looked w o f h r is =
      let (n, stood, end) = found o (λ n. Ok (f n, w)) r is in
      as_it_was (f n) w w r h end

  listed : (w : World) (p : Path) → AreFit w.nodes → Leaves w (read_dir w p)
  listed w p h r is =
      let (there, h1) = went_on (is_missing w p) NotFound _ r is in
      let (folder, h2) = went_on (is_file w p) Forbidden _ r h1 in
      as_it_was (members p w.nodes) w w r h h2

  made : (w : World) (p : Path) (now : ℕ) → AreFit w.nodes → Leaves w (create_dir w p now)
  made w p now h r is =
      let (none, h1) = went_on (not (is_missing w p)) Exists _ r is in
      let (folder, h2) = went_on (not (is_folder w (parent_of p))) NotFound _ r h1 in
      let (room, h3) = went_on (w.next == last_number) GeneralFailure _ r h2 in
      as_it_was tt w (with_new w p Folder [] now) r (new_fit w p Folder [] now tt h) h3

  without_fit : (w : World) (p : Path) (now : ℕ) → AreFit w.nodes → AreFit (without w p now).nodes
  without_fit w p now h = touched_fit p now (prune p w.nodes) (prune_fit p w.nodes h)

  file_gone : (w : World) (p : Path) (now : ℕ) → AreFit w.nodes → Leaves w (remove_file w p now)
  file_gone w p now h r is =
      let (there, h1) = went_on (is_missing w p) NotFound _ r is in
      let (file, h2) = went_on (is_folder w p) Forbidden _ r h1 in
      as_it_was tt w (without w p now) r (without_fit w p now h) h2

  dir_gone : (w : World) (p : Path) (now : ℕ) → AreFit w.nodes → Leaves w (remove_dir w p now)
  dir_gone w p now h r is =
      let (some, h1) = went_on (is_root p) Forbidden _ r is in
      let (there, h2) = went_on (is_missing w p) NotFound _ r h1 in
      let (folder, h3) = went_on (is_file w p) Forbidden _ r h2 in
      let (empty, h4) = went_on (has_members w p) Exists _ r h3 in
      as_it_was tt w (without w p now) r (without_fit w p now h) h4

  renamed : (w : World) (from to : Path) (now : ℕ) → AreFit w.nodes → Leaves w (rename w from to now)
  renamed w from to now h r is =
      let (roots, h1) = went_on (is_root from || is_root to) Forbidden _ r is in
      let (there, h2) = went_on (is_missing w from) NotFound _ r h1 in
      elim (went_if (is_same_path from to) (Ok (tt, w)) _ r h2) as (λ _. AreFit r.1.nodes) [
        | inl same ↦ as_it_was tt w w r h same.1
        | inr other ↦
            let (below, h3) = went_on (is_under to from) Forbidden _ r other.1 in
            let (folder, h4) = went_on (not (is_folder w (parent_of to))) NotFound _ r h3 in
            let (empty, h5) = went_on (is_folder w to && has_members w to) Exists _ r h4 in
            as_it_was tt w (record w { nodes = touched from now (touched to now (moved from to w.nodes)) }) r (touched_fit from now _ (touched_fit to now _ (moved_fit from to w.nodes h))) h5
      ]

  copy_fit : (w : World) (to : Path) (source : Node) (o : Option Node) (now : ℕ) → IsFit source → AreFit w.nodes → AreFit (with_copy w to source o now).nodes
  copy_fit w to source None now fit h = new_fit w to source.kind source.properties now fit h
  copy_fit w to source (Some n) now fit h = adjusted to (copied_over source w.next now) (λ n was. fit) w.nodes h

  copied : (w : World) (from to : Path) (now : ℕ) → AreFit w.nodes → Leaves w (copy w from to now)
  copied w from to now h r is =
      let (source, stood, h1) = found (node_at w from) _ r is in
      let (file, h2) = went_on (is_folder_kind source.kind) Forbidden _ r h1 in
      let (differ, h3) = went_on (is_same_path from to) Forbidden _ r h2 in
      let (over, h4) = went_on (is_folder w to) Forbidden _ r h3 in
      let (folder, h5) = went_on (not (is_folder w (parent_of to))) NotFound _ r h4 in
      let (room, h6) = went_on (w.next == last_number) GeneralFailure _ r h5 in
      as_it_was tt w (with_copy w to source (node_at w to) now) r (copy_fit w to source (node_at w to) now (node_fit from w source h stood) h) h6

  opened_fit : (w : World) (p : Path) (how : Opening) (now : ℕ) (o : Option Node) → AreFit w.nodes → Leaves w (open_at w p how now o)
  opened_fit w p how now None h r is =
      let (create, h1) = went_on (not (how.create || how.create_new)) NotFound _ r is in
      let (folder, h2) = went_on (not (is_folder w (parent_of p))) NotFound _ r h1 in
      let (room, h3) = went_on (w.next == last_number) GeneralFailure _ r h2 in
      as_it_was (opened w.next how) w (with_new w p (File []) [] now) r (new_fit w p (File []) [] now tt h) h3
  opened_fit w p how now (Some n) h r is =
      let (file, h1) = went_on (is_folder_kind n.kind) Forbidden _ r is in
      let (there, h2) = went_on how.create_new Exists _ r h1 in
      elim (went_if how.truncate _ _ r h2) as (λ _. AreFit r.1.nodes) [
        | inl empties ↦
            let (room, h3) = went_on (w.next == last_number) GeneralFailure _ r empties.1 in
            as_it_was (opened n.made how) w (record { nodes = adjust p (emptied w.next now) w.nodes; next = w.next + 1 }) r (adjusted p (emptied w.next now) (λ m fit. fit) w.nodes h) h3
        | inr keeps ↦ as_it_was (opened n.made how) w w r h keeps.1
      ]

  read_on : (w : World) (file : Handle) (count : ℕ) → AreFit w.nodes → Leaves w (read_bytes w file count)
  read_on w file count h r is =
      let (n, stood, h1) = found (file_made_with file.made w.nodes) _ r is in
      let (allowed, h2) = went_on (not file.reads) Forbidden _ r h1 in
      as_it_was _ w w r h h2

  placed_at : (w : World) (file : Handle) (o : Option ℕ) → AreFit w.nodes → Leaves w (sought file o w)
  placed_at w file None h r is = absurd cc
  placed_at w file (Some k) h r is = as_it_was (k, record file { position = k }) w w r h is

  told_tree : (o : Option (Option ElementTree)) (w : World) → AreFit w.nodes → Leaves w (stored_tree o w)
  told_tree None w h r is = absurd cc
  told_tree (Some None) w h r is = absurd cc
  told_tree (Some (Some tree)) w h r is = as_it_was tree w w r h is

  wrote : (w : World) (file : Handle) (c : List ℕ) (now : ℕ) → AreFit w.nodes → Leaves w (write_bytes w file c now)
  wrote w file c now h r is =
      let (n, stood, h1) = found (file_made_with file.made w.nodes) _ r is in
      let k = write_place file (bytes_of n.kind) in
      let (allowed, h2) = went_on (not file.writes) Forbidden _ r h1 in
      let (fits, h3) = went_on (nat_lt max_file_len (k + length c)) TooLarge _ r h2 in
      elim (went_if (is_nonempty c) _ _ r h3) as (λ _. AreFit r.1.nodes) [
        | inl some ↦
            let (room, h4) = went_on (w.next == last_number) GeneralFailure _ r some.1 in
            as_it_was (record file { position = k + length c }) w (record { nodes = change_node (is_file_made_with file.made) (written k c w.next now) w.nodes; next = w.next + 1 }) r
            (each_change_first (λ e. IsFit e.1) (is_file_made_with file.made) (λ e. (e.0, written k c w.next now e.1)) (λ e fit. fit) w.nodes h) h4
        | inr none ↦ as_it_was file w w r h none.1
      ]

  -- a call that sets what fits leaves what fits
  pub call_fits : (call : Call) (w : World) → SetsFit call → AreFit w.nodes → (r : Answer call × World) → meaning call w ≡ Ok r → AreFit r.1.nodes
  unfolding meaning
  call_fits (Metadata p) w sets h r is = looked w (node_at w p) metadata_of h r is
  call_fits (ReadDir p) w sets h r is = listed w p h r is
  call_fits (EntryMetadata p) w sets h r is = looked w (node_at w p) metadata_of h r is
  call_fits (CreateDir p now) w sets h r is = made w p now h r is
  call_fits (RemoveDir p now) w sets h r is = dir_gone w p now h r is
  call_fits (RemoveFile p now) w sets h r is = file_gone w p now h r is
  call_fits (Rename from to now) w sets h r is = renamed w from to now h r is
  call_fits (Copy from to now) w sets h r is = copied w from to now h r is
  call_fits (HaveProps p) w sets h r is = as_it_was true w w r h is
  call_fits (PatchProps p patches) w sets h r is =
      let (n, stood, end) = found (node_at w p) _ r is in
      as_it_was _ w (record w { nodes = adjust p (repatched patches) w.nodes }) r (adjusted p (repatched patches) (λ m fit. patched_fit patches m.properties sets fit) w.nodes h) end
  call_fits (GetProps p content) w sets h r is = looked w (node_at w p) (λ n. map (shown_property content) n.properties) h r is
  call_fits (GetProp p key) w sets h r is =
      let (n, stood, end) = found (node_at w p) _ r is in
      told_tree (find key_cmp key n.properties) w h r end
  call_fits GetQuota w sets h r is = absurd cc
  call_fits (SetAccessed p time) w sets h r is = absurd cc
  call_fits (SetModified p time) w sets h r is = absurd cc
  call_fits (Open p how now) w sets h r is = opened_fit w p how now (node_at w p) h r is
  call_fits (Read file count) w sets h r is = read_on w file count h r is
  call_fits (Write file bytes now) w sets h r is = wrote w file bytes now h r is
  call_fits (Seek file to) w sets h r is =
      let (n, stood, end) = found (file_made_with file.made w.nodes) _ r is in
      placed_at w file (place_for to file.position (length (bytes_of n.kind))) h r end
  call_fits (Flush file) w sets h r is = looked w (file_made_with file.made w.nodes) (λ n. tt) h r is
  call_fits (FileMetadata file) w sets h r is = looked w (file_made_with file.made w.nodes) metadata_of h r is

  -- ---- what is told

  same_answer : {A : Type 0} (a : A) (w : World) (r : A × World) → ◌≡◌ {A = Meaning A} (Ok (a, w)) (Ok r) → a ≡ r.0
  same_answer a w r is = let same : (a, w) ≡ r = cc in ap (λ x. x.0) same

  -- the element of one property fits
  pub told_one : (p : Path) (key : PropertyKey) (w : World) → AreFit w.nodes → (r : ElementTree × World) → get_prop w p key ≡ Ok r → Q (Some r.0)
  told_one p key w h r is =
      let (n, stood, end) = found (node_at w p) _ r is in
      by (find key_cmp key n.properties) (λ v there. each_found key_cmp Q key n.properties (node_fit p w n h stood) v there) end
    where
      by : (o : Option (Option ElementTree)) → ((v : Option ElementTree) → o ≡ Some v → Q v) → stored_tree o w ≡ Ok r → Q (Some r.0)
      by None fits end = absurd cc
      by (Some None) fits end = absurd cc
      by (Some (Some tree)) fits end = subst (λ (t : ElementTree). Q (Some t)) (same_answer tree w r end) (fits (Some tree) refl)

  module _ (empty : Q None) where
    shown_fit : (content : Bool) (ps : Properties) → AreKept ps → AllByRecursion (λ (p : Property). Q p.xml) (map (shown_property content) ps)
    shown_fit content [] h = tt
    shown_fit content (e ∷ ps) h = (by content e h.0, shown_fit content ps h.1)
      where
        by : (content : Bool) (e : PropertyKey × Option ElementTree) → Q e.1 → Q (shown_property content e).xml
        by true e fit = fit
        by false e fit = empty

    -- and so do those of all
    pub told_all : (p : Path) (content : Bool) (w : World) → AreFit w.nodes → (r : List Property × World) → get_props w p content ≡ Ok r → AllByRecursion (λ (p : Property). Q p.xml) r.0
    told_all p content w h r is =
        let (n, stood, end) = found (node_at w p) _ r is in
        subst (AllByRecursion (λ (p : Property). Q p.xml)) (same_answer _ w r end) (shown_fit content n.properties (node_fit p w n h stood))

  -- a change of properties is answered by these
  pub told_patched : (p : Path) (patches : List Patch) (w : World) (r : List (ℕ × Property) × World) → patch_props w p patches ≡ Ok r → r.0 ≡ map (λ patch. (200, without_xml (patched_property patch))) patches
  told_patched p patches w r is =
      let (n, stood, end) = found (node_at w p) _ r is in
      sym (same_answer _ _ r end)
