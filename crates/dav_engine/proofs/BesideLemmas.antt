-- What a call means in two worlds that are alike.
use Rattle.std.proofs.Common.{◌≡◌, ℕ, ◌+◌, ◌≤◌, ◌==◌, ◌||◌, ◌&&◌, ◌++◌, nat_lt, Bool, true, false, not, true≢false, cond, if◌then◌else◌, List, [], ◌∷◌, map, length, take, drop, append-nil, append_assoc, Option, Some, None, Ok, Err, ◌⊎◌, inl, inr, refl, sym, ap, subst, ◌∙◌, arith}
use Rattle.std.proofs.lemmas.Bool.{eqb-true, eqb-false}
use Rattle.std.specs.Bool.{⊤}
use Rattle.std.specs.Option.{option_map, option_or, option_and_then, is_none}
use Rattle.std.specs.FinMap.{find}
use Rattle.std.specs.declared.io.traits.SeekFrom.{SeekFrom}
use Rattle.dav_core.specs.declared.errors.FsError.{FsError}
use Rattle.dav_core.specs.declared.errors.FsError.TheVariants.{GeneralFailure, Exists, NotFound, Forbidden, TooLarge}
use Rattle.dav_core.specs.Calls.{metadata_of, metadata, read_dir, create_dir, without, remove_dir, remove_file, open_at, emptied, rename, copy, with_copy, copied_over, repatched, patch_props, get_props, stored_tree, get_prop, read_bytes, write_bytes, written, seek, sought, flush, file_metadata}
use Rattle.dav_core.specs.Handle.{Handle, Opening, opened, write_place, place_for}
use Rattle.dav_core.specs.Meaning.{Meaning, refuse_if, at_node}
use Rattle.dav_core.specs.Path.{Path, is_same_path, is_at_or_under, is_under, is_root, has_names, is_nonempty, rest_after, parent_of}
use Rattle.dav_core.specs.Element.{ElementTree}
use Rattle.dav_core.specs.Property.{Properties, PropertyKey, Patch, key_cmp, patched, shown_property}
use Rattle.dav_core.specs.World.{World, Node, Nodes, Kind, Folder, File, node_at, is_folder, is_folder_kind, is_folder_node, is_file_node, members, with_new, adjust, change_node, is_file_made_with, file_made_with, last_number, bytes_of, max_file_len, splice, IsWorld}
use Rattle.dav_core.proofs.Theorems.{renamed_world, members_same, parent-append, shape, rest_after-append, stands_made, change_made}
use Rattle.dav_engine.specs.Inside.{Content, content_of, SameInside, HasFoldersAbove}
use Rattle.dav_engine.specs.Alongside.{SameMetadata, BothOpen, SameHandle, AreOpen, IsFileAt}
use Rattle.dav_engine.proofs.InsideLemmas.{content_at, content-new, content-adjust, content-removed, content-renamed}

-- ---- meanings side by side

-- Two meanings: both are refused with one error, or answer related things and leave related worlds; or the first finds no number.
pub data Beside {A B : Type 0} (U : Type 0) (R : A → B → Type 0) (S : World → World → Type 0) : Meaning A → Meaning B → Type 0 where
  beside_err : (e : FsError) → Beside U R S (Err e) (Err e)
  beside_ok : {a : A} {b : B} {v u : World} → R a b → S v u → Beside U R S (Ok (a, v)) (Ok (b, u))
  used_up : {m : Meaning B} → U → Beside U R S (Err GeneralFailure) m

module _ {A B : Type 0} {U : Type 0} {R : A → B → Type 0} {S : World → World → Type 0} where
  refuse_beside : (b c : Bool) (e : FsError) (m : Meaning A) (n : Meaning B) → b ≡ c → (b ≡ false → Beside U R S m n) → Beside U R S (refuse_if b e m) (refuse_if c e n)
  refuse_beside true true e m n same go = beside_err e
  refuse_beside false false e m n same go = go refl
  refuse_beside true false e m n same go = absurd (true≢false same)
  refuse_beside false true e m n same go = absurd (true≢false (sym same))

  if_beside : (b : Bool) (m m' : Meaning A) (n n' : Meaning B) → Beside U R S m n → Beside U R S m' n' → Beside U R S (if b then m else m') (if b then n else n')
  if_beside true m m' n n' one other = one
  if_beside false m m' n n' one other = other

  room_by : (w v : World) → U → v.next ≤ w.next → w.next ≤ last_number → (m : Meaning A) (n : Meaning B) (b c : Bool) → (w.next == last_number) ≡ b → (v.next == last_number) ≡ c
      → Beside U R S m n → Beside U R S (refuse_if b GeneralFailure m) (refuse_if c GeneralFailure n)
  room_by w v u low top m n true c is is' go = used_up u
  room_by w v u low top m n false false is is' go = go
  room_by w v u low top m n false true is is' go =
      let differ = eqb-false w.next last_number is in
      let same : v.next ≡ last_number = eqb-true v.next last_number is' in
      absurd (omega (arith, low, top, differ, same))

  -- where a number is left to the first, one is left to the second
  room_beside : (w v : World) → U → v.next ≤ w.next → w.next ≤ last_number → (m : Meaning A) (n : Meaning B) → Beside U R S m n
      → Beside U R S (refuse_if (w.next == last_number) GeneralFailure m) (refuse_if (v.next == last_number) GeneralFailure n)
  room_beside w v u low top m n go = room_by w v u low top m n (w.next == last_number) (v.next == last_number) refl refl go

-- ---- what stands at one path in both

data Shows : Option Node → Option Node → Type 0 where
  nothing : Shows None None
  something : {n m : Node} → content_of n ≡ content_of m → Shows (Some n) (Some m)

shows_by : (o p : Option Node) → option_map content_of o ≡ option_map content_of p → Shows o p
shows_by None None same = nothing
shows_by (Some n) (Some m) same = something (let s : content_of n ≡ content_of m = cc in s)
shows_by None (Some m) same = cc
shows_by (Some n) None same = cc

node_beside : {A B : Type 0} {U : Type 0} {R : A → B → Type 0} {S : World → World → Type 0} {o p : Option Node} (f : Node → Meaning A) (g : Node → Meaning B)
    → Shows o p → ((n m : Node) → content_of n ≡ content_of m → Beside U R S (f n) (g m)) → Beside U R S (at_node o f) (at_node p g)
node_beside f g nothing go = beside_err NotFound
node_beside f g (something {n} {m} same) go = go n m same

kind_same : (n m : Node) → content_of n ≡ content_of m → n.kind ≡ m.kind
kind_same n m same = ap (λ (s : Content). s.0) same

told_same : (n m : Node) → content_of n ≡ content_of m → SameMetadata (metadata_of n) (metadata_of m)
told_same n m same = record { len = ap (λ (k : Kind). length (bytes_of k)) (kind_same n m same); dir = ap is_folder_kind (kind_same n m same); numbered = refl }

properties_same : (n m : Node) → content_of n ≡ content_of m → n.properties ≡ m.properties
properties_same n m same = ap (λ (s : Content). s.1) same

missing_same : {o p : Option Node} → Shows o p → is_none o ≡ is_none p
missing_same nothing = refl
missing_same (something same) = refl

folder_same : {o p : Option Node} → Shows o p → is_folder_node o ≡ is_folder_node p
folder_same nothing = refl
folder_same (something {n} {m} same) = ap is_folder_kind (kind_same n m same)

file_same : {o p : Option Node} → Shows o p → is_file_node o ≡ is_file_node p
file_same nothing = refl
file_same (something {n} {m} same) = ap (λ (k : Kind). not (is_folder_kind k)) (kind_same n m same)

listed_same : {o p : Option Node} → Shows o p → option_map (λ n. is_folder_kind n.kind) o ≡ option_map (λ n. is_folder_kind n.kind) p
listed_same nothing = refl
listed_same (something {n} {m} same) = ap (λ (k : Kind). Some (is_folder_kind k)) (kind_same n m same)

pub parent_below : (x : List ℕ) (p : Path) → ((x ∷ p ≡ []) ⊎ ((z : List ℕ) × (x ∷ p ≡ parent_of (x ∷ p) ++ z ∷ []))) → is_under (x ∷ p) (parent_of (x ∷ p)) ≡ true
parent_below x p (inl e) = cc
parent_below x p (inr (z, e)) = ap (λ (q : Path). has_names (rest_after (parent_of (x ∷ p)) q)) e ∙ ap has_names (rest_after-append (parent_of (x ∷ p)) (z ∷ []))

kind_folder : (k : Kind) → is_folder_kind k ≡ true → k ≡ Folder
kind_folder Folder is = refl
kind_folder (File bytes) is = cc

-- two folders
folders_beside : {S : World → World → Type 0} (w v : World) (o p : Option Node) → is_folder_node o ≡ true → is_folder_node p ≡ true → S w v
    → Beside ⊥ SameMetadata S (at_node o (λ n. Ok (metadata_of n, w))) (at_node p (λ n. Ok (metadata_of n, v)))
folders_beside w v None p is also s = cc
folders_beside w v (Some n) None is also s = cc
folders_beside w v (Some n) (Some m) is also s =
    let one : n.kind ≡ m.kind = kind_folder n.kind is ∙ sym (kind_folder m.kind also) in
    beside_ok (record { len = ap (λ (k : Kind). length (bytes_of k)) one; dir = ap is_folder_kind one; numbered = refl }) s

then_same : {X Y : Type 0} (f g : X → Option Y) (o : Option X) → ((x : X) → f x ≡ g x) → option_and_then f o ≡ option_and_then g o
then_same f g None same = refl
then_same f g (Some x) same = same x

both_same : {a b c d : Bool} → a ≡ c → b ≡ d → (a && b) ≡ (c && d)
both_same p q = λ i. p i && q i

either_same : {X : Type 0} {a b c d : Option X} → a ≡ c → b ≡ d → option_or a b ≡ option_or c d
either_same p q = λ i. option_or (p i) (q i)

-- what two worlds go on with
abbrev pub Like : Path → World → World → Type 0
Like folder w v = SameInside folder w v × (v.next ≤ w.next)

module _ (folder : Path) (w v : World) (same : SameInside folder w v) (low : v.next ≤ w.next) (above : HasFoldersAbove folder w) (above' : HasFoldersAbove folder v) (world : IsWorld w) where
  at_both : (rest : Path) → Shows (node_at w (folder ++ rest)) (node_at v (folder ++ rest))
  at_both rest = shows_by (node_at w (folder ++ rest)) (node_at v (folder ++ rest)) (same rest)

  pub metadata_beside : (rest : Path) → Beside ⊥ SameMetadata (Like folder) (metadata w (folder ++ rest)) (metadata v (folder ++ rest))
  metadata_beside rest = node_beside _ _ (at_both rest) (λ n m s. beside_ok (told_same n m s) (same, low))

  root_parent : (f : Path) → f ≡ folder → is_folder w (parent_of f) ≡ is_folder v (parent_of f)
  root_parent [] is = let e : folder ++ [] ≡ [] = append-nil folder ∙ sym is in ap (is_folder w) (sym e) ∙ folder_same (at_both []) ∙ ap (is_folder v) e
  root_parent (x ∷ f) is =
      let up : is_under folder (parent_of (x ∷ f)) ≡ true = ap (λ (under : Path). is_under under (parent_of (x ∷ f))) (sym is) ∙ parent_below x f (shape (x ∷ f)) in
      above (parent_of (x ∷ f)) up ∙ sym (above' (parent_of (x ∷ f)) up)

  parent_same : (rest : Path) → is_folder w (parent_of (folder ++ rest)) ≡ is_folder v (parent_of (folder ++ rest))
  parent_same [] = ap (λ (p : Path). is_folder w (parent_of p)) (append-nil folder) ∙ root_parent folder refl ∙ ap (λ (p : Path). is_folder v (parent_of p)) (sym (append-nil folder))
  parent_same (x ∷ rest) =
      ap (is_folder w) (parent-append folder x rest) ∙ folder_same (at_both (parent_of (x ∷ rest))) ∙ ap (is_folder v) (sym (parent-append folder x rest))

  new_like : (rest : Path) (kind : Kind) (properties : Properties) (now : ℕ) → Like folder (with_new w (folder ++ rest) kind properties now) (with_new v (folder ++ rest) kind properties now)
  new_like rest kind properties now = (
    λ q. content-new w (folder ++ rest) kind properties now (folder ++ q)
        ∙ ap (cond (is_same_path (folder ++ q) (folder ++ rest)) (Some (kind, properties))) (same q)
        ∙ sym (content-new v (folder ++ rest) kind properties now (folder ++ q)),
    omega (arith, low),
  )

  changed_like : (rest : Path) (f f' : Node → Node) (g : Content → Content) → ((n : Node) → content_of (f n) ≡ g (content_of n)) → ((n : Node) → content_of (f' n) ≡ g (content_of n))
      → Like folder (record { nodes = adjust (folder ++ rest) f w.nodes; next = w.next + 1 }) (record { nodes = adjust (folder ++ rest) f' v.nodes; next = v.next + 1 })
  changed_like rest f f' g is is' = (
    λ q. content-adjust (folder ++ rest) f g is (folder ++ q) w.nodes
        ∙ ap (λ o. cond (is_same_path (folder ++ rest) (folder ++ q)) (option_map g o) o) (same q)
        ∙ sym (content-adjust (folder ++ rest) f' g is' (folder ++ q) v.nodes),
    omega (arith, low),
  )

  pub create_beside : (U : Type 0) → U → (rest : Path) (now : ℕ) → Beside U (λ a b. ⊤) (Like folder) (create_dir w (folder ++ rest) now) (create_dir v (folder ++ rest) now)
  create_beside U u rest now =
      refuse_beside _ _ Exists _ _ (ap not (missing_same (at_both rest))) (λ _.
      refuse_beside _ _ NotFound _ _ (ap not (parent_same rest)) (λ _.
      room_beside w v u low world.next _ _ (beside_ok tt (new_like rest Folder [] now))))

  open_beside_at : (U : Type 0) → U → (rest : Path) (how : Opening) (now : ℕ) {o p : Option Node} → Shows o p
      → Beside U SameHandle (Like folder) (open_at w (folder ++ rest) how now o) (open_at v (folder ++ rest) how now p)
  open_beside_at U u rest how now nothing =
      refuse_beside (not (how.create || how.create_new)) (not (how.create || how.create_new)) NotFound _ _ refl (λ _.
      refuse_beside _ _ NotFound _ _ (ap not (parent_same rest)) (λ _.
      room_beside w v u low world.next _ _ (beside_ok {a = opened w.next how} {b = opened v.next how} refl (new_like rest (File []) [] now))))
  open_beside_at U u rest how now (something {n} {m} s) =
      refuse_beside _ _ Forbidden _ _ (ap is_folder_kind (kind_same n m s)) (λ _.
      refuse_beside how.create_new how.create_new Exists _ _ refl (λ _.
      if_beside how.truncate _ _ _ _
      (room_beside w v u low world.next _ _ (beside_ok {a = opened n.made how} {b = opened m.made how} refl (changed_like rest (emptied w.next now) (emptied v.next now) (λ s. (File [], s.1)) (λ x. refl) (λ x. refl))))
      (beside_ok {a = opened n.made how} {b = opened m.made how} refl (same, low))))

  -- ---- what is copied

  copied_by : (rest : Path) (n m : Node) (now : ℕ) → content_of n ≡ content_of m → {o p : Option Node} → Shows o p → Like folder (with_copy w (folder ++ rest) n o now) (with_copy v (folder ++ rest) m p now)
  copied_by rest n m now s nothing =
      subst (λ (c : Content). Like folder (with_new w (folder ++ rest) n.kind n.properties now) (with_new v (folder ++ rest) c.0 c.1 now)) s (new_like rest n.kind n.properties now)
  copied_by rest n m now s (something t) = changed_like rest (copied_over n w.next now) (copied_over m v.next now) (λ c. content_of n) (λ x. refl) (λ x. sym s)

  pub copy_beside : (U : Type 0) → U → (from to : Path) (now : ℕ) → Beside U (λ a b. ⊤) (Like folder) (copy w (folder ++ from) (folder ++ to) now) (copy v (folder ++ from) (folder ++ to) now)
  copy_beside U u from to now =
      node_beside _ _ (at_both from) (λ n m s.
      refuse_beside _ _ Forbidden _ _ (ap is_folder_kind (kind_same n m s)) (λ _.
      refuse_beside (is_same_path (folder ++ from) (folder ++ to)) (is_same_path (folder ++ from) (folder ++ to)) Forbidden _ _ refl (λ _.
      refuse_beside _ _ Forbidden _ _ (folder_same (at_both to)) (λ _.
      refuse_beside _ _ NotFound _ _ (ap not (parent_same to)) (λ _.
      room_beside w v u low world.next _ _ (beside_ok tt (copied_by to n m now s (at_both to))))))))

  pub open_beside : (U : Type 0) → U → (rest : Path) (how : Opening) (now : ℕ)
      → Beside U SameHandle (Like folder) (open_at w (folder ++ rest) how now (node_at w (folder ++ rest))) (open_at v (folder ++ rest) how now (node_at v (folder ++ rest)))
  open_beside U u rest how now = open_beside_at U u rest how now (at_both rest)

  -- ---- dead properties

  patched_like : (rest : Path) (patches : List Patch) → Like folder (record w { nodes = adjust (folder ++ rest) (repatched patches) w.nodes }) (record v { nodes = adjust (folder ++ rest) (repatched patches) v.nodes })
  patched_like rest patches =
      let g : Content → Content = λ s. (s.0, patched patches s.1) in (
        λ q. content-adjust (folder ++ rest) (repatched patches) g (λ n. refl) (folder ++ q) w.nodes
            ∙ ap (λ o. cond (is_same_path (folder ++ rest) (folder ++ q)) (option_map g o) o) (same q)
            ∙ sym (content-adjust (folder ++ rest) (repatched patches) g (λ n. refl) (folder ++ q) v.nodes),
        low,
      )

  pub patch_beside : (rest : Path) (patches : List Patch) → Beside ⊥ (λ a b. a ≡ b) (Like folder) (patch_props w (folder ++ rest) patches) (patch_props v (folder ++ rest) patches)
  patch_beside rest patches = node_beside _ _ (at_both rest) (λ n m s. beside_ok refl (patched_like rest patches))

  pub get_props_beside : (rest : Path) (content : Bool) → Beside ⊥ (λ a b. a ≡ b) (Like folder) (get_props w (folder ++ rest) content) (get_props v (folder ++ rest) content)
  get_props_beside rest content = node_beside _ _ (at_both rest) (λ n m s. beside_ok (ap (λ (ps : Properties). map (shown_property content) ps) (properties_same n m s)) (same, low))

  tree_beside : (o : Option (Option ElementTree)) → Beside ⊥ (λ a b. a ≡ b) (Like folder) (stored_tree o w) (stored_tree o v)
  tree_beside None = beside_err NotFound
  tree_beside (Some None) = beside_err NotFound
  tree_beside (Some (Some tree)) = beside_ok refl (same, low)

  pub get_prop_beside : (rest : Path) (key : PropertyKey) → Beside ⊥ (λ a b. a ≡ b) (Like folder) (get_prop w (folder ++ rest) key) (get_prop v (folder ++ rest) key)
  get_prop_beside rest key =
      node_beside _ _ (at_both rest) (λ n m s.
      subst (λ (ps : Properties). Beside ⊥ (λ a b. a ≡ b) (Like folder) (stored_tree (find key_cmp key n.properties) w) (stored_tree (find key_cmp key ps) v)) (properties_same n m s)
      (tree_beside (find key_cmp key n.properties)))

  -- ---- what is listed and removed

  without_like : (rest : Path) (now : ℕ) → Like folder (without w (folder ++ rest) now) (without v (folder ++ rest) now)
  without_like rest now = (
    λ q. content-removed w (folder ++ rest) now (folder ++ q)
        ∙ ap (cond (is_at_or_under (folder ++ q) (folder ++ rest)) None) (same q)
        ∙ sym (content-removed v (folder ++ rest) now (folder ++ q)),
    low,
  )

  pub remove_file_beside : (rest : Path) (now : ℕ) → Beside ⊥ (λ a b. ⊤) (Like folder) (remove_file w (folder ++ rest) now) (remove_file v (folder ++ rest) now)
  remove_file_beside rest now =
      refuse_beside _ _ NotFound _ _ (missing_same (at_both rest)) (λ _.
      refuse_beside _ _ Forbidden _ _ (folder_same (at_both rest)) (λ _.
      beside_ok tt (without_like rest now)))

  module _ (world' : IsWorld v) where
    members_alike : (rest : Path) → members (folder ++ rest) w.nodes ≡ members (folder ++ rest) v.nodes
    members_alike rest =
        members_same (folder ++ rest) (folder ++ rest) w v world world' (λ x.
        subst (λ (p : Path). option_map (λ n. is_folder_kind n.kind) (node_at w p) ≡ option_map (λ n. is_folder_kind n.kind) (node_at v p))
        (sym (append_assoc folder rest (x ∷ []))) (listed_same (at_both (rest ++ x ∷ []))))

    pub read_dir_beside : (rest : Path) → Beside ⊥ (λ a b. a ≡ b) (Like folder) (read_dir w (folder ++ rest)) (read_dir v (folder ++ rest))
    read_dir_beside rest =
        refuse_beside _ _ NotFound _ _ (missing_same (at_both rest)) (λ _.
        refuse_beside _ _ Forbidden _ _ (file_same (at_both rest)) (λ _.
        beside_ok (members_alike rest) (same, low)))

    pub remove_dir_beside : (rest : Path) (now : ℕ) → Beside ⊥ (λ a b. ⊤) (Like folder) (remove_dir w (folder ++ rest) now) (remove_dir v (folder ++ rest) now)
    remove_dir_beside rest now =
        refuse_beside (is_root (folder ++ rest)) (is_root (folder ++ rest)) Forbidden _ _ refl (λ _.
        refuse_beside _ _ NotFound _ _ (missing_same (at_both rest)) (λ _.
        refuse_beside _ _ Forbidden _ _ (file_same (at_both rest)) (λ _.
        refuse_beside _ _ Exists _ _ (ap is_nonempty (members_alike rest)) (λ _.
        beside_ok tt (without_like rest now)))))

    -- ---- what is moved

    moved_like : (from to : Path) (now : ℕ) → Like folder (renamed_world w (folder ++ from) (folder ++ to) now) (renamed_world v (folder ++ from) (folder ++ to) now)
    moved_like from to now = (
      λ q. content-renamed w (folder ++ from) (folder ++ to) now (folder ++ q)
          ∙ either_same
          (then_same _ _ (rest_after (folder ++ to) (folder ++ q)) (λ rest. ap (λ (p : Path). content_at p w.nodes) (append_assoc folder from rest) ∙ same (from ++ rest) ∙ ap (λ (p : Path). content_at p v.nodes) (sym (append_assoc folder from rest))))
          (ap (λ o. cond (is_at_or_under (folder ++ q) (folder ++ to)) None (cond (is_at_or_under (folder ++ q) (folder ++ from)) None o)) (same q))
          ∙ sym (content-renamed v (folder ++ from) (folder ++ to) now (folder ++ q)),
      low,
    )

    pub rename_beside : (from to : Path) (now : ℕ) → Beside ⊥ (λ a b. ⊤) (Like folder) (rename w (folder ++ from) (folder ++ to) now) (rename v (folder ++ from) (folder ++ to) now)
    rename_beside from to now =
        refuse_beside (is_root (folder ++ from) || is_root (folder ++ to)) (is_root (folder ++ from) || is_root (folder ++ to)) Forbidden _ _ refl (λ _.
        refuse_beside _ _ NotFound _ _ (missing_same (at_both from)) (λ _.
        if_beside (is_same_path (folder ++ from) (folder ++ to)) _ _ _ _ (beside_ok tt (same, low))
        (refuse_beside (is_under (folder ++ to) (folder ++ from)) (is_under (folder ++ to) (folder ++ from)) Forbidden _ _ refl (λ _.
        refuse_beside _ _ NotFound _ _ (ap not (parent_same to)) (λ _.
        refuse_beside _ _ Exists _ _ (both_same (folder_same (at_both to)) (ap is_nonempty (members_alike to))) (λ _.
        beside_ok tt (moved_like from to now)))))))

  -- ---- an open file

  module _ (file : BothOpen) (here : IsFileAt w (folder ++ file.at) file.here) (alone : IsFileAt v (folder ++ file.at) file.alone) (world' : IsWorld v) where
    abbrev one : Node
    one = here.0

    abbrev other : Node
    other = alone.0

    pair_shown : content_of one ≡ content_of other
    pair_shown =
        let s : ◌≡◌ {A = Option Content} (Some (content_of one)) (Some (content_of other)) = sym (ap (option_map content_of) here.1) ∙ same file.at ∙ ap (option_map content_of) alone.1 in
        let t : content_of one ≡ content_of other = cc in t

    kinds : one.kind ≡ other.kind
    kinds = kind_same one other pair_shown

    first_made : (made : ℕ) → made ≡ file.here → file_made_with made w.nodes ≡ Some one
    first_made made is = ap (λ k. file_made_with k w.nodes) (is ∙ sym here.2) ∙ stands_made w world (folder ++ file.at) one here.1 here.3

    second_made : (made : ℕ) → made ≡ file.alone → file_made_with made v.nodes ≡ Some other
    second_made made is = ap (λ k. file_made_with k v.nodes) (is ∙ sym alone.2) ∙ stands_made v world' (folder ++ file.at) other alone.1 alone.3

    -- a change of the file is one at its path
    first_changed : (made : ℕ) → made ≡ file.here → (f : Node → Node) → change_node (is_file_made_with made) f w.nodes ≡ adjust (folder ++ file.at) f w.nodes
    first_changed made is f =
        let (p, at, changed) = change_made made f w.nodes world.tree.sorted one (first_made made is) in
        changed ∙ ap (λ (q : Path). adjust q f w.nodes) (world.makings.once p (folder ++ file.at) one one at here.1 refl)

    second_changed : (made : ℕ) → made ≡ file.alone → (f : Node → Node) → change_node (is_file_made_with made) f v.nodes ≡ adjust (folder ++ file.at) f v.nodes
    second_changed made is f =
        let (p, at, changed) = change_made made f v.nodes world'.tree.sorted other (second_made made is) in
        changed ∙ ap (λ (q : Path). adjust q f v.nodes) (world'.makings.once p (folder ++ file.at) other other at alone.1 refl)

    -- what is asked of the file in both
    file_beside : {A B : Type 0} {U : Type 0} {R : A → B → Type 0} (j : Handle) (made : ℕ) → j.made ≡ file.here → made ≡ file.alone → (f : Node → Meaning A) (g : Node → Meaning B)
        → Beside U R (Like folder) (f one) (g other) → Beside U R (Like folder) (at_node (file_made_with j.made w.nodes) f) (at_node (file_made_with made v.nodes) g)
    file_beside {A} {B} {U} {R} j made is is' f g go =
        subst (λ (o : Option Node). Beside U R (Like folder) (at_node o f) (at_node (file_made_with made v.nodes) g)) (sym (first_made j.made is))
        (subst (λ (o : Option Node). Beside U R (Like folder) (f one) (at_node o g)) (sym (second_made made is')) go)

    pub flush_beside : (j : Handle) (made : ℕ) → j.made ≡ file.here → made ≡ file.alone → Beside ⊥ (λ a b. Unit {0}) (Like folder) (flush w j) (flush v (record j { made = made }))
    flush_beside j made is is' = file_beside j made is is' _ _ (beside_ok tt (same, low))

    pub tells_beside : (j : Handle) (made : ℕ) → j.made ≡ file.here → made ≡ file.alone → Beside ⊥ SameMetadata (Like folder) (file_metadata w j) (file_metadata v (record j { made = made }))
    tells_beside j made is is' = file_beside j made is is' _ _ (beside_ok (told_same one other pair_shown) (same, low))

    abbrev AreMoved : {X : Type 0} → X × Handle → X × Handle → Type 0
    AreMoved x y = (x.0 ≡ y.0) × AreOpen file x.1 y.1

    sought_beside : (j : Handle) (made : ℕ) → j.made ≡ file.here → made ≡ file.alone → (o : Option ℕ) → Beside ⊥ AreMoved (Like folder) (sought j o w) (sought (record j { made = made }) o v)
    sought_beside j made is is' None = beside_err GeneralFailure
    sought_beside j made is is' (Some k) =
        beside_ok {a = (k, record j { position = k })} {b = (k, record j { made = made; position = k })} (refl, record { same = refl; here = is; alone = is' }) (same, low)

    pub seek_beside : (j : Handle) (made : ℕ) (to : SeekFrom) → j.made ≡ file.here → made ≡ file.alone → Beside ⊥ AreMoved (Like folder) (seek w j to) (seek v (record j { made = made }) to)
    seek_beside j made to is is' =
        file_beside j made is is' (λ n. sought j (place_for to j.position (length (bytes_of n.kind))) w) (λ n. sought (record j { made = made }) (place_for to j.position (length (bytes_of n.kind))) v)
        (subst (λ (k : Kind). Beside ⊥ AreMoved (Like folder) (sought j (place_for to j.position (length (bytes_of one.kind))) w) (sought (record j { made = made }) (place_for to j.position (length (bytes_of k))) v)) kinds
        (sought_beside j made is is' (place_for to j.position (length (bytes_of one.kind)))))

    pub read_beside : (j : Handle) (made : ℕ) (count : ℕ) → j.made ≡ file.here → made ≡ file.alone → Beside ⊥ AreMoved (Like folder) (read_bytes w j count) (read_bytes v (record j { made = made }) count)
    read_beside j made count is is' =
        let chunk : Kind → List ℕ = λ k. take count (drop j.position (bytes_of k)) in
        file_beside j made is is'
        (λ n. refuse_if (not j.reads) Forbidden (Ok ((chunk n.kind, record j { position = j.position + length (chunk n.kind) }), w)))
        (λ n. refuse_if (not j.reads) Forbidden (Ok ((chunk n.kind, record j { made = made; position = j.position + length (chunk n.kind) }), v)))
        (refuse_beside (not j.reads) (not j.reads) Forbidden _ _ refl (λ _.
        beside_ok {a = (chunk one.kind, record j { position = j.position + length (chunk one.kind) })} {b = (chunk other.kind, record j { made = made; position = j.position + length (chunk other.kind) })}
        (ap chunk kinds, record { same = ap (λ (k : Kind). record j { made = made; position = j.position + length (chunk k) }) (sym kinds); here = is; alone = is' }) (same, low)))

    write_like : (j : Handle) (made : ℕ) (place : ℕ) (bytes : List ℕ) (now : ℕ) → j.made ≡ file.here → made ≡ file.alone
        → Like folder (record { nodes = change_node (is_file_made_with j.made) (written place bytes w.next now) w.nodes; next = w.next + 1 })
        (record { nodes = change_node (is_file_made_with made) (written place bytes v.next now) v.nodes; next = v.next + 1 })
    write_like j made place bytes now is is' =
        let g : Content → Content = λ s. (File (splice (bytes_of s.0) place bytes), s.1) in
        subst (λ (ns : Nodes). Like folder (record { nodes = ns; next = w.next + 1 }) (record { nodes = change_node (is_file_made_with made) (written place bytes v.next now) v.nodes; next = v.next + 1 })) (sym (first_changed j.made is (written place bytes w.next now)))
        (subst (λ (ns : Nodes). Like folder (record { nodes = adjust (folder ++ file.at) (written place bytes w.next now) w.nodes; next = w.next + 1 }) (record { nodes = ns; next = v.next + 1 })) (sym (second_changed made is' (written place bytes v.next now)))
        (changed_like file.at (written place bytes w.next now) (written place bytes v.next now) g (λ n. refl) (λ n. refl)))

    write_at : (U : Type 0) → U → (j : Handle) (made : ℕ) (bytes : List ℕ) (now : ℕ) → j.made ≡ file.here → made ≡ file.alone → (place : ℕ)
        → Beside U (AreOpen file) (Like folder)
        (refuse_if (not j.writes) Forbidden (refuse_if (nat_lt max_file_len (place + length bytes)) TooLarge (if is_nonempty bytes
        then refuse_if (w.next == last_number) GeneralFailure (Ok (record j { position = place + length bytes }, record { nodes = change_node (is_file_made_with j.made) (written place bytes w.next now) w.nodes; next = w.next + 1 }))
        else Ok (j, w))))
        (refuse_if (not j.writes) Forbidden (refuse_if (nat_lt max_file_len (place + length bytes)) TooLarge (if is_nonempty bytes
        then refuse_if (v.next == last_number) GeneralFailure (Ok (record j { made = made; position = place + length bytes }, record { nodes = change_node (is_file_made_with made) (written place bytes v.next now) v.nodes; next = v.next + 1 }))
        else Ok (record j { made = made }, v))))
    write_at U u j made bytes now is is' place =
        refuse_beside (not j.writes) (not j.writes) Forbidden _ _ refl (λ _.
        refuse_beside (nat_lt max_file_len (place + length bytes)) (nat_lt max_file_len (place + length bytes)) TooLarge _ _ refl (λ _.
        if_beside (is_nonempty bytes) _ _ _ _
        (room_beside w v u low world.next _ _ (beside_ok {a = record j { position = place + length bytes }} {b = record j { made = made; position = place + length bytes }}
        (record { same = refl; here = is; alone = is' }) (write_like j made place bytes now is is')))
        (beside_ok {a = j} {b = record j { made = made }} (record { same = refl; here = is; alone = is' }) (same, low))))

    abbrev writing : Handle → World → List ℕ → ℕ → ℕ → Meaning Handle
    writing k x bytes now place =
        refuse_if (not k.writes) Forbidden (refuse_if (nat_lt max_file_len (place + length bytes)) TooLarge (if is_nonempty bytes
        then refuse_if (x.next == last_number) GeneralFailure (Ok (record k { position = place + length bytes }, record { nodes = change_node (is_file_made_with k.made) (written place bytes x.next now) x.nodes; next = x.next + 1 }))
        else Ok (k, x)))

    pub write_beside : (U : Type 0) → U → (j : Handle) (made : ℕ) (bytes : List ℕ) (now : ℕ) → j.made ≡ file.here → made ≡ file.alone
        → Beside U (AreOpen file) (Like folder) (write_bytes w j bytes now) (write_bytes v (record j { made = made }) bytes now)
    write_beside U u j made bytes now is is' =
        file_beside j made is is' (λ n. writing j w bytes now (write_place j (bytes_of n.kind))) (λ n. writing (record j { made = made }) v bytes now (write_place j (bytes_of n.kind)))
        (subst (λ (k : Kind). Beside U (AreOpen file) (Like folder) (writing j w bytes now (write_place j (bytes_of one.kind))) (writing (record j { made = made }) v bytes now (write_place j (bytes_of k)))) kinds
        (write_at U u j made bytes now is is' (write_place j (bytes_of one.kind))))
