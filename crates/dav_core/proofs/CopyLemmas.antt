-- What a copy makes, and what copies and removals leave alone.
use Rattle.std.proofs.Common.{◌≡◌, ℕ, ◌==◌, Bool, true, false, not, cond, Option, Some, None, Ok, Err, ◌⊎◌, inl, inr, refl, sym, ap, subst, ◌∙◌}
use Rattle.std.specs.Option.{is_none, option_map}
use Rattle.std.specs.FinMap.{find, put}
use Rattle.dav_core.specs.declared.errors.FsError.TheVariants.{GeneralFailure, Exists, NotFound, Forbidden}
use Rattle.dav_core.specs.Path.{Path, path_cmp, is_same_path, is_root, parent_of}
use Rattle.dav_core.specs.World.{World, Node, fresh, node_at, is_folder_kind, is_folder_node, is_file_node, is_folder, has_members, modified_at, last_number}
use Rattle.dav_core.specs.Meaning.{Meaning, refuse_if, at_node}
use Rattle.dav_core.specs.Calls.{copy, copied_over, with_copy}
use Rattle.dav_core.specs.Asking.{meaning}
use Rattle.dav_core.specs.CallLaws.{IsCopy, CopyBrings, CopySparesFolders, RemovalSparesMembers}
use Rattle.dav_core.proofs.NodesLemmas.{find-adjust, find-put_node, path-itself}
use Rattle.dav_core.proofs.StepLemmas.{found, went_on, left}
use Rattle.dav_core.proofs.FollowLemmas.{after-adjust}

module _ (w : World) (to : Path) (source : Node) (now : ℕ) where
  abbrev a_copy : Node
  a_copy = record (fresh w.next source.kind now) { properties = source.properties }

  copied_new : (q : Path) (m : Node) → (m ≡ a_copy) ⊎ ((q ≡ to) × (m ≡ modified_at now a_copy)) → IsCopy source w.next now m
  copied_new q m (inl e) = subst (IsCopy source w.next now) (sym e) (record { kind = refl; properties = refl; number_is = refl; created = refl; modified = refl })
  copied_new q m (inr (_, e)) = subst (IsCopy source w.next now) (sym e) (record { kind = refl; properties = refl; number_is = refl; created = refl; modified = refl })

  brings : (o : Option Node) → node_at w to ≡ o → (m : Node) × (node_at (with_copy w to source o now) to ≡ Some m) × IsCopy source w.next now m
  brings None none =
      let (m, there, how) = after-adjust (parent_of to) (modified_at now) (put path_cmp to a_copy w.nodes) to a_copy
      (find-put_node to to a_copy w.nodes ∙ ap (λ b. cond b (Some a_copy) (find path_cmp to w.nodes)) (path-itself to)) in
      (m, there, copied_new (parent_of to) m how)
  brings (Some n) there = (
    copied_over source w.next now n,
    find-adjust to (copied_over source w.next now) to w.nodes
        ∙ ap (λ b. cond b (option_map (copied_over source w.next now) (node_at w to)) (node_at w to)) (path-itself to)
        ∙ ap (option_map (copied_over source w.next now)) there,
    record { kind = refl; properties = refl; number_is = refl; created = refl; modified = refl },
  )

copy_by : (from to : Path) (now : ℕ) (w : World) (r : Unit {0} × World) (source : Node) → copy w from to now ≡ Ok r → node_at w from ≡ Some source
    → (m : Node) × (node_at r.1 to ≡ Some m) × IsCopy source w.next now m
copy_by from to now w r source h stood =
    let (n, there, h1) = found (node_at w from) _ r h in
    let (file, h2) = went_on (is_folder_kind n.kind) Forbidden _ r h1 in
    let (differ, h3) = went_on (is_same_path from to) Forbidden _ r h2 in
    let (over, h4) = went_on (is_folder w to) Forbidden _ r h3 in
    let (folder, h5) = went_on (not (is_folder w (parent_of to))) NotFound _ r h4 in
    let (room, h6) = went_on (w.next == last_number) GeneralFailure _ r h5 in
    let is : r.1 ≡ with_copy w to n (node_at w to) now = left tt (with_copy w to n (node_at w to) now) r h6 in
    let both : Some n ≡ Some source = sym there ∙ stood in
    let one : n ≡ source = cc in
    let (m, stands, copied) = brings w to n now (node_at w to) refl in
    (m, ap (λ (x : World). node_at x to) is ∙ stands, subst (λ (x : Node). IsCopy x w.next now m) one copied)

pub copy_brings : CopyBrings
unfolding meaning
copy_brings from to now w r source h stood = copy_by from to now w r source h stood

forbids : {A : Type 0} (a b c : Bool) (m : Meaning A) → c ≡ true → refuse_if a Forbidden (refuse_if b Forbidden (refuse_if c Forbidden m)) ≡ Err Forbidden
forbids true b c m h = refl
forbids false true c m h = refl
forbids false false true m h = refl
forbids false false false m h = cc

at_some : {A : Type 0} (o : Option Node) (f : Node → Meaning A) → is_none o ≡ false → ((n : Node) → f n ≡ Err Forbidden) → at_node o f ≡ Err Forbidden
at_some None f some h = cc
at_some (Some n) f some h = h n

pub copy_spares_folders : CopySparesFolders
unfolding meaning
copy_spares_folders from to now w some folder = at_some (node_at w from) _ some (λ n. forbids (is_folder_kind n.kind) (is_same_path from to) (is_folder w to) _ folder)

refuses : {A : Type 0} (root full : Bool) (o : Option Node) (m : Meaning A) → root ≡ false → is_folder_node o ≡ true → full ≡ true
    → refuse_if root Forbidden (refuse_if (is_none o) NotFound (refuse_if (is_file_node o) Forbidden (refuse_if full Exists m))) ≡ Err Exists
refuses root full None m a b c = cc
refuses true full (Some n) m a b c = cc
refuses false false (Some n) m a b c = cc
refuses false true (Some n) m a b c = ap (λ k. refuse_if (not k) Forbidden (Err Exists)) b

pub removal_spares_members : RemovalSparesMembers
unfolding meaning
removal_spares_members p now w some folder full = refuses (is_root p) (has_members w p) (node_at w p) _ some folder full
