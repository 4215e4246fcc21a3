-- What a call takes away is gone, and open files no longer refer to it.
use Rattle.std.proofs.Common.{◌≡◌, ◌≢◌, ℕ, ◌||◌, ◌&&◌, ◌≤◌, true, false, not, [], append-nil, Option, Some, None, Ok, inl, inr, refl, sym, ap, ◌∙◌}
use Rattle.std.specs.Option.{is_some}
use Rattle.dav_core.specs.declared.errors.FsError.TheVariants.{Exists, NotFound, Forbidden}
use Rattle.dav_core.specs.Path.{Path, is_same_path, is_at_or_under, is_under, is_root, parent_of}
use Rattle.dav_core.specs.World.{World, Node, node_at, is_folder, is_file, is_missing, has_members, prune, modified_at, file_made_with, last_moment, IsWorld}
use Rattle.dav_core.specs.Calls.{rename, remove_dir, remove_file, without}
use Rattle.dav_core.specs.Asking.{RemoveDir, RemoveFile, Rename, meaning}
use Rattle.dav_core.specs.CallLaws.{TakenIsGone, TakenFilesAreGone}
use Rattle.dav_core.proofs.NodesLemmas.{CameFrom, back-adjust, same_path}
use Rattle.dav_core.proofs.FrontLemmas.{rest_after-append, outside}
use Rattle.dav_core.proofs.CarriedLemmas.{Same, Same-adjust, Same-modified, CameBy, back-prune, renamed_world, back-renamed}
use Rattle.dav_core.proofs.MadeLemmas.{made_stands}
use Rattle.dav_core.proofs.StepLemmas.{went_on, went_if, left}
use Rattle.dav_core.proofs.KeptLemmas.{calls_keep_worlds}

at-itself : (p : Path) → is_at_or_under p p ≡ true
at-itself p = ap (λ y. is_at_or_under y p) (sym (append-nil p)) ∙ ap is_some (rest_after-append p [])

module _ (w : World) (p : Path) (now : ℕ) (small : now ≤ last_moment) (world : IsWorld w) (n : Node) (stood : node_at w p ≡ Some n) (q : Path) (m : Node) where
  -- after a removal nothing has the change number under which the removed node was created
  gone_without : node_at (without w p now) q ≡ Some m → m.made ≢ n.made
  gone_without h same =
      let from : CameFrom (parent_of p) (modified_at now) (prune p w.nodes) q m = back-adjust (parent_of p) (modified_at now) (prune p w.nodes) q m h in
      let (out, there) = back-prune p w.nodes q from.node from.stood in
      let is : Same from.node m = Same-adjust (parent_of p) (modified_at now) (prune p w.nodes) (λ x. Same-modified now x small) q m from in
      let path : q ≡ p = world.makings.once q p from.node n there stood (sym is.made ∙ same) in
      let met : is_at_or_under q p ≡ true = ap (λ y. is_at_or_under y p) path ∙ at-itself p in
      cc

  -- nor after a rename to the path
  gone_by : (from s : Path) → is_at_or_under p from ≡ false → s ≡ p → CameBy from p q s → ⊥
  gone_by from s out path (inl (r, e, g)) =
      let met : is_at_or_under p from ≡ true = ap (λ y. is_at_or_under y from) (sym path ∙ g) ∙ ap is_some (rest_after-append from r) in
      cc
  gone_by from s out path (inr (e, a, b)) =
      let met : is_at_or_under q p ≡ true = ap (λ y. is_at_or_under y p) (e ∙ path) ∙ at-itself p in
      cc

  gone_renamed : (from : Path) → is_at_or_under p from ≡ false → node_at (renamed_world w from p now) q ≡ Some m → m.made ≢ n.made
  gone_renamed from out h same =
      let (s, x, came, there, is) = back-renamed w from p now small q m h in
      gone_by from s out (world.makings.once s p x n there stood (sym is.made ∙ same)) came

file_removed : (w : World) (p : Path) (now : ℕ) (r : Unit {0} × World) → remove_file w p now ≡ Ok r → r.1 ≡ without w p now
file_removed w p now r h =
    let (there, h1) = went_on (is_missing w p) NotFound _ r h in
    let (file, h2) = went_on (is_folder w p) Forbidden _ r h1 in
    left tt (without w p now) r h2

dir_removed : (w : World) (p : Path) (now : ℕ) (r : Unit {0} × World) → remove_dir w p now ≡ Ok r → r.1 ≡ without w p now
dir_removed w p now r h =
    let (some, h1) = went_on (is_root p) Forbidden _ r h in
    let (there, h2) = went_on (is_missing w p) NotFound _ r h1 in
    let (folder, h3) = went_on (is_file w p) Forbidden _ r h2 in
    let (empty, h4) = went_on (has_members w p) Exists _ r h3 in
    left tt (without w p now) r h4

module _ (w : World) (from to : Path) (now : ℕ) (r : Unit {0} × World) where
  renamed_to : from ≢ to → rename w from to now ≡ Ok r → (is_at_or_under to from ≡ false) × (r.1 ≡ renamed_world w from to now)
  renamed_to differ h =
      let (roots, h1) = went_on (is_root from || is_root to) Forbidden _ r h in
      let (there, h2) = went_on (is_missing w from) NotFound _ r h1 in
      elim (went_if (is_same_path from to) (Ok (tt, w)) _ r h2) as (λ _. (is_at_or_under to from ≡ false) × (r.1 ≡ renamed_world w from to now)) [
        | inl same ↦ absurd (differ (same_path from to same.0))
        | inr other ↦
            let (below, h3) = went_on (is_under to from) Forbidden _ r other.1 in
            let (folder, h4) = went_on (not (is_folder w (parent_of to))) NotFound _ r h3 in
            let (empty, h5) = went_on (is_folder w to && has_members w to) Exists _ r h4 in
            (outside from to other.0 below, left tt (renamed_world w from to now) r h5)
      ]

-- the node at q in a world is at q in any world that is the same
at_world : (new w : World) (q : Path) (m : Node) → new ≡ w → node_at new q ≡ Some m → node_at w q ≡ Some m
at_world new w q m is h = ap (λ (x : World). node_at x q) (sym is) ∙ h

pub taken_is_gone : TakenIsGone
unfolding meaning
taken_is_gone (RemoveDir x now) w r p q n m proper world h stood takes there =
    gone_without w p now proper world n stood q m (at_world r.1 (without w p now) q m (dir_removed w x now r h ∙ ap (λ (y : Path). without w y now) takes) there)
taken_is_gone (RemoveFile x now) w r p q n m proper world h stood takes there =
    gone_without w p now proper world n stood q m (at_world r.1 (without w p now) q m (file_removed w x now r h ∙ ap (λ (y : Path). without w y now) takes) there)
taken_is_gone (Rename from to now) w r p q n m proper world h stood takes there =
    let (out, is) = renamed_to w from to now r takes.0 h in
    gone_renamed w p now proper.1 world n stood q m from (ap (λ y. is_at_or_under y from) (sym takes.1) ∙ out)
    (at_world r.1 (renamed_world w from p now) q m (is ∙ ap (λ (y : Path). renamed_world w from y now) takes.1) there)
taken_is_gone _ w r p q n m proper world h stood takes there = absurd takes

none_if : (o : Option Node) → ((m : Node) → o ≡ Some m → ⊥) → o ≡ None
none_if None never = refl
none_if (Some m) never = absurd (never m refl)

pub taken_files_are_gone : TakenFilesAreGone
taken_files_are_gone call w r file p n proper world h stands takes =
    let (s, stood, made, is_file) = made_stands file.made w.nodes world.tree.sorted n stands.0 in
    none_if (file_made_with file.made r.1.nodes) (λ m is.
    let (q, there, also_made, _) = made_stands file.made r.1.nodes (calls_keep_worlds call w r proper world h).tree.sorted m is in
    taken_is_gone call w r p q n m proper world h stands.1 takes there (also_made ∙ sym made))
