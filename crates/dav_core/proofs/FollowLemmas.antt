-- Where nodes are after a call, and open files with them.
use Rattle.std.proofs.Common.{◌≢◌, ◌≡◌, ℕ, ◌+◌, ◌<◌, ◌≤◌, ◌==◌, ◌||◌, ◌&&◌, Bool, true, false, not, cond, [], ◌++◌, Option, Some, None, Ok, ◌⊎◌, inl, inr, refl, sym, ap, subst, ◌∙◌, arith}
use Rattle.std.specs.Option.{option_map, unwrap_or, is_some}
use Rattle.std.specs.FinMap.{find, put}
use Rattle.dav_core.specs.declared.errors.FsError.TheVariants.{GeneralFailure, Exists, NotFound, Forbidden}
use Rattle.dav_core.specs.Path.{Path, path_cmp, is_same_path, is_at_or_under, is_under, is_root, rest_after, parent_of}
use Rattle.dav_core.specs.World.{World, Node, Nodes, Kind, File, fresh, node_at, is_folder_kind, is_folder, is_missing, has_members, prune, moved, touched, modified_at, with_new, adjust, change_node, is_file_made_with, file_made_with, last_number, IsWorld, Renumbers}
use Rattle.dav_core.specs.Property.{Properties}
use Rattle.dav_core.specs.Handle.{Handle, Opening, opened}
use Rattle.dav_core.specs.Meaning.{Meaning}
use Rattle.dav_core.specs.Calls.{rename, open_at, emptied, without}
use Rattle.dav_core.specs.Asking.{Call, Open, meaning}
use Rattle.dav_core.specs.CallLaws.{IsProper, TakesAway, brought, path_after, IsUnchanged, IsSameNode, MayChange, OthersAreUnchanged, NodesFollowRenames, NodesStay, NodesWereThere, NumbersTellBytes, NumbersLookBack, MadeStands, IsOpenOn, OpenedStands, OpenedIsOpenFile, OpenFilesStay, TakenNeverReturn}
use Rattle.dav_core.proofs.NodesLemmas.{CameFrom, back-adjust, back-put, find-adjust, find-put_node, same_path, path-itself, apart}
use Rattle.dav_core.proofs.FrontLemmas.{from_rest, no_rest}
use Rattle.dav_core.proofs.CarriedLemmas.{Same, Same-adjust, Same-modified, back-prune, stays-prune, stays-moved, arrives-moved, renamed_world, back-renamed}
use Rattle.dav_core.proofs.MadeLemmas.{passed, find-change_other, made_stands, stands_made, change_made}
use Rattle.dav_core.proofs.StepLemmas.{Step, unchanged, makes, renumbers, writes, patches, removes, renames, steps, went_on, went_if, left}
use Rattle.dav_core.proofs.KeptLemmas.{at_path, calls_keep_worlds, numbers_rise}

adjusted_by : (p : Path) (f : Node → Node) (q : Path) (n : Node) (b : Bool) → is_same_path p q ≡ b
    → (m : Node) × (cond b (Some (f n)) (Some n) ≡ Some m) × ((m ≡ n) ⊎ ((p ≡ q) × (m ≡ f n)))
adjusted_by p f q n true is = (f n, refl, inr (same_path p q is, refl))
adjusted_by p f q n false is = (n, refl, inl refl)

-- what is at a path is still there after a change at one path, changed or as it was
pub after-adjust : (p : Path) (f : Node → Node) (ns : Nodes) (q : Path) (n : Node) → find path_cmp q ns ≡ Some n
    → (m : Node) × (find path_cmp q (adjust p f ns) ≡ Some m) × ((m ≡ n) ⊎ ((p ≡ q) × (m ≡ f n)))
after-adjust p f ns q n stood =
    let (m, is, how) = adjusted_by p f q n (is_same_path p q) refl in
    (m, find-adjust p f q ns ∙ ap (λ o. cond (is_same_path p q) (option_map f o) o) stood ∙ is, how)

unchanged_by : (p q : Path) (now : ℕ) (n m : Node) → (m ≡ n) ⊎ ((p ≡ q) × (m ≡ modified_at now n)) → IsUnchanged n m
unchanged_by p q now n m (inl e) = e ∙ ap (λ (t : ℕ). record n { modified = t }) (ap (λ (x : Node). x.modified) (sym e))
unchanged_by p q now n m (inr (_, e)) = e ∙ ap (λ (t : ℕ). record n { modified = t }) (ap (λ (x : Node). x.modified) (sym e))

pub after-touched : (p : Path) (now : ℕ) (ns : Nodes) (q : Path) (n : Node) → find path_cmp q ns ≡ Some n
    → (m : Node) × (find path_cmp q (touched p now ns) ≡ Some m) × IsUnchanged n m
after-touched p now ns q n stood =
    let (m, is, how) = after-adjust (parent_of p) (modified_at now) ns q n stood in
    (m, is, unchanged_by (parent_of p) q now n m how)

unchanged_twice : (a b c : Node) → IsUnchanged a b → IsUnchanged b c → IsUnchanged a c
unchanged_twice a b c first second = second ∙ ap (λ (x : Node). record x { modified = c.modified }) first

unchanged_still : (n m : Node) → IsUnchanged n m → IsSameNode n m
unchanged_still n m is = (ap (λ (x : Node). x.made) is, ap (λ (x : Node). is_folder_kind x.kind) is)

module _ (w : World) (from to : Path) (now : ℕ) where
  after-renamed : (q : Path) (n : Node) → find path_cmp q (moved from to w.nodes) ≡ Some n
      → (m : Node) × (node_at (renamed_world w from to now) q ≡ Some m) × IsUnchanged n m
  after-renamed q n h =
      let (a, first, one) = after-touched to now (moved from to w.nodes) q n h in
      let (b, second, two) = after-touched from now (touched to now (moved from to w.nodes)) q a first in
      (b, second, unchanged_twice n a b one two)

  follow_by : (p : Path) (n : Node) → node_at w p ≡ Some n → is_at_or_under p to ≡ false → (o : Option Path) → rest_after from p ≡ o
      → (m : Node) × (node_at (renamed_world w from to now) (unwrap_or (option_map (λ rest. to ++ rest) o) p) ≡ Some m) × IsUnchanged n m
  follow_by p n stood out None is = after-renamed p n (stays-moved from to p w.nodes (ap is_some is) out ∙ stood)
  follow_by p n stood out (Some s) is =
      after-renamed (to ++ s) n (arrives-moved from to s w.nodes ∙ ap (λ (x : Path). find path_cmp x w.nodes) (sym (from_rest from p s is)) ∙ stood)

  follows : (p : Path) (n : Node) → node_at w p ≡ Some n → is_at_or_under p to ≡ false
      → (m : Node) × (node_at (renamed_world w from to now) (path_after from to p) ≡ Some m) × IsUnchanged n m
  follows p n stood out = follow_by p n stood out (rest_after from p) refl

  -- a rename that succeeds leaves the world as it was, where both paths are one, or with what was there moved
  rename_done : (r : Unit {0} × World) → rename w from to now ≡ Ok r → ((from ≡ to) × (r.1 ≡ w)) ⊎ (r.1 ≡ renamed_world w from to now)
  rename_done r h =
      let (roots, h1) = went_on (is_root from || is_root to) Forbidden _ r h in
      let (there, h2) = went_on (is_missing w from) NotFound _ r h1 in
      elim (went_if (is_same_path from to) (Ok (tt, w)) _ r h2) as (λ _. ((from ≡ to) × (r.1 ≡ w)) ⊎ (r.1 ≡ renamed_world w from to now)) [
        | inl same ↦ inl (same_path from to same.0, left tt w r same.1)
        | inr other ↦
            let (below, h3) = went_on (is_under to from) Forbidden _ r other.1 in
            let (folder, h4) = went_on (not (is_folder w (parent_of to))) NotFound _ r h3 in
            let (empty, h5) = went_on (is_folder w to && has_members w to) Exists _ r h4 in
            inr (left tt (renamed_world w from to now) r h5)
      ]

  followed : (new : World) (p : Path) (n : Node) → ((from ≡ to) × (new ≡ w)) ⊎ (new ≡ renamed_world w from to now) → node_at w p ≡ Some n → is_at_or_under p to ≡ false
      → (m : Node) × (node_at new (path_after from to p) ≡ Some m) × IsUnchanged n m
  followed new p n (inl (same, is)) stood out =
      let none : rest_after from p ≡ None = no_rest from p (ap (λ (x : Path). is_at_or_under p x) same ∙ out) in
      let path : path_after from to p ≡ p = ap (λ (o : Option Path). unwrap_or (option_map (λ rest. to ++ rest) o) p) none in
      (n, ap (λ (x : World). node_at x (path_after from to p)) is ∙ ap (node_at w) path ∙ stood, refl)
  followed new p n (inr is) stood out =
      let (m, there, same) = follows p n stood out in
      (m, ap (λ (x : World). node_at x (path_after from to p)) is ∙ there, same)

pub nodes_follow_renames : NodesFollowRenames
unfolding meaning
nodes_follow_renames from to now w r p n h stood out = followed w from to now r.1 p n (rename_done w from to now r h) stood out

decided : (b : Bool) → (b ≡ true → ⊥) → b ≡ false
decided true h = absurd (h refl)
decided false h = refl

-- the node n is still at q
abbrev Stays : World → Path → Node → Type 0
Stays new q n = (m : Node) × (node_at new q ≡ Some m) × IsSameNode n m

-- a change at one path that keeps the node the one that it is
stays-adjusted : (w : World) (p : Path) (f : Node → Node) (next : ℕ) (q : Path) (n : Node) → node_at w q ≡ Some n
    → ((m : Node) → node_at w p ≡ Some m → IsSameNode m (f m)) → Stays (record { nodes = adjust p f w.nodes; next = next }) q n
stays-adjusted w p f next q n stood keeps =
    let (m, there, how) = after-adjust p f w.nodes q n stood in (
      m,
      there,
      elim how as (λ _. IsSameNode n m) [
        | inl e ↦ (ap (λ (x : Node). x.made) e, ap (λ (x : Node). is_folder_kind x.kind) e)
        | inr e ↦
            let still : IsSameNode n (f n) = keeps n (ap (λ (x : Path). node_at w x) e.0 ∙ stood) in
            subst (λ (x : Node). IsSameNode n x) (sym e.1) still
      ],
    )

stays-touched : (p : Path) (now : ℕ) (ns : Nodes) (next : ℕ) (q : Path) (n : Node) → find path_cmp q ns ≡ Some n → Stays (record { nodes = touched p now ns; next = next }) q n
stays-touched p now ns next q n stood =
    let (m, there, same) = after-touched p now ns q n stood in
    (m, there, unchanged_still n m same)

not_put : (w : World) (p q : Path) (n : Node) → node_at w p ≡ None → node_at w q ≡ Some n → is_same_path q p ≡ false
not_put w p q n none stood = apart q p (λ e. let clash : None ≡ Some n = sym none ∙ ap (node_at w) (sym e) ∙ stood in cc)

renumbered_still : (number : ℕ) (n m : Node) → Renumbers number n m → IsSameNode n m
renumbered_still number n m r = (r.made, r.kind)

still_there : (old new : World) (p q : Path) (n : Node) → new ≡ old → q ≡ p → Stays old p n → Stays new q n
still_there old new p q n is path stays = subst (λ (x : World). Stays x q n) (sym is) (subst (λ (x : Path). Stays old x n) (sym path) stays)

step_stays : (call : Call) (w new : World) → IsProper call → IsWorld w → Step call w new → (p : Path) (n : Node) → node_at w p ≡ Some n → ¬ TakesAway call p
    → Stays new (brought call p) n
step_stays call w new proper world (unchanged brings is) p n stood kept = still_there w new p (brought call p) n is (brings p) (n, stood, (refl, refl))
step_stays call w new proper world (makes q kind properties now none folder room sound brings is) p n stood kept =
    let a_new : Node = record (fresh w.next kind now) { properties = properties } in
    still_there (with_new w q kind properties now) new p (brought call p) n is (brings p)
    (stays-touched q now (put path_cmp q a_new w.nodes) (w.next + 1) p n
    (find-put_node p q a_new w.nodes ∙ ap (λ b. cond b (Some a_new) (find path_cmp p w.nodes)) (not_put w q p n none stood) ∙ stood))
step_stays call w new proper world (renumbers q x f there room change may brings is) p n stood kept =
    still_there (record { nodes = adjust q f w.nodes; next = w.next + 1 }) new p (brought call p) n is (brings p)
    (stays-adjusted w q f (w.next + 1) p n stood (λ m at. renumbered_still w.next m (f m) (at_path w q x f there (change proper world) m at)))
step_stays call w new proper world (writes made x f first room change may brings is) p n stood kept =
    let (q, there, at) = change_made made f w.nodes world.tree.sorted x first in
    let same : new ≡ record { nodes = adjust q f w.nodes; next = w.next + 1 } = is ∙ ap (λ (ns : Nodes). record { nodes = ns; next = w.next + 1 }) at in
    still_there (record { nodes = adjust q f w.nodes; next = w.next + 1 }) new p (brought call p) n same (brings p)
    (stays-adjusted w q f (w.next + 1) p n stood (λ m at. renumbered_still w.next m (f m) (at_path w q x f there (change proper world) m at)))
step_stays call w new proper world (patches q f same may brings is) p n stood kept =
    still_there (record w { nodes = adjust q f w.nodes }) new p (brought call p) n is (brings p)
    (stays-adjusted w q f w.next p n stood (λ m at. ((same m).made, ap is_folder_kind (same m).kind)))
step_stays call w new proper world (removes q now some small takes brings is) p n stood kept =
    still_there (without w q now) new p (brought call p) n is (brings p)
    (stays-touched q now (prune q w.nodes) w.next p n (stays-prune q p w.nodes (decided (is_at_or_under p q) (λ h. kept (takes world p n stood h))) ∙ stood))
step_stays call w new proper world (renames from to now a b out folder sound takes brings is) p n stood kept =
    let (m, there, same) = follows w from to now p n stood (decided (is_at_or_under p to) (λ h. kept (takes world p n stood h))) in
    still_there (renamed_world w from to now) new (path_after from to p) (brought call p) n is (brings p) (m, there, unchanged_still n m same)

pub nodes_stay : NodesStay
nodes_stay call w r p n proper world h stood kept = step_stays call w r.1 proper world (steps call w r h) p n stood kept

-- the node n is still at q, unchanged but for the moment of its last change
abbrev Rests : World → Path → Node → Type 0
Rests new q n = (m : Node) × (node_at new q ≡ Some m) × IsUnchanged n m

rests_there : (old new : World) (p q : Path) (n : Node) → new ≡ old → q ≡ p → Rests old p n → Rests new q n
rests_there old new p q n is path rests = subst (λ (x : World). Rests x q n) (sym is) (subst (λ (x : Path). Rests old x n) (sym path) rests)

-- a change at another path
rests-adjusted : (w : World) (p : Path) (f : Node → Node) (next : ℕ) (q : Path) (n : Node) → node_at w q ≡ Some n → p ≢ q → Rests (record { nodes = adjust p f w.nodes; next = next }) q n
rests-adjusted w p f next q n stood other =
    (n, find-adjust p f q w.nodes ∙ ap (λ b. cond b (option_map f (node_at w q)) (node_at w q)) (apart p q other) ∙ stood, refl)

step_rests : (call : Call) (w new : World) → IsWorld w → Step call w new → (p : Path) (n : Node) → node_at w p ≡ Some n → ¬ TakesAway call p → ¬ MayChange call p n
    → Rests new (brought call p) n
step_rests call w new world (unchanged brings is) p n stood kept left_alone = rests_there w new p (brought call p) n is (brings p) (n, stood, refl)
step_rests call w new world (makes q kind properties now none folder room sound brings is) p n stood kept left_alone =
    let a_new : Node = record (fresh w.next kind now) { properties = properties } in
    rests_there (with_new w q kind properties now) new p (brought call p) n is (brings p)
    (after-touched q now (put path_cmp q a_new w.nodes) p n
    (find-put_node p q a_new w.nodes ∙ ap (λ b. cond b (Some a_new) (find path_cmp p w.nodes)) (not_put w q p n none stood) ∙ stood))
step_rests call w new world (renumbers q x f there room change may brings is) p n stood kept left_alone =
    rests_there (record { nodes = adjust q f w.nodes; next = w.next + 1 }) new p (brought call p) n is (brings p)
    (rests-adjusted w q f (w.next + 1) p n stood (λ e. left_alone (subst (λ (y : Path). MayChange call y n) e (may n))))
step_rests call w new world (writes made x f first room change may brings is) p n stood kept left_alone =
    rests_there (record { nodes = change_node (is_file_made_with made) f w.nodes; next = w.next + 1 }) new p (brought call p) n is (brings p)
    (n, find-change_other made f p n (decided ((n.made == made) && not (is_folder_kind n.kind)) (λ h. let (same, file) = passed made n h in left_alone (may p n (sym same) file))) w.nodes stood, refl)
step_rests call w new world (patches q f same may brings is) p n stood kept left_alone =
    rests_there (record w { nodes = adjust q f w.nodes }) new p (brought call p) n is (brings p)
    (rests-adjusted w q f w.next p n stood (λ e. left_alone (subst (λ (y : Path). MayChange call y n) e (may n))))
step_rests call w new world (removes q now some small takes brings is) p n stood kept left_alone =
    rests_there (without w q now) new p (brought call p) n is (brings p)
    (after-touched q now (prune q w.nodes) p n (stays-prune q p w.nodes (decided (is_at_or_under p q) (λ h. kept (takes world p n stood h))) ∙ stood))
step_rests call w new world (renames from to now a b out folder sound takes brings is) p n stood kept left_alone =
    rests_there (renamed_world w from to now) new (path_after from to p) (brought call p) n is (brings p)
    (follows w from to now p n stood (decided (is_at_or_under p to) (λ h. kept (takes world p n stood h))))

pub others_are_unchanged : OthersAreUnchanged
others_are_unchanged call w r p n world h stood kept left_alone = step_rests call w r.1 world (steps call w r h) p n stood kept left_alone

-- Where a node of the new world comes from: it was in the old one, unchanged but for properties and times, or was changed
-- by the call, or was made by it.
data Comes (w : World) (m : Node) : Type 0 where
  stayed : (s : Path) (n : Node) → node_at w s ≡ Some n → m.made ≡ n.made → m.number ≡ n.number → m.kind ≡ n.kind → Comes w m
  changed : (s : Path) (n : Node) → node_at w s ≡ Some n → IsSameNode n m → m.number ≡ w.next → Comes w m
  born : m.made ≡ w.next → m.number ≡ w.next → Comes w m

comes_same : (w : World) (m : Node) (s : Path) (n : Node) → node_at w s ≡ Some n → Same n m → Comes w m
comes_same w m s n stood same = stayed s n stood same.made same.number same.kind

comes-adjusted : (w : World) (p : Path) (f : Node → Node) → ((n : Node) → node_at w p ≡ Some n → Renumbers w.next n (f n))
    → (q : Path) (m : Node) → find path_cmp q (adjust p f w.nodes) ≡ Some m → Comes w m
comes-adjusted w p f change q m h =
    let from : CameFrom p f w.nodes q m = back-adjust p f w.nodes q m h in
    elim from.became as (λ _. Comes w m) [
      | inl e ↦
          let r : Renumbers w.next from.node (f from.node) = change from.node (ap (node_at w) e.0 ∙ from.stood) in
          changed q from.node from.stood (ap (λ (x : Node). x.made) e.1 ∙ r.made, ap (λ (x : Node). is_folder_kind x.kind) e.1 ∙ r.kind) (ap (λ (x : Node). x.number) e.1 ∙ r.number_is)
      | inr e ↦ stayed q from.node from.stood (ap (λ (x : Node). x.made) e.1) (ap (λ (x : Node). x.number) e.1) (ap (λ (x : Node). x.kind) e.1)
    ]

born_by : (w : World) (p : Path) (kind : Kind) (properties : Properties) (now : ℕ) (q : Path) (x m : Node) → Same x m
    → ((q ≡ p) × (x ≡ record (fresh w.next kind now) { properties = properties })) ⊎ (node_at w q ≡ Some x) → Comes w m
born_by w p kind properties now q x m same (inl (_, e)) = born (same.made ∙ ap (λ (y : Node). y.made) e) (same.number ∙ ap (λ (y : Node). y.number) e)
born_by w p kind properties now q x m same (inr stood) = comes_same w m q x stood same

comes : (call : Call) (w new : World) → IsProper call → IsWorld w → Step call w new → (q : Path) (m : Node) → node_at new q ≡ Some m → Comes w m
comes call w new proper world (unchanged brings is) q m h = stayed q m (ap (λ (x : World). node_at x q) (sym is) ∙ h) refl refl refl
comes call w new proper world (makes p kind properties now none folder room sound brings is) q m h =
    let a_new : Node = record (fresh w.next kind now) { properties = properties } in
    let (storable, sorted, small) = sound proper world in
    let from : CameFrom (parent_of p) (modified_at now) (put path_cmp p a_new w.nodes) q m =
    back-adjust (parent_of p) (modified_at now) (put path_cmp p a_new w.nodes) q m (ap (λ (x : World). node_at x q) (sym is) ∙ h) in
    born_by w p kind properties now q from.node m (Same-adjust (parent_of p) (modified_at now) (put path_cmp p a_new w.nodes) (λ n. Same-modified now n small) q m from)
    (back-put p a_new w.nodes q from.node from.stood)
comes call w new proper world (renumbers p x f there room change may brings is) q m h =
    comes-adjusted w p f (at_path w p x f there (change proper world)) q m (ap (λ (x : World). node_at x q) (sym is) ∙ h)
comes call w new proper world (writes made x f first room change may brings is) q m h =
    let (p, there, at) = change_made made f w.nodes world.tree.sorted x first in
    comes-adjusted w p f (at_path w p x f there (change proper world)) q m
    (ap (find path_cmp q) (sym at) ∙ ap (λ (x : World). node_at x q) (sym is) ∙ h)
comes call w new proper world (patches p f same may brings is) q m h =
    let from : CameFrom p f w.nodes q m = back-adjust p f w.nodes q m (ap (λ (x : World). node_at x q) (sym is) ∙ h) in
    comes_same w m q from.node from.stood (Same-adjust p f w.nodes same q m from)
comes call w new proper world (removes p now some small takes brings is) q m h =
    let from : CameFrom (parent_of p) (modified_at now) (prune p w.nodes) q m = back-adjust (parent_of p) (modified_at now) (prune p w.nodes) q m (ap (λ (x : World). node_at x q) (sym is) ∙ h) in
    let (out, stood) = back-prune p w.nodes q from.node from.stood in
    comes_same w m q from.node stood (Same-adjust (parent_of p) (modified_at now) (prune p w.nodes) (λ n. Same-modified now n (small proper)) q m from)
comes call w new proper world (renames from to now a b out folder sound takes brings is) q m h =
    let (storable, small) = sound proper in
    let (s, n, came, stood, same) = back-renamed w from to now small q m (ap (λ (x : World). node_at x q) (sym is) ∙ h) in
    comes_same w m s n stood same

were_there : (w : World) (m : Node) → m.made < w.next → Comes w m → (p : Path) × (n : Node) × (node_at w p ≡ Some n) × IsSameNode n m
were_there w m older (stayed s n stood made number kind) = (s, n, stood, (made, ap is_folder_kind kind))
were_there w m older (changed s n stood still number) = (s, n, stood, still)
were_there w m older (born made number) = absurd (omega (arith, older, made))

pub nodes_were_there : NodesWereThere
nodes_were_there call w r q m proper world h stood older = were_there w m older (comes call w r.1 proper world (steps call w r h) q m stood)

same_by_number : (w : World) → IsWorld w → (p : Path) (n m : Node) → node_at w p ≡ Some n → n.number ≡ m.number → Comes w m → (m.made ≡ n.made) × (m.kind ≡ n.kind)
same_by_number w world p n m stood same (stayed s x there made number kind) =
    let path : p ≡ s = world.numbers.once p s n x stood there (same ∙ number) in
    let both : Some n ≡ Some x = sym stood ∙ ap (node_at w) path ∙ there in
    let one : n ≡ x = cc in
    (made ∙ ap (λ (y : Node). y.made) (sym one), kind ∙ ap (λ (y : Node). y.kind) (sym one))
same_by_number w world p n m stood same (changed s x there still number) = let small : n.number < w.next = world.numbers.below p n stood in absurd (omega (arith, small, same, number))
same_by_number w world p n m stood same (born made number) = let small : n.number < w.next = world.numbers.below p n stood in absurd (omega (arith, small, same, number))

pub numbers_tell_bytes : NumbersTellBytes
numbers_tell_bytes call w r p q n m proper world h stood there same =
    same_by_number w world p n m stood same (comes call w r.1 proper world (steps call w r h) q m there)

looks_back : (w : World) (m : Node) → m.number < w.next → Comes w m
    → (p : Path) × (n : Node) × (node_at w p ≡ Some n) × (m.number ≡ n.number) × (m.made ≡ n.made) × (m.kind ≡ n.kind)
looks_back w m older (stayed s n stood made number kind) = (s, n, stood, number, made, kind)
looks_back w m older (changed s n stood still number) = absurd (omega (arith, older, number))
looks_back w m older (born made number) = absurd (omega (arith, older, number))

pub numbers_look_back : NumbersLookBack
numbers_look_back call w r q m proper world h stood older = looks_back w m older (comes call w r.1 proper world (steps call w r h) q m stood)

pub made_stands_there : MadeStands
made_stands_there w made n world = (
  λ h. made_stands made w.nodes world.tree.sorted n h,
  λ h. let (p, stood, is, file) = h in subst (λ k. file_made_with k w.nodes ≡ Some n) is (stands_made w world p n stood file),
)

given : {A : Type 0} (a : A) (w : World) (r : A × World) → ◌≡◌ {A = Meaning A} (Ok (a, w)) (Ok r) → r.0 ≡ a
given a w r h = let same : ◌≡◌ {A = _ × World} (a, w) r = cc in sym (ap (λ x. x.0) same)

module _ (w : World) (p : Path) (how : Opening) (now : ℕ) (r : Handle × World) where
  abbrev OpenedAt : Type 0
  OpenedAt = (n : Node) × (node_at r.1 p ≡ Some n) × (n.made ≡ r.0.made) × (is_folder_kind n.kind ≡ false)

  opened_by : (o : Option Node) → node_at w p ≡ o → open_at w p how now o ≡ Ok r → OpenedAt
  opened_by None none h =
      let (create, h1) = went_on (not (how.create || how.create_new)) NotFound _ r h in
      let (folder, h2) = went_on (not (is_folder w (parent_of p))) NotFound _ r h1 in
      let (room, h3) = went_on (w.next == last_number) GeneralFailure _ r h2 in
      let is : r.1 ≡ with_new w p (File []) [] now = left (opened w.next how) (with_new w p (File []) [] now) r h3 in
      let handle : r.0 ≡ opened w.next how = given (opened w.next how) (with_new w p (File []) [] now) r h3 in
      let a_new : Node = fresh w.next (File []) now in
      let (m, there, same) = after-touched p now (put path_cmp p a_new w.nodes) p a_new
      (find-put_node p p a_new w.nodes ∙ ap (λ b. cond b (Some a_new) (find path_cmp p w.nodes)) (path-itself p)) in
      let still : IsSameNode a_new m = unchanged_still a_new m same in
      (m, ap (λ (x : World). node_at x p) is ∙ there, still.0 ∙ ap (λ (x : Handle). x.made) (sym handle), still.1)
  opened_by (Some n) there h =
      let (file, h1) = went_on (is_folder_kind n.kind) Forbidden _ r h in
      let (fresh_one, h2) = went_on how.create_new Exists _ r h1 in
      elim (went_if how.truncate _ _ r h2) as (λ _. OpenedAt) [
        | inl empties ↦
            let (room, h3) = went_on (w.next == last_number) GeneralFailure _ r empties.1 in
            let after : World = record { nodes = adjust p (emptied w.next now) w.nodes; next = w.next + 1 } in
            let is : r.1 ≡ after = left (opened n.made how) after r h3 in
            let handle : r.0 ≡ opened n.made how = given (opened n.made how) after r h3 in (
              emptied w.next now n,
              ap (λ (x : World). node_at x p) is
                  ∙ find-adjust p (emptied w.next now) p w.nodes
                  ∙ ap (λ b. cond b (option_map (emptied w.next now) (node_at w p)) (node_at w p)) (path-itself p) ∙ ap (option_map (emptied w.next now)) there,
              ap (λ (x : Handle). x.made) (sym handle),
              refl,
            )
        | inr keeps ↦
            let is : r.1 ≡ w = left (opened n.made how) w r keeps.1 in
            let handle : r.0 ≡ opened n.made how = given (opened n.made how) w r keeps.1 in
            (n, ap (λ (x : World). node_at x p) is ∙ there, ap (λ (x : Handle). x.made) (sym handle), file)
      ]

opened_at : (p : Path) (how : Opening) (now : ℕ) (w : World) (r : Handle × World) → meaning (Open p how now) w ≡ Ok r → OpenedAt w p how now r
unfolding meaning
opened_at p how now w r h = opened_by w p how now r (node_at w p) refl h

-- an open file with the number under which the file at a path was created refers to that file
stands_for : (w : World) (file : Handle) (p : Path) (n : Node) → IsWorld w → node_at w p ≡ Some n → n.made ≡ file.made → is_folder_kind n.kind ≡ false → IsOpenOn w file p n
stands_for w file p n world there made is_file = (subst (λ k. file_made_with k w.nodes ≡ Some n) made (stands_made w world p n there is_file), there)

pub opened_stands : OpenedStands
opened_stands p how now w r proper world h =
    let (n, there, made, file) = opened_at p how now w r h in
    (n, stands_for r.1 r.0 p n (calls_keep_worlds (Open p how now) w r proper world h) there made file)

pub opened_is_open_file : OpenedIsOpenFile
opened_is_open_file p how now w r proper world h =
    let (n, there, made, file) = opened_at p how now w r h in
    let small : n.made < r.1.next = (calls_keep_worlds (Open p how now) w r proper world h).makings.below p n there in
    omega (arith, small, made)

pub open_files_stay : OpenFilesStay
open_files_stay call w r file p n proper world h stands kept =
    let (q, there, made, is_file) = made_stands file.made w.nodes world.tree.sorted n stands.0 in
    let (m, stood, still) = nodes_stay call w r p n proper world h stands.1 kept in
    (m, stands_for r.1 file (brought call p) m (calls_keep_worlds call w r proper world h) stood (still.0 ∙ made) (still.1 ∙ is_file), still)

none_before : (w : World) (made : ℕ) (o : Option Node) → file_made_with made w.nodes ≡ None → ((n : Node) → o ≡ Some n → (x : Node) × (file_made_with made w.nodes ≡ Some x)) → o ≡ None
none_before w made None none back = refl
none_before w made (Some n) none back = let (x, is) = back n refl in let clash : None ≡ Some x = sym none ∙ is in cc

pub taken_never_return : TakenNeverReturn
taken_never_return call w r file proper world h older none =
    let after : IsWorld r.1 = calls_keep_worlds call w r proper world h in
    let rises : w.next ≤ r.1.next = numbers_rise call w r h in (
      omega (arith, rises, older),
      none_before w file.made (file_made_with file.made r.1.nodes) none (λ m is.
          let (q, there, made, is_file) = made_stands file.made r.1.nodes after.tree.sorted m is in
          let (p, n, stood, still) = nodes_were_there call w r q m proper world h there (omega (arith, older, made)) in
          (n, (stands_for w file p n world stood (sym still.0 ∙ made) (sym still.1 ∙ is_file)).0)),
    )
