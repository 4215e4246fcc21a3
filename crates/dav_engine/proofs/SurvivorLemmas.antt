-- What a removal leaves.
use Rattle.std.proofs.Common.{◌≡◌, ◌≢◌, ℕ, zero, suc, Bool, true, false, cond, ◌&&◌, ◌||◌, T, List, [], ◌∷◌, ◌++◌, Option, Some, None, Result, Ok, Err, All, ◌⊎◌, inl, inr, refl, sym, ap, subst, ◌∙◌, append-nil, append_assoc, arith}
use Rattle.std.specs.Option.{option_map, is_some}
use Rattle.std.specs.FinMap.{find, is_sorted, slice_cmp-IsAntisymmetric, nat_cmp-IsAntisymmetric}
use Rattle.std.specs.FinMap.Entries.{below_all, same_entries}
use Rattle.std.specs.Cmp.Lexicographic.{nat_list_cmp_total}
use Rattle.std.proofs.lemmas.List.Elements.{All-nil, All-cons, All-head, All-tail, All-append, All-weaker}
use Rattle.dav_core.specs.declared.errors.FsError.{FsError}
use Rattle.dav_core.specs.declared.errors.FsError.TheVariants as fs
use Rattle.dav_core.specs.declared.fs.DavMetaData.{DavMetaData}
use Rattle.dav_core.specs.Asking.{Call, Answer, StoreState, Asks, meaning, ReadDir, EntryMetadata, RemoveDir, RemoveFile}
use Rattle.dav_core.specs.CallLaws.{IsStorable}
use Rattle.dav_core.specs.Calls.{metadata, metadata_of, without}
use Rattle.dav_core.specs.Path.{Path, PathText, IsName, IsSegment, names, star, name_cmp, path_cmp, rest_after, is_same_path, is_at_or_under, is_under, is_root, parent_of}
use Rattle.dav_core.specs.Status.{fs_status}
use Rattle.dav_core.specs.World.{World, Node, node_at, is_folder, is_folder_node, is_file, is_folder_kind, is_missing, has_members, members, prune, modified_at, IsWorld}
use Rattle.dav_core.proofs.Theorems.{name_is_segment, errors_leave_worlds, from_rest, above, lists_what_stands, members_rise, members_stand_below, sorted-members, nothing_below, find-prune, sorted-prune, adjust_keeps_order, left_true, right_true, touched_is_modified, without_keeps, went_on, found, left as world_left}
use Rattle.dav_engine.specs.Folder.{child_of, room_at}
use Rattle.dav_engine.specs.Method.{MethodPlan}
use Rattle.dav_engine.specs.Plan.{Locks, Ran}
use Rattle.dav_engine.specs.Removal.{Fault, Stays, StaysWhole, StaysWith, fault_path, refused_by, survives, each, remove, removal, remove_file as file_removal, remove_alone, remove_emptied, remove_found, remove_member, remove_listed, emptied_status}
use Rattle.dav_engine.specs.RemovalLaws.{timeless, timeless_at, RemovalsLeaveSurvivors, LeavesSurvivors}
use Rattle.dav_engine.proofs.CallWorlds.{did, stays, means, all_listed}
use Rattle.dav_engine.proofs.ChildLemmas.{names_child, slash_is_path}
use Rattle.dav_engine.proofs.FaultLemmas.{left, left_gone, left_kept, left_wider, left_emptied, left_only, left_joined, one_holds, first_holds, second_holds, at_path, below_or, member_below, member_not_above, up_or_member, covers, covers_below, covers_not_above, covers_entry, entries_apart, survives_both, AreBelow, near_to, survives_up, parents}
use Rattle.dav_engine.proofs.RunLemmas.{first, gave, parts}

-- ---- what calls do

-- an answered call did what it means
pub answered : {c : Call} {old new : StoreState} {a : Answer c} → Asks c old (Ok a) new → (r : Answer c × World) × (meaning c old.world ≡ Ok r) × (r.0 ≡ a) × (new.world ≡ r.1)
answered {c} {old} {new} {a} one = elim (did one) [
  | stays e is same ↦ cc
  | means r h is after ↦ (r, h, let same : a ≡ r.0 = cc in sym same, after)
]

timeless_touched : (b : Bool) (now : ℕ) (o : Option Node) → option_map timeless (cond b (option_map (modified_at now) o) o) ≡ option_map timeless o
timeless_touched true now None = refl
timeless_touched true now (Some n) = refl
timeless_touched false now o = refl

map_cond : (b : Bool) (o : Option Node) → option_map timeless (cond b None o) ≡ cond b None (option_map timeless o)
map_cond true o = refl
map_cond false o = refl

-- what is left without what is at p or below it
still_without : (w : World) (p : Path) (now : ℕ) (q : Path) → timeless_at (without w p now) q ≡ cond (is_at_or_under q p) None (timeless_at w q)
still_without w p now q =
    ap (option_map timeless) (touched_is_modified p now q (prune p w.nodes))
    ∙ timeless_touched (is_same_path (parent_of p) q) now (find path_cmp q (prune p w.nodes))
    ∙ ap (option_map timeless) (find-prune p q w.nodes)
    ∙ map_cond (is_at_or_under q p) (node_at w q)

-- what an answered removal of one path did
file_did : {p : Path} {now : ℕ} {old new : StoreState} {u : Unit {0}} → Asks (RemoveFile p now) old (Ok u) new → (is_folder old.world p ≡ false) × (new.world ≡ without old.world p now)
unfolding meaning
file_did {p} {now} {old} one =
    let (r, h, is, after) = answered one in
    let (there, h1) = went_on (is_missing old.world p) fs.NotFound _ r h in
    let (file, h2) = went_on (is_folder old.world p) fs.Forbidden _ r h1 in
    (file, after ∙ world_left tt (without old.world p now) r h2)

dir_did : {p : Path} {now : ℕ} {old new : StoreState} {u : Unit {0}} → Asks (RemoveDir p now) old (Ok u) new → (is_root p ≡ false) × (new.world ≡ without old.world p now)
unfolding meaning
dir_did {p} {now} {old} one =
    let (r, h, is, after) = answered one in
    let (some, h1) = went_on (is_root p) fs.Forbidden _ r h in
    let (there, h2) = went_on (is_missing old.world p) fs.NotFound _ r h1 in
    let (folder, h3) = went_on (is_file old.world p) fs.Forbidden _ r h2 in
    let (empty, h4) = went_on (has_members old.world p) fs.Exists _ r h3 in
    (some, after ∙ world_left tt (without old.world p now) r h4)

told_by : (w : World) (r : DavMetaData × World) (n : Node) → ◌≡◌ {A = Result (DavMetaData × World) FsError} (Ok (metadata_of n, w)) (Ok r) → (r.0 ≡ metadata_of n) × (r.1 ≡ w)
told_by w r n h = let same : (metadata_of n, w) ≡ r = cc in (sym (ap (λ x. x.0) same), sym (ap (λ x. x.1) same))

-- who looks at a path is told whether a folder is there, and the world stays
pub dir_told : (w : World) (p : Path) (r : DavMetaData × World) → metadata w p ≡ Ok r → (r.0.dir ≡ is_folder w p) × (r.1 ≡ w)
dir_told w p r h =
    let (n, stood, told) = found (node_at w p) _ r h in
    let (shown, world) = told_by w r n told in
    (ap (λ (x : DavMetaData). x.dir) shown ∙ sym (ap is_folder_node stood), world)

pub looked : {p : Path} {old new : StoreState} {m : DavMetaData} → Asks (EntryMetadata p) old (Ok m) new → (m.dir ≡ is_folder old.world p) × (new.world ≡ old.world)
unfolding meaning
looked {p} {old} one =
    let (r, h, is, after) = answered one in
    let (dir, world) = dir_told old.world p r h in
    (ap (λ (x : DavMetaData). x.dir) (sym is) ∙ dir, after ∙ world)

listing_is : (w : World) (es : List (List ℕ × Bool)) (r : List (List ℕ × Bool) × World) → ◌≡◌ {A = Result (List (List ℕ × Bool) × World) FsError} (Ok (es, w)) (Ok r) → (r.0 ≡ es) × (r.1 ≡ w)
listing_is w es r h = let same : (es, w) ≡ r = cc in (sym (ap (λ x. x.0) same), sym (ap (λ x. x.1) same))

-- a folder that is listed: its members, and the world stays
pub listed : {p : Path} {old new : StoreState} {entries : List (List ℕ × Bool)} → Asks (ReadDir p) old (Ok entries) new → (entries ≡ members p old.world.nodes) × (new.world ≡ old.world)
unfolding meaning
listed {p} {old} {new} one =
    let (r, h, is, after) = answered one in
    let (there, h1) = went_on (is_missing old.world p) fs.NotFound _ r h in
    let (folder, h2) = went_on (is_file old.world p) fs.Forbidden _ r h1 in
    let (names, world) = listing_is old.world (members p old.world.nodes) r h2 in
    (sym is ∙ names, after ∙ world)

-- ---- worlds but for times

-- It is a world but for the times of its nodes, which may be later than can be shown.
pub record Timed (w : World) : Type 0 where
  pub model : World
  pub world : IsWorld model
  pub same : (q : Path) → timeless_at w q ≡ timeless_at model q
  pub sorted : T (is_sorted path_cmp w.nodes)

pub timed_itself : (w : World) → IsWorld w → Timed w
timed_itself w world = record { model = w; world = world; same = λ q. refl; sorted = world.tree.sorted }

pub timed_same : {w v : World} → v ≡ w → Timed w → Timed v
timed_same same t = subst Timed (sym same) t

timed_without : (w v : World) (p : Path) (now : ℕ) → v ≡ without w p now → is_root p ≡ false → Timed w → Timed v
timed_without w v p now is root t = timed_same is (record {
  model = without t.model p 0;
  world = without_keeps t.model p 0 root (omega arith) t.world;
  same = λ q. still_without w p now q ∙ ap (cond (is_at_or_under q p) None) (t.same q) ∙ sym (still_without t.model p 0 q);
  sorted = adjust_keeps_order (parent_of p) (modified_at now) (prune p w.nodes) (sorted-prune p w.nodes t.sorted);
})

kind_timeless : (o : Option Node) → option_map (λ n. is_folder_kind n.kind) (option_map timeless o) ≡ option_map (λ n. is_folder_kind n.kind) o
kind_timeless None = refl
kind_timeless (Some n) = refl

folder_timeless : (o : Option Node) → is_folder_node (option_map timeless o) ≡ is_folder_node o
folder_timeless None = refl
folder_timeless (Some n) = refl

folder_same : (w v : World) (p : Path) → timeless_at w p ≡ timeless_at v p → is_folder w p ≡ is_folder v p
folder_same w v p same = sym (folder_timeless (node_at w p)) ∙ ap is_folder_node same ∙ folder_timeless (node_at v p)

kind_same : (w v : World) (p : Path) → timeless_at w p ≡ timeless_at v p → option_map (λ n. is_folder_kind n.kind) (node_at w p) ≡ option_map (λ n. is_folder_kind n.kind) (node_at v p)
kind_same w v p same = sym (kind_timeless (node_at w p)) ∙ ap (option_map (λ n. is_folder_kind n.kind)) same ∙ kind_timeless (node_at v p)

-- the same is listed
pub members_timed : (w : World) (t : Timed w) (p : Path) → members p w.nodes ≡ members p t.model.nodes
members_timed w t p =
    same_entries name_cmp nat_list_cmp_total (slice_cmp-IsAntisymmetric nat_cmp-IsAntisymmetric) (members p w.nodes) (members p t.model.nodes)
    (sorted-members p w.nodes t.sorted) (members_rise p t.model t.world)
    (λ x. members_stand_below p x w.nodes ∙ kind_same w t.model (p ++ x ∷ []) (t.same (p ++ x ∷ [])) ∙ sym (members_stand_below p x t.model.nodes))

-- the root is a folder
not_root : (w : World) (p : Path) → Timed w → is_folder w p ≡ false → is_root p ≡ false
not_root w [] t file = let folder : is_folder w [] ≡ true = folder_same w t.model [] (t.same []) ∙ t.world.tree.root in cc
not_root w (x ∷ p) t file = refl

-- what is left after an answered removal of one path
gone : (w v : World) (p : Path) (now : ℕ) → v ≡ without w p now → (q : Path) → timeless_at v q ≡ cond (is_at_or_under q p) None (timeless_at w q)
gone w v p now is q = ap (λ (x : World). timeless_at x q) is ∙ still_without w p now q

-- ---- where nothing stands

none_if : (o : Option Node) → ((m : Node) → o ≡ Some m → ⊥) → option_map timeless o ≡ None
none_if None never = refl
none_if (Some m) never = absurd (never m refl)

-- below what is no folder
none_below_file : (w : World) (p q : Path) → IsWorld w → is_folder w p ≡ false → is_at_or_under q p ≡ true → is_at_or_under p q ≡ false → timeless_at w q ≡ None
none_below_file w p q world file below up = none_if (node_at w q) (λ m there.
    let same : p ≡ q = nothing_below w world p q m (ap (λ b. b && has_members w p) file) there below in
    let at : is_at_or_under p q ≡ true = at_path q p [] (same ∙ sym (append-nil q)) in
    cc)

uncovered_by : (w : World) (p q : Path) → IsWorld w → is_at_or_under p q ≡ false → covers p (members p w.nodes) q ≡ false → (m : Node) → node_at w q ≡ Some m
    → (o : Option Path) → rest_after p q ≡ o → is_some o ≡ true → ⊥
uncovered_by w p q world up out m there None is some = cc
uncovered_by w p q world up out m there (Some []) is some =
    let at : is_at_or_under p q ≡ true = at_path q p [] (sym (from_rest p q [] is ∙ append-nil p) ∙ sym (append-nil q)) in
    cc
uncovered_by w p q world up out m there (Some (n ∷ r)) is some =
    let path : q ≡ (p ++ n ∷ []) ++ r = from_rest p q (n ∷ r) is ∙ sym (append_assoc p (n ∷ []) r) in
    let (x, stood) = above w.nodes world.tree (p ++ n ∷ []) r m (ap (node_at w) (sym path) ∙ there) in
    let entry = (lists_what_stands p n (is_folder_kind x.kind) w world).1 (x, stood, refl) in
    let in_it : covers p (members p w.nodes) q ≡ true = covers_entry p (members p w.nodes) (n, is_folder_kind x.kind) q entry (at_path (p ++ n ∷ []) q r path) in
    cc

-- below a folder, but not below one of its members
none_uncovered : (w : World) (p q : Path) → IsWorld w → is_at_or_under q p ≡ true → is_at_or_under p q ≡ false → covers p (members p w.nodes) q ≡ false → timeless_at w q ≡ None
none_uncovered w p q world below up out = none_if (node_at w q) (λ m there. uncovered_by w p q world up out m there (rest_after p q) refl below)

-- the same of a world but for times
below_file : (w : World) (p q : Path) → Timed w → is_folder w p ≡ false → is_at_or_under q p ≡ true → is_at_or_under p q ≡ false → timeless_at w q ≡ None
below_file w p q t file below up = t.same q ∙ none_below_file t.model p q t.world (sym (folder_same w t.model p (t.same p)) ∙ file) below up

uncovered : (w : World) (p q : Path) → Timed w → is_at_or_under q p ≡ true → is_at_or_under p q ≡ false → covers p (members p w.nodes) q ≡ false → timeless_at w q ≡ None
uncovered w p q t below up out =
    t.same q ∙ none_uncovered t.model p q t.world below up (ap (λ (es : List (List ℕ × Bool)). covers p es q) (sym (members_timed w t p)) ∙ out)

-- ---- parts of a removal

-- A part of a removal was done, whose faults name this path or what is below it: in its zone is left exactly what survives, and
-- nothing else changed but in times.
pub record Cleared (zone : Path → Bool) (above : Path) (faults : List Fault) (old new : World) : Type 0 where
  pub timed : Timed new
  pub after : (q : Path) → timeless_at new q ≡ left (zone q) (survives faults q) (timeless_at old q)
  pub below : AreBelow above faults
  pub near : (q : Path) → survives faults q ≡ true → (is_at_or_under above q ≡ true) ⊎ (zone q ≡ true)

one_below : (p : Path) (f : Fault) → is_at_or_under (names (fault_path f)) p ≡ true → AreBelow p (f ∷ [])
one_below p f h = All-cons (λ x. is_at_or_under (names (fault_path x)) p ≡ true) f [] h (All-nil (λ x. is_at_or_under (names (fault_path x)) p ≡ true))

-- all that is at a path or below it
abbrev AllCleared : Path → List Fault → World → World → Type 0
AllCleared p = Cleared (λ z. is_at_or_under z p) p

pub at_itself : (p : Path) → is_at_or_under p p ≡ true
at_itself p = at_path p p [] (sym (append-nil p))

moved : (w v : World) → v ≡ w → (q : Path) → timeless_at v q ≡ timeless_at w q
moved w v same q = ap (λ (x : World). timeless_at x q) same

-- all that is at a path or below it was removed, but for what survives
all_of : {p : Path} {faults : List Fault} {old new : World} → Timed new → ((q : Path) → timeless_at new q ≡ left (is_at_or_under q p) (survives faults q) (timeless_at old q)) → AreBelow p faults → AllCleared p faults old new
all_of {p} {faults} t after below = record { timed = t; after = after; below = below; near = λ q s. near_to p faults q below s }

carry : {zone : Path → Bool} {above : Path} {f g : List Fault} {old : World} {v w : StoreState} → g ≡ f → w ≡ v → Cleared zone above f old v.world → Cleared zone above g old w.world
carry {zone} {above} {f} {g} {old} {v} {w} e same c =
    subst (λ (x : List Fault). Cleared zone above x old w.world) (sym e) (subst (λ (s : StoreState). Cleared zone above f old s.world) (sym same) c)

not_true : (b : Bool) → (b ≡ true → ⊥) → b ≡ false
not_true true never = absurd (never refl)
not_true false never = refl

up_out : (a : Bool) → ((a || false) || false) ≡ false → a ≡ false
up_out true h = cc
up_out false h = refl

-- ---- a file

file_by : (now : ℕ) (p : PathText) (old mid : StoreState) (removed : Result (Unit {0}) FsError) → Timed old.world → is_folder old.world (names p) ≡ false
    → Asks (RemoveFile (names p) now) old removed mid → AllCleared (names p) (refused_by (λ e. Stays p (fs_status e)) removed) old.world mid.world
file_by now p old mid (Ok u) t file one =
    let (out, is) = file_did one in
    all_of (timed_without old.world mid.world (names p) now is (not_root old.world (names p) t file) t) (λ q. gone old.world mid.world (names p) now is q ∙ left_gone (is_at_or_under q (names p)) (timeless_at old.world q)) (All-nil (λ f. is_at_or_under (names (fault_path f)) (names p) ≡ true))
file_by now p old mid (Err e) t file one =
    let same = errors_leave_worlds (RemoveFile (names p) now) old e mid one in
    all_of (timed_same same t)
    (λ q.
    moved old.world mid.world same q
    ∙ left_kept (is_at_or_under q (names p)) (survives (Stays p (fs_status e) ∷ []) q) (timeless_at old.world q)
    (λ z s. below_file old.world (names p) q t file z (up_out (is_at_or_under (names p) q) s)))
    (one_below (names p) (Stays p (fs_status e)) (at_itself (names p)))

file_cleared : (now : ℕ) (p : PathText) {old new : StoreState} {ls ms : Locks} {faults : List Fault} → Timed old.world → is_folder old.world (names p) ≡ false
    → Ran Asks (file_removal now p) old ls (Ok faults) new ms → AllCleared (names p) faults old.world new.world
file_cleared now p {old} t file ran =
    let f = first ran in
    let (is, same) = gave f.more in
    carry is same (file_by now p old f.mid f.answer t file f.one)

-- ---- a folder that stays whole

whole_kept : (p : PathText) (status : ℕ) (old new : World) → Timed old → new ≡ old → AllCleared (names p) (StaysWhole p status ∷ []) old new
whole_kept p status old new t same =
    all_of (timed_same same t)
    (λ q.
    moved old new same q
    ∙ left_kept (is_at_or_under q (names p)) (survives (StaysWhole p status ∷ []) q) (timeless_at old q)
    (λ z s. elim (below_or (names p) q z) [
      | inl up ↦ let stays : survives (StaysWhole p status ∷ []) q ≡ true = first_holds (is_at_or_under (names p) q || is_under q (names p)) false (first_holds (is_at_or_under (names p) q) (is_under q (names p)) up) in cc
      | inr down ↦ let stays : survives (StaysWhole p status ∷ []) q ≡ true = first_holds (is_at_or_under (names p) q || is_under q (names p)) false (second_holds (is_at_or_under (names p) q) (is_under q (names p)) down) in cc
    ]))
    (one_below (names p) (StaysWhole p status) (at_itself (names p)))

alone_by : (now : ℕ) (p : PathText) (old mid : StoreState) (removed : Result (Unit {0}) FsError) → Timed old.world
    → Asks (RemoveDir (names p) now) old removed mid → AllCleared (names p) (refused_by (λ e. StaysWhole p (fs_status e)) removed) old.world mid.world
alone_by now p old mid (Ok u) t one =
    let (root, is) = dir_did one in
    all_of (timed_without old.world mid.world (names p) now is root t) (λ q. gone old.world mid.world (names p) now is q ∙ left_gone (is_at_or_under q (names p)) (timeless_at old.world q)) (All-nil (λ f. is_at_or_under (names (fault_path f)) (names p) ≡ true))
alone_by now p old mid (Err e) t one = whole_kept p (fs_status e) old.world mid.world t (errors_leave_worlds (RemoveDir (names p) now) old e mid one)

alone_cleared : (now : ℕ) (p : PathText) {old new : StoreState} {ls ms : Locks} {faults : List Fault} → Timed old.world
    → Ran Asks (remove_alone now p) old ls (Ok faults) new ms → AllCleared (names p) faults old.world new.world
alone_cleared now p {old} t ran =
    let f = first ran in
    let (is, same) = gave f.more in
    carry is same (alone_by now p old f.mid f.answer t f.one)

-- ---- members

abbrev Walk : Type 0
Walk = PathText → Bool → MethodPlan (List Fault)

-- a walk that leaves what survives, wherever it is made
abbrev pub Clears : Walk → Type 0
Clears walk =
    (p : PathText) (dir : Bool) (old new : StoreState) (ls ms : Locks) (faults : List Fault)
    → Timed old.world → p.bytes ≢ star → dir ≡ is_folder old.world (names p) → Ran Asks (walk p dir) old ls (Ok faults) new ms → AllCleared (names p) faults old.world new.world

-- of a member's path, seen from its folder
member_of : (p : Path) (n : List ℕ) (faults : List Fault) (old new : World) → AllCleared (p ++ n ∷ []) faults old new → Cleared (λ z. is_at_or_under z (p ++ n ∷ [])) p faults old new
member_of p n faults old new c = record {
  timed = c.timed;
  after = c.after;
  below = All-weaker (λ f. is_at_or_under (names (fault_path f)) (p ++ n ∷ []) ≡ true) (λ f. is_at_or_under (names (fault_path f)) p ≡ true) (λ f h. member_below p n (names (fault_path f)) h) faults c.below;
  near = λ q s. elim (c.near q s) [
    | inl up ↦ up_or_member q p n up
    | inr z ↦ inr z
  ];
}

-- a member that wasn't looked at
unseen : (p : PathText) (n : List ℕ) (status : ℕ) (old new : World) → Timed old → new ≡ old → Cleared (λ z. is_at_or_under z (names p ++ n ∷ [])) (names p) (StaysWith p n status ∷ []) old new
unseen p n status old new t same = record {
  timed = timed_same same t;
  after = λ q.
      moved old new same q
      ∙ left_kept (is_at_or_under q (names p ++ n ∷ [])) (survives (StaysWith p n status ∷ []) q) (timeless_at old q)
      (λ z s. let stays : survives (StaysWith p n status ∷ []) q ≡ true = first_holds (is_at_or_under (names p) q || is_at_or_under q (names p ++ n ∷ [])) false (second_holds (is_at_or_under (names p) q) (is_at_or_under q (names p ++ n ∷ [])) z) in cc);
  below = one_below (names p) (StaysWith p n status) (at_itself (names p));
  near = λ q s. elim (one_holds (is_at_or_under (names p) q || is_at_or_under q (names p ++ n ∷ [])) false s) [
    | inl one ↦ one_holds (is_at_or_under (names p) q) (is_at_or_under q (names p ++ n ∷ [])) one
    | inr none ↦ cc
  ];
}

pub seen_cleared : (walk : Walk) (p : PathText) (n : List ℕ) (seen : Result DavMetaData FsError) {old mid new : StoreState} {ls ms : Locks} {faults : List Fault}
    → Clears walk → p.bytes ≢ star → IsSegment n → Timed old.world → Asks (EntryMetadata (names p ++ n ∷ [])) old seen mid
    → Ran Asks (remove_found walk p n seen) mid ls (Ok faults) new ms → Cleared (λ z. is_at_or_under z (names p ++ n ∷ [])) (names p) faults old.world new.world
seen_cleared walk p n (Err e) {old} {mid} clears other segment t one ran =
    let (is, same) = gave ran in
    carry is same (unseen p n (fs_status e) old.world mid.world t (errors_leave_worlds (EntryMetadata (names p ++ n ∷ [])) old e mid one))
seen_cleared walk p n (Ok m) {old} {mid} {new} {ls} {ms} {faults} clears other segment t one ran =
    let (dir, same) = looked one in
    let path : names (child_of p n m.dir) ≡ names p ++ n ∷ [] = names_child p n m.dir segment other in
    let told : m.dir ≡ is_folder mid.world (names (child_of p n m.dir)) = dir ∙ ap (λ (w : World). is_folder w (names p ++ n ∷ [])) (sym same) ∙ ap (is_folder mid.world) (sym path) in
    let all : AllCleared (names (child_of p n m.dir)) faults mid.world new.world = clears (child_of p n m.dir) m.dir mid new ls ms faults (timed_same same t) (slash_is_path p n m.dir) told ran in
    member_of (names p) n faults old.world new.world
    (subst (λ (w : World). AllCleared (names p ++ n ∷ []) faults w new.world) same (subst (λ (x : Path). AllCleared x faults mid.world new.world) path all))

-- one member, and then others
both_cleared : (p : Path) (e : List ℕ × Bool) (es : List (List ℕ × Bool)) (told more : List Fault) (a b c : World) → T (below_all name_cmp e.0 es)
    → Cleared (λ z. is_at_or_under z (p ++ e.0 ∷ [])) p told a b → Cleared (covers p es) p more b c → Cleared (covers p (e ∷ es)) p (told ++ more) a c
both_cleared p e es told more a b c rise one two = record {
  timed = two.timed;
  after = λ q.
      two.after q
      ∙ ap (left (covers p es q) (survives more q)) (one.after q)
      ∙ left_joined (is_at_or_under q (p ++ e.0 ∷ [])) (covers p es q) (survives told q) (survives more q) (timeless_at a q)
      (λ z k. entries_apart p e.0 es q rise z k)
      (λ z s. elim (two.near q s) [
        | inl up ↦ member_not_above p e.0 q z up
        | inr k ↦ entries_apart p e.0 es q rise z k
      ])
      (λ k s. elim (one.near q s) [
        | inl up ↦ covers_not_above p es q k up
        | inr z ↦ entries_apart p e.0 es q rise z k
      ])
      ∙ ap (λ s. left (is_at_or_under q (p ++ e.0 ∷ []) || covers p es q) s (timeless_at a q)) (sym (survives_both told more q));
  below = All-append (λ f. is_at_or_under (names (fault_path f)) p ≡ true) told more one.below two.below;
  near = λ q s. elim (one_holds (survives told q) (survives more q) (sym (survives_both told more q) ∙ s)) [
    | inl s1 ↦ elim (one.near q s1) as (λ _. (is_at_or_under p q ≡ true) ⊎ (covers p (e ∷ es) q ≡ true)) [
      | inl up ↦ inl up
      | inr z ↦ inr (first_holds (is_at_or_under q (p ++ e.0 ∷ [])) (covers p es q) z)
    ]
    | inr s2 ↦ elim (two.near q s2) as (λ _. (is_at_or_under p q ≡ true) ⊎ (covers p (e ∷ es) q ≡ true)) [
      | inl up ↦ inl up
      | inr k ↦ inr (second_holds (is_at_or_under q (p ++ e.0 ∷ [])) (covers p es q) k)
    ]
  ];
}

none_cleared : (p : Path) (old : World) → Timed old → Cleared (covers p []) p [] old old
none_cleared p old t = record {
  timed = t;
  after = λ q. refl;
  below = All-nil (λ f. is_at_or_under (names (fault_path f)) p ≡ true);
  near = λ q s. let clash : false ≡ true = s in cc;
}

each_cleared : (walk : Walk) (p : PathText) → Clears walk → p.bytes ≢ star → (entries : List (List ℕ × Bool)) → T (is_sorted name_cmp entries) → All (λ e. IsStorable (e.0 ∷ [])) entries
    → {old new : StoreState} {ls ms : Locks} {faults : List Fault} → Timed old.world → Ran Asks (each (remove_member walk p) entries) old ls (Ok faults) new ms
    → Cleared (covers (names p) entries) (names p) faults old.world new.world
each_cleared walk p clears other [] rise storable {old} t ran =
    let (is, same) = gave ran in
    carry is same (none_cleared (names p) old.world t)
each_cleared walk p clears other (e ∷ es) rise storable {old} {new} t ran =
    let a = parts (remove_member walk p e) _ ran in
    let b = parts (each (remove_member walk p) es) _ a.more in
    let (is, same) = gave b.more in
    let f = first a.one in
    let name = (All-head (λ x. IsStorable (x.0 ∷ [])) e es storable).0 in
    let one = seen_cleared walk p e.0 f.answer clears other (name_is_segment e.0 (All-head IsName e.0 [] name)) t f.one f.more in
    let two = each_cleared walk p clears other es (right_true (below_all name_cmp e.0 es) (is_sorted name_cmp es) rise) (All-tail (λ x. IsStorable (x.0 ∷ [])) e es storable) one.timed b.one in
    carry is same (both_cleared (names p) e es a.value b.value old.world a.mid.world b.mid.world (left_true (below_all name_cmp e.0 es) (is_sorted name_cmp es) rise) one two)

-- ---- a folder

gone_by : (now : ℕ) (p : PathText) (entries : List (List ℕ × Bool)) (old : World) (mid end : StoreState) (removed : Result (Unit {0}) FsError)
    → Timed old → entries ≡ members (names p) old.nodes → Cleared (covers (names p) entries) (names p) [] old mid.world
    → Asks (RemoveDir (names p) now) mid removed end → AllCleared (names p) (refused_by (λ e. Stays p (emptied_status e)) removed) old end.world
gone_by now p entries old mid end (Ok u) t is c one =
    let (root, did) = dir_did one in
    all_of (timed_without mid.world end.world (names p) now did root c.timed)
    (λ q.
    gone mid.world end.world (names p) now did q
    ∙ ap (cond (is_at_or_under q (names p)) None) (c.after q)
    ∙ left_emptied (covers (names p) entries q) (is_at_or_under q (names p)) false (timeless_at old q) (covers_below (names p) entries q))
    (All-nil (λ f. is_at_or_under (names (fault_path f)) (names p) ≡ true))
gone_by now p entries old mid end (Err e) t is c one =
    let same = errors_leave_worlds (RemoveDir (names p) now) mid e end one in
    all_of (timed_same same c.timed)
    (λ q.
    moved mid.world end.world same q
    ∙ c.after q
    ∙ left_only (covers (names p) entries q) (is_at_or_under q (names p)) (survives (Stays p (emptied_status e) ∷ []) q) (timeless_at old q) (covers_below (names p) entries q)
    (λ k. let out : is_at_or_under (names p) q ≡ false = not_true (is_at_or_under (names p) q) (covers_not_above (names p) entries q k) in ap (λ b. (b || false) || false) out)
    (λ z k s. uncovered old (names p) q t z (up_out (is_at_or_under (names p) q) s) (ap (λ (es : List (List ℕ × Bool)). covers (names p) es q) (sym is) ∙ k)))
    (one_below (names p) (Stays p (emptied_status e)) (at_itself (names p)))

left_in : (p : PathText) (entries : List (List ℕ × Bool)) (f : Fault) (fs : List Fault) (old new : World)
    → Timed old → entries ≡ members (names p) old.nodes → Cleared (covers (names p) entries) (names p) (f ∷ fs) old new → AllCleared (names p) (f ∷ fs) old new
left_in p entries f fs old new t is c =
    all_of c.timed
    (λ q.
    c.after q
    ∙ left_wider (covers (names p) entries q) (is_at_or_under q (names p)) (survives (f ∷ fs) q) (timeless_at old q) (covers_below (names p) entries q)
    (λ z k s.
    let out : is_at_or_under (names p) q ≡ false = not_true (is_at_or_under (names p) q) (λ up. let stays : survives (f ∷ fs) q ≡ true = survives_up (names p) f fs q c.below up in cc) in
    uncovered old (names p) q t z out (ap (λ (es : List (List ℕ × Bool)). covers (names p) es q) (sym is) ∙ k)))
    c.below

emptied_cleared : (now : ℕ) (p : PathText) (entries : List (List ℕ × Bool)) (told : List Fault) (old : World) {mid new : StoreState} {ls ms : Locks} {faults : List Fault}
    → Timed old → entries ≡ members (names p) old.nodes → Cleared (covers (names p) entries) (names p) told old mid.world
    → Ran Asks (remove_emptied now p told) mid ls (Ok faults) new ms → AllCleared (names p) faults old new.world
emptied_cleared now p entries [] old {mid} t is c ran =
    let f = first ran in
    let (told, same) = gave f.more in
    carry told same (gone_by now p entries old mid f.mid f.answer t is c f.one)
emptied_cleared now p entries (f ∷ fs) old {mid} t is c ran =
    let (told, same) = gave ran in
    carry told same (left_in p entries f fs old mid.world t is c)

listed_cleared : (walk : Walk) (now : ℕ) (p : PathText) (answer : Result (List (List ℕ × Bool)) FsError) {old mid new : StoreState} {ls ms : Locks} {faults : List Fault}
    → Clears walk → p.bytes ≢ star → Timed old.world → Asks (ReadDir (names p)) old answer mid
    → Ran Asks (remove_listed walk now p answer) mid ls (Ok faults) new ms → AllCleared (names p) faults old.world new.world
listed_cleared walk now p (Err e) {old} {mid} clears other t one ran =
    let (is, same) = gave ran in
    carry is same (whole_kept p (fs_status e) old.world mid.world t (errors_leave_worlds (ReadDir (names p)) old e mid one))
listed_cleared walk now p (Ok entries) {old} {mid} clears other t one ran =
    let (is, same) = listed one in
    let rise : T (is_sorted name_cmp entries) = subst (λ (es : List (List ℕ × Bool)). T (is_sorted name_cmp es)) (sym is) (sorted-members (names p) old.world.nodes t.sorted) in
    let a = parts (each (remove_member walk p) entries) _ ran in
    let storable : All (λ e. IsStorable (e.0 ∷ [])) entries = subst (All (λ e. IsStorable (e.0 ∷ []))) (sym (is ∙ members_timed old.world t (names p))) (all_listed (names p) t.model t.world) in
    let inside = each_cleared walk p clears other entries rise storable (timed_same same t) a.one in
    emptied_cleared now p entries a.value old.world t is
    (subst (λ (w : World). Cleared (covers (names p) entries) (names p) a.value w a.mid.world) same inside) a.more

-- what is at a path with all below it, so many names deep at most
pub cleared : (room now : ℕ) → Clears (λ q dir. remove room now q dir)
cleared room now p false old new ls ms faults t other is ran = file_cleared now p t (sym is) ran
cleared zero now p true old new ls ms faults t other is ran =
    let (told, same) = gave ran in
    carry told same (whole_kept p (fs_status fs.PathTooLong) old.world old.world t refl)
cleared (suc room) now p true old new ls ms faults t other is ran =
    let f = first ran in
    listed_cleared (λ q dir. remove room now q dir) now p f.answer
    (λ q dir a b ks ns told w s d r. cleared room now q dir a b ks ns told w s d r) other t f.one f.more

removal_cleared : (deep : Bool) (now : ℕ) → Clears (λ q dir. removal deep now q dir)
removal_cleared true now p dir old new ls ms faults t other is ran = cleared (room_at p) now p dir old new ls ms faults t other is ran
removal_cleared false now p true old new ls ms faults t other is ran = alone_cleared now p t ran
removal_cleared false now p false old new ls ms faults t other is ran = file_cleared now p t (sym is) ran

-- a removal that is told whether a folder is there leaves exactly what survives
pub survivors_by : (deep : Bool) (now : ℕ) (p : PathText) (dir : Bool) {old new : StoreState} {ls ms : Locks} {faults : List Fault}
    → IsWorld old.world → p.bytes ≢ star → dir ≡ is_folder old.world (names p) → Ran Asks (removal deep now p dir) old ls (Ok faults) new ms → LeavesSurvivors (names p) faults old.world new.world
survivors_by deep now p dir {old} {new} {ls} {ms} {faults} world other is ran =
    let c = removal_cleared deep now p dir old new ls ms faults (timed_itself old.world world) other is ran in
    record { after = c.after; below = c.below; parents = parents faults }

pub survivors : RemovalsLeaveSurvivors
survivors deep now p old new ls ms faults world other ran = survivors_by deep now p (is_folder old.world (names p)) world other refl ran

none_timeless : (o : Option Node) → option_map timeless o ≡ None → o ≡ None
none_timeless None h = refl
none_timeless (Some n) h = cc

-- where there is no fault, nothing is left at the path or below it
pub nothing_left : {p : Path} {old new : World} → LeavesSurvivors p [] old new → (q : Path) → is_at_or_under q p ≡ true → node_at new q ≡ None
nothing_left {p} {old} {new} l q at =
    none_timeless (node_at new q) (l.after q ∙ sym (left_gone (is_at_or_under q p) (timeless_at old q)) ∙ ap (λ b. cond b None (timeless_at old q)) at)

-- where there is one, the path itself stays
pub path_stays : {p : Path} {f : Fault} {fs : List Fault} {old new : World} → LeavesSurvivors p (f ∷ fs) old new → timeless_at new p ≡ timeless_at old p
path_stays {p} {f} {fs} {old} {new} l =
    l.after p ∙ sym (left_kept (is_at_or_under p p) (survives (f ∷ fs) p) (timeless_at old p) (λ z s.
    let stays : survives (f ∷ fs) p ≡ true = survives_up p f fs p l.below (at_itself p) in
    cc))
