-- What a DELETE leaves.
use Rattle.std.proofs.Common.{◌≡◌, ◌≢◌, ℕ, ◌≤◌, ◌&&◌, arith, if◌then◌else◌, Bool, true, false, List, [], ◌∷◌, All, Option, Some, None, Result, Ok, Err, refl, sym, ap, subst, ◌∙◌, map}
use Rattle.std.specs.Prelude.{⊤}
use Rattle.std.specs.Option.{option_map}
use Rattle.std.proofs.lemmas.List.Elements.{All-head}
use Rattle.dav_core.specs.declared.errors.FsError.{FsError}
use Rattle.dav_core.specs.declared.errors.FsError.TheVariants as fs
use Rattle.dav_core.specs.declared.errors.DavError.{DavError}
use Rattle.dav_core.specs.declared.errors.DavError.TheVariants as dav
use Rattle.dav_core.specs.declared.fs.DavMetaData.{DavMetaData}
use Rattle.dav_core.specs.Asking.{StoreState, Asks, meaning, Metadata}
use Rattle.dav_core.specs.Path.{Path, PathText, names, star, is_at_or_under, are_equal}
use Rattle.dav_core.specs.Status.{fs_status}
use Rattle.dav_core.specs.Locks.{Lock, deleted}
use Rattle.dav_core.specs.World.{World, Node, node_at, is_folder, IsWorld}
use Rattle.dav_engine.specs.Caller.{Caller}
use Rattle.dav_engine.specs.Conditions.{Conditions}
use Rattle.dav_engine.specs.Delete.{DeleteHeaders, whole_depth, delete_allowed, drop_if_gone, delete_reply, delete_found}
use Rattle.dav_engine.specs.Folder.{closed}
use Rattle.dav_engine.specs.Method.{then as followed_by, ◌>>=◌, refused_as, ask_for, set_by}
use Rattle.dav_engine.specs.Multistatus.{PathStatus, multi_reply, one_reply, status_reply, multistatus_reply}
use Rattle.dav_engine.specs.Plan.{Plan, Done, Look, Keep, Locks, kept, Ran, ran_look, ran_keep}
use Rattle.dav_core.proofs.Theorems.{found}
use Rattle.dav_engine.specs.Removal.{Fault, report_of, fault_path, removal}
use Rattle.dav_engine.specs.Reply.{Reply}
use Rattle.dav_engine.specs.RemovalLaws.{timeless, timeless_at, LeavesSurvivors, IsErrorReport, AreErrorReports, NoContentMeansGone, locks_after, DeleteLeaves, DeletesLeaveSurvivors, RefusedDeleteLeavesAll}
use Rattle.dav_engine.proofs.CallWorlds.{did, did_leave}
use Rattle.dav_engine.proofs.ChildLemmas.{names_closed, closed_is_path}
use Rattle.dav_engine.proofs.DeleteWorld.{only_delete_allowed}
use Rattle.dav_engine.proofs.NamedLemmas.{reported_are_there}
use Rattle.dav_engine.proofs.PutWorld.{look_reads}
use Rattle.dav_engine.proofs.RemovalReports.{Gives, gives_done, gives_look, gives_keep, never_errs, gave_by, gives_bind, gives_removal}
use Rattle.dav_engine.proofs.RunLemmas.{first, finish, parts, only_list}
use Rattle.dav_engine.proofs.SurvivorLemmas.{answered, dir_told, survivors_by}
use Rattle.dav_engine.proofs.DeleteWorld.{only_removal}
use Rattle.dav_engine.proofs.WorldPlans.{only_reads, reading_leaves, ran_split}

behind_look : {A : Type 0} {go : Locks → Plan A} {old new : StoreState} {ls ms : Locks} {a : A} → Ran Asks (Look go) old ls a new ms → Ran Asks (go ls) old ls a new ms
behind_look (ran_look more) = more

behind_keep : {A : Type 0} {locks : List Lock} {rest : Plan A} {old new : StoreState} {ls ms : Locks} {a : A} → Ran Asks (Keep locks rest) old ls a new ms → Ran Asks rest old (kept ls locks) a new ms
behind_keep (ran_keep more) = more

-- the locks are dropped where nothing stays, and the store is left
pub record Dropped (q : PathText) (faults : List Fault) (old : StoreState) (ls : Locks) (new : StoreState) (ms : Locks) : Type 0 where
  pub same : new ≡ old
  pub locks : ms ≡ locks_after (names q) faults ls

drops : (q : PathText) (ls : Locks) {old new : StoreState} {ms : Locks} → Ran Asks (set_by (deleted (names q)) ls) old ls (Ok tt) new ms → Dropped q [] old ls new ms
drops q None ran = let ends = finish ran in record { same = ends.1; locks = ends.2 }
drops q (Some l) ran = let ends = finish (behind_keep ran) in record { same = ends.1; locks = ends.2 }

pub dropped : (q : PathText) (faults : List Fault) {old new : StoreState} {ls ms : Locks} → Ran Asks (drop_if_gone q faults) old ls (Ok tt) new ms → Dropped q faults old ls new ms
dropped q [] {ls = ls} ran = drops q ls (behind_look ran)
dropped q (f ∷ faults) ran = let ends = finish ran in record { same = ends.1; locks = ends.2 }

-- looking at a path tells whether a folder is there, and leaves the world
pub told_dir : {p : Path} {old new : StoreState} {m : DavMetaData} → Asks (Metadata p) old (Ok m) new → (m.dir ≡ is_folder old.world p) × (new.world ≡ old.world)
unfolding meaning
told_dir {p} {old} one =
    let (r, h, is, after) = answered one in
    let (dir, world) = dir_told old.world p r h in
    (ap (λ (x : DavMetaData). x.dir) (sym is) ∙ dir, after ∙ world)

-- and that something is there
told_there : {p : Path} {old new : StoreState} {m : DavMetaData} → Asks (Metadata p) old (Ok m) new → node_at old.world p ≢ None
unfolding meaning
told_there {p} {old} one none =
    let (r, h, is, after) = answered one in
    let (n, stood, told) = found (node_at old.world p) _ r h in
    let clash = sym none ∙ stood in
    cc

-- ---- what a removal reports are errors

error_status : (e : FsError) → 400 ≤ fs_status e
error_status fs.NotImplemented = omega arith
error_status fs.GeneralFailure = omega arith
error_status fs.Exists = omega arith
error_status fs.NotFound = omega arith
error_status fs.Forbidden = omega arith
error_status fs.InsufficientStorage = omega arith
error_status fs.LoopDetected = omega arith
error_status fs.PathTooLong = omega arith
error_status fs.TooLarge = omega arith
error_status fs.IsRemote = omega arith

pub gives_errors : (deep : Bool) (now : ℕ) (p : PathText) (dir : Bool) → Gives AreErrorReports (removal deep now p dir)
gives_errors deep now p dir = gives_removal (λ status. 400 ≤ status) error_status (omega arith) deep now p dir

-- ---- a DELETE that a reply ends

found_leaves : (deep : Bool) (c : Conditions) (p : PathText) (who : Caller) (m : DavMetaData) {old new : StoreState} {ls ms : Locks} {r : Reply}
    → IsWorld old.world → p.bytes ≢ star → node_at old.world (names p) ≢ None → m.dir ≡ is_folder old.world (names p) → Ran Asks (delete_found deep c (closed m.dir p) who m) old ls (Ok r) new ms
    → (faults : List Fault) × DeleteLeaves p faults old new ls ms r
found_leaves deep c p who m {old} {new} {ls} {ms} {r} world other here dir ran =
    let q : PathText = closed m.dir p in
    let a = parts (delete_allowed c q who m) _ ran in
    let (w1, l1) = reading_leaves (only_reads look_reads (only_delete_allowed c q who m)) a.one in
    let b = parts (removal deep who.moment q m.dir) _ a.more in
    let l2 = only_list (only_removal deep who.moment q m.dir) b.one in
    let d = parts (drop_if_gone q b.value) _ b.more in
    let drop = dropped q b.value d.one in
    let ends = finish d.more in
    let path : names q ≡ names p = names_closed m.dir p other in
    let told : m.dir ≡ is_folder a.mid.world (names q) = dir ∙ ap (λ (w : World). is_folder w (names p)) (sym w1) ∙ ap (is_folder a.mid.world) (sym path) in
    let still : node_at a.mid.world (names q) ≢ None = λ none. here (ap (λ (w : World). node_at w (names p)) (sym w1) ∙ ap (node_at a.mid.world) (sym path) ∙ none) in
    let stays =
    reported_are_there deep who.moment q a.mid b.mid a.ks b.ks b.value (subst IsWorld (sym w1) world) (closed_is_path m.dir p other) still
    (subst (λ (d : Bool). Ran Asks (removal deep who.moment q d) a.mid a.ks (Ok b.value) b.mid b.ks) told b.one) in
    let left : LeavesSurvivors (names q) b.value a.mid.world b.mid.world = survivors_by deep who.moment q m.dir (subst IsWorld (sym w1) world) (closed_is_path m.dir p other) told b.one in (
      b.value,
      record {
        survivors =
            subst (λ (x : Path). LeavesSurvivors x b.value old.world new.world) path
            (subst (λ (w : World). LeavesSurvivors (names q) b.value w new.world) w1
            (subst (λ (s : StoreState). LeavesSurvivors (names q) b.value a.mid.world s.world) (sym (ends.1 ∙ drop.same)) left));
        errors = gave_by (gives_errors deep who.moment q m.dir) b.one;
        there = subst (λ (s : StoreState). All (λ f. node_at s.world (names (fault_path f)) ≢ None) b.value) (sym (ends.1 ∙ drop.same)) stays;
        reply = ends.0 ∙ ap (λ x. delete_reply (closed x p) b.value) dir;
        locks = ends.2 ∙ drop.locks ∙ ap (λ (x : Path). locks_after x b.value b.ks) path ∙ ap (locks_after (names p) b.value) (l2 ∙ l1);
      },
    )

answer_leaves : (deep : Bool) (h : DeleteHeaders) (p : PathText) (who : Caller) (answer : Result DavMetaData FsError) {old mid new : StoreState} {ls ms : Locks} {r : Reply}
    → IsWorld old.world → p.bytes ≢ star → Asks (Metadata (names p)) old answer mid
    → Ran Asks (followed_by (refused_as dav.FsError answer) (λ found. delete_found deep h.conditions (closed found.dir p) who found)) mid ls (Ok r) new ms
    → (faults : List Fault) × DeleteLeaves p faults old new ls ms r
answer_leaves deep h p who (Err e) world other one ran = let ends = finish ran in let clash = ends.0 in cc
answer_leaves deep h p who (Ok m) {old} {mid} {new} {ls} {ms} {r} world other one ran =
    let (dir, same) = told_dir one in
    let here : node_at mid.world (names p) ≢ None = λ none. told_there one (ap (λ (w : World). node_at w (names p)) (sym same) ∙ none) in
    let (faults, d) = found_leaves deep h.conditions p who m (subst IsWorld (sym same) world) other here (dir ∙ ap (λ (w : World). is_folder w (names p)) (sym same)) ran in (
      faults,
      record {
        survivors = subst (λ (w : World). LeavesSurvivors (names p) faults w new.world) same d.survivors;
        errors = d.errors;
        there = d.there;
        reply = d.reply ∙ ap (λ (w : World). delete_reply (closed (is_folder w (names p)) p) faults) same;
        locks = d.locks;
      },
    )

depth_leaves : (deep : Result Bool DavError) (h : DeleteHeaders) (p : PathText) (who : Caller) {old new : StoreState} {ls ms : Locks} {r : Reply}
    → IsWorld old.world → p.bytes ≢ star
    → Ran Asks (followed_by deep (λ d. ask_for (Metadata (names p)) >>= (λ found. delete_found d h.conditions (closed found.dir p) who found))) old ls (Ok r) new ms
    → (faults : List Fault) × DeleteLeaves p faults old new ls ms r
depth_leaves (Err e) h p who world other ran = let ends = finish ran in let clash = ends.0 in cc
depth_leaves (Ok deep) h p who world other ran = let f = first ran in answer_leaves deep h p who f.answer world other f.one f.more

-- a DELETE that a reply ends leaves exactly what survives its faults
pub deletes_leave_survivors : DeletesLeaveSurvivors
deletes_leave_survivors h p who old new ls ms r world other ran = depth_leaves (whole_depth h.depth) h p who world other ran

-- ---- after a 204 all is gone

no_node : (o : Option Node) → option_map timeless o ≡ None → o ≡ None
no_node None is = refl
no_node (Some n) is = cc

none_left : (p q : Path) {old new : World} → LeavesSurvivors p [] old new → is_at_or_under q p ≡ true → node_at new q ≡ None
none_left p q {old} {new} left within = no_node (node_at new q) (left.after q ∙ ap (λ b. if b && true then None else timeless_at old q) within)

one_status : (b : Bool) (t : PathStatus) (p : PathText) → 400 ≤ t.1 → (if b then status_reply t.1 else multistatus_reply (t ∷ [])).status ≢ 204
one_status true t p error is = absurd (omega (arith, error, is))
one_status false t p error is = absurd (omega (arith, is))

error_reply_status : (p : PathText) (f : Fault) (faults : List Fault) (r : Reply) → IsErrorReport f → Ok r ≡ multi_reply p (map report_of (f ∷ faults)) → r.status ≢ 204
error_reply_status p f [] r error is status =
    let same : r ≡ one_reply p (report_of f) = let whole : Ok r ≡ Ok (one_reply p (report_of f)) = is in cc in
    one_status (are_equal (report_of f).0 p) (report_of f) p error (sym (ap (λ (x : Reply). x.status) same) ∙ status)
error_reply_status p f (g ∷ faults) r error is status =
    let items = map report_of (f ∷ g ∷ faults) in
    let same : r ≡ multistatus_reply items = let whole : Ok r ≡ Ok (multistatus_reply items) = is in cc in
    let clash : 207 ≡ 204 = sym (ap (λ (x : Reply). x.status) same) ∙ status in
    absurd (omega (arith, clash))

gone_by : (p : PathText) (q : Path) (faults : List Fault) {old new : StoreState} {ls ms : Locks} {r : Reply} → DeleteLeaves p faults old new ls ms r → r.status ≡ 204 → is_at_or_under q (names p) ≡ true → node_at new.world q ≡ None
gone_by p q [] left status within = none_left (names p) q left.survivors within
gone_by p q (f ∷ faults) {old} {r = r} left status within =
    absurd (error_reply_status (closed (is_folder old.world (names p)) p) f faults r (All-head IsErrorReport f faults left.errors) left.reply status)

pub no_content_means_gone : NoContentMeansGone
no_content_means_gone h p who old new ls ms r q world other ran status within =
    let (faults, left) = deletes_leave_survivors h p who old new ls ms r world other ran in
    gone_by p q faults left status within

-- ---- a DELETE that an error ends

-- no error comes after the removal
gives_reply : (q : PathText) (t : PathStatus) (more : List PathStatus) → Gives (λ r. ⊤) (Done (multi_reply q (t ∷ more)))
gives_reply q t [] = gives_done tt
gives_reply q t (u ∷ more) = gives_done tt

gives_dropping : (q : PathText) (ls : Locks) → Gives (λ r. ⊤) (set_by (deleted (names q)) ls >>= (λ done. Done (delete_reply q [])))
gives_dropping q None = gives_done tt
gives_dropping q (Some ls) = gives_keep (gives_done tt)

gives_dropped : (q : PathText) (faults : List Fault) → Gives (λ r. ⊤) (drop_if_gone q faults >>= (λ done. Done (delete_reply q faults)))
gives_dropped q [] = gives_look (λ ls. gives_dropping q ls)
gives_dropped q (f ∷ faults) = gives_reply q (report_of f) (map report_of faults)

after_allowed : (deep : Bool) (q : PathText) (who : Caller) (dir : Bool) (o : Result (Unit {0}) DavError) (w : World) {mid new : StoreState} {ls ks ms : Locks} {e : DavError}
    → (mid.world ≡ w) × (ks ≡ ls)
    → Ran Asks (followed_by o (λ free. removal deep who.moment q dir >>= (λ faults. drop_if_gone q faults >>= (λ done. Done (delete_reply q faults))))) mid ks (Err e) new ms
    → (new.world ≡ w) × (ms ≡ ls)
after_allowed deep q who dir (Err x) w left ran = let ends = finish ran in (ap (λ (s : StoreState). s.world) ends.1 ∙ left.0, ends.2 ∙ left.1)
after_allowed deep q who dir (Ok free) w left ran =
    absurd (never_errs (gives_bind (removal deep who.moment q dir) _ (gives_errors deep who.moment q dir) (λ faults errors. gives_dropped q faults)) ran)

after_answer : (deep : Bool) (h : DeleteHeaders) (p : PathText) (who : Caller) (answer : Result DavMetaData FsError) (w : World) {mid new : StoreState} {ls ms : Locks} {e : DavError} → mid.world ≡ w
    → Ran Asks (followed_by (refused_as dav.FsError answer) (λ found. delete_found deep h.conditions (closed found.dir p) who found)) mid ls (Err e) new ms
    → (new.world ≡ w) × (ms ≡ ls)
after_answer deep h p who (Err x) w same ran = let ends = finish ran in (ap (λ (s : StoreState). s.world) ends.1 ∙ same, ends.2)
after_answer deep h p who (Ok m) w same ran =
    let q : PathText = closed m.dir p in
    let s = ran_split (delete_allowed h.conditions q who m) _ ran in
    let (world, locks) = reading_leaves (only_reads look_reads (only_delete_allowed h.conditions q who m)) s.first in
    after_allowed deep q who m.dir s.outcome w (world ∙ same, locks) s.rest

after_depth : (deep : Result Bool DavError) (h : DeleteHeaders) (p : PathText) (who : Caller) {old new : StoreState} {ls ms : Locks} {e : DavError}
    → Ran Asks (followed_by deep (λ d. ask_for (Metadata (names p)) >>= (λ found. delete_found d h.conditions (closed found.dir p) who found))) old ls (Err e) new ms
    → (new.world ≡ old.world) × (ms ≡ ls)
after_depth (Err x) h p who ran = let ends = finish ran in (ap (λ (s : StoreState). s.world) ends.1, ends.2)
after_depth (Ok deep) h p who {old} ran =
    let f = first ran in
    after_answer deep h p who f.answer old.world (did_leave (Metadata (names p)) old.world f.mid.world f.answer tt (did f.one)) f.more

-- an error is answered before anything changed
pub refused_delete_leaves_all : RefusedDeleteLeavesAll
refused_delete_leaves_all h p who old new ls ms e ran = after_depth (whole_depth h.depth) h p who ran
