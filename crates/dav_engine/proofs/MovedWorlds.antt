-- What a MOVE leaves.
use Rattle.std.proofs.Common.{◌≡◌, ◌≢◌, ℕ, ◌&&◌, ◌||◌, if◌then◌else◌, cond, Bool, true, false, [], ◌∷◌, ◌++◌, map, Option, Some, None, Result, Ok, Err, inl, inr, refl, sym, ap, subst, ◌∙◌}
use Rattle.std.specs.Option.{option_map, option_or, option_and_then, is_some}
use Rattle.std.specs.FinMap.{find}
use Rattle.dav_core.specs.declared.errors.DavError.{DavError}
use Rattle.dav_core.specs.declared.errors.FsError.{FsError}
use Rattle.dav_core.specs.declared.errors.FsError.TheVariants.{Exists, NotFound, Forbidden}
use Rattle.dav_core.specs.Asking.{Rename, meaning, StoreState, Asks}
use Rattle.dav_core.specs.Locks.{deleted}
use Rattle.dav_core.specs.Path.{Path, PathText, names, star, path_cmp, rest_after, parent_of, is_same_path, is_at_or_under, is_under, is_root}
use Rattle.dav_core.specs.Status.{fs_status}
use Rattle.dav_core.specs.World.{World, Node, moved, touched, is_folder, has_members, is_missing}
use Rattle.dav_core.proofs.Theorems.{errors_leave_worlds, find-moved, stays-moved, renamed_world, touched_is_modified, rest_after-append, outside, same_path, went_on, went_if, left}
use Rattle.dav_headers.specs.declared.depth.Depth.{Depth}
use Rattle.dav_headers.specs.declared.depth.Depth.TheVariants.{Zero, One, Default, Infinity}
use Rattle.dav_engine.specs.Copying.{refused_at}
use Rattle.dav_engine.specs.CopyLaws.{LeavesMoved, MoveLeaves, not_cleared_for, has_moved, not_moved, MoveLeavesMoved}
use Rattle.dav_engine.specs.CopyMove.{copy_depth, drop_if_moved, copy_reply}
use Rattle.dav_engine.specs.Folder.{closed}
use Rattle.dav_engine.specs.Method.{◌>>=◌, gives}
use Rattle.dav_engine.specs.Multistatus.{multi_reply, status_reply}
use Rattle.dav_engine.specs.Plan.{Done, Locks, Ran}
use Rattle.dav_engine.specs.Removal.{report_of}
use Rattle.dav_engine.specs.RemovalLaws.{timeless, timeless_at}
use Rattle.dav_engine.specs.Reply.{Reply}
use Rattle.dav_engine.proofs.ChildLemmas.{names_closed}
use Rattle.dav_engine.proofs.CopiedLemmas.{at_append, at_itself, clash}
use Rattle.dav_engine.proofs.CopiedWorlds.{Emptied, ClearedFirst, something_stays, was_cleared, began}
use Rattle.dav_engine.proofs.CopyEffects.{timed}
use Rattle.dav_engine.proofs.DeletedWorlds.{dropped}
use Rattle.dav_engine.proofs.FaultLemmas.{one_line}
use Rattle.dav_engine.proofs.RunLemmas.{first, finish, gave, parts}
use Rattle.dav_engine.proofs.SurvivorLemmas.{answered}

-- ---- a rename

-- what is at a path after a rename, but for its times
renamed_at : (w : World) (s d : Path) (now : ℕ) (q : Path) → timeless_at (renamed_world w s d now) q ≡ option_map timeless (find path_cmp q (moved s d w.nodes))
renamed_at w s d now q =
    ap (option_map timeless) (touched_is_modified s now q (touched d now (moved s d w.nodes)))
    ∙ timed (is_same_path (parent_of s) q) now (find path_cmp q (touched d now (moved s d w.nodes)))
    ∙ ap (option_map timeless) (touched_is_modified d now q (moved s d w.nodes))
    ∙ timed (is_same_path (parent_of d) q) now (find path_cmp q (moved s d w.nodes))

or_none : (o : Option Node) → option_or o None ≡ o
or_none None = refl
or_none (Some x) = refl

arrives : (w : World) (s d rest : Path) → find path_cmp (d ++ rest) (moved s d w.nodes) ≡ find path_cmp (s ++ rest) w.nodes
arrives w s d rest =
    find-moved s d (d ++ rest) w.nodes
    ∙ ap (λ (o : Option Path). option_or (option_and_then (λ r. find path_cmp (s ++ r) w.nodes) o) (cond (is_some o) None (cond (is_at_or_under (d ++ rest) s) None (find path_cmp (d ++ rest) w.nodes)))) (rest_after-append d rest)
    ∙ or_none (find path_cmp (s ++ rest) w.nodes)

leaves_by : (w : World) (s d q : Path) (o : Option Path) → rest_after d q ≡ o → is_some o ≡ false → is_at_or_under q s ≡ true → find path_cmp q (moved s d w.nodes) ≡ None
leaves_by w s d q None is off at =
    find-moved s d q w.nodes
    ∙ ap (λ (o : Option Path). option_or (option_and_then (λ r. find path_cmp (s ++ r) w.nodes) o) (cond (is_some o) None (cond (is_at_or_under q s) None (find path_cmp q w.nodes)))) is
    ∙ ap (λ b. cond b None (find path_cmp q w.nodes)) at
leaves_by w s d q (Some r) is off at = cc

apart_by : (s d q : Path) (b : Bool) → is_at_or_under s d ≡ false → is_at_or_under d s ≡ false → is_at_or_under q s ≡ true → is_at_or_under q d ≡ b → b ≡ false
apart_by s d q false off under at is = refl
apart_by s d q true off under at is = elim (one_line s d q at is) [
  | inl h ↦ clash (is_at_or_under d s) under h
  | inr h ↦ clash (is_at_or_under s d) off h
]

moves : (w v : World) (s d : Path) (now : ℕ) → v ≡ renamed_world w s d now → is_at_or_under s d ≡ false → is_at_or_under d s ≡ false → LeavesMoved s d w v
moves w v s d now is off under = record {
  arrived = λ rest. ap (λ (x : World). timeless_at x (d ++ rest)) is ∙ renamed_at w s d now (d ++ rest) ∙ ap (option_map timeless) (arrives w s d rest);
  gone = λ q at. ap (λ (x : World). timeless_at x q) is ∙ renamed_at w s d now q
      ∙ ap (option_map timeless) (leaves_by w s d q (rest_after d q) refl (apart_by s d q (is_at_or_under q d) off under at refl) at);
  elsewhere = λ q a b. ap (λ (x : World). timeless_at x q) is ∙ renamed_at w s d now q ∙ ap (option_map timeless) (stays-moved s d q w.nodes a b);
}

differ : (s d : Path) (b : Bool) → is_same_path s d ≡ b → is_at_or_under s d ≡ false → b ≡ false
differ s d false is off = refl
differ s d true is off = clash (is_at_or_under s d) off (ap (λ z. is_at_or_under s z) (sym (same_path s d is)) ∙ at_itself s)

record Renamed (s d : Path) (w v : World) : Type 0 where
  left : LeavesMoved s d w v
  under : is_at_or_under d s ≡ false

rename_did : {s d : Path} {now : ℕ} {old new : StoreState} {u : Unit {0}} → is_at_or_under s d ≡ false → Asks (Rename s d now) old (Ok u) new → Renamed s d old.world new.world
unfolding meaning
rename_did {s} {d} {now} {old} {new} off one =
    let (r, h, is, after) = answered one in
    let (root, h1) = went_on (is_root s || is_root d) Forbidden _ r h in
    let (there, h2) = went_on (is_missing old.world s) NotFound _ r h1 in
    elim (went_if (is_same_path s d) _ _ r h2) as (λ _. Renamed s d old.world new.world) [
      | inl (same, h3) ↦ clash (is_same_path s d) (differ s d (is_same_path s d) refl off) same
      | inr (other, h3) ↦
          let (under, h4) = went_on (is_under d s) Forbidden _ r h3 in
          let (folder, h5) = went_on _ NotFound _ r h4 in
          let (empty, h6) = went_on (is_folder old.world d && has_members old.world d) Exists _ r h5 in
          record { left = moves old.world new.world s d now (after ∙ left tt (renamed_world old.world s d now) r h6) off (outside s d other under); under = outside s d other under }
    ]

-- ---- the move, after the destination was cleared

or_all : (w : World) (d q : Path) (found b : Bool) → is_at_or_under q d ≡ b → {v : World} → Emptied found d w v → (c : Bool) → found ≡ c → timeless_at v q ≡ cond (c && b) None (timeless_at w q)
or_all w d q found true is empty true f = empty.inside f q is
or_all w d q found false is empty true f = empty.outside q is
or_all w d q found b is empty false f = ap (λ (x : World). timeless_at x q) (empty.same f)

since_by : (w : World) (d q : Path) (found b : Bool) {v : World} → Emptied found d w v → is_at_or_under q d ≡ b → b ≡ false → timeless_at v q ≡ timeless_at w q
since_by w d q found b empty is off = empty.outside q (is ∙ off)

not_below : (s d rest : Path) (b : Bool) → is_at_or_under s d ≡ false → is_at_or_under d s ≡ false → is_at_or_under (s ++ rest) d ≡ b → b ≡ false
not_below s d rest b off under is = apart_by s d (s ++ rest) b off under (at_append s rest) is

moved_since : (s d : Path) (found : Bool) (w u v : World) → Emptied found d w u → is_at_or_under s d ≡ false → is_at_or_under d s ≡ false → LeavesMoved s d u v → LeavesMoved s d w v
moved_since s d found w u v empty off under left = record {
  arrived = λ rest. left.arrived rest ∙ since_by w d (s ++ rest) found (is_at_or_under (s ++ rest) d) empty refl (not_below s d rest (is_at_or_under (s ++ rest) d) off under refl);
  gone = left.gone;
  elsewhere = λ q a b. left.elsewhere q a b ∙ empty.outside q b;
}

told_moved : (r : Reply) (status : ℕ) → ◌≡◌ {A = Result Reply DavError} (Ok r) (Ok (status_reply status)) → r ≡ status_reply status
told_moved r status h = cc

answer_moves : (now : ℕ) (dir : Bool) (p d : PathText) (found : Bool) (answer : Result (Unit {0}) FsError) {old mid sent new : StoreState} {ls ks ms : Locks} {r : Reply} → p.bytes ≢ star
    → is_at_or_under (names (closed dir p)) (names d) ≡ false → dir ≡ is_folder old.world (names p)
    → Emptied found (names d) old.world mid.world → ks ≡ (if found then option_map (deleted (names d)) ls else ls) → Asks (Rename (names (closed dir p)) (names d) now) mid answer sent
    → Ran Asks ((gives (refused_at (closed dir p) answer) >>= (λ faults. drop_if_moved (closed dir p) faults >>= (λ u. gives faults))) >>= (λ faults. Done (copy_reply (closed dir p) (if found then 204 else 201) faults))) sent ks (Ok r) new ms
    → MoveLeaves p d old new ls ms r
answer_moves now dir p d found (Err e) {old} {mid} {sent} {new} {ls} {ks} {ms} {r} other off is empty locks one ran =
    let ends = finish ran in
    let same : new.world ≡ mid.world = ap (λ (s : StoreState). s.world) ends.1 ∙ errors_leave_worlds (Rename (names (closed dir p)) (names d) now) mid e sent one in
    not_moved found e
    (λ q. ap (λ (w : World). timeless_at w q) same ∙ or_all old.world (names d) q found (is_at_or_under q (names d)) refl empty found refl)
    (ends.0 ∙ ap (λ b. multi_reply (closed b p) ((closed b p, fs_status e) ∷ [])) is)
    (ends.2 ∙ locks)
answer_moves now dir p d found (Ok u) {old} {mid} {sent} {new} {ls} {ks} {ms} {r} other off is empty locks one ran =
    let q : PathText = closed dir p in
    let path : names q ≡ names p = names_closed dir p other in
    let a = parts (drop_if_moved q [] >>= (λ u. gives [])) (λ faults. Done (copy_reply q (if found then 204 else 201) faults)) ran in
    let b = parts (drop_if_moved q []) (λ u. gives []) a.one in
    let drop = dropped q [] b.one in
    let gone = gave b.more in
    let locks_b : a.ks ≡ b.ks = (finish b.more).2 in
    let ends = finish a.more in
    let did = rename_did off one in
    let left : LeavesMoved (names q) (names d) old.world sent.world = moved_since (names q) (names d) found old.world mid.world sent.world empty off did.under did.left in
    has_moved found
    (subst (λ (x : Path). LeavesMoved x (names d) old.world new.world) path
    (subst (λ (s : StoreState). LeavesMoved (names q) (names d) old.world s.world) (sym (ends.1 ∙ gone.1 ∙ drop.same)) left))
    empty.was
    (told_moved r (if found then 204 else 201) (ends.0 ∙ ap (copy_reply q (if found then 204 else 201)) gone.0))
    (ends.2 ∙ locks_b ∙ drop.locks ∙ ap (λ (x : Path). option_map (deleted x) ks) path ∙ ap (option_map (deleted (names p))) locks)

brings : (now : ℕ) (dir : Bool) (p d : PathText) {old new : StoreState} {ls ms : Locks} {r : Reply} → p.bytes ≢ star
    → is_at_or_under (names (closed dir p)) (names d) ≡ false → dir ≡ is_folder old.world (names p) → ClearedFirst true now (closed dir p) d old.world ls r new ms → MoveLeaves p d old new ls ms r
brings now dir p d other off is (something_stays f faults left told locks) =
    not_cleared_for f faults left (told ∙ ap (λ b. multi_reply (closed b p) (map report_of (f ∷ faults))) is) locks
brings now dir p d {old} other off is (was_cleared found mid ks empty locks ran) =
    let f = first {c = Rename (names (closed dir p)) (names d) now}
    {go = λ answer. (gives (refused_at (closed dir p) answer) >>= (λ faults. drop_if_moved (closed dir p) faults >>= (λ u. gives faults))) >>= (λ faults. Done (copy_reply (closed dir p) (if found then 204 else 201) faults))} ran in
    answer_moves now dir p d found f.answer {old = old} {mid = mid} {sent = f.mid} other off is empty locks f.one f.more

-- ---- the whole

whole : (depth : Option Depth) (deep : Bool) → copy_depth true depth ≡ Ok deep → deep ≡ true
whole None deep h = cc
whole (Some Default) deep h = cc
whole (Some Zero) deep h = cc
whole (Some One) deep h = cc
whole (Some Infinity) deep h = cc

pub move_leaves_moved : MoveLeavesMoved
move_leaves_moved m h p d who old new ls ms r world small move is other plain ran =
    let b = began m h p d who world small plain (λ deep h'. whole h.depth deep (ap (λ x. copy_depth x h.depth) (sym move) ∙ h')) is ran in
    brings who.moment b.dir p d other b.off b.is (subst (λ x. ClearedFirst x who.moment (closed b.dir p) d old.world ls r new ms) move b.rest)
