-- What a COPY leaves.
use Rattle.std.proofs.Common.{◌≡◌, ◌≢◌, ℕ, ◌≤◌, ◌&&◌, ◌||◌, not, if◌then◌else◌, Bool, true, false, List, [], ◌∷◌, ◌++◌, map, Option, Some, None, Result, Ok, Err, ◌⊎◌, inl, inr, refl, sym, ap, subst, ◌∙◌, arith}
use Rattle.std.specs.Prelude.{⊤}
use Rattle.std.specs.Option.{option_map, is_none, unwrap_or}
use Rattle.std.specs.Result.{is_ok, result_ok}
use Rattle.dav_core.specs.declared.errors.FsError.{FsError}
use Rattle.dav_core.specs.declared.errors.DavError.{DavError}
use Rattle.dav_core.specs.declared.errors.DavError.TheVariants as dav
use Rattle.dav_core.specs.declared.fs.DavMetaData.{DavMetaData}
use Rattle.dav_core.specs.declared.method.DavMethod.{DavMethod}
use Rattle.dav_core.specs.Asking.{Metadata, StoreState, Asks}
use Rattle.dav_core.specs.CallLaws.{IsStorable}
use Rattle.dav_core.specs.Locks.{deleted}
use Rattle.dav_core.specs.Path.{Path, PathText, names, parent_of, is_at_or_under}
use Rattle.dav_core.specs.World.{World, Node, node_at, is_folder, is_folder_node, is_missing, last_moment, IsWorld}
use Rattle.dav_headers.specs.declared.depth.Depth.{Depth}
use Rattle.dav_headers.specs.declared.depth.Depth.TheVariants.{Zero, One, Default, Infinity}
use Rattle.dav_engine.specs.Caller.{Caller}
use Rattle.dav_engine.specs.Copied.{IsPlain}
use Rattle.dav_engine.specs.Copying.{CopyFault, copying}
use Rattle.dav_engine.specs.CopyLaws.{copied_properties, is_below_fault, IsCopied, IsCopyFrom, LeavesCopies, OnlyCopies, CopyLeaves, not_cleared, has_copied, CopyLeavesCopies}
use Rattle.dav_engine.specs.CopyMove.{CopyHeaders, is_move, copy_depth, destination_found, copy_free, copy_allowed, clearing, drop_if, copy_reply, transfer_reply, transfer_if_cleared, copy_found, copy_or_move}
use Rattle.dav_engine.specs.Folder.{closed, is_folder_found}
use Rattle.dav_engine.specs.Method.{MethodPlan, answer_of, then as followed_by, ◌>>=◌, require, refused_as, ask_for, gives}
use Rattle.dav_engine.specs.Multistatus.{multi_reply}
use Rattle.dav_engine.specs.Plan.{Done, Locks, Ran}
use Rattle.dav_engine.specs.Removal.{Fault, report_of, removal}
use Rattle.dav_engine.specs.RemovalLaws.{timeless, timeless_at, LeavesSurvivors}
use Rattle.dav_engine.specs.Reply.{Reply}
use Rattle.dav_engine.proofs.CallWorlds.{did, did_leave}
use Rattle.dav_engine.proofs.ChildLemmas.{names_closed}
use Rattle.dav_engine.proofs.CopiedLemmas.{at_append, at_itself, only_copies, copies_leave_copies}
use Rattle.dav_engine.proofs.CopyEffects.{found_did, there_by}
use Rattle.dav_engine.proofs.CopyHeaderLemmas.{plain_other}
use Rattle.dav_engine.proofs.CopyWorld.{only_copy_allowed}
use Rattle.dav_engine.proofs.DeletedWorlds.{dropped}
use Rattle.dav_engine.proofs.DeleteWorld.{only_removal, proper_removal}
use Rattle.dav_engine.proofs.PlainLemmas.{closed_plain, closed_prefix}
use Rattle.dav_engine.proofs.PutWorld.{look_reads}
use Rattle.dav_engine.proofs.RunLemmas.{first, finish, gave, parts, only_list}
use Rattle.dav_engine.proofs.SurvivorLemmas.{survivors_by}
use Rattle.dav_engine.proofs.WorldPlans.{only_reads, reading_leaves, proper_keeps}

-- ---- what the checks say

-- what is told of a path: whether a folder is there, and that something is
abbrev pub Told : World → Path → Option DavMetaData → Type 0
Told w p None = ⊤
Told w p (Some m) = (m.dir ≡ is_folder w p) × (is_missing w p ≡ false)

told_by : {p : Path} {old mid : StoreState} (answer : Result DavMetaData FsError) → Asks (Metadata p) old answer mid → Told old.world p (result_ok answer)
told_by (Err e) one = tt
told_by {p} {old} (Ok m) one =
    let found = found_did one in
    (found.dir ∙ sym (ap is_folder_node found.there), ap is_none found.there)

held : (b : Bool) (e : DavError) {old new : StoreState} {ls ms : Locks} {u : Unit {0}} → Ran Asks (require b e) old ls (Ok u) new ms → (b ≡ true) × (new ≡ old)
held true e ran = let ends = finish ran in (refl, ends.1)
held false e ran = let ends = finish ran in let clash = ends.0 in cc

found_told : (overwrite : Option Bool) (d : PathText) {old new : StoreState} {ls ms : Locks} {there : Option DavMetaData}
    → Ran Asks (destination_found overwrite d) old ls (Ok there) new ms → Told old.world (names d) there
found_told overwrite d {old} {there = there} ran =
    let above = first {c = Metadata (parent_of (names d))} {go = λ above. require (is_folder_found (result_ok above)) (dav.Status 409) >>= (λ u.
    ask_answer d >>= (λ there. require (unwrap_or overwrite true || not (is_ok there)) (dav.Status 412) >>= (λ v. gives (result_ok there))))} ran in
    let folder = parts (require (is_folder_found (result_ok above.answer)) (dav.Status 409)) _ above.more in
    let look = first {c = Metadata (names d)} {go = λ there. require (unwrap_or overwrite true || not (is_ok there)) (dav.Status 412) >>= (λ v. gives (result_ok there))} folder.more in
    let may = parts (require (unwrap_or overwrite true || not (is_ok look.answer)) (dav.Status 412)) _ look.more in
    let is = gave may.more in
    let same : folder.mid.world ≡ old.world = ap (λ (s : StoreState). s.world) (held (is_folder_found (result_ok above.answer)) (dav.Status 409) folder.one).1
    ∙ did_leave (Metadata (parent_of (names d))) old.world above.mid.world above.answer tt (did above.one) in
    subst (Told old.world (names d)) (sym is.0) (subst (λ (w : World). Told w (names d) (result_ok look.answer)) same (told_by look.answer look.one))
  where
    ask_answer : (d : PathText) → MethodPlan (Result DavMetaData FsError)
    ask_answer d = answer_of (Metadata (names d))

-- what is known after the checks
record Allowed (p d : Path) (there : Option DavMetaData) (old new : StoreState) (ls ms : Locks) : Type 0 where
  told : Told old.world d there
  off : is_at_or_under p d ≡ false
  world : new.world ≡ old.world
  locks : ms ≡ ls

not_true : (b : Bool) → not b ≡ true → b ≡ false
not_true true h = cc
not_true false h = refl

allowed_by : (m : DavMethod) (deep : Bool) (h : CopyHeaders) (p d : PathText) (who : Caller) (found : DavMetaData) {old new : StoreState} {ls ms : Locks} {there : Option DavMetaData}
    → Ran Asks (copy_allowed m deep h p d who found) old ls (Ok there) new ms → Allowed (names p) (names d) there old new ls ms
allowed_by m deep h p d who found {old} {there = there} ran =
    let (world, locks) = reading_leaves (only_reads look_reads (only_copy_allowed m deep h p d who found)) ran in
    let a = parts (destination_found h.overwrite d) _ ran in
    let b = parts (require (not (is_at_or_under (names p) (names d))) (dav.Status 403)) _ a.more in
    let c = parts (copy_free m deep h.conditions p d who found a.value) _ b.more in
    let is = gave c.more in
    record {
      told = subst (Told old.world (names d)) (sym is.0) (found_told h.overwrite d a.one);
      off = not_true (is_at_or_under (names p) (names d)) (held (not (is_at_or_under (names p) (names d))) (dav.Status 403) b.one).0;
      world = world;
      locks = locks;
    }

-- ---- the destination is cleared

-- What was found at the destination was removed, and nothing else changed; or nothing was found there.
pub record Emptied (found : Bool) (d : Path) (old new : World) : Type 0 where
  pub world : IsWorld new
  pub next : old.next ≤ new.next
  pub outside : (q : Path) → is_at_or_under q d ≡ false → timeless_at new q ≡ timeless_at old q
  pub inside : found ≡ true → (q : Path) → is_at_or_under q d ≡ true → timeless_at new q ≡ None
  pub same : found ≡ false → new ≡ old
  pub was : found ≡ true → is_missing old d ≡ false

-- the destination was cleared, and the rest of the run; or something stays there
pub data ClearedFirst (moves : Bool) (now : ℕ) (p d : PathText) (w : World) (ls : Locks) (r : Reply) (new : StoreState) (ms : Locks) : Type 0 where
  something_stays : (f : Fault) (faults : List Fault) → LeavesSurvivors (names d) (f ∷ faults) w new.world
      → Ok r ≡ multi_reply p (map report_of (f ∷ faults)) → ms ≡ ls → ClearedFirst moves now p d w ls r new ms
  was_cleared : (found : Bool) (mid : StoreState) (ks : Locks) → Emptied found (names d) w mid.world → ks ≡ (if found then option_map (deleted (names d)) ls else ls)
      → Ran Asks (transfer_reply moves true now p d (if found then 204 else 201)) mid ks (Ok r) new ms → ClearedFirst moves now p d w ls r new ms

cleared_by : (moves : Bool) (now : ℕ) (p d : PathText) (there : DavMetaData) (faults : List Fault) (w : World) {mid new : StoreState} {ls ks ms : Locks} {r : Reply}
    → IsWorld mid.world → w.next ≤ mid.world.next → is_missing w (names d) ≡ false → ks ≡ ls → LeavesSurvivors (names d) faults w mid.world
    → Ran Asks (transfer_if_cleared moves true now p d (Some there) faults) mid ks (Ok r) new ms → ClearedFirst moves now p d w ls r new ms
cleared_by moves now p d there (f ∷ faults) w world next was locks left ran =
    let ends = finish ran in
    something_stays f faults (subst (λ (s : StoreState). LeavesSurvivors (names d) (f ∷ faults) w s.world) (sym ends.1) left) ends.0 (ends.2 ∙ locks)
cleared_by moves now p d there [] w {mid} {ls = ls} world next was locks left ran =
    let a = parts (drop_if true d) _ ran in
    let drop = dropped d [] a.one in
    was_cleared true a.mid a.ks
    (subst (λ (s : StoreState). Emptied true (names d) w s.world) (sym drop.same) (record {
      world = world;
      next = next;
      outside = λ q out. left.after q ∙ ap (λ b. if b && true then None else timeless_at w q) out;
      inside = λ is q in_it. left.after q ∙ ap (λ b. if b && true then None else timeless_at w q) in_it;
      same = λ is. cc;
      was = λ is. was;
    }))
    (drop.locks ∙ ap (option_map (deleted (names d))) locks) a.more

clears : (moves : Bool) (now : ℕ) (p d : PathText) (there : Option DavMetaData) {old new : StoreState} {ls ms : Locks} {r : Reply}
    → IsWorld old.world → now ≤ last_moment → IsPlain d → Told old.world (names d) there
    → Ran Asks (clearing true now d there >>= (λ faults. transfer_if_cleared moves true now p d there faults)) old ls (Ok r) new ms → ClearedFirst moves now p d old.world ls r new ms
clears moves now p d None {old} {ls = ls} world small plain told ran =
    was_cleared false old ls
    (record {
      world = world;
      next = omega arith;
      outside = λ q out. refl;
      inside = λ is. cc;
      same = λ is. refl;
      was = λ is. cc;
    })
    refl ran
clears moves now p d (Some m) {old} {ls = ls} world small plain told ran =
    let a = parts (removal true now d m.dir) _ ran in
    let kept = proper_keeps (proper_removal true now d m.dir small) world a.one in
    cleared_by moves now p d m a.value old.world kept.world kept.next told.1 (only_list (only_removal true now d m.dir) a.one)
    (survivors_by true now d m.dir world (plain_other d plain) told.0 a.one) a.more

-- ---- the copy, after the destination was cleared

module _ (p d : Path) (found : Bool) (faults : List CopyFault) (old mid new : World) (empty : Emptied found d old mid) (left : LeavesCopies p d faults mid new) where
  copied_since : (n k m : Node) → timeless k ≡ timeless n → IsCopied mid k m → IsCopied old n m
  copied_since n k m same c =
      let low = empty.next in
      let high = c.number in
      record { kind = c.kind ∙ ap (λ (x : Node). x.kind) same; properties = c.properties ∙ ap copied_properties same; number = omega (arith, low, high) }

  from_since : (q : Path) (m : Node) → IsCopyFrom mid q d m → IsCopyFrom old q d m
  from_since q m (k, is, off, c) =
      let (n, there, same) = there_by (node_at old q) (timeless k) (sym (empty.outside q off) ∙ ap (option_map timeless) is) in
      (n, there, off, copied_since n k m (sym same) c)

  has_since : (rest : Path) (n : Node) → node_at old (p ++ rest) ≡ Some n → is_at_or_under (p ++ rest) d ≡ false
      → (is_below_fault faults (p ++ rest) || is_below_fault faults (d ++ rest)) ≡ false → (m : Node) × (node_at new (d ++ rest) ≡ Some m) × IsCopied old n m
  has_since rest n h off silent =
      let (k, there, same) = there_by (node_at mid (p ++ rest)) (timeless n) (empty.outside (p ++ rest) off ∙ ap (option_map timeless) h) in
      let (m, is, c) = left.copied rest k there off silent in
      (m, is, copied_since n k m same c)

  was_since : (b : Bool) → found ≡ b → (rest : Path) (m : Node) → timeless_at mid (d ++ rest) ≡ Some (timeless m) → timeless_at old (d ++ rest) ≡ Some (timeless m)
  was_since true is rest m h =
      let none : timeless_at mid (d ++ rest) ≡ None = empty.inside is (d ++ rest) (at_append d rest) in
      let both : ◌≡◌ {A = Option Node} None (Some (timeless m)) = sym none ∙ h in
      cc
  was_since false is rest m h = ap (λ (w : World). timeless_at w (d ++ rest)) (sym (empty.same is)) ∙ h

  copies_since : LeavesCopies p d faults old new
  copies_since = record {
    elsewhere = λ q out. left.elsewhere q out ∙ empty.outside q out;
    copied = has_since;
    came = λ rest m h. elim (left.came rest m h) as (λ _. (timeless_at old (d ++ rest) ≡ Some (timeless m)) ⊎ IsCopyFrom old (p ++ rest) d m) [
      | inl a ↦ inl (was_since found refl rest m a)
      | inr c ↦ inr (from_since (p ++ rest) m c)
    ];
    below = left.below;
  }

  missing_by : (o : Option Node) → option_map timeless o ≡ None → is_none o ≡ true
  missing_by None h = refl
  missing_by (Some n) h = cc

  missing_since : (b : Bool) → found ≡ b → (b || is_missing old d) ≡ true → is_missing mid d ≡ true
  missing_since true is h = missing_by (node_at mid d) (empty.inside is d (at_itself d))
  missing_since false is h = ap (λ (w : World). is_missing w d) (empty.same is) ∙ h

  only_since : (found || is_missing old d) ≡ true → OnlyCopies p d old new
  only_since h rest m is = from_since (p ++ rest) m (only_copies p d faults mid new empty.world (missing_since found refl h) left rest m is)

-- ---- the whole

-- a run of a COPY or MOVE that a reply ends: what was found, and what comes after the checks
pub record Started (m : DavMethod) (now : ℕ) (p d : PathText) (deep : Bool) (old : StoreState) (ls : Locks) (r : Reply) (new : StoreState) (ms : Locks) : Type 0 where
  pub dir : Bool
  pub is : dir ≡ is_folder old.world (names p)
  pub off : is_at_or_under (names (closed dir p)) (names d) ≡ false
  pub there : Option DavMetaData
  pub told : Told old.world (names d) there
  pub mid : StoreState
  pub same : mid.world ≡ old.world
  pub rest : Ran Asks (clearing deep now d there >>= (λ faults. transfer_if_cleared (is_move m) deep now (closed dir p) d there faults)) mid ls (Ok r) new ms

answer_started : (m : DavMethod) (h : CopyHeaders) (p d : PathText) (who : Caller) (deep : Bool) (answer : Result DavMetaData FsError) {old mid new : StoreState} {ls ms : Locks} {r : Reply}
    → Asks (Metadata (names p)) old answer mid
    → Ran Asks (followed_by (refused_as dav.FsError answer) (λ found. copy_found m deep h (closed found.dir p) d who found)) mid ls (Ok r) new ms → Started m who.moment p d deep old ls r new ms
answer_started m h p d who deep (Err e) one ran = let ends = finish ran in let clash = ends.0 in cc
answer_started m h p d who deep (Ok found) {old} {mid} {new} {ls} {ms} {r} one ran =
    let looked = found_did one in
    let a = parts (copy_allowed m deep h (closed found.dir p) d who found) _ ran in
    let known = allowed_by m deep h (closed found.dir p) d who found a.one in
    record {
      dir = found.dir;
      is = looked.dir ∙ sym (ap is_folder_node looked.there);
      off = known.off;
      there = a.value;
      told = subst (λ (w : World). Told w (names d) a.value) looked.same known.told;
      mid = a.mid;
      same = known.world ∙ looked.same;
      rest = subst (λ (l : Locks). Ran Asks (clearing deep who.moment d a.value >>= (λ faults. transfer_if_cleared (is_move m) deep who.moment (closed found.dir p) d a.value faults)) a.mid l (Ok r) new ms) known.locks a.more;
    }

pub started : (m : DavMethod) (h : CopyHeaders) (p d : PathText) (who : Caller) (wanted : Bool) {old new : StoreState} {ls ms : Locks} {r : Reply}
    → ((deep : Bool) → copy_depth (is_move m) h.depth ≡ Ok deep → deep ≡ wanted) → h.destination ≡ Ok d
    → Ran Asks (copy_or_move m h p who) old ls (Ok r) new ms → Started m who.moment p d wanted old ls r new ms
started m h p d who wanted {old} {new} {ls} {ms} {r} whole is ran =
    let a = parts (Done (copy_depth (is_move m) h.depth)) _ ran in
    let deep : a.value ≡ wanted = whole a.value (sym (finish a.one).0) in
    let b = parts (Done h.destination) _ a.more in
    let to : Ok b.value ≡ Ok d = (finish b.one).0 ∙ is in
    let same : b.value ≡ d = cc in
    let start : (b.mid ≡ old) × (b.ks ≡ ls) = ((finish b.one).1 ∙ (finish a.one).1, (finish b.one).2 ∙ (finish a.one).2) in
    let run : Ran Asks (ask_for (Metadata (names p)) >>= (λ found. copy_found m wanted h (closed found.dir p) d who found)) old ls (Ok r) new ms =
    subst (λ (s : StoreState). Ran Asks (ask_for (Metadata (names p)) >>= (λ found. copy_found m wanted h (closed found.dir p) d who found)) s ls (Ok r) new ms) start.0
    (subst (λ (l : Locks). Ran Asks (ask_for (Metadata (names p)) >>= (λ found. copy_found m wanted h (closed found.dir p) d who found)) b.mid l (Ok r) new ms) start.1
    (subst (λ (x : Bool). Ran Asks (ask_for (Metadata (names p)) >>= (λ found. copy_found m x h (closed found.dir p) d who found)) b.mid b.ks (Ok r) new ms) deep
    (subst (λ (x : PathText). Ran Asks (ask_for (Metadata (names p)) >>= (λ found. copy_found m a.value h (closed found.dir p) x who found)) b.mid b.ks (Ok r) new ms) same b.more))) in
    let f = first {c = Metadata (names p)} {go = λ answer. followed_by (refused_as dav.FsError answer) (λ found. copy_found m wanted h (closed found.dir p) d who found)} run in
    answer_started m h p d who wanted f.answer {mid = f.mid} f.one f.more

-- the same with everything below: the destination was cleared, or something stays there
pub record Began (m : DavMethod) (now : ℕ) (p d : PathText) (old : StoreState) (ls : Locks) (r : Reply) (new : StoreState) (ms : Locks) : Type 0 where
  pub dir : Bool
  pub is : dir ≡ is_folder old.world (names p)
  pub off : is_at_or_under (names (closed dir p)) (names d) ≡ false
  pub rest : ClearedFirst (is_move m) now (closed dir p) d old.world ls r new ms

pub began : (m : DavMethod) (h : CopyHeaders) (p d : PathText) (who : Caller) {old new : StoreState} {ls ms : Locks} {r : Reply}
    → IsWorld old.world → who.moment ≤ last_moment → IsPlain d → ((deep : Bool) → copy_depth (is_move m) h.depth ≡ Ok deep → deep ≡ true) → h.destination ≡ Ok d
    → Ran Asks (copy_or_move m h p who) old ls (Ok r) new ms → Began m who.moment p d old ls r new ms
began m h p d who {old} {new} {ls} {ms} {r} world small plain whole is ran =
    let b = started m h p d who true whole is ran in
    record {
      dir = b.dir;
      is = b.is;
      off = b.off;
      rest =
          subst (λ (w : World). ClearedFirst (is_move m) who.moment (closed b.dir p) d w ls r new ms) b.same
          (clears (is_move m) who.moment (closed b.dir p) d b.there (subst IsWorld (sym b.same) world) small plain (subst (λ (w : World). Told w (names d) b.there) (sym b.same) b.told) b.rest);
    }

-- ---- COPY

whole : (depth : Option Depth) (deep : Bool) → depth ≢ Some Zero → copy_depth false depth ≡ Ok deep → deep ≡ true
whole None deep other h = cc
whole (Some Default) deep other h = cc
whole (Some Zero) deep other h = absurd (other refl)
whole (Some One) deep other h = cc
whole (Some Infinity) deep other h = cc

brings : (now : ℕ) (dir : Bool) (p d : PathText) {old new : StoreState} {ls ms : Locks} {r : Reply} → IsWorld old.world → now ≤ last_moment → IsPlain p → IsPlain d → IsStorable (names d) → p.prefix ≡ d.prefix
    → is_at_or_under (names (closed dir p)) (names d) ≡ false → dir ≡ is_folder old.world (names p) → ClearedFirst false now (closed dir p) d old.world ls r new ms → CopyLeaves p d old new ls ms r
brings now dir p d {old} {new} {ls} {ms} {r} world small plain place storable prefix off is (something_stays f faults left told locks) =
    not_cleared f faults left (told ∙ ap (λ b. multi_reply (closed b p) (map report_of (f ∷ faults))) is) locks
brings now dir p d {old} {new} {ls} {ms} {r} world small plain place storable prefix off is (was_cleared found mid ks empty locks ran) =
    let q : PathText = closed dir p in
    let path : names q ≡ names p = names_closed dir p (plain_other p plain) in
    let a = parts (copying true now d q d) (λ faults. Done (copy_reply q (if found then 204 else 201) faults)) ran in
    let ends = finish a.more in
    let (copies, kept, only) = copies_leave_copies now q d mid a.mid ks a.ks a.value empty.world small (closed_prefix dir p ∙ prefix) (closed_plain dir p plain) place storable off a.one in
    let left : LeavesCopies (names p) (names d) a.value mid.world new.world =
    subst (λ (x : Path). LeavesCopies x (names d) a.value mid.world new.world) path (subst (λ (s : StoreState). LeavesCopies (names q) (names d) a.value mid.world s.world) (sym ends.1) copies) in
    has_copied found a.value
    (copies_since (names p) (names d) found a.value old.world mid.world new.world empty left)
    empty.was
    (only_since (names p) (names d) found a.value old.world mid.world new.world empty left)
    (ends.0 ∙ ap (λ b. copy_reply (closed b p) (if found then 204 else 201) a.value) is)
    (ends.2 ∙ kept ∙ locks)

pub copy_leaves_copies : CopyLeavesCopies
copy_leaves_copies m h p d who old new ls ms r world small copy depth is plain place storable prefix ran =
    let b = began m h p d who world small place (λ deep h'. whole h.depth deep depth (ap (λ x. copy_depth x h.depth) (sym copy) ∙ h')) is ran in
    brings who.moment b.dir p d world small plain place storable prefix b.off b.is
    (subst (λ x. ClearedFirst x who.moment (closed b.dir p) d old.world ls r new ms) copy b.rest)
