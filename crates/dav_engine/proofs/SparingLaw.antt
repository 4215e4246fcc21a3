-- A plan that spares paths leaves their content.
use Rattle.std.proofs.Common.{◌≡◌, ◌++◌, append-nil, length, ℕ, ◌≤◌, Bool, true, false, List, [], Option, Some, None, Result, Ok, Err, refl, sym, ap, subst, ◌∙◌, arith}
use Rattle.dav_core.specs.declared.errors.FsError.{FsError}
use Rattle.dav_core.specs.declared.errors.DavError.{DavError}
use Rattle.dav_core.specs.Asking.{Call, Answer, StoreState, Asks, meaning, Open, Write, Seek}
use Rattle.dav_core.specs.CallLaws.{IsProper}
use Rattle.std.specs.declared.io.traits.SeekFrom.{SeekFrom}
use Rattle.dav_core.specs.Calls.{sought}
use Rattle.dav_core.specs.Handle.{Handle, Opening, place_for}
use Rattle.dav_core.specs.Locks.{Lock, covers}
use Rattle.dav_core.specs.Path.{Path}
use Rattle.dav_core.specs.World.{World, node_at, bytes_of, file_made_with, IsWorld}
use Rattle.dav_core.proofs.Theorems.{nodes_stay, opened_stands, calls_keep_worlds, made_stands, found}
use Rattle.dav_engine.specs.Method.{MethodPlan}
use Rattle.dav_engine.specs.Plan.{Locks, Ran, ran_done, ran_ask, ran_look, ran_keep}
use Rattle.dav_engine.specs.WorldLaws.{IsProperPlan, proper_done, proper_ask, proper_look, proper_keep}
use Rattle.dav_engine.proofs.CallWorlds.{Did, stays, means, did, did_leave, asks_keep, asks_tell}
use Rattle.dav_engine.specs.Guard.{folder_of, Guards, Guarded, IsListed, Stands, StillGuards, OnList}
use Rattle.dav_engine.specs.Sparing.{Spares, Sparing, spares_ok, spares_err, spares_reads, spares_call, spares_opens, spares_seeks, spares_writes, spares_look, spares_keep, spares_last, Spared, OpenFile, Anything, AnyList, SparingLeavesCovered, SparingLeavesCoveredCut, SparingLeavesInside}
use Rattle.dav_engine.proofs.GuardedFolders.{covers_by}
use Rattle.dav_engine.specs.PlanLaws.{ample}
use Rattle.dav_engine.proofs.PlanAnswers.{cuts_are_like_refusals}
use Rattle.dav_engine.proofs.SparingCalls.{folder_stays, HasOpenFile, spared_all, opened_all_same, written_all_same}

pub file_same : (file : Option OpenFile) (w v : World) → v ≡ w → HasOpenFile file w → HasOpenFile file v
file_same file w v is there = subst (HasOpenFile file) (sym is) there

-- a seek answers the same file
seek_by : (k : Handle) (o : Option ℕ) (w : World) (r : (ℕ × Handle) × World) → sought k o w ≡ Ok r → r.0.1.made ≡ k.made
seek_by k None w r h = cc
seek_by k (Some place) w r h = let same : ◌≡◌ {A = (ℕ × Handle) × World} ((place, record k { position = place }), w) r = cc in sym (ap (λ x. x.0.1.made) same)

seek_made : (k : Handle) (to : SeekFrom) (w : World) (r : (ℕ × Handle) × World) → meaning (Seek k to) w ≡ Ok r → r.0.1.made ≡ k.made
unfolding meaning
seek_made k to w r h =
    let (n, stood, h1) = found (file_made_with k.made w.nodes) _ r h in
    seek_by k (place_for to k.position (length (bytes_of n.kind))) w r h1

pub seek_same : (k : Handle) (to : SeekFrom) (w v : World) (place : ℕ) (j : Handle) → Did (meaning (Seek k to) w) w (Ok (place, j)) v → j.made ≡ k.made
seek_same k to w v place j (stays e failed is) = cc
seek_same k to w v place j (means r h gave is) = let same : (place, j) ≡ r.0 = cc in ap (λ (x : ℕ × Handle). x.1.made) same ∙ seek_made k to w r h

spared_same : (covered : Path → Bool) (w v : World) → v ≡ w → Spared covered w v
spared_same covered w v is = subst (Spared covered w) (sym is) (record { same = λ q within. refl; above = λ p q up within folder. folder })

spared_on : (covered : Path → Bool) (w m v : World) → Spared covered w m → Spared covered m v → Spared covered w v
spared_on covered w m v one two = record { same = λ q within. one.same q within ∙ two.same q within; above = λ p q up within folder. two.above p q up within (one.above p q up within folder) }

spared_did : (covered : Path → Bool) (c : Call) (w v : World) (answer : Result (Answer c) FsError) → Spares covered c → IsProper c → IsWorld w → Did (meaning c w) w answer v → Spared covered w v
spared_did covered c w v answer out proper world (stays e failed is) = spared_same covered w v is
spared_did covered c w v answer out proper world (means r h gave is) = subst (Spared covered w) (sym is) (spared_all covered c w r out proper world h)

-- a file elsewhere is opened
record Opened (covered : Path → Bool) (p : Path) (w v : World) (answer : Result Handle FsError) : Type 0 where
  spared : Spared covered w v
  there : (k : Handle) → answer ≡ Ok k → HasOpenFile (Some (k.made, p)) v

opened_did : (covered : Path → Bool) (p : Path) (how : Opening) (now : ℕ) (w v : World) (answer : Result Handle FsError)
    → covered p ≡ false → IsProper (Open p how now) → IsWorld w → Did (meaning (Open p how now) w) w answer v → Opened covered p w v answer
opened_did covered p how now w v answer out proper world (stays e failed is) = record { spared = spared_same covered w v is; there = λ k gave. let clash = sym gave ∙ failed in cc }
opened_did covered p how now w v answer out proper world (means r h gave is) =
    let (n, stands) = opened_stands p how now w r proper world h in
    let (q, at, made, file) = made_stands r.0.made r.1.nodes (calls_keep_worlds (Open p how now) w r proper world h).tree.sorted n stands.0 in
    record {
      spared = subst (Spared covered w) (sym is) (record {
        same = opened_all_same covered p how now w r out h;
        above = λ x q up within. folder_stays (Open p how now) w r x proper world h (λ t. t) refl;
      });
      there = λ k answered.
          let same : k ≡ r.0 = let both : ◌≡◌ {A = Result Handle FsError} (Ok k) (Ok r.0) = sym answered ∙ gave in cc in
          (n, ap (λ (x : World). node_at x p) is ∙ stands.1, made ∙ ap (λ (x : Handle). x.made) (sym same));
    }

-- a write to it
record Written (covered : Path → Bool) (file : OpenFile) (w v : World) : Type 0 where
  spared : Spared covered w v
  there : HasOpenFile (Some file) v

written_did : (covered : Path → Bool) (file : OpenFile) (k : Handle) (bytes : List ℕ) (now : ℕ) (w v : World) (answer : Result Handle FsError)
    → k.made ≡ file.0 → covered file.1 ≡ false → IsProper (Write k bytes now) → IsWorld w → HasOpenFile (Some file) w
    → Did (meaning (Write k bytes now) w) w answer v → Written covered file w v
written_did covered file k bytes now w v answer is out proper world there (stays e failed same) = record { spared = spared_same covered w v same; there = file_same (Some file) w v same there }
written_did covered file k bytes now w v answer is out proper world there (means r h gave same) =
    let (m, at, made) = there in
    let (m', at', still) = nodes_stay (Write k bytes now) w r file.1 m proper world h at (λ t. t) in
    record {
      spared = subst (Spared covered w) (sym same) (record {
        same = written_all_same covered file k bytes now w r world there is out h;
        above = λ x q up within. folder_stays (Write k bytes now) w r x proper world h (λ t. t) refl;
      });
      there = (m', ap (λ (x : World). node_at x file.1) same ∙ at', still.0 ∙ made);
    }

-- ---- the law

-- what a plan leaves of the paths that it spares
pub record Leaves (covered : Path → Bool) (E : List Lock → Type 0) (w v : World) (ms : Locks) : Type 0 where
  pub spared : Spared covered w v
  pub ends : OnList E ms
  pub world : IsWorld v
  pub next : w.next ≤ v.next

module _ {A : Type 0} (covered : Path → Bool) (G E : List Lock → Type 0) (ends : (ls : List Lock) → G ls → E ls) (whole : Bool) (P : Option OpenFile → A → Type 0) where
  on : (w m v : World) (ms : Locks) → Spared covered w m → w.next ≤ m.next → Leaves covered E m v ms → Leaves covered E w v ms
  on w m v ms spared rose rest = record { spared = spared_on covered w m v spared rest.spared; ends = rest.ends; world = rest.world; next = (let low = rest.next in omega (arith, rose, low)) }

  ended : (ls : Locks) → OnList G ls → OnList E ls
  ended None g = g
  ended (Some ls) g = ends ls g

  nothing : (w : World) (ms : Locks) → IsWorld w → OnList E ms → Leaves covered E w w ms
  nothing w ms world e = record { spared = spared_same covered w w refl; ends = e; world = world; next = omega arith }

  pub leaves : {file : Option OpenFile} {plan : MethodPlan A} {old new : StoreState} {ls ms : Locks} {a : Result A DavError}
      → Sparing covered G E whole P file plan → IsProperPlan plan → Ran Asks plan old ls a new ms → OnList G ls → IsWorld old.world → HasOpenFile file old.world → Leaves covered E old.world new.world ms
  leaves (spares_ok is) proper_done (ran_done {s} {ls}) g world there = nothing s.world ls world (ended ls g)
  leaves spares_err proper_done (ran_done {s} {ls}) g world there = nothing s.world ls world (ended ls g)
  leaves {file} (spares_reads {c = c} only more) (proper_ask proper next) (ran_ask {old} {mid} {new} {ms = ms} {answer} one rest) g world there =
      let same : mid.world ≡ old.world = did_leave c old.world mid.world answer only (did one) in
      let kept = asks_keep proper world one in
      on old.world mid.world new.world ms (spared_same covered old.world mid.world same) kept.next (leaves (more answer) (next answer (asks_tell world one)) rest g kept.world (file_same file old.world mid.world same there))
  leaves (spares_call {c = c} out more) (proper_ask proper next) (ran_ask {old} {mid} {new} {ms = ms} {answer} one rest) g world there =
      let kept = asks_keep proper world one in
      on old.world mid.world new.world ms (spared_did covered c old.world mid.world answer out proper world (did one)) kept.next (leaves (more answer) (next answer (asks_tell world one)) rest g kept.world tt)
  leaves (spares_opens {p} {how} {now} out more failed) (proper_ask proper next) (ran_ask {old} {mid} {new} {ms = ms} {answer = Ok k} one rest) g world there =
      let opened = opened_did covered p how now old.world mid.world (Ok k) out proper world (did one) in
      let kept = asks_keep proper world one in
      on old.world mid.world new.world ms opened.spared kept.next (leaves (more k) (next (Ok k) (asks_tell world one)) rest g kept.world (opened.there k refl))
  leaves (spares_opens {p} {how} {now} out more failed) (proper_ask proper next) (ran_ask {old} {mid} {new} {ms = ms} {answer = Err e} one rest) g world there =
      let opened = opened_did covered p how now old.world mid.world (Err e) out proper world (did one) in
      let kept = asks_keep proper world one in
      on old.world mid.world new.world ms opened.spared kept.next (leaves (failed e) (next (Err e) (asks_tell world one)) rest g kept.world tt)
  leaves {file} (spares_seeks {k = k} {to} more failed) (proper_ask proper next) (ran_ask {old} {mid} {new} {ms = ms} {answer = Ok (place, j)} one rest) g world there =
      let same : mid.world ≡ old.world = did_leave (Seek k to) old.world mid.world (Ok (place, j)) tt (did one) in
      let kept = asks_keep proper world one in
      on old.world mid.world new.world ms (spared_same covered old.world mid.world same) kept.next
      (leaves (more place j (seek_same k to old.world mid.world place j (did one))) (next (Ok (place, j)) (asks_tell world one)) rest g kept.world (file_same file old.world mid.world same there))
  leaves {file} (spares_seeks {k = k} {to} more failed) (proper_ask proper next) (ran_ask {old} {mid} {new} {ms = ms} {answer = Err e} one rest) g world there =
      let same : mid.world ≡ old.world = did_leave (Seek k to) old.world mid.world (Err e) tt (did one) in
      let kept = asks_keep proper world one in
      on old.world mid.world new.world ms (spared_same covered old.world mid.world same) kept.next (leaves (failed e) (next (Err e) (asks_tell world one)) rest g kept.world (file_same file old.world mid.world same there))
  leaves (spares_writes {file} {k} {bytes} {now} is out more) (proper_ask proper next) (ran_ask {old} {mid} {new} {ms = ms} {answer} one rest) g world there =
      let wrote = written_did covered file k bytes now old.world mid.world answer is out proper world there (did one) in
      let kept = asks_keep proper world one in
      on old.world mid.world new.world ms wrote.spared kept.next (leaves (more answer) (next answer (asks_tell world one)) rest g kept.world wrote.there)
  leaves (spares_look more) (proper_look next) (ran_look {ls = Some ls} rest) g world there = leaves (more ls g) (next (Some ls)) rest g world there
  leaves (spares_look more) (proper_look next) (ran_look {ls = None} rest) g world there = absurd g
  leaves (spares_keep {locks = locks} kept more) (proper_keep next) (ran_keep {ls = Some ls} rest) g world there = leaves more next rest kept world there
  leaves (spares_keep kept more) (proper_keep next) (ran_keep {ls = None} rest) g world there = absurd g
  leaves (spares_last {locks = locks} is e) (proper_keep next) (ran_keep {old} {ls = Some ls} ran_done) g world there = nothing old.world (Some locks) world e
  leaves (spares_last is e) (proper_keep next) (ran_keep {ls = None} rest) g world there = absurd g

-- a lock that still guards where it is in the list
still : (h : Lock) (ls : Locks) → OnList (StillGuards h) ls → Stands h ls → Guarded h ls
still h None e stands = stands
still h (Some ls) e stands = e stands

pub sparing_leaves_covered : SparingLeavesCovered
sparing_leaves_covered h plan old new ls ms a sparing proper ran stands world =
    (leaves (covers h) (IsListed h) AnyList (λ ks g. tt) true Anything sparing proper ran stands world tt).spared

-- a plan in which memory runs out leaves the store as it does where some of its calls are refused
pub sparing_leaves_covered_cut : SparingLeavesCoveredCut
sparing_leaves_covered_cut h plan old new ls ms sparing proper cut stands world =
    let (refusals, a, ks, ran, list) = cuts_are_like_refusals plan old new ls ls ms cut in
    sparing_leaves_covered h plan (ample old.world refusals) (ample new.world []) ls ks a sparing proper ran stands world

-- the law of a guard is that of any exclusive lock, with more known of the list
pub sparing_leaves_inside : SparingLeavesInside
sparing_leaves_inside h plan old new ls ms a guard sparing proper ran g above world =
    let left = leaves (covers h) (Guards h) (StillGuards h) (λ ks gs listed. gs) true Anything sparing proper ran g world tt in
    record {
      same = λ r. left.spared.same (folder_of h ++ r) (covers_by h r guard.deep);
      above = λ p up. left.spared.above p (folder_of h) up (ap (covers h) (sym (append-nil (folder_of h))) ∙ covers_by h [] guard.deep) (above p up);
      guarded = still h ms left.ends;
      world = left.world;
      next = left.next;
    }
