-- What a request changes is at the paths that it names, or below them: from the bytes of its head on.
use Rattle.std.proofs.Common.{◌≡◌, ◌≢◌, inl, inr, ◌≤◌, Bool, true, false, true≢false, List, All, Some, None, Ok, refl, sym, subst, ◌∙◌}
use Rattle.std.proofs.lemmas.List.Elements.{All-head, All-tail}
use Rattle.dav_core.specs.declared.method.DavMethod.{DavMethod}
use Rattle.dav_core.specs.declared.method.DavMethod.TheVariants.{Get, Head, Put, Patch, MkCol, Delete, Copy, Move, PropPatch, Lock as LockMethod, Unlock}
use Rattle.dav_core.specs.Asking.{StoreState}
use Rattle.dav_core.specs.Locks.{Lock}
use Rattle.dav_core.specs.Path.{Path, PathText, names, is_at_or_under}
use Rattle.dav_core.specs.World.{World, IsWorld, last_moment}
use Rattle.dav_engine.specs.declared.request.Body.{Body}
use Rattle.dav_engine.specs.Ending.{KeepsLock, keeps_done}
use Rattle.dav_engine.specs.Guard.{folder_of, OnList}
use Rattle.dav_engine.specs.LockToken.{SaysLockToken}
use Rattle.dav_engine.specs.Method.{MethodPlan}
use Rattle.dav_engine.specs.Options.{options}
use Rattle.dav_engine.specs.Plan.{Locks}
use Rattle.dav_engine.specs.Reply.{Reply}
use Rattle.dav_engine.specs.Sparing.{NoneUnder, AnyList, spares_err, Spared}
use Rattle.dav_confined.specs.Confined.{SparesPaths}
use Rattle.dav_engine.proofs.Theorems.{kept_locks_stand, options_only_reads, propfind_only_reads, reading_keeps_locks, put_keeps_locks, mkcol_keeps_locks, lock_keeps_locks, proppatch_keeps_locks}
use Rattle.dav_confined.proofs.ConfinedPlans.{spared_paths_stay, spared_paths_stay_cut, reading_spares_paths, put_spares_others, mkcol_spares_others, proppatch_spares_others, lock_spares_others, unlock_spares_paths, delete_spares_others, copymove_spares_others, delete_keeps_other_locks, copymove_keeps_other_locks, unlock_keeps_other_locks}
use Rattle.dav_confined.specs.ConfinedSteps.{KeepsOff, UnlocksLock, StepsLeaveOthers, StepsLeaveOthersCut, StepsKeepOtherLocks, RunsLeaveOthers}
use Rattle.dav_server.specs.Get.{get, is_get}
use Rattle.dav_server.specs.Head.{Request, IsHead}
use Rattle.dav_server.specs.Headers.{headers_of}
use Rattle.dav_server.specs.Holder.{IsRequestTo}
use Rattle.dav_server.specs.Machine.{Settings, Exchange, caller, PlanOf, gets, heads, puts, patches, makes, deletes, copies, moves, offers, finds_properties, sets_properties, locks, releases, MeansOf, not_allowed, no_path, no_body, method, Means, no_head, no_method, known, Steps, steps, StepCut, untouched, cut}
use Rattle.dav_server.specs.Method.{GivesServed}
use Rattle.dav_server.specs.Run.{Turn, begun, Runs, no_more, one_more}
use Rattle.dav_server.specs.TagLaws.{MomentsAreDates}
use Rattle.dav_server.proofs.GetWorld.{get_is_reading}
use Rattle.dav_server.proofs.MeansWorld.{means_proper, begun_world, turn_keeps}
use Rattle.dav_server.proofs.TargetLemmas.{target_is_path}

-- a path of these isn't at one that a request changes, nor below it
apart_by : (covered : Path → Bool) (p q : Path) (b : Bool) → NoneUnder covered p → covered q ≡ true → is_at_or_under q p ≡ b → b ≡ false
apart_by covered p q true none within under = absurd (true≢false (sym within ∙ none q under))
apart_by covered p q false none within under = refl

apart : (covered : Path → Bool) (p q : Path) → NoneUnder covered p → covered q ≡ true → is_at_or_under q p ≡ false
apart covered p q none within = apart_by covered p q (is_at_or_under q p) none within refl

module _ (covered : Path → Bool) (s : Settings) (x : Exchange) (off : KeepsOff covered s x) where
  plan_spares : (r : Request) {p : PathText} {body : Body} {m : DavMethod} {plan : MethodPlan Reply} → IsRequestTo s x r m p → PlanOf s.allowed (headers_of r.fields) p body (caller x) m plan → SparesPaths covered plan
  plan_spares r {p = p} to (gets (is_get c are)) = reading_spares_paths covered (get Get c (names p) (caller x).moment) (get_is_reading Get c (names p) (caller x).moment)
  plan_spares r {p = p} to (heads (is_get c are)) = reading_spares_paths covered (get Head c (names p) (caller x).moment) (get_is_reading Head c (names p) (caller x).moment)
  plan_spares r {p} {body} {plan = plan} to (puts is) = put_spares_others covered Put (headers_of r.fields) p body (caller x) plan (off.target r Put p to refl) is
  plan_spares r {p} {body} {plan = plan} to (patches is) = put_spares_others covered Patch (headers_of r.fields) p body (caller x) plan (off.target r Patch p to refl) is
  plan_spares r {p = p} {plan = plan} to (makes is) = mkcol_spares_others covered (headers_of r.fields) p (caller x) plan (off.target r MkCol p to refl) is
  plan_spares r {p = p} {plan = plan} to (deletes is) = delete_spares_others covered (headers_of r.fields) p (caller x) plan (target_is_path to.target (λ e. cc)) (off.below r Delete p to refl) is
  plan_spares r {p = p} {plan = plan} to (copies is) =
      copymove_spares_others covered Copy (headers_of r.fields) p (caller x) plan (target_is_path to.target (λ e. cc)) (λ e. cc) (λ d named. off.destination r Copy p d to (inl refl) named) is
  plan_spares r {p = p} {plan = plan} to (moves is) =
      copymove_spares_others covered Move (headers_of r.fields) p (caller x) plan (target_is_path to.target (λ e. cc)) (λ e. off.below r Move p to refl) (λ d named. off.destination r Move p d to (inr refl) named) is
  plan_spares r {p} to offers = reading_spares_paths covered (options s.allowed p) (options_only_reads s.allowed p)
  plan_spares r {p = p} {body} {plan = plan} to (finds_properties is) = reading_spares_paths covered plan (propfind_only_reads (headers_of r.fields) p body (caller x) plan is)
  plan_spares r {p = p} {body} {plan = plan} to (sets_properties is) = proppatch_spares_others covered (headers_of r.fields) p body (caller x) plan (target_is_path to.target (λ e. cc)) (off.target r PropPatch p to refl) is
  plan_spares r {p = p} {body} {plan = plan} to (locks is) = lock_spares_others covered (headers_of r.fields) p body (caller x) plan (target_is_path to.target (λ e. cc)) (off.target r LockMethod p to refl) is
  plan_spares r {p = p} {plan = plan} to (releases is) = unlock_spares_paths covered (headers_of r.fields) p (caller x) plan is

  of_spares : (r : Request) {m : DavMethod} {plan : MethodPlan Reply} → IsHead x.head r → GivesServed r.method (Ok m) → MeansOf s x r m plan → SparesPaths covered plan
  of_spares r head gives (not_allowed out) = spares_err
  of_spares r head gives (no_path e has none) = spares_err
  of_spares r head gives (no_body p e has named bad) = spares_err
  of_spares r head gives (method p body has named good plan) = plan_spares r (record { head = head; method = gives; target = named }) plan

  means_spares : {plan : MethodPlan Reply} → Means s x plan → SparesPaths covered plan
  means_spares (no_head out) = spares_err
  means_spares (no_method r e head gives) = spares_err
  means_spares (known r m head gives means) = of_spares r head gives means

  pub step_spares : {old new : StoreState} {ls : List Lock} {ms : Locks} {reply : Reply} → x.moment ≤ last_moment → IsWorld old.world → Steps s x old (Some ls) reply new ms → Spared covered old.world new.world × OnList AnyList ms
  step_spares {old} {ls = ls} small world (steps plan outcome {new} {ms} means ran) =
      spared_paths_stay covered plan old new ls ms outcome (means_spares means) (means_proper small means) ran world

  cut_spares : {old new : StoreState} {ls : List Lock} {ms : Locks} → x.moment ≤ last_moment → IsWorld old.world → StepCut s x old (Some ls) new ms → Spared covered old.world new.world
  cut_spares small world untouched = record { same = λ q within. refl; above = λ p q up within folder. folder }
  cut_spares {old} {ls = ls} small world (cut plan {new} {ms} means some) = spared_paths_stay_cut covered plan old new ls ms (means_spares means) (means_proper small means) some world

  -- ---- locks

  module _ (h : Lock) (on : covered (folder_of h) ≡ true) (own : x.token ≢ Some h.token) (unsaid : ¬ UnlocksLock s x h) where
    elsewhere : (p : PathText) → NoneUnder covered (names p) → is_at_or_under (folder_of h) (names p) ≡ false
    elsewhere p none = apart covered (names p) (folder_of h) none on

    unnamed : (r : Request) (p : PathText) → IsRequestTo s x r Unlock p → SaysLockToken (headers_of r.fields) h.token → (b : Bool) → is_at_or_under (names p) (folder_of h) ≡ b → b ≡ false
    unnamed r p to said false under = refl
    unnamed r p to said true under = absurd (unsaid (record { request = r; path = p; to = to; says = said; above = under }))

    plan_keeps : (r : Request) {p : PathText} {body : Body} {m : DavMethod} {plan : MethodPlan Reply} → IsRequestTo s x r m p → PlanOf s.allowed (headers_of r.fields) p body (caller x) m plan → KeepsLock h plan
    plan_keeps r {p = p} to (gets (is_get c are)) = reading_keeps_locks h (get Get c (names p) (caller x).moment) (get_is_reading Get c (names p) (caller x).moment)
    plan_keeps r {p = p} to (heads (is_get c are)) = reading_keeps_locks h (get Head c (names p) (caller x).moment) (get_is_reading Head c (names p) (caller x).moment)
    plan_keeps r {p} {body} {plan = plan} to (puts is) = put_keeps_locks h Put (headers_of r.fields) p body (caller x) plan is
    plan_keeps r {p} {body} {plan = plan} to (patches is) = put_keeps_locks h Patch (headers_of r.fields) p body (caller x) plan is
    plan_keeps r {p = p} {plan = plan} to (makes is) = mkcol_keeps_locks h (headers_of r.fields) p (caller x) plan is
    plan_keeps r {p = p} {plan = plan} to (deletes is) = delete_keeps_other_locks h (headers_of r.fields) p (caller x) plan (target_is_path to.target (λ e. cc)) (elsewhere p (off.below r Delete p to refl)) is
    plan_keeps r {p = p} {plan = plan} to (copies is) =
        copymove_keeps_other_locks h Copy (headers_of r.fields) p (caller x) plan (target_is_path to.target (λ e. cc)) (λ e. cc) (λ d named. elsewhere d (off.destination r Copy p d to (inl refl) named)) is
    plan_keeps r {p = p} {plan = plan} to (moves is) =
        copymove_keeps_other_locks h Move (headers_of r.fields) p (caller x) plan (target_is_path to.target (λ e. cc)) (λ e. elsewhere p (off.below r Move p to refl)) (λ d named. elsewhere d (off.destination r Move p d to (inr refl) named)) is
    plan_keeps r {p} to offers = reading_keeps_locks h (options s.allowed p) (options_only_reads s.allowed p)
    plan_keeps r {p = p} {body} {plan = plan} to (finds_properties is) = reading_keeps_locks h plan (propfind_only_reads (headers_of r.fields) p body (caller x) plan is)
    plan_keeps r {p = p} {body} {plan = plan} to (sets_properties is) = proppatch_keeps_locks h (headers_of r.fields) p body (caller x) plan is
    plan_keeps r {p = p} {body} {plan = plan} to (locks is) = lock_keeps_locks h (headers_of r.fields) p body (caller x) plan own is
    plan_keeps r {p = p} {plan = plan} to (releases is) = unlock_keeps_other_locks h (headers_of r.fields) p (caller x) plan (λ said. unnamed r p to said (is_at_or_under (names p) (folder_of h)) refl) is

    of_keeps : (r : Request) {m : DavMethod} {plan : MethodPlan Reply} → IsHead x.head r → GivesServed r.method (Ok m) → MeansOf s x r m plan → KeepsLock h plan
    of_keeps r head gives (not_allowed out) = keeps_done
    of_keeps r head gives (no_path e has none) = keeps_done
    of_keeps r head gives (no_body p e has named bad) = keeps_done
    of_keeps r head gives (method p body has named good plan) = plan_keeps r (record { head = head; method = gives; target = named }) plan

    means_keeps : {plan : MethodPlan Reply} → Means s x plan → KeepsLock h plan
    means_keeps (no_head out) = keeps_done
    means_keeps (no_method r e head gives) = keeps_done
    means_keeps (known r m head gives means) = of_keeps r head gives means

-- ---- the laws

pub steps_leave_others : StepsLeaveOthers
steps_leave_others covered s x old new ls ms reply off small world step = (step_spares covered s x off small world step).0

pub steps_leave_others_cut : StepsLeaveOthersCut
steps_leave_others_cut covered s x old new ls ms off small world stops = cut_spares covered s x off small world stops

pub steps_keep_other_locks : StepsKeepOtherLocks
steps_keep_other_locks covered s x old new ls ms reply h off on stands unsaid own (steps plan outcome means ran) =
    kept_locks_stand h plan old new ls ms outcome (means_keeps covered s x off h on own unsaid means) ran stands

pub spared_on : (covered : Path → Bool) (w m v : World) → Spared covered w m → Spared covered m v → Spared covered w v
spared_on covered w m v one two = record { same = λ q within. one.same q within ∙ two.same q within; above = λ p q up within folder. two.above p q up within (one.above p q up within folder) }

module _ (covered : Path → Bool) (s : Settings) where
  abbrev Off : Turn → Type 0
  Off t = KeepsOff covered s t.asked

  abbrev IsDate : Turn → Type 0
  IsDate t = t.asked.moment ≤ last_moment

  runs : {ts : List Turn} {old new : StoreState} {ls ms : Locks} {replies : List Reply} → OnList AnyList ls → All Off ts → MomentsAreDates ts → IsWorld old.world → Runs s ts old ls replies new ms → Spared covered old.world new.world
  runs on off small world no_more = record { same = λ q within. refl; above = λ p q up within folder. folder }
  runs {ls = None} on off small world (one_more step rest) = absurd on
  runs {ls = Some ls} on off small world (one_more {t} {ts} {old} {mid} {new} step rest) =
      let same : (begun t.refusals old).world ≡ old.world = begun_world t.refusals old in
      let first = step_spares covered s t.asked (All-head Off t ts off) (All-head IsDate t ts small) (subst IsWorld (sym same) world) step in
      let kept = turn_keeps t old (All-head IsDate t ts small) world step in
      spared_on covered old.world mid.world new.world
      (subst (λ (w : World). Spared covered w mid.world) same first.0)
      (runs first.1 (All-tail Off t ts off) (All-tail IsDate t ts small) kept.world rest)

pub runs_leave_others : RunsLeaveOthers
runs_leave_others covered s ts old new ls ms replies off small world run = runs covered s tt off small world run
