-- Requests that don't name a lock as its principal leave the list of the members of its folder.
use Rattle.std.proofs.Common.{◌≡◌, ◌≢◌, ◌++◌, ◌≤◌, ℕ, true, false, List, ◌∷◌, refl, sym, ap, subst, ◌∙◌}
use Rattle.std.proofs.lemmas.List.Elements.{All-head}
use Rattle.dav_core.specs.declared.method.DavMethod.{DavMethod}
use Rattle.dav_core.specs.declared.method.DavMethod.TheVariants.{Get, Head, Put, Patch, Options, Copy, Move}
use Rattle.dav_core.specs.Asking.{StoreState}
use Rattle.dav_core.specs.Locks.{Lock}
use Rattle.dav_core.specs.Path.{PathText, names, star}
use Rattle.dav_core.specs.World.{World, IsWorld, is_folder, last_moment}
use Rattle.dav_engine.specs.declared.request.Body.{Body}
use Rattle.dav_engine.specs.Guard.{folder_of, Stands}
use Rattle.dav_engine.specs.Members.{LeavesList, SameMembers, stay_err}
use Rattle.dav_engine.specs.Method.{MethodPlan}
use Rattle.dav_engine.specs.Options.{options}
use Rattle.dav_engine.specs.Plan.{Locks}
use Rattle.dav_engine.specs.Reply.{Reply}
use Rattle.dav_engine.proofs.Theorems.{plans_leave_members, plans_leave_members_cut, options_only_reads, propfind_only_reads, reading_leaves_members, put_leaves_members, mkcol_leaves_members, delete_leaves_members, copymove_leaves_members, lock_leaves_members, unlock_leaves_members, proppatch_leaves_members}
use Rattle.dav_server.specs.EachRequest.{RunStep}
use Rattle.dav_server.specs.Get.{get, is_get}
use Rattle.dav_server.specs.Head.{Request, IsHead}
use Rattle.dav_server.specs.Headers.{headers_of}
use Rattle.dav_server.specs.Machine.{Settings, Exchange, caller, PlanOf, gets, heads, puts, patches, makes, deletes, copies, moves, offers, finds_properties, sets_properties, locks, releases, MeansOf, not_allowed, no_path, no_body, method, Means, no_head, no_method, known, StepCut, untouched, cut, steps}
use Rattle.dav_server.specs.Membership.{MembersAreKept, MembersAreKeptCut}
use Rattle.dav_server.specs.Naming.{NamesLock}
use Rattle.dav_server.specs.Promises.{members, Keeps, step_of}
use Rattle.dav_server.specs.Run.{Turn, begun}
use Rattle.dav_server.specs.Server.{Server}
use Rattle.dav_server.specs.TagLaws.{MomentsAreDates}
use Rattle.dav_server.proofs.GetWorld.{get_is_reading}
use Rattle.dav_server.proofs.MeansWorld.{means_proper, begun_world, run_keeps, all_front, all_back}
use Rattle.dav_server.proofs.StrangerLemmas.{is_stranger}
use Rattle.dav_server.proofs.TargetLemmas.{target_is_path}

module _ (h : Lock) (exclusive : h.shared ≡ false) (x : Exchange) (other : ¬ NamesLock h x) where
  plan_leaves : (r : Request) → IsHead x.head r → {allowed : ℕ} {p : PathText} {body : Body} {m : DavMethod} {plan : MethodPlan Reply} → (m ≢ Options → p.bytes ≢ star) → PlanOf allowed (headers_of r.fields) p body (caller x) m plan → LeavesList h plan
  plan_leaves r head {p = p} below (gets (is_get c are)) = reading_leaves_members h (get Get c (names p) (caller x).moment) (get_is_reading Get c (names p) (caller x).moment)
  plan_leaves r head {p = p} below (heads (is_get c are)) = reading_leaves_members h (get Head c (names p) (caller x).moment) (get_is_reading Head c (names p) (caller x).moment)
  plan_leaves r head {p} {body} {plan = plan} below (puts is) = put_leaves_members h Put (headers_of r.fields) p body (caller x) plan exclusive (is_stranger h x r head p other) is
  plan_leaves r head {p} {body} {plan = plan} below (patches is) = put_leaves_members h Patch (headers_of r.fields) p body (caller x) plan exclusive (is_stranger h x r head p other) is
  plan_leaves r head {p = p} {plan = plan} below (makes is) = mkcol_leaves_members h (headers_of r.fields) p (caller x) plan exclusive (is_stranger h x r head p other) is
  plan_leaves r head {p = p} {plan = plan} below (deletes is) = delete_leaves_members h (headers_of r.fields) p (caller x) plan exclusive (below (λ e. cc)) (is_stranger h x r head p other) is
  plan_leaves r head {p = p} {plan = plan} below (copies is) = copymove_leaves_members h Copy (headers_of r.fields) p (caller x) plan exclusive (below (λ e. cc)) (is_stranger h x r head p other) is
  plan_leaves r head {p = p} {plan = plan} below (moves is) = copymove_leaves_members h Move (headers_of r.fields) p (caller x) plan exclusive (below (λ e. cc)) (is_stranger h x r head p other) is
  plan_leaves r head {allowed} {p} below offers = reading_leaves_members h (options allowed p) (options_only_reads allowed p)
  plan_leaves r head {p = p} {body} {plan = plan} below (finds_properties is) = reading_leaves_members h plan (propfind_only_reads (headers_of r.fields) p body (caller x) plan is)
  plan_leaves r head {p = p} {body} {plan = plan} below (sets_properties is) = proppatch_leaves_members h (headers_of r.fields) p body (caller x) plan is
  plan_leaves r head {p = p} {body} {plan = plan} below (locks is) = lock_leaves_members h (headers_of r.fields) p body (caller x) plan exclusive (is_stranger h x r head p other) is
  plan_leaves r head {p = p} {plan = plan} below (releases is) = unlock_leaves_members h (headers_of r.fields) p (caller x) plan is

  of_leaves : (r : Request) → IsHead x.head r → {s : Settings} {m : DavMethod} {plan : MethodPlan Reply} → MeansOf s x r m plan → LeavesList h plan
  of_leaves r head (not_allowed out) = stay_err
  of_leaves r head (no_path e has none) = stay_err
  of_leaves r head (no_body p e has named bad) = stay_err
  of_leaves r head (method p body has named good plan) = plan_leaves r head (target_is_path named) plan

  means_leaves : {s : Settings} {plan : MethodPlan Reply} → Means s x plan → LeavesList h plan
  means_leaves (no_head out) = stay_err
  means_leaves (no_method r e head gives) = stay_err
  means_leaves (known r m head gives means) = of_leaves r head means

pub members_are_kept : MembersAreKept
members_are_kept s x old new ls ms reply h exclusive stands other small world folder (steps plan outcome means ran) =
    plans_leave_members h plan old new ls ms outcome (means_leaves h exclusive x other means) (means_proper small means) ran stands world folder

cut_keeps : (s : Settings) (x : Exchange) (old : StoreState) (ls : Locks) (h : Lock) {new : StoreState} {ms : Locks} → h.shared ≡ false → Stands h ls → ¬ NamesLock h x → x.moment ≤ last_moment → IsWorld old.world
    → is_folder old.world (folder_of h) ≡ true → StepCut s x old ls new ms → SameMembers (folder_of h) old.world new.world
cut_keeps s x old ls h exclusive stands other small world folder untouched = record { folder = folder; listed = refl }
cut_keeps s x old ls h exclusive stands other small world folder (cut plan {new} {ms} means some) =
    plans_leave_members_cut h plan old new ls ms (means_leaves h exclusive x other means) (means_proper small means) some stands world folder

pub members_are_kept_cut : MembersAreKeptCut
members_are_kept_cut s x old new ls ms h exclusive stands other small world folder stops = cut_keeps s x old ls h exclusive stands other small world folder stops

-- of a run, each request
pub keeps_members : (old : Server) (ts : List Turn) (replies : List Reply) → MomentsAreDates ts → IsWorld old.state.store.world → (u : RunStep old ts replies) → Keeps members (step_of u)
keeps_members old ts replies small world u h exclusive stands other folder =
    let P = λ (t : Turn). t.asked.moment ≤ last_moment in
    let all : MomentsAreDates (u.front ++ u.turn ∷ u.back) = subst MomentsAreDates u.turns_are small in
    let kept = run_keeps world (all_front P u.front (u.turn ∷ u.back) all) u.earlier in
    let moment = All-head P u.turn u.back (all_back P u.front (u.turn ∷ u.back) all) in
    let same : (begun u.turn.refusals u.was.store).world ≡ u.was.store.world = begun_world u.turn.refusals u.was.store in
    subst (λ (w : World). SameMembers (folder_of h) w u.now.store.world) same
    (members_are_kept old.settings u.turn.asked (begun u.turn.refusals u.was.store) u.now.store u.was.locks u.now.locks u.reply h exclusive stands other moment
    (subst IsWorld (sym same) kept.world) (ap (λ (w : World). is_folder w (folder_of h)) same ∙ folder) u.stepped)
