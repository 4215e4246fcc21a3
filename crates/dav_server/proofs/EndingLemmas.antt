-- Requests end no lock whose token they don't name.
use Rattle.std.proofs.Common.{◌≢◌, ℕ, List, Some}
use Rattle.dav_core.specs.declared.method.DavMethod.{DavMethod}
use Rattle.dav_core.specs.declared.method.DavMethod.TheVariants.{Get, Head, Put, Patch, Copy, Move}
use Rattle.dav_core.specs.Asking.{StoreState}
use Rattle.dav_core.specs.Locks.{Lock}
use Rattle.dav_core.specs.Path.{PathText, names}
use Rattle.dav_engine.specs.declared.request.Body.{Body}
use Rattle.dav_engine.specs.Caller.{Caller}
use Rattle.dav_engine.specs.Ending.{KeepsLock, keeps_done}
use Rattle.dav_engine.specs.Guard.{Stands}
use Rattle.dav_engine.specs.Headers.{Headers}
use Rattle.dav_engine.specs.LockToken.{SaysLockToken}
use Rattle.dav_engine.specs.Method.{MethodPlan}
use Rattle.dav_engine.specs.Options.{options}
use Rattle.dav_engine.specs.Plan.{Locks}
use Rattle.dav_engine.specs.Reply.{Reply}
use Rattle.dav_engine.specs.SparingPlans.{IsStranger}
use Rattle.dav_engine.proofs.Theorems.{kept_locks_stand, kept_locks_stand_cut, options_only_reads, reading_keeps_locks, put_keeps_locks, mkcol_keeps_locks, copymove_keeps_locks, delete_keeps_locks, lock_keeps_locks, unlock_keeps_locks, propfind_only_reads, proppatch_keeps_locks}
use Rattle.dav_server.specs.EachRequest.{RunStep}
use Rattle.dav_server.specs.Ending.{NoLockEnds, NoLockEndsCut}
use Rattle.dav_server.specs.Get.{get, is_get}
use Rattle.dav_server.specs.Head.{Request, IsHead}
use Rattle.dav_server.specs.Machine.{Settings, Exchange, PlanOf, gets, heads, puts, patches, makes, deletes, copies, moves, offers, finds_properties, sets_properties, locks, releases, MeansOf, not_allowed, no_path, no_body, method, Means, no_head, no_method, known, StepCut, untouched, cut, steps}
use Rattle.dav_server.specs.Naming.{NamesToken, by_lock_token}
use Rattle.dav_server.specs.Promises.{kept, Keeps, step_of}
use Rattle.dav_server.specs.Run.{Turn, begun}
use Rattle.dav_server.specs.Server.{Server}
use Rattle.dav_server.proofs.GetWorld.{get_is_reading}
use Rattle.dav_server.proofs.StrangerLemmas.{is_stranger}

-- a method that is served leaves each lock that its client doesn't hold
plan_keeps : (h : Lock) {allowed : ℕ} {headers : Headers} {p : PathText} {body : Body} {who : Caller} {m : DavMethod} {plan : MethodPlan Reply} → IsStranger headers p who h → who.token ≢ Some h.token → ¬ SaysLockToken headers h.token → PlanOf allowed headers p body who m plan → KeepsLock h plan
plan_keeps h {p = p} {who = who} stranger own unsaid (gets (is_get c are)) = reading_keeps_locks h (get Get c (names p) who.moment) (get_is_reading Get c (names p) who.moment)
plan_keeps h {p = p} {who = who} stranger own unsaid (heads (is_get c are)) = reading_keeps_locks h (get Head c (names p) who.moment) (get_is_reading Head c (names p) who.moment)
plan_keeps h {headers = headers} {p} {body} {who} {plan = plan} stranger own unsaid (puts is) = put_keeps_locks h Put headers p body who plan is
plan_keeps h {headers = headers} {p} {body} {who} {plan = plan} stranger own unsaid (patches is) = put_keeps_locks h Patch headers p body who plan is
plan_keeps h {headers = headers} {p} {who = who} {plan = plan} stranger own unsaid (makes is) = mkcol_keeps_locks h headers p who plan is
plan_keeps h {headers = headers} {p} {who = who} {plan = plan} stranger own unsaid (deletes is) = delete_keeps_locks h headers p who plan stranger is
plan_keeps h {headers = headers} {p} {who = who} {plan = plan} stranger own unsaid (copies is) = copymove_keeps_locks h Copy headers p who plan stranger is
plan_keeps h {headers = headers} {p} {who = who} {plan = plan} stranger own unsaid (moves is) = copymove_keeps_locks h Move headers p who plan stranger is
plan_keeps h {allowed} {p = p} stranger own unsaid offers = reading_keeps_locks h (options allowed p) (options_only_reads allowed p)
plan_keeps h {headers = headers} {p} {body} {who} {plan = plan} stranger own unsaid (finds_properties is) = reading_keeps_locks h plan (propfind_only_reads headers p body who plan is)
plan_keeps h {headers = headers} {p} {body} {who} {plan = plan} stranger own unsaid (sets_properties is) = proppatch_keeps_locks h headers p body who plan is
plan_keeps h {headers = headers} {p} {body} {who} {plan = plan} stranger own unsaid (locks is) = lock_keeps_locks h headers p body who plan own is
plan_keeps h {headers = headers} {p} {who = who} {plan = plan} stranger own unsaid (releases is) = unlock_keeps_locks h headers p who plan unsaid is

module _ (h : Lock) (x : Exchange) (other : ¬ NamesToken x h.token) (own : x.token ≢ Some h.token) where
  of_keeps : {s : Settings} (r : Request) {m : DavMethod} {plan : MethodPlan Reply} → IsHead x.head r → MeansOf s x r m plan → KeepsLock h plan
  of_keeps r head (not_allowed out) = keeps_done
  of_keeps r head (no_path e has none) = keeps_done
  of_keeps r head (no_body p e has named bad) = keeps_done
  of_keeps r head (method p body has named good is) = plan_keeps h (is_stranger h x r head p (λ named. other named.token)) own (λ says. other (by_lock_token r head says)) is

  pub means_keeps : {s : Settings} {plan : MethodPlan Reply} → Means s x plan → KeepsLock h plan
  means_keeps (no_head out) = keeps_done
  means_keeps (no_method r e head gives) = keeps_done
  means_keeps (known r m head gives means) = of_keeps r head means

-- ---- the laws

pub no_lock_ends : NoLockEnds
no_lock_ends s x old new ls ms reply h stands other own (steps plan outcome means ran) = kept_locks_stand h plan old new ls ms outcome (means_keeps h x other own means) ran stands

cut_keeps : (s : Settings) (x : Exchange) (h : Lock) {old new : StoreState} {ls ms : Locks} → Stands h ls → ¬ NamesToken x h.token → x.token ≢ Some h.token → StepCut s x old ls new ms → Stands h ms
cut_keeps s x h stands other own untouched = stands
cut_keeps s x h {old} {ls = ls} stands other own (cut plan {new} {ms} means some) = kept_locks_stand_cut h plan old new ls ms (means_keeps h x other own means) some stands

pub no_lock_ends_cut : NoLockEndsCut
no_lock_ends_cut s x old new ls ms h stands other own stops = cut_keeps s x h stands other own stops

-- of a run, each request
pub ends_no_lock : {old : Server} {ts : List Turn} {replies : List Reply} (u : RunStep old ts replies) → Keeps kept (step_of u)
ends_no_lock {old} u h stands other own =
    no_lock_ends old.settings u.turn.asked (begun u.turn.refusals u.was.store) u.now.store u.was.locks u.now.locks u.reply h stands other own u.stepped
