-- The list of locks over whole runs.
use Rattle.std.proofs.Common.{◌≡◌, ℕ, List, All, Contains, Some, None, subst}
use Rattle.std.proofs.lemmas.List.Elements.{All-nil, All-head, All-tail, All-contains_itself}
use Rattle.dav_core.specs.declared.method.DavMethod.{DavMethod}
use Rattle.dav_core.specs.declared.method.DavMethod.TheVariants.{Get, Head, Put, Patch, Copy, Move}
use Rattle.dav_core.specs.Asking.{StoreState}
use Rattle.dav_core.specs.Locks.{Lock}
use Rattle.dav_core.specs.LockLaws.{CoveringAreShared}
use Rattle.dav_core.specs.Path.{PathText, names}
use Rattle.dav_engine.specs.declared.request.Body.{Body}
use Rattle.dav_engine.specs.Caller.{Caller}
use Rattle.dav_engine.specs.Guard.{OnList}
use Rattle.dav_engine.specs.Headers.{Headers}
use Rattle.dav_engine.specs.ListChanges.{AreChanges, no_change, ChangesList, changes_done}
use Rattle.dav_engine.specs.Method.{MethodPlan}
use Rattle.dav_engine.specs.Options.{options}
use Rattle.dav_engine.specs.Plan.{Locks}
use Rattle.dav_engine.specs.Reply.{Reply}
use Rattle.dav_engine.proofs.Theorems.{lists_are_changed, lists_are_changed_cut, changes_keep_shared, tokens_after_all, options_only_reads, reading_changes_list, put_changes_list, mkcol_changes_list, copymove_changes_list, delete_changes_list, lock_changes_list, unlock_changes_list, propfind_only_reads, proppatch_changes_list}
use Rattle.dav_server.specs.EachRequest.{RunStep}
use Rattle.dav_server.specs.Get.{get, is_get}
use Rattle.dav_server.specs.Head.{Request}
use Rattle.dav_server.specs.LockLists.{StepsChangeLists, StepsChangeListsCut, IsHandedIn, TokensAreHandedIn}
use Rattle.dav_server.specs.Machine.{Settings, Exchange, caller, PlanOf, gets, heads, puts, patches, makes, deletes, copies, moves, offers, finds_properties, sets_properties, locks, releases, MeansOf, not_allowed, no_path, no_body, method, Means, no_head, no_method, known, Steps, StepCut, untouched, cut, steps}
use Rattle.dav_server.specs.Promises.{shared, Keeps, step_of}
use Rattle.dav_server.specs.Run.{Turn, Runs, no_more, one_more}
use Rattle.dav_server.specs.Server.{Server}
use Rattle.dav_server.proofs.GetWorld.{get_is_reading}

plan_changes : {allowed : ℕ} {headers : Headers} {p : PathText} {body : Body} {who : Caller} {m : DavMethod} {plan : MethodPlan Reply} → PlanOf allowed headers p body who m plan → (ls : List Lock) → ChangesList who ls plan
plan_changes {p = p} {who = who} (gets (is_get c are)) ls = reading_changes_list who ls (get Get c (names p) who.moment) (get_is_reading Get c (names p) who.moment)
plan_changes {p = p} {who = who} (heads (is_get c are)) ls = reading_changes_list who ls (get Head c (names p) who.moment) (get_is_reading Head c (names p) who.moment)
plan_changes {headers = headers} {p} {body} {who} {plan = plan} (puts is) ls = put_changes_list Put headers p body who ls plan is
plan_changes {headers = headers} {p} {body} {who} {plan = plan} (patches is) ls = put_changes_list Patch headers p body who ls plan is
plan_changes {headers = headers} {p} {who = who} {plan = plan} (makes is) ls = mkcol_changes_list headers p who ls plan is
plan_changes {headers = headers} {p} {who = who} {plan = plan} (deletes is) ls = delete_changes_list headers p who ls plan is
plan_changes {headers = headers} {p} {who = who} {plan = plan} (copies is) ls = copymove_changes_list Copy headers p who ls plan is
plan_changes {headers = headers} {p} {who = who} {plan = plan} (moves is) ls = copymove_changes_list Move headers p who ls plan is
plan_changes {allowed} {p = p} {who = who} offers ls = reading_changes_list who ls (options allowed p) (options_only_reads allowed p)
plan_changes {headers = headers} {p} {body} {who} {plan = plan} (finds_properties is) ls = reading_changes_list who ls plan (propfind_only_reads headers p body who plan is)
plan_changes {headers = headers} {p} {body} {who} {plan = plan} (sets_properties is) ls = proppatch_changes_list headers p body who ls plan is
plan_changes {headers = headers} {p} {body} {who} {plan = plan} (locks is) ls = lock_changes_list headers p body who ls plan is
plan_changes {headers = headers} {p} {who = who} {plan = plan} (releases is) ls = unlock_changes_list headers p who ls plan is

module _ (x : Exchange) (ls : List Lock) where
  of_changes : {s : Settings} {r : Request} {m : DavMethod} {plan : MethodPlan Reply} → MeansOf s x r m plan → ChangesList (caller x) ls plan
  of_changes (not_allowed out) = changes_done
  of_changes (no_path e has none) = changes_done
  of_changes (no_body p e has named bad) = changes_done
  of_changes (method p body has named good is) = plan_changes is ls

  means_changes : {s : Settings} {plan : MethodPlan Reply} → Means s x plan → ChangesList (caller x) ls plan
  means_changes (no_head out) = changes_done
  means_changes (no_method r e head gives) = changes_done
  means_changes (known r m head gives means) = of_changes means

-- ---- steps

pub steps_change_lists : StepsChangeLists
steps_change_lists s x old new ls ms reply (steps plan outcome means ran) = lists_are_changed (caller x) plan old new ls ms outcome (means_changes x ls means) ran

cut_changes : (s : Settings) (x : Exchange) {old new : StoreState} (ls : List Lock) {ms : Locks} → StepCut s x old (Some ls) new ms → OnList (AreChanges (caller x) ls) ms
cut_changes s x ls untouched = no_change
cut_changes s x {old} ls (cut plan {new} {ms} means some) = lists_are_changed_cut (caller x) plan old new ls ms (means_changes x ls means) some

pub steps_change_lists_cut : StepsChangeListsCut
steps_change_lists_cut s x old new ls ms stops = cut_changes s x ls stops

-- ---- runs

module _ (s : Settings) where
  -- what lasts through the changes of each request's step lasts through a run
  module _ (G : List Lock → Type 0) (ts : List Turn) (lasts : (t : Turn) → Contains ts t → (ls ms : List Lock) → AreChanges (caller t.asked) ls ms → G ls → G ms) where
    after_step : {t : Turn} {old new : StoreState} {ls : List Lock} (ms : Locks) {reply : Reply} → Contains ts t → G ls → Steps s t.asked old (Some ls) reply new ms → OnList G ms
    after_step {t} {old} {new} {ls} None {reply} here g step = absurd (steps_change_lists s t.asked old new ls None reply step)
    after_step {t} {old} {new} {ls} (Some ms) {reply} here g step = lasts t here ls ms (steps_change_lists s t.asked old new ls (Some ms) reply step) g

    run_lasts : {us : List Turn} {old new : StoreState} {ls : Locks} {ms : Locks} {replies : List Reply} → All (Contains ts) us → OnList G ls → Runs s us old ls replies new ms → OnList G ms
    run_lasts all g no_more = g
    run_lasts {ls = None} all g (one_more one more) = absurd g
    run_lasts {ls = Some ls} all g (one_more {t} {ts = us} {ks = ks} one more) =
        run_lasts (All-tail (Contains ts) t us all) (after_step ks (All-head (Contains ts) t us all) g one) more

-- from a list in which locks that cover one path are shared
pub run_shares : (s : Settings) (ts : List Turn) (old new : StoreState) (ls ms : List Lock) (replies : List Reply) → CoveringAreShared ls → Runs s ts old (Some ls) replies new (Some ms) → CoveringAreShared ms
run_shares s ts old new ls ms replies covering ran =
    run_lasts s CoveringAreShared ts (λ t here ls ms changes was. changes_keep_shared (caller t.asked) ls ms changes was) (All-contains_itself ts) covering ran

-- of a run, each request
step_shares : {s : Settings} {x : Exchange} {old new : StoreState} {reply : Reply} (was now : Locks) (ls ms : List Lock) → was ≡ Some ls → now ≡ Some ms → Steps s x old was reply new now → CoveringAreShared ls → CoveringAreShared ms
step_shares {s} {x} {old} {new} {reply} was now ls ms were are step covering =
    let from_list = subst (λ (l : Locks). Steps s x old l reply new now) were step in
    let to_list = subst (λ (l : Locks). Steps s x old (Some ls) reply new l) are from_list in
    changes_keep_shared (caller x) ls ms (steps_change_lists s x old new ls (Some ms) reply to_list) covering

pub shares_locks : {old : Server} {ts : List Turn} {replies : List Reply} (u : RunStep old ts replies) → Keeps shared (step_of u)
shares_locks u ls ms were are covering = step_shares u.was.locks u.now.locks ls ms were are u.stepped covering

pub tokens_are_handed_in : TokensAreHandedIn
tokens_are_handed_in s ts old new ms replies ran =
    run_lasts s (λ ls. All (λ l. IsHandedIn ts l.token) ls) ts
    (λ t here ls ms changes was. tokens_after_all (IsHandedIn ts) (λ token is. (t, here, is)) changes was)
    (All-contains_itself ts) (All-nil (λ (l : Lock). IsHandedIn ts l.token)) ran
