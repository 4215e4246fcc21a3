-- What the handler does is a step of the machine.
use Rattle.std.proofs.Common.{◌≡◌, ℕ, List, Option, OnErr, Result, Ok, Err, refl, sym, ap, subst, ◌∙◌}
use Rattle.std.specs.Option.{option_copied, option_map}
use denote.Ref.{Bor}
use Rattle.dav_core.specs.declared.errors.DavError.{DavError}
use Rattle.dav_core.specs.declared.errors.DavError.TheVariants as dav
use Rattle.dav_core.specs.Asking.{StoreState, Asks}
use Rattle.dav_core.specs.Locks.{Lock}
use Rattle.dav_engine.specs.Asker.{Asker, caller_at}
use Rattle.dav_engine.specs.ConditionView.{locks_in}
use Rattle.dav_engine.specs.Follows.{as_is, followed, gave_up, FollowsOneOf, Serves, served, not_begun}
use Rattle.dav_engine.specs.Method.{MethodPlan, fails}
use Rattle.dav_engine.specs.Plan.{Plan, Locks, ServerState, Ran, ran_done, ran_ask, ran_look, ran_keep, Cut, refused_done}
use Rattle.dav_engine.proofs.Theorems.{cut_refused, cut_ask, cut_look, cut_keep, follows_done}
use Rattle.dav_engine.specs.Reply.{Reply, error_reply}
use Rattle.dav_core.specs.declared.method.DavMethod.{DavMethod}
use Rattle.dav_core.specs.Path.{PathText}
use Rattle.dav_engine.specs.declared.request.Body.{Body}
use Rattle.dav_engine.specs.Caller.{Caller}
use Rattle.dav_engine.specs.Headers.{Headers}
use Rattle.dav_core.specs.Method.{Has}
use Rattle.dav_server.specs.Head.{Request}
use Rattle.dav_server.specs.Headers.{headers_of}
use Rattle.dav_server.specs.Target.{TargetNames}
use Rattle.dav_server.specs.Method.{GivesServed}
use Rattle.dav_server.specs.TargetCode.{GivesPath}
use Rattle.dav_server.specs.Server.{HandlerView}
use Rattle.dav_server.specs.Machine.{caller, PlanOf, MeansOf, method, body_for, taken_by, Exchange, Settings, Means, Steps, steps, StepCut, untouched, cut}

-- what is served as one kind of plan is served as another that has each of its plans
pub serves_as : {K J : MethodPlan Reply → Type 0} {old new : ServerState} {r : Result Reply DavError} → ((plan : MethodPlan Reply) → K plan → J plan) → Serves K old r new → Serves J old r new
serves_as f (served plan k done) = served plan (f plan k) done
serves_as f (not_begun is same kept) = not_begun is same kept

-- an error before anything is asked
pub serves_error : {K : MethodPlan Reply → Type 0} {s : ServerState} (e : DavError) → K (fails e) → Serves K s (Err e) s
serves_error e k = served (fails e) k (follows_done refl)

-- a plan that was followed to its end was also begun
cut_of_ran : {A : Type 0} {first : Locks} {plan : Plan A} {old new : StoreState} {ls ms : Locks} {a : A} → Ran Asks plan old ls a new ms → Cut Asks first plan old ls new ms
cut_of_ran ran_done = cut_refused refused_done
cut_of_ran (ran_ask {answer = answer} one rest) = cut_ask answer one (cut_of_ran rest)
cut_of_ran (ran_look rest) = cut_look (cut_of_ran rest)
cut_of_ran (ran_keep rest) = cut_keep (cut_of_ran rest)

-- whatever the reply, no more was done than the first calls of the plan
pub served_cut : {s : Settings} {x : Exchange} {old new : ServerState} {r : Result Reply DavError} → Serves (Means s x) old r new → StepCut s x old.store old.locks new.store new.locks
served_cut (served plan means (followed ran)) = cut plan means (cut_of_ran ran)
served_cut (served plan means (gave_up is front)) = cut plan means front
served_cut {s} {x} {old} {new} (not_begun is same kept) =
    subst (λ m. StepCut s x old.store old.locks m new.locks) (sym same) (subst (λ k. StepCut s x old.store old.locks old.store k) (sym kept) untouched)

-- a reply is that of a step
pub served_ok : {s : Settings} {x : Exchange} {old new : ServerState} {reply : Reply} → Serves (Means s x) old (Ok reply) new → Steps s x old.store old.locks reply new.store new.locks
served_ok (served plan means (followed ran)) = steps plan _ means ran
served_ok (served plan means (gave_up is front)) = absurd (cc)
served_ok (not_begun is same kept) = absurd (cc)

-- so is the reply to an error, other than out of memory
pub served_err : {s : Settings} {x : Exchange} {old new : ServerState} {e : DavError} {response : Reply} → Serves (Means s x) old (Err e) new
    → response ≡ error_reply e → (e ≡ dav.Memory → ⊥) → Steps s x old.store old.locks response new.store new.locks
served_err {s} {x} {old} {new} {e} (served plan means (followed ran)) is other =
    subst (λ r. Steps s x old.store old.locks r new.store new.locks) (sym is) (steps plan (Err e) means ran)
served_err (served plan means (gave_up is' front)) is other = absurd (other (cc))
served_err (not_begun is' same kept) is other = absurd (other (cc))

-- a plan of a method is one of an equal method
pub plan_at : {allowed : ℕ} {headers : Headers} {p : PathText} {body : Body} {who : Caller} {m n : DavMethod} {plan : MethodPlan Reply} → m ≡ n → PlanOf allowed headers p body who n plan → PlanOf allowed headers p body who m plan
plan_at {allowed} {headers} {p} {body} {who} {plan = plan} same is = subst (λ k. PlanOf allowed headers p body who k plan) (sym same) is

-- what an equal name gives as method
pub served_at : {text name : List ℕ} (result : Result DavMethod DavError) → text ≡ name → GivesServed text result → GivesServed name result
served_at result same is = subst (λ t. GivesServed t result) same is

-- what an equal target names below an equal prefix
pub path_at : {prefix given target text : List ℕ} (m : DavMethod) (result : Result PathText DavError) → given ≡ prefix → text ≡ target → GivesPath given m text result → GivesPath prefix m target result
path_at {prefix} {text = text} m result one two is = subst (λ t. GivesPath prefix m t result) two (subst (λ x. GivesPath x m text result) one is)

-- what was served by a plan of its method was served by the plan of a request with these headers and this body
pub handed_at : {s : Settings} {x : Exchange} {r : Request} {m : DavMethod} {p : PathText} {headers : Headers} {body : Body} {old new : ServerState} {result : Result Reply DavError}
    → Has s.allowed m → TargetNames s.prefix m r.target (Ok p) → Ok body ≡ body_for (taken_by m) x.body → headers ≡ headers_of r.fields
    → Serves (PlanOf s.allowed headers p body (caller x) m) old result new → Serves (MeansOf s x r m) old result new
handed_at {s} {x} {m = m} {p} {body = body} has named is same done =
    serves_as (λ plan one. method p body has named (sym is) (subst (λ h. PlanOf s.allowed h p body (caller x) m plan) same one)) done

-- what holds anyway holds where there is an error
pub any_err : {A E P : Type 0} (r : Result A E) → P → OnErr r P
any_err (Ok a) p = tt
any_err (Err e) p = p

-- the same, by equal kinds of plans
pub serves_by : {K J : MethodPlan Reply → Type 0} {old new : ServerState} {r : Result Reply DavError} → K ≡ J → Serves K old r new → Serves J old r new
serves_by {old = old} {new} {r} same done = subst (λ (k : MethodPlan Reply → Type 0). Serves k old r new) same done

-- what was served on the state of a handler was served on that of an equal one
pub serves_held : {K : MethodPlan Reply → Type 0} {F L : Type 0} {one other : HandlerView F L} {new : ServerState} {r : Result Reply DavError}
    → one ≡ other → Serves K one.server.state r new → Serves K other.server.state r new
serves_held {K} {new = new} {r} same done = subst (λ h. Serves K h.server.state r new) same done

-- the same, where the plans depend on the settings
pub serves_set : (K : Settings → MethodPlan Reply → Type 0) {F L : Type 0} {one other : HandlerView F L} {new : ServerState} {r : Result Reply DavError}
    → one ≡ other → Serves (K one.server.settings) one.server.state r new → Serves (K other.server.settings) other.server.state r new
serves_set K {new = new} {r} same done = subst (λ h. Serves (K h.server.settings) h.server.state r new) same done

-- the same, by equal requests
pub serves_asked : (K : Exchange → MethodPlan Reply → Type 0) {one other : Exchange} {old new : ServerState} {r : Result Reply DavError}
    → one ≡ other → Serves (K one) old r new → Serves (K other) old r new
serves_asked K {old = old} {new} {r} same done = subst (λ x. Serves (K x) old r new) same done

-- what was served with borrowed locks was served with the locks that were lent
pub serves_lent : {L : Type 0} {K : MethodPlan Reply → Type 0} (locks : L → List Lock) (lent : Option (Bor L)) {held : Option L} {old new : StoreState} {r : Result Reply DavError}
    → option_copied lent ≡ held → FollowsOneOf as_is K old (locks_in locks lent) r new (locks_in locks lent) → FollowsOneOf as_is K old (option_map locks held) r new (option_map locks held)
serves_lent {L} {K} locks lent {old = old} {new} {r} same done = subst (λ (l : Option L). FollowsOneOf as_is K old (option_map locks l) r new (option_map locks l)) same done

-- who makes a request at the moment of an equal one
pub asked_at : {one other : Exchange} {who : Asker} → one ≡ other → caller_at other.moment who ≡ caller other → caller_at one.moment who ≡ caller other
asked_at {who = who} same is = ap (λ (x : Exchange). caller_at x.moment who) same ∙ is
