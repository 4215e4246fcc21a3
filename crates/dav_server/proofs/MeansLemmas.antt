-- A request has one plan, and a run is determined.
use Rattle.std.proofs.Common.{◌≡◌, ℕ, Bool, true, false, true≢false, List, ◌∷◌, Result, Ok, Err, refl, sym, ap, subst, ◌∙◌}
use Rattle.dav_core.specs.declared.errors.DavError.{DavError}
use Rattle.dav_core.specs.declared.method.DavMethod.{DavMethod}
use Rattle.dav_core.specs.declared.method.DavMethod.TheVariants.{Put, Patch, Copy, Move}
use Rattle.dav_core.specs.Asking.{StoreState, Asks}
use Rattle.dav_core.specs.Path.{PathText, names}
use Rattle.dav_engine.specs.declared.request.Body.{Body}
use Rattle.dav_engine.specs.Caller.{Caller}
use Rattle.dav_engine.specs.Conditions.{Conditions}
use Rattle.dav_engine.specs.Headers.{Headers}
use Rattle.dav_engine.specs.Method.{MethodPlan, fails}
use Rattle.dav_engine.specs.Plan.{Locks, Ran}
use Rattle.dav_engine.specs.Reply.{Reply, reply_to}
use Rattle.dav_engine.proofs.Theorems.{ran_same, ran_unset, one_conditions, one_put_plan, one_mkcol_plan, one_copymove_plan, one_delete_plan, one_lock_plan, one_unlock_plan, one_propfind_plan, one_proppatch_plan}
use Rattle.dav_server.specs.Get.{get, IsGet, is_get}
use Rattle.dav_server.specs.Head.{Request}
use Rattle.dav_server.specs.Headers.{headers_of}
use Rattle.dav_server.specs.Machine.{Settings, Exchange, caller, PlanOf, gets, heads, puts, patches, makes, deletes, copies, moves, offers, finds_properties, sets_properties, locks, releases, MeansOf, not_allowed, no_path, no_body, method, Means, no_head, no_method, known, Steps, steps}
use Rattle.dav_server.specs.Method.{GivesServed}
use Rattle.dav_server.specs.Run.{Turn, Runs, no_more, one_more, RunsAreDetermined}
use Rattle.dav_server.proofs.HeadLemmas.{one_head}
use Rattle.dav_server.proofs.TargetLemmas.{one_outcome}
use Rattle.dav_server.proofs.MeansWorld.{one_method, begun_short}

served_or_not : {A : Type 0} (text : List ℕ) (m : DavMethod) (e : DavError) → GivesServed text (Ok m) → GivesServed text (Err e) → A
served_or_not text m e one two = absurd (two.1 m one.0 one.1)

one_get : {m : DavMethod} {headers : Headers} {p : PathText} {now : ℕ} {plan other : MethodPlan Reply} → IsGet m headers p now plan → IsGet m headers p now other → plan ≡ other
one_get {m} {headers} {p} {now} (is_get a h) (is_get b k) = ap (λ (c : Conditions). get m c (names p) now) (one_conditions headers p.prefix (names p) a b h k)

-- no method is both served and not served yet
never : {A : Type 0} → ◌≡◌ {A = Bool} true false → A
never same = absurd (true≢false same)

one_plan : {allowed : ℕ} {headers : Headers} {p : PathText} {body : Body} {who : Caller} {m : DavMethod} {plan other : MethodPlan Reply} → PlanOf allowed headers p body who m plan → PlanOf allowed headers p body who m other → plan ≡ other
one_plan (gets one) (gets two) = one_get one two
one_plan (heads one) (heads two) = one_get one two
one_plan {headers} {p} {body} {who} {plan = plan} {other = other} (puts one) (puts two) = one_put_plan Put headers p body who plan other one two
one_plan {headers} {p} {body} {who} {plan = plan} {other = other} (patches one) (patches two) = one_put_plan Patch headers p body who plan other one two
one_plan {headers} {p} {who = who} {plan = plan} {other = other} (makes one) (makes two) = one_mkcol_plan headers p who plan other one two
one_plan {headers} {p} {who = who} {plan = plan} {other = other} (deletes one) (deletes two) = one_delete_plan headers p who plan other one two
one_plan {headers} {p} {who = who} {plan = plan} {other = other} (copies one) (copies two) = one_copymove_plan Copy headers p who plan other one two
one_plan {headers} {p} {who = who} {plan = plan} {other = other} (moves one) (moves two) = one_copymove_plan Move headers p who plan other one two
one_plan offers offers = refl
one_plan {headers} {p} {body} {who} {plan = plan} {other = other} (finds_properties one) (finds_properties two) = one_propfind_plan headers p body who plan other one two
one_plan {headers} {p} {body} {who} {plan = plan} {other = other} (sets_properties one) (sets_properties two) = one_proppatch_plan headers p body who plan other one two
one_plan {headers} {p} {body} {who} {plan = plan} {other = other} (locks one) (locks two) = one_lock_plan headers p body who plan other one two
one_plan {headers} {p} {who = who} {plan = plan} {other = other} (releases one) (releases two) = one_unlock_plan headers p who plan other one two

one_error : {A : Type 0} {e f : DavError} → ◌≡◌ {A = Result A DavError} (Err e) (Err f) → e ≡ f
one_error same = cc

one_value : {A : Type 0} {a b : A} → ◌≡◌ {A = Result A DavError} (Ok a) (Ok b) → a ≡ b
one_value same = cc

not_both : {A B : Type 0} {a : A} {e : DavError} → ◌≡◌ {A = Result A DavError} (Ok a) (Err e) → B
not_both same = absurd (cc)

one_of : {s : Settings} {x : Exchange} {r : Request} {m : DavMethod} {plan other : MethodPlan Reply} → MeansOf s x r m plan → MeansOf s x r m other → plan ≡ other
one_of (not_allowed out) (not_allowed also) = refl
one_of (not_allowed out) (no_path f has none) = absurd (out has)
one_of (not_allowed out) (no_body q f has named bad) = absurd (out has)
one_of (not_allowed out) (method q body has named good is) = absurd (out has)
one_of (no_path e has none) (not_allowed out) = absurd (out has)
one_of {s} {r = r} {m} (no_path e has none) (no_path f _ also) = ap fails (one_error (one_outcome s.prefix m r.target _ _ none also))
one_of {s} {r = r} {m} (no_path e has none) (no_body q f _ named bad) = not_both (one_outcome s.prefix m r.target _ _ named none)
one_of {s} {r = r} {m} (no_path e has none) (method q body _ named good is) = not_both (one_outcome s.prefix m r.target _ _ named none)
one_of (no_body p e has named bad) (not_allowed out) = absurd (out has)
one_of {s} {r = r} {m} (no_body p e has named bad) (no_path f _ none) = not_both (one_outcome s.prefix m r.target _ _ named none)
one_of (no_body p e has named bad) (no_body q f _ also worse) = ap fails (one_error (sym bad ∙ worse))
one_of (no_body p e has named bad) (method q body _ also good is) = not_both (sym good ∙ bad)
one_of (method p body has named good is) (not_allowed out) = absurd (out has)
one_of {s} {r = r} {m} (method p body has named good is) (no_path f _ none) = not_both (one_outcome s.prefix m r.target _ _ named none)
one_of (method p body has named good is) (no_body q f _ also bad) = not_both (sym good ∙ bad)
one_of {s} {x} {r} {m} {other = other} (method p body has named good is) (method q given _ also better too) =
    let path : p ≡ q = one_value (one_outcome s.prefix m r.target _ _ named also) in
    let same : body ≡ given = one_value (sym good ∙ better) in
    one_plan is (subst (λ (t : PathText). PlanOf s.allowed (headers_of r.fields) t body (caller x) m other) (sym path)
    (subst (λ (b : Body). PlanOf s.allowed (headers_of r.fields) q b (caller x) m other) (sym same) too))

-- a request results in one plan
pub one_means : {s : Settings} {x : Exchange} {plan other : MethodPlan Reply} → Means s x plan → Means s x other → plan ≡ other
one_means (no_head out) (no_head also) = refl
one_means (no_head out) (no_method r e is gives) = absurd (out r is)
one_means (no_head out) (known r m is gives means) = absurd (out r is)
one_means (no_method r e is gives) (no_head out) = absurd (out r is)
one_means (no_method r e is gives) (no_method q f is' gives') = ap fails (gives.0 ∙ sym gives'.0)
one_means {x = x} (no_method r e is gives) (known q m is' gives' means) =
    served_or_not q.method m e gives' (subst (λ (h : Request). GivesServed h.method (Err e)) (one_head x.head r q is is') gives)
one_means (known r m is gives means) (no_head out) = absurd (out r is)
one_means {x = x} (known r m is gives means) (no_method q e is' gives') =
    served_or_not q.method m e (subst (λ (h : Request). GivesServed h.method (Ok m)) (one_head x.head r q is is') gives) gives'
one_means {s} {x} {plan} {other} (known r m is gives means) (known q n is' gives' means') =
    let head : q ≡ r = one_head x.head q r is' is in
    let same : n ≡ m = one_method r.method n m (subst (λ (h : Request). GivesServed h.method (Ok n)) head gives') gives in
    one_of means (subst (λ (k : DavMethod). MeansOf s x r k other) same (subst (λ (h : Request). MeansOf s x h n other) head means'))

-- the flag for out of memory is never cleared
steps_unset : {s : Settings} {x : Exchange} {old new : StoreState} {ls ms : Locks} {reply : Reply} → Steps s x old ls reply new ms → new.short ≡ false → old.short ≡ false
steps_unset (steps plan outcome means ran) u = ran_unset ran u

runs_unset : {s : Settings} {ts : List Turn} {old new : StoreState} {ls ms : Locks} {replies : List Reply} → Runs s ts old ls replies new ms → new.short ≡ false → old.short ≡ false
runs_unset no_more u = u
runs_unset {old = old} (one_more {t = t} step rest) u = sym (begun_short t.refusals old) ∙ steps_unset step (runs_unset rest u)

steps_same : {s : Settings} {x : Exchange} {old new other : StoreState} {ls ks ms : Locks} {reply answer : Reply} → Steps s x old ls reply new ks → new.short ≡ false → Steps s x old ls answer other ms → other.short ≡ false
    → (reply ≡ answer) × (new ≡ other) × (ks ≡ ms)
steps_same {old = old} {other = other} {ls} {ms = ms} (steps plan outcome means ran) u (steps plan' outcome' means' ran') u' =
    let same : plan' ≡ plan = one_means means' means in
    let both = ran_same ran u (subst (λ (p : MethodPlan Reply). Ran Asks p old ls outcome' other ms) same ran') u' in
    (ap reply_to both.0, both.1, both.2)

pub runs_same : {s : Settings} {ts : List Turn} {old new other : StoreState} {ls ks ms : Locks} {replies others : List Reply}
    → Runs s ts old ls replies new ks → new.short ≡ false → Runs s ts old ls others other ms → other.short ≡ false → (replies ≡ others) × (new ≡ other) × (ks ≡ ms)
runs_same no_more u no_more u' = (refl, refl, refl)
runs_same {s} (one_more {ts = ts} {mid = mid} {new = new} {ks = ks} {reply = reply} {replies = replies} step rest) u (one_more {mid = mid'} {new = other} {ks = ks'} {ms = ms} {reply = answer} {replies = others} step' rest') u' =
    let both = steps_same step (runs_unset rest u) step' (runs_unset rest' u') in
    let more = runs_same rest u (subst (λ (l : Locks). Runs s ts mid l others other ms) (sym both.2) (subst (λ (w : StoreState). Runs s ts w ks' others other ms) (sym both.1) rest')) u' in
    (ap (λ (r : Reply). r ∷ replies) both.0 ∙ ap (λ (rs : List Reply). answer ∷ rs) more.0, more.1, more.2)

pub runs_are_determined : RunsAreDetermined
runs_are_determined s ts old new other ls ks ms replies others one u two u' = runs_same one u two u'
