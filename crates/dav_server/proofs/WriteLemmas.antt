-- A PUT or PATCH with If-None-Match `*` leaves what is there, and then isn't answered with success.
use Rattle.std.proofs.Common.{◌≡◌, ◌⊎◌, inl, inr, ℕ, false, List, codes, Option, Some, None, Result, Ok, Err, refl, sym, subst, ◌∙◌, arith}
use Rattle.http_header.specs.HeaderMap.{get_all}
use Rattle.dav_core.specs.declared.errors.DavError.{DavError}
use Rattle.dav_core.specs.declared.errors.DavError.TheVariants as dav
use Rattle.dav_core.specs.declared.method.DavMethod.{DavMethod}
use Rattle.dav_core.specs.declared.method.DavMethod.TheVariants.{Get, Head, Put, Patch, Options, MkCol, Copy, Move, Delete, PropFind, PropPatch, Lock, Unlock}
use Rattle.dav_core.specs.Asking.{StoreState, Asks as Asking}
use Rattle.dav_core.specs.Path.{Path, PathText, names}
use Rattle.dav_core.specs.Status.{dav_status}
use Rattle.dav_core.specs.World.{Node, node_at}
use Rattle.dav_headers.specs.ETagList.{star, IsTagList}
use Rattle.dav_engine.specs.declared.request.Body.{Body}
use Rattle.dav_engine.specs.Caller.{Caller}
use Rattle.dav_engine.specs.Conditions.{is_reading}
use Rattle.dav_engine.specs.Headers.{Headers}
use Rattle.dav_engine.specs.Method.{MethodPlan, fails}
use Rattle.dav_engine.specs.Plan.{Locks, Ran}
use Rattle.dav_engine.specs.Put.{PutHeaders, put_body, bytes_of_body, is_put}
use Rattle.dav_engine.specs.Reply.{Reply, reply_to}
use Rattle.dav_engine.specs.WorldLaws.{reads_done}
use Rattle.dav_engine.proofs.Theorems.{create_only_leaves_all, creates_only, reading_leaves, ran_outcome}
use Rattle.dav_server.specs.Head.{Request}
use Rattle.dav_server.specs.Headers.{headers_of}
use Rattle.dav_server.specs.Machine.{Settings, Exchange, PlanOf, gets, heads, puts, patches, makes, deletes, copies, moves, offers, finds_properties, sets_properties, locks, releases, MeansOf, not_allowed, no_path, no_body, method, Means, no_head, no_method, known, taken_by, steps}
use Rattle.dav_server.specs.Leaving.{CreateOnlyFails}
use Rattle.dav_server.specs.Method.{GivesServed}
use Rattle.dav_server.specs.Target.{TargetNames}
use Rattle.dav_server.specs.UpdateLaws.{IsSuccess}
use Rattle.dav_server.specs.WriteLaws.{IsCreateOnly, CreateOnlyKeeps}
use Rattle.dav_server.proofs.HeadLemmas.{one_head}
use Rattle.dav_server.proofs.MeansWorld.{one_method}
use Rattle.dav_server.proofs.NotModified.{says_tags, one_value, no_error, body_status}
use Rattle.dav_server.proofs.PlanStatuses.{Outcome, Any, IsFailure, ran_ends, put_ends}
use Rattle.dav_server.proofs.TargetLemmas.{one_outcome}

-- nothing of the world and of the list of locks has changed
abbrev Same : StoreState → Locks → StoreState → Locks → Type 0
Same old ls new ms = (new.world ≡ old.world) × (ms ≡ ls)

abbrev Writes : DavMethod → Type 0
Writes m = (m ≡ Put) ⊎ (m ≡ Patch)

no_write : {A : Type 0} (m : DavMethod) → Writes m → (m ≡ Put → A) → (m ≡ Patch → A) → A
no_write m (inl one) put patch = put one
no_write m (inr other) put patch = patch other

-- ---- the plan of such a request

-- it only creates, or it fails at once
data Creates (p : Path) : MethodPlan Reply → Type 0 where
  it_creates : (m : DavMethod) (h : PutHeaders) (who : Caller) (bytes : Option (List ℕ)) → is_reading m ≡ false → h.conditions.if_none_match ≡ Some star → Creates p (put_body m h p who bytes)
  it_fails : (e : DavError) → IsFailure e → Creates p (fails e)

plan_creates : {allowed : ℕ} {headers : Headers} {p : PathText} {given : Body} {who : Caller} {m : DavMethod} {plan : MethodPlan Reply}
    → Writes m → IsTagList (get_all headers (codes "if-none-match")) star → PlanOf allowed headers p given who m plan → Creates (names p) plan
plan_creates writes says (gets is) = no_write Get writes (λ e. absurd (cc)) (λ e. absurd (cc))
plan_creates writes says (heads is) = no_write Head writes (λ e. absurd (cc)) (λ e. absurd (cc))
plan_creates {given = given} {who} writes says (puts (is_put h are)) = it_creates Put h who (bytes_of_body given) refl (says_tags _ h.conditions.if_none_match _ are.conditions.none_match says)
plan_creates {given = given} {who} writes says (patches (is_put h are)) = it_creates Patch h who (bytes_of_body given) refl (says_tags _ h.conditions.if_none_match _ are.conditions.none_match says)
plan_creates writes says (makes is) = no_write MkCol writes (λ e. absurd (cc)) (λ e. absurd (cc))
plan_creates writes says (deletes is) = no_write Delete writes (λ e. absurd (cc)) (λ e. absurd (cc))
plan_creates writes says (copies is) = no_write Copy writes (λ e. absurd (cc)) (λ e. absurd (cc))
plan_creates writes says (moves is) = no_write Move writes (λ e. absurd (cc)) (λ e. absurd (cc))
plan_creates writes says offers = no_write Options writes (λ e. absurd (cc)) (λ e. absurd (cc))
plan_creates writes says (finds_properties is) = no_write PropFind writes (λ e. absurd (cc)) (λ e. absurd (cc))
plan_creates writes says (sets_properties is) = no_write PropPatch writes (λ e. absurd (cc)) (λ e. absurd (cc))
plan_creates writes says (locks is) = no_write Lock writes (λ e. absurd (cc)) (λ e. absurd (cc))
plan_creates writes says (releases is) = no_write Unlock writes (λ e. absurd (cc)) (λ e. absurd (cc))

of_creates : {s : Settings} {x : Exchange} {r : Request} {m : DavMethod} {plan : MethodPlan Reply} (p : PathText)
    → Writes m → TargetNames s.prefix m r.target (Ok p) → IsTagList (get_all (headers_of r.fields) (codes "if-none-match")) star → MeansOf s x r m plan → Creates (names p) plan
of_creates p writes names_p says (not_allowed out) = it_fails (dav.StatusClose 405) (omega arith)
of_creates {s} {r = r} {m} p writes names_p says (no_path e has none) = no_error (one_outcome s.prefix m r.target _ _ names_p none)
of_creates {x = x} {m = m} p writes names_p says (no_body q e has named bad) = it_fails e (subst (Outcome IsFailure Any) bad (body_status (taken_by m) x.body))
of_creates {s} {r = r} {m} {plan} p writes names_p says (method q given has named good is) =
    let same : q ≡ p = one_value (one_outcome s.prefix m r.target _ _ named names_p) in
    subst (λ (t : PathText). Creates (names t) plan) same (plan_creates writes says is)

means_creates : {s : Settings} {x : Exchange} {plan : MethodPlan Reply} (p : PathText) → IsCreateOnly s x p → Means s x plan → Creates (names p) plan
means_creates p (r, m, head, gives, writes, named, says) (no_head out) = absurd (out r head)
means_creates p (r, m, head, gives, writes, named, says) (no_method q e head' gives') = it_fails e (subst IsFailure (sym gives'.0) (omega arith))
means_creates {s} {x} {plan} p (r, m, head, gives, writes, named, says) (known q k head' gives' means) =
    let request : q ≡ r = one_head x.head q r head' head in
    let same : k ≡ m = one_method r.method k m (subst (λ (h : Request). GivesServed h.method (Ok k)) request gives') gives in
    of_creates p writes named says (subst (λ (j : DavMethod). MeansOf s x r j plan) same (subst (λ (h : Request). MeansOf s x h k plan) request means))

-- ---- it leaves what is there

body_keeps : (m : DavMethod) (h : PutHeaders) (p : Path) (who : Caller) (bytes : Option (List ℕ)) (n : Node) (old new : StoreState) (ls ms : Locks) (outcome : Result Reply DavError)
    → h.conditions.if_none_match ≡ Some star → node_at old.world p ≡ Some n → Ran Asking (put_body m h p who bytes) old ls outcome new ms → Same old ls new ms
body_keeps m h p who None n old new ls ms outcome is there ran = reading_leaves reads_done ran
body_keeps m h p who (Some bytes) n old new ls ms outcome is there ran = create_only_leaves_all m h p who bytes old new ls ms outcome n is there ran

creates_keeps : {p : Path} {plan : MethodPlan Reply} (n : Node) (old new : StoreState) (ls ms : Locks) (outcome : Result Reply DavError)
    → Creates p plan → node_at old.world p ≡ Some n → Ran Asking plan old ls outcome new ms → Same old ls new ms
creates_keeps {p} n old new ls ms outcome (it_creates m h who bytes writes is) there ran = body_keeps m h p who bytes n old new ls ms outcome is there ran
creates_keeps n old new ls ms outcome (it_fails e fails_with) there ran = reading_leaves reads_done ran

pub create_only_keeps : CreateOnlyKeeps
create_only_keeps s x p n old new ls ms reply is there (steps plan outcome means ran) = creates_keeps n old new ls ms outcome (means_creates p is means) there ran

-- ---- and it isn't answered with success

no_success : (e : DavError) → IsFailure e → ¬ IsSuccess (dav_status e)
no_success e fails_with (low, high) = absurd (omega (arith, fails_with, high))

body_fails : (m : DavMethod) (h : PutHeaders) (p : Path) (who : Caller) (bytes : Option (List ℕ)) (n : Node) (old new : StoreState) (ls ms : Locks) (r : Reply) {A : Type 0}
    → h.conditions.if_none_match ≡ Some star → node_at old.world p ≡ Some n → Ran Asking (put_body m h p who bytes) old ls (Ok r) new ms → A
body_fails m h p who None n old new ls ms r is there ran = absurd (let clash = ran_outcome ran in cc)
body_fails m h p who (Some bytes) n old new ls ms r is there ran = absurd (let none = creates_only m h p who bytes old new ls ms r is ran in let clash = sym none ∙ there in cc)

creates_fails : {p : Path} {plan : MethodPlan Reply} (n : Node) (old new : StoreState) (ls ms : Locks) (outcome : Result Reply DavError)
    → Creates p plan → node_at old.world p ≡ Some n → Ran Asking plan old ls outcome new ms → ¬ IsSuccess (reply_to outcome).status
creates_fails {p} n old new ls ms (Ok r) (it_creates m h who bytes writes is) there ran = body_fails m h p who bytes n old new ls ms r is there ran
creates_fails {p} n old new ls ms (Err e) (it_creates m h who bytes writes is) there ran = no_success e (ran_ends (put_ends m h p who bytes writes) ran)
creates_fails n old new ls ms outcome (it_fails e fails_with) there ran = subst (λ (o : Result Reply DavError). ¬ IsSuccess (reply_to o).status) (sym (ran_outcome ran)) (no_success e fails_with)

pub create_only_fails : CreateOnlyFails
create_only_fails s x p n old new ls ms reply is there (steps plan outcome means ran) = creates_fails n old new ls ms outcome (means_creates p is means) there ran
