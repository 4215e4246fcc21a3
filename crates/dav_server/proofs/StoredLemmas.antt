-- A property that a client stores comes back.
use Rattle.std.proofs.Common.{◌≡◌, ◌≢◌, ◌++◌, ℕ, Bool, true, false, true≢false, List, [], ◌∷◌, All, codes, Option, Some, None, Result, Ok, Err, refl, sym, ap, subst, ◌∙◌, arith}
use Rattle.std.specs.Prelude.{⊤}
use Rattle.std.specs.Option.{is_none}
use Rattle.http_header.specs.HeaderMap.{get_all}
use Rattle.dav_core.specs.declared.errors.DavError.{DavError}
use Rattle.dav_core.specs.declared.errors.DavError.TheVariants as dav
use Rattle.dav_core.specs.declared.method.DavMethod.{DavMethod}
use Rattle.dav_core.specs.declared.method.DavMethod.TheVariants.{PropFind, PropPatch}
use Rattle.dav_core.specs.Asking.{StoreState, Asks}
use Rattle.dav_core.specs.Element.{ElementTree}
use Rattle.dav_core.specs.Path.{PathText, star, names, path_bytes, joined}
use Rattle.dav_core.specs.Status.{dav_status}
use Rattle.dav_core.specs.World.{World, Node, node_at, is_missing}
use Rattle.dav_core.proofs.Theorems.{slash_adds_no_name}
use Rattle.dav_headers.specs.Depth.{IsDepth}
use Rattle.dav_headers.specs.declared.depth.Depth.{Depth}
use Rattle.dav_engine.specs.declared.request.Body.{Body}
use Rattle.dav_engine.specs.Caller.{requester}
use Rattle.dav_engine.specs.Folder.{closed}
use Rattle.dav_engine.specs.Headers.{Headers}
use Rattle.dav_engine.specs.Method.{MethodPlan, fails}
use Rattle.dav_engine.specs.Plan.{CallStep, Locks, Ran, ran_done}
use Rattle.dav_engine.specs.Propfind.{IsPropfind, is_propfind}
use Rattle.dav_engine.specs.Proppatch.{IsProppatch, is_proppatch}
use Rattle.dav_engine.specs.Reply.{Reply, reply_to}
use Rattle.dav_engine.specs.StoredLaws.{Keeps}
use Rattle.dav_engine.proofs.Theorems.{proppatch_makes_all_or_none, patched_is_kept, kept_is_told}
use Rattle.dav_server.specs.Head.{Request}
use Rattle.dav_server.specs.Headers.{headers_of}
use Rattle.dav_server.specs.Holder.{IsRequestTo}
use Rattle.dav_server.specs.HrefLaws.{IsServedPath}
use Rattle.dav_server.specs.Machine.{Settings, Exchange, caller, taken_by, body_for, PlanOf, finds_properties, sets_properties, MeansOf, not_allowed, no_path, no_body, method, Means, no_head, no_method, known, steps}
use Rattle.dav_server.specs.Method.{GivesServed}
use Rattle.dav_server.specs.StoredLaws.{Patched, PatchesAreMade, Stores, TellsFirst, StoredComesBack}
use Rattle.dav_server.proofs.FindStatuses.{ends_propfind}
use Rattle.dav_server.proofs.HeadLemmas.{one_head}
use Rattle.dav_server.proofs.HrefReplies.{named_by}
use Rattle.dav_server.proofs.MeansWorld.{one_method}
use Rattle.dav_server.proofs.NotModified.{body_status, no_error, one_value}
use Rattle.dav_server.proofs.PathLemmas.{slash_no_star}
use Rattle.dav_server.proofs.PlanStatuses.{Outcome, Any, IsFailure, ran_ends, store_fails, guarded_ends, ends_free}
use Rattle.dav_server.proofs.PropertyStatuses.{ends_patching}
use Rattle.dav_server.proofs.TargetLemmas.{one_outcome}

-- ---- what a request for a path results in

-- the plan of its method, or an error of a status from 400 on
data PlanFor (s : Settings) (x : Exchange) (r : Request) (m : DavMethod) (p : PathText) : MethodPlan Reply → Type 0 where
  of_method : {plan : MethodPlan Reply} (content : Body) → body_for (taken_by m) x.body ≡ Ok content → PlanOf s.allowed (headers_of r.fields) p content (caller x) m plan → PlanFor s x r m p plan
  of_error : (e : DavError) → IsFailure e → PlanFor s x r m p (fails e)

module _ (s : Settings) (x : Exchange) (r : Request) (m : DavMethod) (p : PathText) (is_for : IsRequestTo s x r m p) where
  of_target : {plan : MethodPlan Reply} → MeansOf s x r m plan → PlanFor s x r m p plan
  of_target (not_allowed out) = of_error (dav.StatusClose 405) (omega arith)
  of_target (no_path e has none) = no_error (one_outcome s.prefix m r.target _ _ is_for.target none)
  of_target (no_body q e has named bad) = of_error e (subst (Outcome IsFailure Any) bad (body_status (taken_by m) x.body))
  of_target (method q content {plan} has named good is) =
      let same : q ≡ p = one_value (one_outcome s.prefix m r.target _ _ named is_for.target) in
      of_method content good (subst (λ (t : PathText). PlanOf s.allowed (headers_of r.fields) t content (caller x) m plan) same is)

  plan_for : {plan : MethodPlan Reply} → Means s x plan → PlanFor s x r m p plan
  plan_for (no_head out) = absurd (out r is_for.head)
  plan_for (no_method q e head gives) = of_error e (subst IsFailure (sym gives.0) (omega arith))
  plan_for {plan} (known q k head gives means) =
      let request : q ≡ r = one_head x.head q r head is_for.head in
      let same : k ≡ m = one_method r.method k m (subst (λ (h : Request). GivesServed h.method (Ok k)) request gives) is_for.method in
      of_target (subst (λ (j : DavMethod). MeansOf s x r j plan) same (subst (λ (h : Request). MeansOf s x h k plan) request means))

ended : {step : CallStep} {e : DavError} {outcome : Result Reply DavError} {old new : StoreState} {ls ms : Locks} → Ran step (fails e) old ls outcome new ms → outcome ≡ Err e
ended ran_done = refl

-- an error is answered with another status than 207
other_than_207 : {A : Type 0} (e : DavError) (outcome : Result Reply DavError) → outcome ≡ Err e → IsFailure e → (reply_to outcome).status ≡ 207 → A
other_than_207 e outcome is fails status =
    let other : dav_status e ≡ 207 = ap (λ (o : Result Reply DavError). (reply_to o).status) (sym is) ∙ status in
    absurd (omega (arith, fails, other))

-- ---- a PROPPATCH

patching_fails : {headers : Headers} {p : PathText} {content : Body} {plan : MethodPlan Reply} {old new : StoreState} {ls ms : Locks} (x : Exchange) (e : DavError)
    → IsProppatch headers p content (caller x) plan → Ran Asks plan old ls (Err e) new ms → IsFailure e
patching_fails {p = p} {content} x e (is_proppatch c are) ran =
    ran_ends (ends_patching IsFailure (λ status. ⊤) tt (λ A answer. store_fails answer) (omega arith) c p content (caller x)
    (λ found. guarded_ends dav.Status PropPatch c (Some found) (λ status above. above) refl)
    (λ tokens q. ends_free false (requester (caller x) tokens) (names q) (dav.Status 423) (omega arith))) ran

module _ (s : Settings) (x : Exchange) (r : Request) (p : PathText) (old new : StoreState) (ls ms : Locks) where
  patched_by : {plan : MethodPlan Reply} (content : Body) (outcome : Result Reply DavError) → body_for (taken_by PropPatch) x.body ≡ Ok content → IsProppatch (headers_of r.fields) p content (caller x) plan
      → Ran Asks plan old ls outcome new ms → (reply_to outcome).status ≡ 207 → Patched x p (reply_to outcome) old.world new.world
  patched_by content (Err e) good is ran status = other_than_207 e (Err e) refl (patching_fails x e is ran) status
  patched_by {plan} content (Ok reply) good is ran status =
      record { content = content; given = good; patched = (proppatch_makes_all_or_none (headers_of r.fields) p content (caller x) plan old new ls ms reply is ran).0 }

  patched_as : {plan : MethodPlan Reply} (outcome : Result Reply DavError) → PlanFor s x r PropPatch p plan → Ran Asks plan old ls outcome new ms → (reply_to outcome).status ≡ 207 → Patched x p (reply_to outcome) old.world new.world
  patched_as outcome (of_method content good (sets_properties is)) ran status = patched_by content outcome good is ran status
  patched_as outcome (of_error e fails) ran status = other_than_207 e outcome (ended ran) fails status

pub patches_are_made : PatchesAreMade
patches_are_made s x r p old new ls ms reply is_for (steps plan outcome means ran) status = patched_as s x r p old new ls ms outcome (plan_for s x r PropPatch p is_for means) ran status

-- ---- a PROPFIND

-- a path below a prefix isn't `*`
slashed : (ns : List (List ℕ)) (c : Bool) → (rest : List ℕ) × (path_bytes ns c ≡ 47 ∷ rest)
slashed [] c = ([], refl)
slashed (n ∷ ns) true = ((n ++ joined ns) ++ 47 ∷ [], refl)
slashed (n ∷ ns) false = ((n ++ joined ns) ++ [], refl)

served_no_star : {prefix : List ℕ} {p : PathText} → IsServedPath prefix p → p.bytes ≢ star
served_no_star {p = p} served is = slash_no_star (path_bytes (names p) served.is_closed) (slashed (names p) served.is_closed) (sym served.bytes_are ∙ is)

names_stay : (wanted : Bool) (p : PathText) → p.bytes ≢ star → names (closed wanted p) ≡ names p
names_stay true p other = slash_adds_no_name p.bytes other
names_stay false p other = refl

some_node : (o : Option Node) → is_none o ≡ false → (n : Node) × (o ≡ Some n)
some_node (Some n) there = (n, refl)
some_node None there = absurd (true≢false there)

keeps_it : {x : Exchange} {p : PathText} {reply : Reply} {w v : World} (e : ElementTree) → p.bytes ≢ star → is_missing w (names p) ≡ false → (did : Patched x p reply w v) → Stores did e → Keeps v (names p) e
keeps_it {p = p} {reply} {w} {v} e other there did stored =
    let same = names_stay did.patched.dir p other in
    let (n, stands) = some_node (node_at w (names p)) there in
    subst (λ ns. Keeps v ns e) same (patched_is_kept p did.content reply e w v n did.patched (ap (node_at w) same ∙ stands) stored.0 stored.1)

module _ (s : Settings) (y : Exchange) (q : Request) (p : PathText) (other : p.bytes ≢ star) (e : ElementTree) (old new : StoreState) (ls ms : Locks) (keeps : Keeps old.world (names p) e)
    (depth : Depth) (read : IsDepth (get_all (headers_of q.fields) (codes "depth")) depth) (none : All (λ r. r ≡ None) old.refusals) (unset : new.short ≡ false) where
  told_by_it : {plan : MethodPlan Reply} (content : Body) (outcome : Result Reply DavError) → IsPropfind (headers_of q.fields) p content (caller y) plan
      → Ran Asks plan old ls outcome new ms → (reply_to outcome).status ≡ 207 → TellsFirst old.world p e (reply_to outcome)
  told_by_it {plan} content (Ok reply) is ran status = kept_is_told (headers_of q.fields) depth p content (caller y) plan e old new ls ms reply other read is keeps none unset ran status
  told_by_it content (Err fault) (is_propfind h are) ran status = other_than_207 fault (Err fault) refl (ran_ends (ends_propfind h (headers_of q.fields) content (caller y) p) ran) status

  told_as : {plan : MethodPlan Reply} (outcome : Result Reply DavError) → PlanFor s y q PropFind p plan → Ran Asks plan old ls outcome new ms → (reply_to outcome).status ≡ 207 → TellsFirst old.world p e (reply_to outcome)
  told_as outcome (of_method content good (finds_properties is)) ran status = told_by_it content outcome is ran status
  told_as outcome (of_error fault fails) ran status = other_than_207 fault outcome (ended ran) fails status

pub stored_comes_back : StoredComesBack
stored_comes_back s x y q p depth e old mid new ks ms first second did there stored is_for read none unset (steps plan outcome means ran) status =
    let named = named_by {m = PropFind} (λ c. cc) is_for.target in
    let other : p.bytes ≢ star = served_no_star named.served in
    told_as s y q p other e mid new ks ms (keeps_it e other there did stored) depth read none unset outcome (plan_for s y q PropFind p is_for means) ran status
