-- What a PROPFIND tells of, from the bytes of its head on.
use Rattle.std.proofs.Common.{◌≡◌, ℕ, List, codes, Option, Result, Ok, Err, ◌⊎◌, inl, inr, refl, sym, ap, subst, ◌∙◌, arith}
use Rattle.http_header.specs.HeaderMap.{get_all}
use Rattle.dav_core.specs.declared.errors.DavError.{DavError}
use Rattle.dav_core.specs.declared.errors.DavError.TheVariants as dav
use Rattle.dav_core.specs.declared.method.DavMethod.{DavMethod}
use Rattle.dav_core.specs.declared.method.DavMethod.TheVariants.{PropFind}
use Rattle.dav_core.specs.Asking.{StoreState}
use Rattle.dav_core.specs.Element.{ElementTree}
use Rattle.dav_core.specs.Path.{PathText}
use Rattle.dav_core.specs.Status.{dav_status}
use Rattle.dav_core.specs.World.{World, IsWorld}
use Rattle.dav_headers.specs.Depth.{IsDepth}
use Rattle.dav_headers.specs.declared.depth.Depth.{Depth}
use Rattle.dav_engine.specs.declared.request.Body.{Body}
use Rattle.dav_engine.specs.Headers.{Decodes}
use Rattle.dav_engine.specs.Method.{MethodPlan, fails}
use Rattle.dav_engine.specs.Plan.{Locks, Ran, ran_done}
use Rattle.dav_engine.specs.Propfind.{IsPropfind, is_propfind}
use Rattle.dav_engine.specs.PropfindLaws.{IsResponseFor, AreResponsesFor, none_told, one_told, ListAll, AsksListing, HasFewNames, path_in, responses_in}
use Rattle.dav_engine.specs.RefusedCalls.{lists_what_is_there}
use Rattle.dav_engine.specs.Reply.{Reply, reply_to}
use Rattle.dav_engine.proofs.Theorems.{listings_are_whole as plans_list_all, unrefused_runs_list, answered_or_refused, not_both, refused_is_run}
use Rattle.dav_server.specs.Head.{Request}
use Rattle.dav_server.specs.Headers.{headers_of}
use Rattle.dav_server.specs.Holder.{IsRequestTo}
use Rattle.dav_server.specs.HrefLaws.{TellsOf, TellOf, none_told as none_told_of, one_told as one_told_of, TellAll, ListingsAreWhole, UnrefusedStepsList}
use Rattle.dav_server.specs.Machine.{Settings, Exchange, caller, taken_by, PlanOf, finds_properties, MeansOf, not_allowed, no_path, no_body, method, Means, no_head, no_method, known, Steps, steps, StepRefused, step_refused}
use Rattle.dav_server.specs.Method.{GivesServed}
use Rattle.dav_server.specs.Setup.{IsPrefix}
use Rattle.dav_server.specs.Target.{path}
use Rattle.dav_server.proofs.FindStatuses.{ends_propfind}
use Rattle.dav_server.proofs.HeadLemmas.{one_head}
use Rattle.dav_server.proofs.HrefReplies.{named_by, server_prefix, begins}
use Rattle.dav_server.proofs.MeansWorld.{one_method}
use Rattle.dav_server.proofs.NotModified.{body_status, no_error, one_value}
use Rattle.dav_server.proofs.PlanStatuses.{Outcome, Any, IsFailure, AnswersOther, ran_ends}
use Rattle.dav_server.proofs.TargetLemmas.{one_outcome}

-- ---- responses

-- a response of a path tells of it
tells_of : (prefix : List ℕ) (p : PathText) (response : ElementTree) → IsResponseFor prefix p response → TellsOf prefix p response
tells_of prefix p response is = record {
  text = is.text;
  hrefs = is.hrefs;
  leads = λ n. let (other, (bytes, reads, cut)) = is.leads in path (inl (begins is.text bytes other reads, refl)) reads cut;
}

tell_of : (prefix : List ℕ) {ps : List PathText} {responses : List ElementTree} → AreResponsesFor prefix ps responses → TellOf prefix ps responses
tell_of prefix none_told = none_told_of
tell_of prefix (one_told {p} {response = response} is more) = one_told_of (tells_of prefix p response is) (tell_of prefix more)

tell_all : (prefix : List ℕ) (w : World) (p : PathText) (depth : Option Depth) (responses : List ElementTree) → ListAll prefix w p depth responses → TellAll prefix w p depth responses
tell_all prefix w p depth responses (ps, listed, are) = (ps, listed, tell_of prefix are)

-- ---- a request

-- the outcome of a plan that is done
ended : {e : DavError} {outcome : Result Reply DavError} {old new : StoreState} {ls ms : Locks} → Ran AsksListing (fails e) old ls outcome new ms → outcome ≡ Err e
ended ran_done = refl

weaker : (outcome : Result Reply DavError) → Outcome IsFailure AnswersOther outcome → Outcome IsFailure Any outcome
weaker (Ok reply) is = tt
weaker (Err e) is = is

module _ (s : Settings) (x : Exchange) (r : Request) (p : PathText) (fits : IsPrefix s.prefix) (is_for : IsRequestTo s x r PropFind p) (old : StoreState) (world : IsWorld old.world)
    (depth : Option Depth) (read : Decodes IsDepth (get_all (headers_of r.fields) (codes "depth")) depth) (few : HasFewNames depth old.world p) where
  abbrev Told : Reply → Type 0
  Told reply = TellAll s.prefix old.world (path_in old.world p) depth (responses_in reply.body)

  -- an error is answered with another status
  failed : {e : DavError} {outcome : Result Reply DavError} → outcome ≡ Err e → IsFailure e → (reply_to outcome).status ≡ 207 → Told (reply_to outcome)
  failed {e} is fails status =
      let other : dav_status e ≡ 207 = ap (λ (o : Result Reply DavError). (reply_to o).status) (sym is) ∙ status in
      absurd (omega (arith, fails, other))

  answered : {body : Body} {plan : MethodPlan Reply} {new : StoreState} {ls ms : Locks} (outcome : Result Reply DavError) → IsPropfind (headers_of r.fields) p body (caller x) plan
      → Outcome IsFailure Any outcome → Ran AsksListing plan old ls outcome new ms → (reply_to outcome).status ≡ 207 → Told (reply_to outcome)
  answered (Err e) is fails ran status = failed {outcome = Err e} refl fails status
  answered {body} {plan} {new} {ls} {ms} (Ok reply) is fails ran status =
      let named = named_by {m = PropFind} (λ e. cc) is_for.target in
      tell_all s.prefix old.world (path_in old.world p) depth (responses_in reply.body)
      (plans_list_all s.prefix named.text (headers_of r.fields) depth p body (caller x) plan old new ls ms reply (server_prefix s.prefix fits) named.target world read few is ran status)

  outcome_of : {body : Body} {plan : MethodPlan Reply} {new : StoreState} {ls ms : Locks} (outcome : Result Reply DavError)
      → IsPropfind (headers_of r.fields) p body (caller x) plan → Ran AsksListing plan old ls outcome new ms → Outcome IsFailure Any outcome
  outcome_of {body} outcome (is_propfind h are) ran = weaker outcome (ran_ends (ends_propfind h (headers_of r.fields) body (caller x) p) ran)

  planned : {body : Body} {plan : MethodPlan Reply} {new : StoreState} {ls ms : Locks} (outcome : Result Reply DavError)
      → PlanOf s.allowed (headers_of r.fields) p body (caller x) PropFind plan → Ran AsksListing plan old ls outcome new ms → (reply_to outcome).status ≡ 207 → Told (reply_to outcome)
  planned outcome (finds_properties is) ran status = answered outcome is (outcome_of outcome is ran) ran status

  of_told : {plan : MethodPlan Reply} {new : StoreState} {ls ms : Locks} (outcome : Result Reply DavError)
      → MeansOf s x r PropFind plan → Ran AsksListing plan old ls outcome new ms → (reply_to outcome).status ≡ 207 → Told (reply_to outcome)
  of_told outcome (not_allowed out) ran status = failed {e = dav.StatusClose 405} {outcome = outcome} (ended ran) (omega arith) status
  of_told outcome (no_path e has none) ran status = no_error (one_outcome s.prefix PropFind r.target _ _ is_for.target none)
  of_told outcome (no_body q e has named bad) ran status =
      failed {e = e} {outcome = outcome} (ended ran) (subst (Outcome IsFailure Any) bad (body_status (taken_by PropFind) x.body)) status
  of_told outcome (method q body {plan} has named good is) ran status =
      let same : q ≡ p = one_value (one_outcome s.prefix PropFind r.target _ _ named is_for.target) in
      planned outcome (subst (λ (t : PathText). PlanOf s.allowed (headers_of r.fields) t body (caller x) PropFind plan) same is) ran status

  told : {plan : MethodPlan Reply} {new : StoreState} {ls ms : Locks} (outcome : Result Reply DavError)
      → Means s x plan → Ran AsksListing plan old ls outcome new ms → (reply_to outcome).status ≡ 207 → Told (reply_to outcome)
  told outcome (no_head out) ran status = absurd (out r is_for.head)
  told outcome (no_method q e head gives) ran status = failed {e = e} {outcome = outcome} (ended ran) (subst IsFailure (sym gives.0) (omega arith)) status
  told {plan} outcome (known q m head gives means) ran status =
      let request : q ≡ r = one_head x.head q r head is_for.head in
      let same : m ≡ PropFind = one_method r.method m PropFind (subst (λ (h : Request). GivesServed h.method (Ok m)) request gives) is_for.method in
      of_told outcome (subst (λ (k : DavMethod). MeansOf s x r k plan) same (subst (λ (h : Request). MeansOf s x h m plan) request means)) ran status

pub listings_are_whole : ListingsAreWhole
listings_are_whole s x r p depth old new ls ms reply fits world is_for read few (steps plan outcome means ran) status =
    told s x r p fits is_for old world depth read few outcome means ran status

pub unrefused_steps_list : UnrefusedStepsList
unrefused_steps_list s x old new ls ms reply none unset (step_refused plan outcome means refused) =
    not_both lists_what_is_there refused unset (unrefused_runs_list plan old new ls ms outcome none unset (refused_is_run lists_what_is_there refused)) unset

pub reply_is_whole : (s : Settings) (x : Exchange) (old new : StoreState) (ls ms : Locks) (reply : Reply) → Steps s x old ls reply new ms
    → (r : Request) (p : PathText) (depth : Option Depth) → IsPrefix s.prefix → IsWorld old.world → IsRequestTo s x r PropFind p
    → Decodes IsDepth (get_all (headers_of r.fields) (codes "depth")) depth → HasFewNames depth old.world p → reply.status ≡ 207
    → TellAll s.prefix old.world (path_in old.world p) depth (responses_in reply.body) ⊎ StepRefused lists_what_is_there s x old ls reply new ms
reply_is_whole s x old new ls ms reply (steps plan outcome means ran) r p depth fits world is_for read few status =
    elim (answered_or_refused lists_what_is_there ran) [
      | inl listing ↦ inl (told s x r p fits is_for old world depth read few outcome means listing status)
      | inr refused ↦ inr (step_refused plan outcome means refused)
    ]
