-- What was answered, of which a multistatus was handed on in parts.
use Rattle.std.proofs.Common.{◌≡◌, ◌≢◌, Option, None, Result, Ok, Err, refl, sym, subst}
use Rattle.dav_core.specs.declared.errors.DavError.{DavError}
use Rattle.dav_core.specs.declared.errors.DavError.TheVariants.{Memory}
use Rattle.dav_core.specs.Element.{ElementTree}
use Rattle.dav_engine.specs.Follows.{Serves}
use Rattle.dav_engine.specs.Method.{MethodPlan}
use Rattle.dav_engine.specs.Plan.{ServerState}
use Rattle.dav_engine.specs.Reply.{Reply, error_reply}
use Rattle.dav_engine.specs.Taking.{IsHandedOn, ServesHandingOn}
use Rattle.dav_server.specs.Machine.{Exchange, Means}
use Rattle.dav_server.specs.Server.{AnswersInParts, Server}
use Rattle.dav_server.proofs.StepLemmas.{served_err, served_ok}

module _ {T : Type 0} (opened taken : T → ElementTree → T) (to : T) where
  -- what is handed on of a part is handed on of the whole
  pub handing_by : {K J : MethodPlan Reply → Type 0} {old mid now new : ServerState} (result : Result (Reply × Option T) DavError)
      → ((whole : Result Reply DavError) → Serves K mid whole now → Serves J old whole new)
      → ServesHandingOn opened taken to K mid result now → ServesHandingOn opened taken to J old result new
  handing_by result serves (whole, one, handed) = (whole, serves whole one, handed)

  -- an error is told as it is
  pub handing_err : {K : MethodPlan Reply → Type 0} {old new : ServerState} (e : DavError) → Serves K old (Err e) new → ServesHandingOn opened taken to K old (Err e) new
  handing_err e serves = (Err e, serves, refl)

  pub handing_is : {K : MethodPlan Reply → Type 0} {old new : ServerState} {result : Result (Reply × Option T) DavError} (e : DavError) → result ≡ Err e → Serves K old (Err e) new
      → ServesHandingOn opened taken to K old result new
  handing_is {K} {old} {new} e is serves = subst (λ (r : Result (Reply × Option T) DavError). ServesHandingOn opened taken to K old r new) (sym is) (handing_err e serves)

  -- an error that was told is the outcome
  pub handed_err : {K : MethodPlan Reply → Type 0} {old new : ServerState} {e : DavError} → ServesHandingOn opened taken to K old (Err e) new → Serves K old (Err e) new
  handed_err (Ok whole, serves, handed) = absurd handed
  handed_err {K} {old} {new} (Err f, serves, is) = subst (λ (x : DavError). Serves K old (Err x) new) (sym is) serves

  -- a reply that was told is one in parts
  pub in_parts : {old new : Server} {x : Exchange} {told : Reply × Option T} → ServesHandingOn opened taken to (Means old.settings x) old.state (Ok told) new.state
      → AnswersInParts opened taken to old x told.0 told.1 new
  in_parts (Ok whole, serves, handed) = record { whole = whole; answers = served_ok serves; handed = handed }
  in_parts (Err e, serves, handed) = absurd handed

  -- a reply to an error, of which nothing was handed on, is whole
  none_handed : (r : Reply) (after : Option T) → after ≡ None → IsHandedOn opened taken to r r after
  none_handed r after is = subst (λ (a : Option T). IsHandedOn opened taken to r r a) (sym is) refl

  pub refused_parts : {old new : Server} {x : Exchange} {e : DavError} (told : Reply × Option T) → Serves (Means old.settings x) old.state (Err e) new.state
      → (told.0 ≡ error_reply e) × (e ≢ Memory) × (told.1 ≡ None) → AnswersInParts opened taken to old x told.0 told.1 new
  refused_parts told serves (is, other, none) = record {
    whole = told.0;
    answers = served_err serves is other;
    handed = none_handed told.0 told.1 none;
  }
