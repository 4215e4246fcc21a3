-- Walks that memory cuts short, step by step.
use Rattle.std.proofs.Common.{◌≡◌, List, [], ◌∷◌, ◌++◌, map, Result, Ok, Err, inl, refl, sym, ap, ◌∙◌, append_assoc}
use Rattle.std.specs.Prelude.{IsErrAnd}
use Rattle.std.proofs.lemmas.List.{append-nil, map-append}
use Rattle.dav_core.specs.declared.errors.FsError.{FsError}
use Rattle.dav_core.specs.Asking.{Call, Answer, StoreState, Asks}
use Rattle.dav_engine.specs.Method.{MethodPlan, ◌>>=◌, gives}
use Rattle.dav_engine.specs.Multistatus.{PathStatus}
use Rattle.dav_engine.specs.Plan.{Done, Ask, Look, Keep, Locks, Ran, ran_ask, up_to_here, up_to_ask}
use Rattle.dav_engine.specs.Walked.{walked, Walks, AlwaysGives, gives_such, or_fails, after_call, after_look, after_keep, BeginWith, CutShort, StoppedIn}
use Rattle.dav_engine.proofs.CutPlans.{up_to_in, up_to_bind}

-- ---- what plans give

always_any : {A : Type 0} {P : A → Type 0} → ((a : A) → P a) → (plan : MethodPlan A) → AlwaysGives P plan
always_any every (Done (Ok a)) = gives_such (every a)
always_any every (Done (Err e)) = or_fails
always_any every (Ask c go) = after_call (λ answer. always_any every (go answer))
always_any every (Look go) = after_look (λ ls. always_any every (go ls))
always_any every (Keep locks rest) = after_keep (always_any every rest)

pub always_bind : {A B : Type 0} {P : A → Type 0} {Q : B → Type 0} {plan : MethodPlan A} (f : A → MethodPlan B) → AlwaysGives P plan → ((a : A) → P a → AlwaysGives Q (f a)) → AlwaysGives Q (plan >>= f)
always_bind f (gives_such {a} p) more = more a p
always_bind f or_fails more = or_fails
always_bind f (after_call next) more = after_call (λ answer. always_bind f (next answer) more)
always_bind f (after_look next) more = after_look (λ ls. always_bind f (next ls) more)
always_bind f (after_keep rest) more = after_keep (always_bind f rest more)

module _ {F : Type 0} (report : F → PathStatus) where
  -- any faults begin with no report
  pub begins_anyway : (plan : MethodPlan (List F)) → AlwaysGives (BeginWith report []) plan
  begins_anyway plan = always_any (λ faults. (map report faults, refl)) plan

  begins_more : (reports : List PathStatus) (fs gs : List F) → BeginWith report reports fs → BeginWith report reports (fs ++ gs)
  begins_more reports fs gs (later, is) = (later ++ map report gs, map-append report fs gs ∙ ap (λ l. l ++ map report gs) is ∙ append_assoc reports later (map report gs))

  begins_behind : (reports : List PathStatus) (fs gs : List F) → BeginWith report reports gs → BeginWith report (map report fs ++ reports) (fs ++ gs)
  begins_behind reports fs gs (later, is) = (later, map-append report fs gs ∙ ap (λ l. map report fs ++ l) is ∙ sym (append_assoc (map report fs) reports later))

  -- without faults there is no report
  pub nothing_begins : (reports : List PathStatus) → BeginWith report reports [] → reports ≡ []
  nothing_begins [] begins = refl
  nothing_begins (r ∷ rs) (later, is) = cc

-- ---- walks

module _ {F : Type 0} {report : F → PathStatus} where
  -- memory ran out before the first call
  pub cut_at_once : {plan : MethodPlan (List F)} {s : StoreState} {before after : List PathStatus} → after ≡ before → CutShort report plan s before after s
  cut_at_once {plan} {before = before} same = record { rest = plan; ran = λ ls. up_to_here; reports = []; reported = same ∙ sym (append-nil before); first_faults = begins_anyway report plan }

  -- behind a call
  pub cut_later : {c : Call} {go : Result (Answer c) FsError → MethodPlan (List F)} {answer : Result (Answer c) FsError} {old mid new : StoreState} {before after : List PathStatus}
      → Asks c old answer mid → CutShort report (go answer) mid before after new → CutShort report (Ask c go) old before after new
  cut_later one stop = record { rest = stop.rest; ran = λ ls. up_to_ask one (stop.ran ls); reports = stop.reports; reported = stop.reported; first_faults = stop.first_faults }

  pub cut_behind : {c : Call} {go : Result (Answer c) FsError → MethodPlan (List F)} {answer : Result (Answer c) FsError} {old new : StoreState} {before after : List PathStatus}
      → Asks c old answer new → after ≡ before → CutShort report (Ask c go) old before after new
  cut_behind one same = cut_later one (cut_at_once same)

  -- in a part, whose reports what follows keeps
  pub cut_inside : {plan : MethodPlan (List F)} (f : List F → MethodPlan (List F)) {old new : StoreState} {before after : List PathStatus}
      → CutShort report plan old before after new → ((reports : List PathStatus) (faults : List F) → BeginWith report reports faults → AlwaysGives (BeginWith report reports) (f faults)) → CutShort report (plan >>= f) old before after new
  cut_inside f stop keeps =
      record { rest = stop.rest >>= f; ran = λ ls. up_to_in f (stop.ran ls); reports = stop.reports; reported = stop.reported; first_faults = always_bind f stop.first_faults (keeps stop.reports) }

  -- behind a part that reported nothing
  pub cut_clean : {plan : MethodPlan (List F)} (f : List F → MethodPlan (List F)) {old mid new : StoreState} {before after : List PathStatus} (faults : List F)
      → ((ls : Locks) → Ran Asks plan old ls (Ok faults) mid ls) → CutShort report (f faults) mid before after new → CutShort report (plan >>= f) old before after new
  cut_clean f faults run stop = record { rest = stop.rest; ran = λ ls. up_to_bind f (run ls) (stop.ran ls); reports = stop.reports; reported = stop.reported; first_faults = stop.first_faults }

  -- in the first of two parts, whose reports are joined
  pub cut_in_first : {plan : MethodPlan (List F)} (others : MethodPlan (List F)) {old new : StoreState} {before after : List PathStatus}
      → CutShort report plan old before after new → CutShort report (plan >>= (λ faults. others >>= (λ more. gives (faults ++ more)))) old before after new
  cut_in_first others stop =
      cut_inside (λ faults. others >>= (λ more. gives (faults ++ more))) stop
      (λ reports faults begins. always_bind (λ more. gives (faults ++ more)) (begins_anyway report others) (λ more _. gives_such (begins_more report reports faults more begins)))

  -- or in the second
  pub cut_in_second : {plan others : MethodPlan (List F)} {old mid new : StoreState} {before among after : List PathStatus} (faults : List F)
      → ((ls : Locks) → Ran Asks plan old ls (Ok faults) mid ls) → among ≡ before ++ map report faults → CutShort report others mid among after new
      → CutShort report (plan >>= (λ reports. others >>= (λ more. gives (reports ++ more)))) old before after new
  cut_in_second {before = before} faults run is stop = record {
    rest = stop.rest >>= (λ more. gives (faults ++ more));
    ran = λ ls. up_to_bind _ (run ls) (up_to_in (λ more. gives (faults ++ more)) (stop.ran ls));
    reports = map report faults ++ stop.reports;
    reported = stop.reported ∙ ap (λ l. l ++ stop.reports) is ∙ append_assoc before (map report faults) stop.reports;
    first_faults = always_bind (λ more. gives (faults ++ more)) stop.first_faults (λ more begins. gives_such (begins_behind report stop.reports faults more begins));
  }

  -- a walk that is cut short leaves the list of locks
  pub cut_stops : {plan : MethodPlan (List F)} {old new : StoreState} {before after : List PathStatus} → CutShort report plan old before after new → StoppedIn plan old new
  cut_stops stop = λ ls. record { rest = stop.rest; locks = ls; ran = stop.ran ls; list = inl refl }

-- ---- both outcomes

module _ {F X E : Type 0} (report : F → PathStatus) (outcome : List F → X) where
  -- behind a call
  pub walks_later : {c : Call} (go : Result (Answer c) FsError → MethodPlan (List F)) (r : Result X E) (new : StoreState) (before after : List PathStatus) {answer : Result (Answer c) FsError} {old mid : StoreState}
      → Asks c old answer mid → Walks report outcome (go answer) mid before after r new → Walks report outcome (Ask c go) old before after r new
  walks_later go (Ok value) new before after one (walked faults run is what) = walked faults (λ ls. ran_ask one (run ls)) is what
  walks_later go (Err e) new before after one stop = cut_later one stop

  -- the exit of a `?`
  pub cut_out : (Q : E → Type 0) {plan : MethodPlan (List F)} {old new : StoreState} {before after : List PathStatus} (r : Result X E)
      → IsErrAnd r Q → CutShort report plan old before after new → Walks report outcome plan old before after r new
  cut_out Q (Ok value) out stop = absurd out
  cut_out Q (Err e) out stop = stop
