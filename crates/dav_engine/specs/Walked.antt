-- What contracts say of code that carries out a walk, and adds what it reports to a collector.
use Rattle.std.specs.Prelude.{◌≡◌, ◌++◌, Bool, true, false, List, map, Result, Ok, Err}
use Rattle.std.specs.declared.alloc.AllocError.{AllocError}
use Rattle.dav_core.specs.declared.errors.FsError.{FsError}
use Rattle.dav_core.specs.declared.errors.DavError.{DavError}
use Rattle.dav_core.specs.declared.errors.DavError.TheVariants as dav
use Rattle.dav_core.specs.Asking.{Call, Answer, StoreState, Asks}
use Rattle.dav_core.specs.Lists.{is_empty}
use Rattle.dav_core.specs.Locks.{Lock}
use Rattle.dav_headers.specs.declared.depth.Depth.{Depth}
use Rattle.dav_headers.specs.declared.depth.Depth.TheVariants.{Zero}
use Rattle.dav_engine.specs.Method.{MethodPlan}
use Rattle.dav_engine.specs.Multistatus.{PathStatus, last_error}
use Rattle.dav_engine.specs.Plan.{Done, Ask, Look, Keep, Locks, Ran, RanUpTo, Cut}
use Rattle.dav_engine.specs.Removal.{Fault, report_of}

-- A walk was carried out, whatever the list of locks is: its faults were reported after what was reported before, and `value`
-- is what they result in.
pub data Walked {F X : Type 0} (report : F → PathStatus) (outcome : List F → X) (plan : MethodPlan (List F)) (old : StoreState) (before after : List PathStatus) (value : X) (new : StoreState) : Type 0 where
  walked : (faults : List F) → ((ls : Locks) → Ran Asks plan old ls (Ok faults) new ls)
      → after ≡ before ++ map report faults → value ≡ outcome faults → Walked report outcome plan old before after value new

-- Memory ran out in a part of a plan, which leaves the list of locks.
abbrev pub StoppedIn : {A : Type 0} → MethodPlan A → StoreState → StoreState → Type 0
StoppedIn plan old new = (ls : Locks) → Cut Asks ls plan old ls new ls

-- Whatever its calls are answered, the plan gives a value of which P holds, or fails.
pub data AlwaysGives {A : Type 0} (P : A → Type 0) : MethodPlan A → Type 0 where
  gives_such : {a : A} → P a → AlwaysGives P (Done (Ok a))
  or_fails : {e : DavError} → AlwaysGives P (Done (Err e))
  after_call : {c : Call} {go : Result (Answer c) FsError → MethodPlan A} → ((answer : Result (Answer c) FsError) → AlwaysGives P (go answer)) → AlwaysGives P (Ask c go)
  after_look : {go : Locks → MethodPlan A} → ((ls : Locks) → AlwaysGives P (go ls)) → AlwaysGives P (Look go)
  after_keep : {locks : List Lock} {rest : MethodPlan A} → AlwaysGives P rest → AlwaysGives P (Keep locks rest)

-- the faults, as they are reported, begin with these reports
abbrev pub BeginWith : {F : Type 0} → (F → PathStatus) → List PathStatus → List F → Type 0
BeginWith report reports faults = (later : List PathStatus) × (map report faults ≡ reports ++ later)

-- Memory ran out in a walk: its first calls were made, each whole, and `rest` is left. What was reported before stays reported, and what
-- was reported after it are the first faults of the walk, whatever the calls of the rest would be answered.
pub record CutShort {F : Type 0} (report : F → PathStatus) (plan : MethodPlan (List F)) (old : StoreState) (before after : List PathStatus) (new : StoreState) : Type 0 where
  pub rest : MethodPlan (List F)
  pub ran : (ls : Locks) → RanUpTo Asks plan old ls rest new ls
  pub reports : List PathStatus
  pub reported : after ≡ before ++ reports
  pub first_faults : AlwaysGives (BeginWith report reports) rest

-- What code that carries out a walk returns: what its faults result in; or memory ran out in the walk.
abbrev pub Walks : {F X E : Type 0} → (F → PathStatus) → (List F → X) → MethodPlan (List F) → StoreState → List PathStatus → List PathStatus → Result X E → StoreState → Type 0
Walks report outcome plan old before after (Ok value) new = Walked report outcome plan old before after value new
Walks report outcome plan old before after (Err e) new = CutShort report plan old before after new

-- What a removal returns as a method: nothing where nothing stays; else the status that was reported last; or that memory ran out.
abbrev pub removal_result : {E : Type 0} → List PathStatus → Result Bool E → Result (Unit {0}) DavError
removal_result reported (Ok true) = Ok tt
removal_result reported (Ok false) = Err (last_error reported)
removal_result reported (Err e) = Err dav.Memory

-- A removal was carried out, or memory ran out in it, and the result is `removal_result` of that.
pub record Removes (plan : MethodPlan (List Fault)) (old : StoreState) (before after : List PathStatus) (result : Result (Unit {0}) DavError) (new : StoreState) : Type 0 where
  pub clean : Result Bool AllocError
  pub walks : Walks report_of is_empty plan old before after clean new
  pub result_is : result ≡ removal_result after clean

-- whether a walk goes below a folder: at any depth but 0 (RFC 4918, section 10.2)
abbrev pub goes_below : Depth → Bool
goes_below Zero = false
goes_below depth = true
