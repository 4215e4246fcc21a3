-- Runs of plans in parts.
use Rattle.std.proofs.Common.{◌≡◌, Result, Ok, Err, refl}
use Rattle.dav_core.specs.declared.errors.FsError.{FsError}
use Rattle.dav_core.specs.declared.errors.DavError.{DavError}
use Rattle.dav_core.specs.Asking.{Call, Answer, StoreState, Asks}
use Rattle.dav_engine.specs.Method.{MethodPlan, then, ◌>>=◌, gives}
use Rattle.dav_engine.specs.Plan.{Plan, Ask, Done, Locks, Ran, ran_done, ran_ask, ran_look}
use Rattle.dav_engine.proofs.WorldPlans.{ran_split, Only, only_done, only_ask, only_look}

-- a run that begins with a call: its answer, and the rest
pub record First {A : Type 0} (c : Call) (go : Result (Answer c) FsError → Plan A) (old : StoreState) (ls : Locks) (a : A) (new : StoreState) (ms : Locks) : Type 0 where
  pub answer : Result (Answer c) FsError
  pub mid : StoreState
  pub one : Asks c old answer mid
  pub more : Ran Asks (go answer) mid ls a new ms

pub first : {A : Type 0} {c : Call} {go : Result (Answer c) FsError → Plan A} {old new : StoreState} {ls ms : Locks} {a : A} → Ran Asks (Ask c go) old ls a new ms → First c go old ls a new ms
first (ran_ask {mid = mid} {answer = answer} one more) = record { answer = answer; mid = mid; one = one; more = more }

-- a plan that is done
pub finish : {A : Type 0} {a b : A} {old new : StoreState} {ls ms : Locks} → Ran Asks (Done a) old ls b new ms → (b ≡ a) × (new ≡ old) × (ms ≡ ls)
finish ran_done = (refl, refl, refl)

pub gave : {X : Type 0} {x y : X} {old new : StoreState} {ls ms : Locks} → Ran Asks (gives x) old ls (Ok y) new ms → (y ≡ x) × (new ≡ old)
gave {x = x} {y = y} ran = let ends = finish ran in let is = ends.0 in let same : y ≡ x = cc in (same, ends.1)

-- one part after another, to a good end: the first came to a good end, and then the rest
pub record Parts {A B : Type 0} (plan : MethodPlan A) (f : A → MethodPlan B) (old : StoreState) (ls : Locks) (b : B) (new : StoreState) (ms : Locks) : Type 0 where
  pub value : A
  pub mid : StoreState
  pub ks : Locks
  pub one : Ran Asks plan old ls (Ok value) mid ks
  pub more : Ran Asks (f value) mid ks (Ok b) new ms

parts_by : {A B : Type 0} (plan : MethodPlan A) (f : A → MethodPlan B) {old mid new : StoreState} {ls ks ms : Locks} {b : B} (r : Result A DavError)
    → Ran Asks plan old ls r mid ks → Ran Asks (then r f) mid ks (Ok b) new ms → Parts plan f old ls b new ms
parts_by plan f {mid = mid} {ks = ks} (Ok a) one more = record { value = a; mid = mid; ks = ks; one = one; more = more }
parts_by plan f (Err e) one more = let ends = finish more in let is = ends.0 in cc

pub parts : {A B : Type 0} (plan : MethodPlan A) (f : A → MethodPlan B) {old new : StoreState} {ls ms : Locks} {b : B} → Ran Asks (plan >>= f) old ls (Ok b) new ms → Parts plan f old ls b new ms
parts plan f ran = let s = ran_split plan f ran in parts_by plan f s.outcome s.first s.rest

-- a plan that changes no locks leaves their list
pub only_list : {P : Call → Type 0} {A : Type 0} {plan : Plan A} {old new : StoreState} {ls ms : Locks} {a : A} → Only P plan → Ran Asks plan old ls a new ms → ms ≡ ls
only_list only_done ran_done = refl
only_list (only_ask is rest) (ran_ask {answer = answer} one more) = only_list (rest answer) more
only_list (only_look rest) (ran_look {ls = ls} more) = only_list (rest ls) more
