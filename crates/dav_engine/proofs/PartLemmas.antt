-- How code whose only error is out of memory carries out a part of a plan, by cases on what it returns.
use Rattle.std.proofs.Common.{inl, Result, Ok, Err, refl}
use Rattle.std.specs.Prelude.{IfOk}
use Rattle.dav_core.specs.declared.errors.DavError.{DavError}
use Rattle.dav_core.specs.Asking.{StoreState, Asks}
use Rattle.dav_engine.specs.Follows.{Follows, followed, gave_up, or_memory}
use Rattle.dav_engine.specs.Method.{MethodPlan}
use Rattle.dav_engine.specs.Plan.{Plan, Done, CallStep, Locks, Ran, ran_done, ran_ask, ran_look, ran_keep, RanUpTo, up_to_here, up_to_ask, up_to_look, up_to_keep, Cut}

-- the part gave this; memory ran out in it
abbrev pub Gave : {A : Type 0} → Locks → MethodPlan A → StoreState → A → StoreState → Type 0
Gave locks plan old value new = Ran Asks plan old locks (Ok value) new locks

abbrev pub Stopped : {A : Type 0} → Locks → MethodPlan A → StoreState → StoreState → Type 0
Stopped locks plan old new = Cut Asks locks plan old locks new locks

-- the same whatever the list of locks is
abbrev pub GaveAny : {A : Type 0} → MethodPlan A → StoreState → A → StoreState → Type 0
GaveAny plan old value new = (ls : Locks) → Gave ls plan old value new

abbrev pub StoppedAny : {A : Type 0} → MethodPlan A → StoreState → StoreState → Type 0
StoppedAny plan old new = (ls : Locks) → Stopped ls plan old new

up_to_end : {step : CallStep} {A : Type 0} {plan : Plan A} {old new : StoreState} {ls ms : Locks} {a : A} → Ran step plan old ls a new ms → RanUpTo step plan old ls (Done a) new ms
up_to_end ran_done = up_to_here
up_to_end (ran_ask one more) = up_to_ask one (up_to_end more)
up_to_end (ran_look more) = up_to_look (up_to_end more)
up_to_end (ran_keep more) = up_to_keep (up_to_end more)

-- memory ran out at the end of a plan
pub end_cut : {A : Type 0} {locks : Locks} {plan : MethodPlan A} {r : Result A DavError} {old new : StoreState} → Ran Asks plan old locks r new locks → Stopped locks plan old new
end_cut {locks = locks} {r = r} run = record { rest = Done r; locks = locks; ran = up_to_end run; list = inl refl }

-- what is returned was given; else memory ran out
pub gave : {A X : Type 0} {view : X → A} {plan : MethodPlan A} {old new : StoreState} {locks : Locks} {x : X} → Follows view plan old locks (Ok x) new locks → Gave locks plan old (view x) new
gave (followed run) = run
gave (gave_up is stop) = absurd (cc)

pub stopped : {A X : Type 0} {view : X → A} {plan : MethodPlan A} {old new : StoreState} {locks : Locks} {e : DavError} → Follows view plan old locks (Err e) new locks → Stopped locks plan old new
stopped (followed run) = end_cut run
stopped (gave_up is stop) = stop

pub gave_any : {A X : Type 0} {view : X → A} {plan : MethodPlan A} {old new : StoreState} {x : X} → ((ls : Locks) → Follows view plan old ls (Ok x) new ls) → GaveAny plan old (view x) new
gave_any one = λ ls. gave (one ls)

-- what is returned is what a last call returns, which makes no call of the store
pub gives_if : {A X E : Type 0} {P : X → Type 0} {locks : Locks} {view : X → A} {plan : MethodPlan A} {old new : StoreState} (r : Result X E) → IfOk r P
    → ((x : X) → P x → Gave locks plan old (view x) new) → Stopped locks plan old new → Follows view plan old locks (or_memory r) new locks
gives_if (Ok x) is whole short = followed (whole x is)
gives_if (Err e) is whole short = gave_up refl short

-- or which carries out a part
pub gives_by : {A B X E : Type 0} {locks : Locks} {view : X → A} {other : X → B} {plan : MethodPlan A} {part : MethodPlan B} {old mid new : StoreState} (r : Result X E)
    → Follows other part mid locks (or_memory r) new locks → ((x : X) → Gave locks part mid (other x) new → Gave locks plan old (view x) new)
    → (Stopped locks part mid new → Stopped locks plan old new) → Follows view plan old locks (or_memory r) new locks
gives_by (Ok x) one whole short = followed (whole x (gave one))
gives_by (Err e) one whole short = gave_up refl (short (stopped one))
