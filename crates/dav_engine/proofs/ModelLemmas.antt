-- From the fields of a value to the value that contracts see.
use Rattle.std.proofs.Common.{◌≡◌, List, Option, Result, subst}
use Rattle.std.specs.Option.{option_copied, option_map}
use denote.Ref.{Bor}
use Rattle.dav_core.specs.declared.errors.DavError.{DavError}
use Rattle.dav_core.specs.declared.errors.FsError.{FsError}
use Rattle.dav_core.specs.Asking.{StoreState, Asks, CreateDir}
use Rattle.dav_core.specs.Locks.{Lock}
use Rattle.dav_core.specs.Path.{Path}
use Rattle.dav_engine.specs.Caller.{Caller}
use Rattle.dav_engine.specs.ConditionView.{locks_in}
use Rattle.dav_engine.specs.Follows.{Follows, FollowsOnLocks}
use Rattle.dav_engine.specs.Method.{MethodPlan}
use Rattle.dav_engine.specs.Plan.{Locks}

-- a plan was followed, and so was that for an equal value
pub follows_for : {V A X : Type 0} {view : X → A} (plan : V → MethodPlan A) {one who : V} {old new : StoreState} {ls ms : Locks} {r : Result X DavError}
    → one ≡ who → Follows view (plan one) old ls r new ms → Follows view (plan who) old ls r new ms
follows_for {view = view} plan {old = old} {new} {ls} {ms} {r} same done = subst (λ w. Follows view (plan w) old ls r new ms) same done

-- a call was made at the moment of a client, and so at that of an equal one
pub made_for : {one who : Caller} {p : Path} {old new : StoreState} {answer : Result (Unit {0}) FsError}
    → one ≡ who → Asks (CreateDir p one.moment) old answer new → Asks (CreateDir p who.moment) old answer new
made_for {p = p} {old} {new} {answer} same asks = subst (λ w. Asks (CreateDir p w.moment) old answer new) same asks

-- what was followed on a store with borrowed locks was followed with the locks that were lent
pub follows_lent : {L X Y : Type 0} {view : Y → X} {plan : MethodPlan X} {s t : StoreState} {r : Result Y DavError} (locks : L → List Lock) (lent : Option (Bor L)) {held : Option L}
    → option_copied lent ≡ held → Follows view plan s (locks_in locks lent) r t (locks_in locks lent) → Follows view plan s (option_map locks held) r t (option_map locks held)
follows_lent {L = L} {view = view} {plan} {s} {t} {r} locks lent is done =
    subst (λ (l : Option L). Follows view plan s (option_map locks l) r t (option_map locks l)) is done

-- to an equal list of locks
pub follows_to : {X Y : Type 0} {view : Y → X} {plan : MethodPlan X} {s t : StoreState} {ls ms ks : Locks} {r : Result Y DavError} → ms ≡ ks → Follows view plan s ls r t ms → Follows view plan s ls r t ks
follows_to {view = view} {plan} {s} {t} {ls} {r = r} same done = subst (λ x. Follows view plan s ls r t x) same done

-- from an equal list of locks, where only the list is at hand
pub sets_for : {X Y : Type 0} {view : Y → X} {plan : MethodPlan X} {ls ks ms : Locks} {r : Result Y DavError} → ls ≡ ks → FollowsOnLocks view plan ls r ms → FollowsOnLocks view plan ks r ms
sets_for {view = view} {plan} {ms = ms} {r} same done = subst (λ x. FollowsOnLocks view plan x r ms) same done
