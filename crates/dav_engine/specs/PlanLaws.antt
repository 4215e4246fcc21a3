-- Laws of plans: what holds of every method, whatever its plan is.
use Rattle.std.specs.Prelude.{◌≡◌, ◌⊎◌, false, List, [], Option, Result}
use Rattle.dav_core.specs.declared.errors.FsError.{FsError}
use Rattle.dav_core.specs.declared.errors.DavError.{DavError}
use Rattle.dav_core.specs.Asking.{StoreState, Asks}
use Rattle.dav_core.specs.World.{World}
use Rattle.dav_engine.specs.Plan.{Locks, Ran, Cut}
use Rattle.dav_engine.specs.Method.{MethodPlan}
use Rattle.dav_engine.specs.RefusedCalls.{CallKind, AsksAnswered, RanRefused}
use Rattle.dav_engine.specs.Reply.{Reply}

-- a store that holds this world, will refuse these calls, and never ran out of memory
abbrev pub ample : World → List (Option FsError) → StoreState
ample w refusals = record { world = w; refusals = refusals; short = false }

-- Where the store never ran out of memory, the outcome of a plan is determined, and so are the store and the list of locks
-- that it leaves.
abbrev pub PlansAreDetermined : Type 0
PlansAreDetermined =
    (plan : MethodPlan Reply) (old s t : StoreState) (ls ks ms : Locks) (a b : Result Reply DavError)
    → Ran Asks plan old ls a s ks → s.short ≡ false → Ran Asks plan old ls b t ms → t.short ≡ false
    → (a ≡ b) × (s ≡ t) × (ks ≡ ms)

-- Every plan ends with some outcome, from any store and any list of locks, and can do so without the store running out of
-- memory.
abbrev pub PlansEnd : Type 0
PlansEnd =
    (plan : MethodPlan Reply) (old : StoreState) (ls : Locks)
    → (a : Result Reply DavError) × (new : StoreState) × (ms : Locks) × Ran Asks plan old ls a new ms × (new.short ≡ old.short)

-- A store that runs out of memory is like one that refuses calls: under some list of refusals, the plan has the same
-- outcome and leaves the same world and list of locks in a store with memory enough.
abbrev pub OutOfMemoryIsARefusal : Type 0
OutOfMemoryIsARefusal =
    (plan : MethodPlan Reply) (old new : StoreState) (ls ms : Locks) (a : Result Reply DavError)
    → Ran Asks plan old ls a new ms
    → (refusals : List (Option FsError)) × Ran Asks plan (ample old.world refusals) ls a (ample new.world []) ms

-- A plan in which memory runs out leaves the store as it does under some list of refusals with memory enough; the list of
-- locks is as they leave it, or as it was before the request.
abbrev pub CutsAreLikeRefusals : Type 0
CutsAreLikeRefusals =
    (plan : MethodPlan Reply) (old new : StoreState) (first ls ms : Locks)
    → Cut Asks first plan old ls new ms
    → (refusals : List (Option FsError)) × (a : Result Reply DavError) × (ks : Locks)
    × Ran Asks plan (ample old.world refusals) ls a (ample new.world []) ks × ((ms ≡ first) ⊎ (ms ≡ ks))

-- Of the calls of a kind that a plan makes none is refused, or one is.
abbrev pub CallsAreAnsweredOrRefused : Type 0
CallsAreAnsweredOrRefused =
    (kind : CallKind) (plan : MethodPlan Reply) (old new : StoreState) (ls ms : Locks) (a : Result Reply DavError)
    → Ran Asks plan old ls a new ms → Ran (AsksAnswered kind) plan old ls a new ms ⊎ RanRefused kind plan old ls a new ms

-- A run in which a call is refused is a run; and where the store never ran out of memory, the plan has no other run with the same outcome
-- in which no call of the kind is refused.
abbrev pub RefusedIsNotAnswered : Type 0
RefusedIsNotAnswered =
    (kind : CallKind) (plan : MethodPlan Reply) (old new : StoreState) (ls ms : Locks) (a : Result Reply DavError)
    → RanRefused kind plan old ls a new ms
    → Ran Asks plan old ls a new ms × (new.short ≡ false → ¬ Ran (AsksAnswered kind) plan old ls a new ms)
