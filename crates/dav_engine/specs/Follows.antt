-- What contracts say about code that carries out a plan.
use Rattle.std.specs.Prelude.{◌≡◌, Result, Ok, Err}
use Rattle.dav_core.specs.declared.errors.DavError.{DavError}
use Rattle.dav_core.specs.declared.errors.DavError.TheVariants as dav
use Rattle.dav_core.specs.Asking.{StoreState, Asks}
use Rattle.dav_engine.specs.Plan.{Locks, ServerState, Ran, Cut}
use Rattle.dav_engine.specs.Method.{MethodPlan}
use Rattle.dav_engine.specs.Reply.{Reply}

-- The value itself, where contracts see it as it is.
abbrev pub as_is : {A : Type 0} → A → A
as_is x = x

-- a result with its value as contracts see it
abbrev pub viewed : {A X : Type 0} → (X → A) → Result X DavError → Result A DavError
viewed view (Ok x) = Ok (view x)
viewed view (Err e) = Err e

-- a result whose only error is out of memory, as the result of a method
abbrev pub or_memory : {X E : Type 0} → Result X E → Result X DavError
or_memory (Ok x) = Ok x
or_memory (Err e) = Err dav.Memory

-- A part of a request that began with the list `first` was carried out on any lawful store, with this result; or the result is
-- `Memory`: the first calls of the part were made, and the list of locks is `first` again, or as the part leaves it where each
-- later call is refused.
pub data FollowsFrom {A X : Type 0} (first : Locks) (view : X → A) (plan : MethodPlan A) (old : StoreState) (ls : Locks) (result : Result X DavError) (new : StoreState) (ms : Locks) : Type 0 where
  followed : Ran Asks plan old ls (viewed view result) new ms → FollowsFrom first view plan old ls result new ms
  gave_up : result ≡ Err dav.Memory → Cut Asks first plan old ls new ms → FollowsFrom first view plan old ls result new ms

-- The plan was carried out on any lawful store, with this result; or the result is `Memory`: the first calls of the plan
-- were made, and the list of locks is as before, or as the plan leaves it where each later call is refused.
abbrev pub Follows : {A X : Type 0} → (X → A) → MethodPlan A → StoreState → Locks → Result X DavError → StoreState → Locks → Type 0
Follows view plan old ls = FollowsFrom ls view plan old ls

-- The plan was carried out by code that only reads the list of locks: the list is the same before and after.
abbrev pub FollowsWithLocks : {A X : Type 0} → Locks → (X → A) → MethodPlan A → StoreState → Result X DavError → StoreState → Type 0
FollowsWithLocks locks view plan old result new = Follows view plan old locks result new locks

-- The plan was carried out by code that has only the store: whatever the list of locks is, it stays.
abbrev pub FollowsOnStore : {A X : Type 0} → (X → A) → MethodPlan A → StoreState → Result X DavError → StoreState → Type 0
FollowsOnStore view plan old result new = (ls : Locks) → Follows view plan old ls result new ls

-- The plan was carried out by code that has only the list of locks: whatever the store is, it stays.
abbrev pub FollowsOnLocks : {A X : Type 0} → (X → A) → MethodPlan A → Locks → Result X DavError → Locks → Type 0
FollowsOnLocks view plan ls result ms = (s : StoreState) → Follows view plan s ls result s ms

-- The result is that of a plan of this kind; or memory ran out before its plan was known, and nothing was done.
pub data FollowsOneOf {A X : Type 0} (view : X → A) (kind : MethodPlan A → Type 0) (old : StoreState) (ls : Locks) (result : Result X DavError) (new : StoreState) (ms : Locks) : Type 0 where
  served : (plan : MethodPlan A) → kind plan → Follows view plan old ls result new ms → FollowsOneOf view kind old ls result new ms
  not_begun : result ≡ Err dav.Memory → new ≡ old → ms ≡ ls → FollowsOneOf view kind old ls result new ms

-- a request was answered by a plan of this kind, on the state of a server
abbrev pub Serves : (MethodPlan Reply → Type 0) → ServerState → Result Reply DavError → ServerState → Type 0
Serves kind old result new = FollowsOneOf as_is kind old.store old.locks result new.store new.locks

-- A plan of this kind was carried out by code that reads the list of locks, and leaves it, and whose only error is out of memory.
abbrev pub FollowsOneWithLocks : {A X E : Type 0} → Locks → (X → A) → (MethodPlan A → Type 0) → StoreState → Result X E → StoreState → Type 0
FollowsOneWithLocks locks view kind old result new = FollowsOneOf view kind old locks (or_memory result) new locks
