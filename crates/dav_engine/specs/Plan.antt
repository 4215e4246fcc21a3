-- What a method of the server does, as data: which store calls it makes, how it goes on after each answer, and what it does
-- with the list of locks. What a plan may result in on a store that may refuse any call.
use Rattle.std.specs.Prelude.{◌≡◌, ◌⊎◌, List, Option, Some, None, Result, Err}
use Rattle.dav_core.specs.declared.errors.FsError.{FsError}
use Rattle.dav_core.specs.Asking.{Call, Answer, StoreState}
use Rattle.dav_core.specs.Locks.{Lock}

-- the list of locks, where there is a lock system (RFC 4918, section 6)
abbrev pub Locks : Type 0
Locks = Option (List Lock)

-- the state of a server: its store, and its list of locks
pub record ServerState : Type 0 where
  pub store : StoreState
  pub locks : Locks

-- The list of locks after it was set; without a lock system there is no list.
abbrev pub kept : Locks → List Lock → Locks
kept None locks = None
kept (Some old) locks = Some locks

-- A plan: it is done, with an outcome; or it makes a store call, and its answer decides how it goes on; or it reads the
-- list of locks, which decides how it goes on; or it sets the list, and goes on.
pub data Plan (A : Type 0) : Type 0 where
  Done : A → Plan A
  Ask : (call : Call) → (Result (Answer call) FsError → Plan A) → Plan A
  Look : (Locks → Plan A) → Plan A
  Keep : List Lock → Plan A → Plan A

-- One call of a store, as a relation between the store before it, its answer and the store after it: that of every lawful
-- store is `Asks` of dav_core.
abbrev pub CallStep : Type 1
CallStep = (call : Call) → StoreState → Result (Answer call) FsError → StoreState → Type 0

-- From the first store and list of locks, the plan may end with this outcome, and leave the second store and list.
pub data Ran (step : CallStep) {A : Type 0} : Plan A → StoreState → Locks → A → StoreState → Locks → Type 0 where
  ran_done : {a : A} {s : StoreState} {ls : Locks} → Ran step (Done a) s ls a s ls
  ran_ask : {c : Call} {go : Result (Answer c) FsError → Plan A} {old mid new : StoreState} {ls ms : Locks} {answer : Result (Answer c) FsError} {a : A}
      → step c old answer mid → Ran step (go answer) mid ls a new ms → Ran step (Ask c go) old ls a new ms
  ran_look : {go : Locks → Plan A} {old new : StoreState} {ls ms : Locks} {a : A} → Ran step (go ls) old ls a new ms → Ran step (Look go) old ls a new ms
  ran_keep : {locks : List Lock} {rest : Plan A} {old new : StoreState} {ls ms : Locks} {a : A} → Ran step rest old (kept ls locks) a new ms → Ran step (Keep locks rest) old ls a new ms

-- From the first list of locks, the plan ends with this outcome and leaves the second list where each of its calls is refused.
pub data Refused {A : Type 0} : Plan A → Locks → A → Locks → Type 0 where
  refused_done : {a : A} {ls : Locks} → Refused (Done a) ls a ls
  refused_ask : {c : Call} {go : Result (Answer c) FsError → Plan A} {ls ms : Locks} {a : A} (e : FsError) → Refused (go (Err e)) ls a ms → Refused (Ask c go) ls a ms
  refused_look : {go : Locks → Plan A} {ls ms : Locks} {a : A} → Refused (go ls) ls a ms → Refused (Look go) ls a ms
  refused_keep : {locks : List Lock} {rest : Plan A} {ls ms : Locks} {a : A} → Refused rest (kept ls locks) a ms → Refused (Keep locks rest) ls a ms

-- The first calls of a plan were made, each of them whole; the list of locks is now as it was set so far, and `rest` of the plan is left.
pub data RanUpTo (step : CallStep) {A : Type 0} : Plan A → StoreState → Locks → Plan A → StoreState → Locks → Type 0 where
  up_to_here : {plan : Plan A} {s : StoreState} {ls : Locks} → RanUpTo step plan s ls plan s ls
  up_to_ask : {c : Call} {go : Result (Answer c) FsError → Plan A} {old mid new : StoreState} {ls ms : Locks} {answer : Result (Answer c) FsError} {rest : Plan A}
      → step c old answer mid → RanUpTo step (go answer) mid ls rest new ms → RanUpTo step (Ask c go) old ls rest new ms
  up_to_look : {go : Locks → Plan A} {old new : StoreState} {ls ms : Locks} {rest : Plan A} → RanUpTo step (go ls) old ls rest new ms → RanUpTo step (Look go) old ls rest new ms
  up_to_keep : {locks : List Lock} {more : Plan A} {old new : StoreState} {ls ms : Locks} {rest : Plan A} → RanUpTo step more old (kept ls locks) rest new ms → RanUpTo step (Keep locks more) old ls rest new ms

-- Memory ran out in a plan: its first calls were made, and `rest` is left. The list of locks is `first` again, or the one that
-- the rest leaves where each of its calls is refused.
pub record Cut (step : CallStep) {A : Type 0} (first : Locks) (plan : Plan A) (old : StoreState) (ls : Locks) (new : StoreState) (ms : Locks) : Type 0 where
  pub rest : Plan A
  pub locks : Locks
  pub ran : RanUpTo step plan old ls rest new locks
  pub list : (ms ≡ first) ⊎ ((outcome : A) × Refused rest locks outcome ms)
