-- Runs of the machine.
use Rattle.std.specs.Prelude.{◌≡◌, ◌≢◌, ◌⊎◌, ◌++◌, false, List, [], ◌∷◌, All, Option, Some, None}
use Rattle.dav_core.specs.declared.errors.FsError.{FsError}
use Rattle.dav_core.specs.Asking.{StoreState, Asks}
use Rattle.dav_engine.specs.Method.{MethodPlan}
use Rattle.dav_engine.specs.Plan.{Locks, CallStep}
use Rattle.dav_engine.specs.PlanLaws.{ample}
use Rattle.dav_engine.specs.Reply.{Reply}
use Rattle.dav_server.specs.Machine.{Exchange, Settings, Means, StepsBy, Steps, StepCutBy, StepCut}

-- A turn of a run: a request and, where it brings one, the list of the store's calls that are refused from then on.
pub record Turn : Type 0 where
  pub asked : Exchange
  pub refusals : Option (List (Option FsError))

-- the store when a turn begins: with the refusals that the turn brings, in place of those that were left; as it is where the turn brings
-- none
abbrev pub begun : Option (List (Option FsError)) → StoreState → StoreState
begun None s = s
begun (Some refusals) s = record s { refusals = refusals }

-- A run of the machine over stores that answer each call by this relation: the replies to the requests, one step after another, and the
-- store and the list of locks that are left.
pub data RunsBy (step : CallStep) (s : Settings) : List Turn → StoreState → Locks → List Reply → StoreState → Locks → Type 0 where
  no_more : {old : StoreState} {ls : Locks} → RunsBy step s [] old ls [] old ls
  one_more : {t : Turn} {ts : List Turn} {old mid new : StoreState} {ls ks ms : Locks} {reply : Reply} {replies : List Reply}
      → StepsBy step s t.asked (begun t.refusals old) ls reply mid ks → RunsBy step s ts mid ks replies new ms
      → RunsBy step s (t ∷ ts) old ls (reply ∷ replies) new ms

-- a run of the machine over any lawful store
abbrev pub Runs : Settings → List Turn → StoreState → Locks → List Reply → StoreState → Locks → Type 0
Runs = RunsBy Asks

-- A run in which memory ran out: the replies, perhaps none, are those of a run of the first requests; in the next one memory ran out, and
-- this store and this list of locks are left.
abbrev pub RanInPartBy : CallStep → Settings → List Turn → StoreState → Locks → List Reply → StoreState → Locks → Type 0
RanInPartBy step s ts old ls replies new ms =
    (front : List Turn) × (t : Turn) × (rest : List Turn) × (mid : StoreState) × (ks : Locks)
    × (ts ≡ front ++ t ∷ rest) × RunsBy step s front old ls replies mid ks × StepCutBy step s t.asked (begun t.refusals mid) ks new ms

-- a run in which memory ran out in the middle, over any lawful store
abbrev pub RanInPart : Settings → List Turn → StoreState → Locks → List Reply → StoreState → Locks → Type 0
RanInPart = RanInPartBy Asks

-- Where the store doesn't run out of memory, the replies of a run, and what it leaves, are determined by what it begins with.
abbrev pub RunsAreDetermined : Type 0
RunsAreDetermined =
    (s : Settings) (ts : List Turn) (old new other : StoreState) (ls ks ms : Locks) (replies others : List Reply)
    → Runs s ts old ls replies new ks → new.short ≡ false → Runs s ts old ls others other ms → other.short ≡ false
    → (replies ≡ others) × (new ≡ other) × (ks ≡ ms)

-- A run splits at any place: what it leaves there is what the rest of it begins with.
abbrev pub RunsSplit : Type 0
RunsSplit =
    (s : Settings) (ts us : List Turn) (old new : StoreState) (ls ms : Locks) (replies : List Reply)
    → Runs s (ts ++ us) old ls replies new ms
    → (before : List Reply) × (after : List Reply) × (mid : StoreState) × (ks : Locks)
    × (replies ≡ before ++ after) × Runs s ts old ls before mid ks × Runs s us mid ks after new ms

-- A run, followed by a run that begins with what it leaves, is one run.
abbrev pub RunsJoin : Type 0
RunsJoin =
    (s : Settings) (ts us : List Turn) (old mid new : StoreState) (ls ks ms : Locks) (before after : List Reply)
    → Runs s ts old ls before mid ks → Runs s us mid ks after new ms → Runs s (ts ++ us) old ls (before ++ after) new ms

-- A store remembers that it ran out of memory: where it hasn't after a run, it hadn't before it.
abbrev pub ShortnessIsKept : Type 0
ShortnessIsKept =
    (s : Settings) (ts : List Turn) (old new : StoreState) (ls ms : Locks) (replies : List Reply)
    → Runs s ts old ls replies new ms → new.short ≡ false → old.short ≡ false

-- A step in which memory runs out has changed nothing; or it leaves the store as a step with memory enough does under some list of
-- refusals, and the list of locks as that step does, or as it was before the request.
abbrev pub CutsAreLikeSteps : Type 0
CutsAreLikeSteps =
    (s : Settings) (x : Exchange) (old new : StoreState) (ls ms : Locks)
    → StepCut s x old ls new ms
    → ((new ≡ old) × (ms ≡ ls))
    ⊎ ((refusals : List (Option FsError)) × (reply : Reply) × (ks : Locks)
    × Steps s x (ample old.world refusals) ls reply (ample new.world []) ks × ((ms ≡ ls) ⊎ (ms ≡ ks)))

-- the request of a turn results in a plan
abbrev pub HasPlan : Settings → Turn → Type 0
HasPlan s t = (plan : MethodPlan Reply) × Means s t.asked plan

-- Requests that each result in a plan have a run from every state, during which the store doesn't run out of memory.
abbrev pub RunsEnd : Type 0
RunsEnd =
    (s : Settings) (ts : List Turn) (old : StoreState) (ls : Locks) → All (HasPlan s) ts
    → (replies : List Reply) × (new : StoreState) × (ms : Locks) × Runs s ts old ls replies new ms × (new.short ≡ old.short)

-- It can't be that a request, whatever its bytes are, results in no plan.
abbrev pub RequestsHavePlans : Type 0
RequestsHavePlans = (s : Settings) (x : Exchange) → ¬ ((plan : MethodPlan Reply) → ¬ Means s x plan)

-- It can't be that requests, whatever their bytes are, have from some state no run during which the store doesn't run out of memory.
abbrev pub RequestsHaveRuns : Type 0
RequestsHaveRuns =
    (s : Settings) (ts : List Turn) (old : StoreState) (ls : Locks)
    → ¬ ((replies : List Reply) (new : StoreState) (ms : Locks) → Runs s ts old ls replies new ms → new.short ≢ old.short)
