-- Isolation: a locked folder and the replies to its holder don't depend on what others do (RFC 4918, section 7).
use Rattle.std.specs.Prelude.{◌≡◌, ◌≢◌, ℕ, ◌<◌, ◌≤◌, ◌++◌, ◌⊎◌, true, false, List, [], ◌∷◌, All, AllPairs, Some, None}
use Rattle.std.specs.Option.{is_some}
use Rattle.dav_core.specs.declared.method.DavMethod.{DavMethod}
use Rattle.dav_core.specs.Asking.{StoreState, Asks}
use Rattle.dav_core.specs.Locks.{Lock}
use Rattle.dav_core.specs.Path.{PathText, names}
use Rattle.dav_core.specs.World.{is_folder, IsWorld, last_number, last_moment}
use Rattle.dav_engine.specs.Alongside.{AsksWithNumbers, AreAlike, SameAnswers}
use Rattle.dav_engine.specs.IsolatedPlans.{SubmitsAlone, IsIsolatedPlan}
use Rattle.dav_engine.specs.Guard.{folder_of, IsGuard, IsInReach, Guarded, Stands}
use Rattle.dav_engine.specs.Headers.{Headers}
use Rattle.dav_engine.specs.Inside.{SameInside, HasFoldersAbove}
use Rattle.dav_engine.specs.Method.{MethodPlan}
use Rattle.dav_engine.specs.Plan.{Locks, CallStep}
use Rattle.dav_engine.specs.Reply.{Reply}
use Rattle.dav_engine.specs.Sparing.{LeftAlone}
use Rattle.dav_server.specs.Get.{IsGet}
use Rattle.dav_server.specs.Holder.{IsHolderRequest}
use Rattle.dav_server.specs.Machine.{Exchange, Settings, StepsBy, Steps}
use Rattle.dav_server.specs.Naming.{NamesLock}
use Rattle.dav_server.specs.Run.{Turn, begun, RunsBy, Runs}
use Rattle.dav_server.specs.Server.{Server}
use Rattle.dav_server.specs.TagLaws.{MomentsAreDates}

-- ---- a run while a lock is in the list

-- each turn brings a list of refusals, so none are left of the turn before
abbrev pub AreLoaded : List Turn → Type 0
AreLoaded ts = All (λ t. is_some t.refusals ≡ true) ts

-- no request hands in the lock's token for a new lock (RFC 4918, section 6.5)
abbrev pub TokenIsFresh : Lock → List Turn → Type 0
TokenIsFresh h ts = All (λ t. t.asked.token ≢ Some h.token) ts

-- A run while a lock is in the list: the lock is there when each request begins, and each request that names it as its principal is a
-- holder's request. The last request may be the one that ends it (RFC 4918, section 7).
pub data RunsUnder (step : CallStep) (s : Settings) (h : Lock) : List Turn → StoreState → Locks → List Reply → StoreState → Locks → Type 0 where
  under_none : {old : StoreState} {ls : Locks} → RunsUnder step s h [] old ls [] old ls
  under_more : {t : Turn} {ts : List Turn} {old mid new : StoreState} {ls ks ms : Locks} {reply : Reply} {replies : List Reply}
      → Stands h ls → (NamesLock h t.asked → IsHolderRequest s h t.asked) → StepsBy step s t.asked (begun t.refusals old) ls reply mid ks
      → RunsUnder step s h ts mid ks replies new ms → RunsUnder step s h (t ∷ ts) old ls (reply ∷ replies) new ms

-- ---- the holder's requests alone

-- `us` are those of the turns whose request names the lock's token as its principal, in order, each with its own refusals
pub data HolderTurns (h : Lock) : List Turn → List Turn → Type 0 where
  alone_none : HolderTurns h [] []
  alone_other : {t : Turn} {ts us : List Turn} → ¬ NamesLock h t.asked → HolderTurns h ts us → HolderTurns h (t ∷ ts) us
  alone_own : {t : Turn} {ts us : List Turn} → NamesLock h t.asked → HolderTurns h ts us → HolderTurns h (t ∷ ts) (t ∷ us)

-- it is decided whether a request names the lock's token as its principal
abbrev pub IsKnown : Lock → Turn → Type 0
IsKnown h t = NamesLock h t.asked ⊎ ¬ NamesLock h t.asked

-- Turns of each of which it is decided whether it names the lock's token as its principal have a list of the holder's turns among them.
abbrev pub KnownHaveAlone : Type 0
KnownHaveAlone = (h : Lock) (ts : List Turn) → All (IsKnown h) ts → (us : List Turn) × HolderTurns h ts us

-- It can't be that turns, whatever their bytes are, have no list of the holder's turns among them.
abbrev pub TurnsHaveAlone : Type 0
TurnsHaveAlone = (h : Lock) (ts : List Turn) → ¬ ((us : List Turn) → ¬ HolderTurns h ts us)

-- Turns have one list of the holder's turns among them at most.
abbrev pub OneAlone : Type 0
OneAlone = (h : Lock) (ts us vs : List Turn) → HolderTurns h ts us → HolderTurns h ts vs → us ≡ vs

-- The replies to these turns, and the replies to the holder's turns alone: each of these has the same answers as the reply to the same
-- request among all turns.
pub data AnswerAlike (h : Lock) : List Turn → List Reply → List Reply → Type 0 where
  alike_none : AnswerAlike h [] [] []
  alike_other : {t : Turn} {ts : List Turn} {reply : Reply} {replies alone : List Reply} → ¬ NamesLock h t.asked → AnswerAlike h ts replies alone → AnswerAlike h (t ∷ ts) (reply ∷ replies) alone
  alike_own : {t : Turn} {ts : List Turn} {reply other : Reply} {replies alone : List Reply}
      → NamesLock h t.asked → SameAnswers reply other → AnswerAlike h ts replies alone → AnswerAlike h (t ∷ ts) (reply ∷ replies) (other ∷ alone)

-- The holder's turns can be run alone, in a store that doesn't run out of memory, with the same answers, and then leave the same content
-- in the lock's folder as the run of all turns. By `RunsAreDetermined` there is one such run (RFC 4918, section 7).
pub record MatchesSoloRun (s : Settings) (h : Lock) (ts us : List Turn) (old : StoreState) (ls : Locks) (replies : List Reply) (new : StoreState) : Type 0 where
  pub alone : List Reply
  pub end : StoreState
  pub locks : Locks
  pub runs : Runs s us old ls alone end locks
  pub ample : end.short ≡ false
  pub answers : AnswerAlike h ts replies alone
  pub inside : SameInside (folder_of h) new.world end.world

-- ---- one step

-- A GET or HEAD at a guarded folder or below it, whose only condition is the guard's token, is an isolated plan: in two states that are
-- alike in the folder it has the same answers.
abbrev pub GetIsIsolated : Type 0
GetIsIsolated =
    (h : Lock) (m : DavMethod) (headers : Headers) (p : PathText) (now : ℕ) (plan : MethodPlan Reply)
    → IsGuard h → IsInReach h (names p) → SubmitsAlone headers p h → IsGet m headers p now plan → IsIsolatedPlan h plan

-- While a lock guards a folder, a step of a request that neither names the lock's token as its principal nor hands it in leaves the
-- content of the folder, and the folder guarded as long as the lock is in the list. So the state after the step is alike every state that
-- the one before it was alike (RFC 4918, section 7).
abbrev pub StrangersLeaveAlike : Type 0
StrangersLeaveAlike =
    (s : Settings) (h : Lock) (x : Exchange) (old new other : StoreState) (ls ms : Locks) (reply : Reply)
    → IsGuard h → Guarded h ls → HasFoldersAbove (folder_of h) old.world → IsWorld old.world → x.moment ≤ last_moment
    → ¬ NamesLock h x → x.token ≢ Some h.token → Steps s x old ls reply new ms
    → LeftAlone h old.world new.world ms × (AreAlike (folder_of h) None old.world other.world → AreAlike (folder_of h) None new.world other.world)

-- A request is answered in another state too, with the same answers, without running out of memory; the two states are left alike in the
-- lock's folder, with the lock in both lists or in neither.
pub record AnswersAlso (s : Settings) (h : Lock) (x : Exchange) (reply : Reply) (new : StoreState) (ms : Locks) (old : StoreState) (ls : Locks) : Type 0 where
  pub reply_alone : Reply
  pub new_alone : StoreState
  pub locks_alone : Locks
  pub step : Steps s x old ls reply_alone new_alone locks_alone
  pub ample : new_alone.short ≡ false
  pub answers : SameAnswers reply reply_alone
  pub alike : AreAlike (folder_of h) None new.world new_alone.world
  pub locks : (Guarded h ms × Guarded h locks_alone) ⊎ (¬ Stands h ms × ¬ Stands h locks_alone)

-- A holder's request has the same answers in two states that are alike, under the same refusals, leaves them alike, and ends the lock in
-- both or in neither; where in the first no call finds the change numbers used up, and the store doesn't run out of memory, as then the
-- second needn't either (RFC 4918, section 7).
abbrev pub HoldersAnswerAlike : Type 0
HoldersAnswerAlike =
    (s : Settings) (h : Lock) (x : Exchange) (old new other : StoreState) (ls ms ks : Locks) (reply : Reply)
    → IsGuard h → Guarded h ls → Guarded h ks → AreAlike (folder_of h) None old.world other.world → old.refusals ≡ other.refusals → other.short ≡ false
    → x.moment ≤ last_moment → IsHolderRequest s h x → StepsBy AsksWithNumbers s x old ls reply new ms → new.short ≡ false
    → AnswersAlso s h x reply new ms other ks

-- In a run from a world whose turns each bring a list of refusals: while a folder that has folders above it is guarded, and no request
-- hands in the guard's token, the folder and the answers to its holder are those of the holder's requests run alone (RFC 4918, section
-- 7).
abbrev pub HoldersAreAlone : Type 0
HoldersAreAlone =
    (s : Settings) (h : Lock) (ts us : List Turn) (old new : StoreState) (ls ms : Locks) (replies : List Reply)
    → IsGuard h → Guarded h ls → HasFoldersAbove (folder_of h) old.world → IsWorld old.world → MomentsAreDates ts → AreLoaded ts → TokenIsFresh h ts
    → RunsUnder AsksWithNumbers s h ts old ls replies new ms → new.short ≡ false → HolderTurns h ts us → MatchesSoloRun s h ts us old ls replies new

-- ---- numbers

-- In a run while a lock is in the list that ends with a change number to spare, below the last, each call that takes a number found one.
abbrev pub SpareNumbersSufficeInRuns : Type 0
SpareNumbersSufficeInRuns =
    (s : Settings) (h : Lock) (ts : List Turn) (old new : StoreState) (ls ms : Locks) (replies : List Reply)
    → IsWorld old.world → MomentsAreDates ts → RunsUnder Asks s h ts old ls replies new ms → new.world.next < last_number
    → RunsUnder AsksWithNumbers s h ts old ls replies new ms

-- In a run that ends with a change number to spare, below the last, each call that takes a number found one.
abbrev pub RunsFindNumbers : Type 0
RunsFindNumbers =
    (s : Settings) (ts : List Turn) (old new : StoreState) (ls ms : Locks) (replies : List Reply)
    → IsWorld old.world → MomentsAreDates ts → Runs s ts old ls replies new ms → new.world.next < last_number
    → RunsBy AsksWithNumbers s ts old ls replies new ms

-- ---- what a run promises

-- A run of these turns with these replies isolates the holder of any lock: from any moment at which a lock guards a folder that has
-- folders above it, as long as the lock is in the list, all who name its token as its principal are its holder, and no request hands it
-- in, the folder and the replies to the holder are as if the holder's requests were run alone. The run begins with a world, no call found
-- the change numbers used up, and the store didn't run out of memory (RFC 4918, section 7).
abbrev pub IsIsolated : Server → List Turn → List Reply → Type 0
IsIsolated old ts replies =
    (front later back us : List Turn) (h : Lock) (mid new : StoreState) (ks ms : Locks) (before given after : List Reply)
    → ts ≡ front ++ (later ++ back) → replies ≡ before ++ (given ++ after) → IsWorld old.state.store.world
    → Runs old.settings front old.state.store old.state.locks before mid ks
    → IsGuard h → Guarded h ks → HasFoldersAbove (folder_of h) mid.world → TokenIsFresh h later
    → RunsUnder AsksWithNumbers old.settings h later mid ks given new ms → new.short ≡ false
    → HolderTurns h later us → MatchesSoloRun old.settings h later us mid ks given new

-- ---- from an empty list of locks, from the grant on

-- no two requests hand in one token (RFC 4918, section 6.5)
abbrev pub TokensDiffer : List Turn → Type 0
TokensDiffer ts = AllPairs (λ t u. (token : List ℕ) → t.asked.token ≡ Some token → u.asked.token ≢ Some token) ts

-- a request's step granted a lock: with the token that was handed in, and at the end of the list (RFC 4918, section 9.10)
pub record Grants (t : Turn) (h : Lock) (ls ms : List Lock) : Type 0 where
  pub token_is : t.asked.token ≡ Some h.token
  pub listed : ms ≡ ls ++ h ∷ []

-- A run of these turns, from a world and no locks, with tokens that differ, isolates each holder from the grant on: from the grant of an
-- exclusive lock of infinite depth on a folder, as long as the lock is in the list and all who name its token as its principal are its
-- holder, the folder and the replies to the holder are as if the holder's requests were run alone. No call found the change numbers used
-- up, and the store didn't run out of memory (RFC 4918, section 7).
abbrev pub IsIsolatedFromGrants : Server → List Turn → List Reply → Type 0
IsIsolatedFromGrants old ts replies =
    (front later back us : List Turn) (grant : Turn) (h : Lock) (asked granted new : StoreState) (ks js : List Lock) (ms : Locks)
    (before given after : List Reply) (reply : Reply)
    → ts ≡ front ++ grant ∷ (later ++ back) → replies ≡ before ++ reply ∷ (given ++ after) → TokensDiffer ts
    → IsWorld old.state.store.world → old.state.locks ≡ Some []
    → Runs old.settings front old.state.store old.state.locks before asked (Some ks)
    → Steps old.settings grant.asked (begun grant.refusals asked) (Some ks) reply granted (Some js)
    → IsGuard h → Grants grant h ks js → is_folder granted.world (folder_of h) ≡ true
    → RunsUnder AsksWithNumbers old.settings h later granted (Some js) given new ms → new.short ≡ false
    → HolderTurns h later us → MatchesSoloRun old.settings h later us granted (Some js) given new
