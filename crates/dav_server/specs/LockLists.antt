-- The list of locks over whole runs (RFC 4918, sections 6.1, 6.2 and 6.5).
use Rattle.std.specs.Prelude.{◌≡◌, ℕ, List, [], All, Contains, Some}
use Rattle.dav_core.specs.Asking.{StoreState}
use Rattle.dav_core.specs.Locks.{Lock}
use Rattle.dav_engine.specs.Guard.{OnList}
use Rattle.dav_engine.specs.ListChanges.{AreChanges}
use Rattle.dav_engine.specs.Plan.{Locks}
use Rattle.dav_engine.specs.Reply.{Reply}
use Rattle.dav_server.specs.Machine.{Exchange, Settings, Steps, StepCut, caller}
use Rattle.dav_server.specs.Run.{Turn, Runs}

-- A step of a request changes the list of locks by these changes alone: a lock with the token that the request hands in is granted where
-- it may be; a lock is refreshed or unlocked; or the locks at a path and below it end (RFC 4918, section 6.1).
abbrev pub StepsChangeLists : Type 0
StepsChangeLists =
    (s : Settings) (x : Exchange) (old new : StoreState) (ls : List Lock) (ms : Locks) (reply : Reply)
    → Steps s x old (Some ls) reply new ms → OnList (AreChanges (caller x) ls) ms

-- A step in which memory runs out changes the list of locks by grants, refreshes, unlocks and ends of the locks at a path and below it
-- alone (RFC 4918, section 6.1).
abbrev pub StepsChangeListsCut : Type 0
StepsChangeListsCut =
    (s : Settings) (x : Exchange) (old new : StoreState) (ls : List Lock) (ms : Locks)
    → StepCut s x old (Some ls) new ms → OnList (AreChanges (caller x) ls) ms

-- the token was handed in with one of these requests (RFC 4918, section 6.5)
abbrev pub IsHandedIn : List Turn → List ℕ → Type 0
IsHandedIn ts token = (t : Turn) × Contains ts t × (t.asked.token ≡ Some token)

-- After a run from no locks the token of each lock was handed in with one of the requests (RFC 4918, section 6.5).
abbrev pub TokensAreHandedIn : Type 0
TokensAreHandedIn =
    (s : Settings) (ts : List Turn) (old new : StoreState) (ms : List Lock) (replies : List Reply)
    → Runs s ts old (Some []) replies new (Some ms) → All (λ l. IsHandedIn ts l.token) ms
