-- How the state of a live server came about, and that it lasts.
use Rattle.std.specs.Prelude.{◌≡◌, ℕ, List, [], ◌∷◌, Option}
use Rattle.dav_http.specs.Saved.{IsSaveable, Loads, saved_bytes}
use Rattle.dav_kept.specs.Kept.{Holding, IsRunOf, RecordsRun, Snapshot, answer_step, held_by, is_new}
use Rattle.dav_kept.specs.Records.{RecordView}
use Rattle.dav_kept.specs.declared.kept.Kept.{Kept}
use Rattle.dav_engine.specs.Reply.{Reply}
use Rattle.dav_server.specs.Machine.{Exchange}
use Rattle.dav_server.specs.Server.{AnswersAll, Server, turns}
use Rattle.dav_http.specs.Steps.{IsExchangeOf}
use Rattle.dav_live.specs.Answers.{IsAnswer, caller_of}
use Rattle.dav_live.specs.Runs.{BeginsRun, IsFirstDay, IsLeft, IsOneRun, IsOpened, StartsWith}

-- Two servers over the same snapshot and blocks, with the same batch, hold the same: so a start goes on with what was.
abbrev pub RestartsChangeNothing : Type 0
RestartsChangeNothing =
    (first : Server) (start : Option Snapshot) (blocks : List (List ℕ)) (a b : Holding Server)
    → IsRunOf (answer_step IsAnswer) Loads first start blocks a → IsRunOf (answer_step IsAnswer) Loads first start blocks b
    → a.batch ≡ b.batch → a ≡ b

-- these are the requests of the records, as the machine gets them, one for each, in order
abbrev pub AreAsked : List RecordView → List Exchange → Type 0
AreAsked [] [] = Unit {0}
AreAsked [] (x ∷ xs) = ⊥
AreAsked (r ∷ rs) [] = ⊥
AreAsked (r ∷ rs) (x ∷ xs) = IsExchangeOf r.request.head r.request.body (caller_of r.request) x × AreAsked rs xs

-- A run of records is a run of the machine: of the requests of these records, in their order, and from one server to the other.
pub record IsMachineRun (first : Server) (records : List RecordView) (last : Server) : Type 0 where
  pub exchanges : List Exchange
  pub replies : List Reply
  pub asked : AreAsked records exchanges
  pub runs : AnswersAll first (turns exchanges) replies last

-- each run of records is one of the machine
abbrev pub RunsAreTheMachines : Type 0
RunsAreTheMachines = (first last : Server) (records : List RecordView) → RecordsRun (answer_step IsAnswer) first records last → IsMachineRun first records last

-- ---- from life to life

-- A first day begins a run: that of no records. So it is with each start before anything is kept.
abbrev pub FirstDaysBegin : {J : Type 0} → (J → List (List ℕ) → Type 0) → Type 0
FirstDaysBegin {J} has_read =
    (first : Server) (start : Option Snapshot) (blocks : List (List ℕ)) (new : Kept Server J)
    → IsOpened IsAnswer Loads has_read first start blocks new → IsFirstDay (is_new new) start blocks
    → BeginsRun IsAnswer saved_bytes IsSaveable first start blocks (held_by new)

-- A start goes on with the run that was, whatever a crash left of its journal.
abbrev pub RestartsGoOn : {J : Type 0} → (J → List (List ℕ) → Type 0) → (J → List (List ℕ) → Type 0) → Type 0
RestartsGoOn {J} kept has_read =
    (first : Server) (records : List RecordView) (old new : Kept Server J)
    (one : IsOneRun IsAnswer saved_bytes IsSaveable kept first records old) (start : Option Snapshot) (blocks : List (List ℕ))
    → IsLeft saved_bytes IsSaveable one.start one.blocks (held_by old) start blocks
    → IsOpened IsAnswer Loads has_read first start blocks new
    → StartsWith IsAnswer saved_bytes IsSaveable first records (held_by old) start blocks (held_by new)
