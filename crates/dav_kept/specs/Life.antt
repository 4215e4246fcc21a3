-- The life of a server, from its first day on and over each restart.
use Rattle.std.specs.Prelude.{◌≡◌, ℕ, true, Option, Some, None, List, [], ◌∷◌, ◌++◌, map}
use Rattle.std.specs.List.{concat}
use Rattle.http_server.specs.declared.response.Response.{Response}
use Rattle.dav_kept.specs.Kept.{IsAnswerOf, RecordsFollow, Holding, IsRunOf, Leads, PlaysRecords, RecordsRun, Snapshot, committed, answer_step, first_day, snapshot_of, with_batch, with_opening}
use Rattle.dav_kept.specs.Records.{RecordView, RequestView, records_bytes}
use Rattle.dav_kept.specs.declared.handler.Effect.{Effect}
use Rattle.dav_kept.specs.declared.handler.Effect.TheVariants as effect

-- The snapshot that a server's journal begins with, its blocks after the first one, and what the
-- server holds. On its first day there are none. Then it answers; it commits; with an empty batch
-- and a state that can be saved it makes a snapshot, with which the journal begins anew; or it ends,
-- and starts again over what is left: what was there, or what there was to be after a commit or a
-- snapshot that it didn't end. Each opening may be noted by a block without a record.
pub data Lives {S : Type 0} (answers : S → RequestView → Response → S → Type 0)
    (saved : S → List ℕ) (is_saveable : S → Type 0) (loads : S → List ℕ → S → Type 0) (first : S)
    : Option Snapshot → List (List ℕ) → Holding S → Type 0 where
  begins : Lives answers saved is_saveable loads first None [] (first_day first)
  answered : {start : Option Snapshot} {blocks : List (List ℕ)} {old new : Holding S}
      → Lives answers saved is_saveable loads first start blocks old
      → RecordsFollow (answer_step answers) old new
      → Lives answers saved is_saveable loads first start blocks new
  commits : {start : Option Snapshot} {blocks : List (List ℕ)} {old : Holding S}
      → Lives answers saved is_saveable loads first start blocks old
      → Lives answers saved is_saveable loads first start (with_batch blocks old.batch) (committed old)
  saves : {start : Option Snapshot} {blocks : List (List ℕ)} {old : Holding S}
      → Lives answers saved is_saveable loads first start blocks old → old.batch ≡ []
      → is_saveable old.state
      → Lives answers saved is_saveable loads first (Some (snapshot_of saved old)) [] old
  opens : {start : Option Snapshot} {blocks : List (List ℕ)} {old : Holding S}
      → Lives answers saved is_saveable loads first start blocks old
      → Lives answers saved is_saveable loads first start (with_opening true blocks) old
  starts : {start : Option Snapshot} {blocks : List (List ℕ)} {old new : Holding S}
      → Lives answers saved is_saveable loads first start blocks old → new.batch ≡ []
      → IsRunOf (answer_step answers) loads first start blocks new
      → Lives answers saved is_saveable loads first start blocks new
  starts_after_a_commit : {start : Option Snapshot} {blocks : List (List ℕ)} {old new : Holding S}
      → Lives answers saved is_saveable loads first start blocks old → new.batch ≡ []
      → IsRunOf (answer_step answers) loads first start (with_batch blocks old.batch) new
      → Lives answers saved is_saveable loads first start (with_batch blocks old.batch) new
  starts_after_a_snapshot : {start : Option Snapshot} {blocks : List (List ℕ)} {old new : Holding S}
      → Lives answers saved is_saveable loads first start blocks old → old.batch ≡ []
      → is_saveable old.state → new.batch ≡ []
      → IsRunOf (answer_step answers) loads first (Some (snapshot_of saved old)) [] new
      → Lives answers saved is_saveable loads first (Some (snapshot_of saved old)) [] new

-- A journal begins so where the records of these bytes came before it, and led to this: with no
-- snapshot where there were none, or else with the snapshot of that, which can be saved.
abbrev pub IsBeginning : {S : Type 0} → (S → List ℕ) → (S → Type 0) → S → List ℕ → Holding S
    → Option Snapshot → Type 0
IsBeginning saved is_saveable first bytes begin None = (bytes ≡ []) × (begin ≡ first_day first)
IsBeginning saved is_saveable first bytes begin (Some s) =
    (s ≡ snapshot_of saved begin) × is_saveable begin.state

-- The state of a server is that of the run of all records since its first day, and they are
-- counted: of those before the snapshot, which has the state that they led to, of those in the
-- blocks after it, and of those in the batch.
pub record IsRunSince {S : Type 0} (step : S → RecordView → S → Type 0) (saved : S → List ℕ)
    (is_saveable : S → Type 0) (first : S) (start : Option Snapshot) (blocks : List (List ℕ)) (now : Holding S) : Type 0 where
  pub bytes : List ℕ
  pub begin : Holding S
  pub before : Leads step bytes first begin.state begin.tokens begin.latest
  pub beginning : IsBeginning saved is_saveable first bytes begin start
  pub plays : PlaysRecords step (concat blocks ++ now.batch) begin now
  pub all : Leads step (bytes ++ (concat blocks ++ now.batch)) first now.state now.tokens now.latest

-- That is so at all times.
abbrev pub LivesAreRuns : {S : Type 0} → (S → RequestView → Response → S → Type 0)
    → (S → List ℕ) → (S → Type 0) → (S → List ℕ → S → Type 0) → Type 0
LivesAreRuns {S} answers saved is_saveable loads =
    (first : S) (start : Option Snapshot) (blocks : List (List ℕ)) (now : Holding S)
    → Lives answers saved is_saveable loads first start blocks now
    → IsRunSince (answer_step answers) saved is_saveable first start blocks now

-- a record leads from one state to one state
abbrev pub IsDetermined : {S : Type 0} → (S → RecordView → S → Type 0) → Type 0
IsDetermined {S} step =
    (old : S) (r : RecordView) (one other : S) → step old r one → step old r other → one ≡ other

-- bytes are loaded as one state
abbrev pub LoadsOne : {S : Type 0} → (S → List ℕ → S → Type 0) → Type 0
LoadsOne {S} loads =
    (old one other : S) (bytes : List ℕ) → loads old bytes one → loads old bytes other → one ≡ other

-- Two servers over the same snapshot and blocks, with the same batch, have run the same records. So
-- a restart changes nothing of what a server is.
abbrev pub RunsAreOne : {S : Type 0} → (S → RequestView → Response → S → Type 0)
    → (S → List ℕ → S → Type 0) → Type 0
RunsAreOne {S} answers loads =
    (first : S) (start : Option Snapshot) (blocks : List (List ℕ)) (a b : Holding S)
    (x : IsRunOf (answer_step answers) loads first start blocks a)
    (y : IsRunOf (answer_step answers) loads first start blocks b)
    → a.batch ≡ b.batch
    → (x.plays.leads.records ≡ y.plays.leads.records) × (a.tokens ≡ b.tokens)
    × (a.latest ≡ b.latest)
    × (IsDetermined (answer_step answers) → LoadsOne loads → a.state ≡ b.state)

-- a request that was answered, its response, and what the answer did to the state
pub record AnsweredRequest : Type 0 where
  pub request : RequestView
  pub response : Response
  pub does : Effect

-- the record of a request that was answered
abbrev pub record_of : AnsweredRequest → RecordView
record_of x = record { request = x.request; status = x.response.status }

-- with the record of one more, if it changed the state
abbrev pub with_change : Effect → RecordView → List RecordView → List RecordView
with_change effect.Left r rs = rs
with_change effect.Changed r rs = r ∷ rs

-- the records of those that changed the state
abbrev pub recorded_in : List AnsweredRequest → List RecordView
recorded_in [] = []
recorded_in (x ∷ xs) = with_change x.does (record_of x) (recorded_in xs)

-- requests were answered, one after another
abbrev pub AreAnswered : {S : Type 0} → (S → RequestView → Response → S → Type 0)
    → Holding S → List AnsweredRequest → Holding S → Type 0
AreAnswered answers old [] new = new ≡ old
AreAnswered {S} answers old (x ∷ xs) new =
    (mid : Holding S) × IsAnswerOf answers old x.request x.response x.does mid
    × AreAnswered answers mid xs new

-- The run of all requests and the run of those that are recorded give one state: what left the
-- state can be left out.
abbrev pub LeftCanBeLeftOut : {S : Type 0} → (S → RequestView → Response → S → Type 0) → Type 0
LeftCanBeLeftOut {S} answers =
    (old new : Holding S) (calls : List AnsweredRequest) → AreAnswered answers old calls new
    → (new.batch ≡ old.batch ++ records_bytes (recorded_in calls))
    × RecordsRun (answer_step answers) old.state (map record_of calls) new.state
    × RecordsRun (answer_step answers) old.state (recorded_in calls) new.state

-- ---- behind another server

-- A server that played these blocks, and then plays more of them, is one that played all.
abbrev pub FollowersGoOn : {S : Type 0} → (S → RequestView → Response → S → Type 0)
    → (S → List ℕ → S → Type 0) → Type 0
FollowersGoOn {S} answers loads =
    (first : S) (start : Option Snapshot) (blocks more : List (List ℕ)) (old new : Holding S)
    → IsRunOf (answer_step answers) loads first start blocks old → old.batch ≡ [] → new.batch ≡ []
    → PlaysRecords (answer_step answers) (concat more) old new
    → IsRunOf (answer_step answers) loads first start (blocks ++ more) new

-- Where nothing is in the batch before some answers, and nothing after them, they changed nothing.
abbrev pub ReadersChangeNothing : {S : Type 0} → (S → RequestView → Response → S → Type 0) → Type 0
ReadersChangeNothing {S} answers =
    (old new : Holding S) → RecordsFollow (answer_step answers) old new → old.batch ≡ []
    → new.batch ≡ [] → new ≡ old
