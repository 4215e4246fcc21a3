-- The state that the records of a journal make, and what a server keeps.
use Rattle.std.specs.Prelude.{◌≡◌, ◌⊎◌, ℕ, suc, ◌+◌, ◌-◌, ◌≤◌, max, Bool, true, false, Option, Some, None, List, [], ◌∷◌, ◌++◌, All, length, replicate}
use Rattle.std.specs.Int.{w64, to_be_bytes}
use Rattle.std.specs.List.{concat}
use Rattle.http_server.specs.declared.response.Response.{Response}
use Rattle.dav_kept.specs.declared.handler.Effect.{Effect}
use Rattle.dav_kept.specs.declared.handler.Effect.TheVariants as effect
use Rattle.dav_kept.specs.declared.kept.Kept.{Kept}
use Rattle.dav_kept.specs.Records.{IsRecord, RecordView, RequestView, records_bytes, latest_moment, record_bytes, sized_bytes, count_tokens, token_count}

-- a step: the request of a record is answered, with the status that the record has
abbrev pub answer_step : {S : Type 0} → (S → RequestView → Response → S → Type 0)
    → S → RecordView → S → Type 0
answer_step answers old r new =
    (response : Response) × (response.status ≡ r.status) × answers old r.request response new

-- the run of records: each is a step from the state that the one before left
abbrev pub RecordsRun : {S : Type 0} → (S → RecordView → S → Type 0)
    → S → List RecordView → S → Type 0
RecordsRun step old [] new = new ≡ old
RecordsRun {S} step old (r ∷ rs) new = (mid : S) × step old r mid × RecordsRun step mid rs new

-- What a server holds besides its journal: its state, the bytes of the records since the last
-- commit, how many of all its records have a token, and the latest moment of all of them.
pub record Holding (S : Type 0) : Type 0 where
  pub state : S
  pub batch : List ℕ
  pub tokens : ℕ
  pub latest : ℕ

-- These bytes are those of records that lead from one state to another. So many of them have a
-- token, and this is their latest moment. Bytes have one reading, so this is the run of just these.
pub record Leads {S : Type 0} (step : S → RecordView → S → Type 0) (bytes : List ℕ) (old new : S)
    (tokens latest : ℕ) : Type 0 where
  pub records : List RecordView
  pub are : All IsRecord records
  pub spelled : bytes ≡ records_bytes records
  pub runs : RecordsRun step old records new
  pub counted : tokens ≡ count_tokens records
  pub last : latest ≡ latest_moment records

-- The records of these bytes lead from the one state to the other, and are counted.
pub record PlaysRecords {S : Type 0} (step : S → RecordView → S → Type 0) (bytes : List ℕ)
    (old new : Holding S) : Type 0 where
  pub tokens : ℕ
  pub latest : ℕ
  pub leads : Leads step bytes old.state new.state tokens latest
  pub counted : new.tokens ≡ old.tokens + tokens
  pub last : new.latest ≡ max old.latest latest

-- what a server holds on its first day
abbrev pub first_day : {S : Type 0} → S → Holding S
first_day first = record { state = first; batch = []; tokens = 0; latest = 0 }

-- What a journal begins with once it has begun anew: how many records before it have a token, the
-- latest moment of them, and what was saved of the state that they led to.
pub record Snapshot : Type 0 where
  pub tokens : ℕ
  pub latest : ℕ
  pub saved : List ℕ

-- the snapshot of what a server holds
abbrev pub snapshot_of : {S : Type 0} → (S → List ℕ) → Holding S → Snapshot
snapshot_of saved now =
    record { tokens = now.tokens; latest = now.latest; saved = saved now.state }

-- the bytes of a snapshot
abbrev pub snapshot_bytes : Snapshot → List ℕ
snapshot_bytes s = to_be_bytes w64 s.tokens ++ (to_be_bytes w64 s.latest ++ s.saved)

-- The preface of a journal: its text, and whether zeros stand behind that in the first block. In a
-- journal from before none do.
abbrev pub Preface : Type 0
Preface = List ℕ × Bool

-- a text, with zeros behind it so that it has so many bytes at least
abbrev pub with_zeros : ℕ → List ℕ → List ℕ
with_zeros count text = text ++ replicate (count - length text) 0

-- the text of a preface as it stands in a first block: up to so many bytes, where zeros are behind it
abbrev pub filled : ℕ → Preface → List ℕ
filled count (text, true) = with_zeros count text
filled count (text, false) = text

-- The first block of a journal: the preface with its length, and the snapshot, if there is one. With
-- zeros it ends behind the first 4,096 bytes of the file, so that no other block shares these with
-- the marks. Without a snapshot there are zeros where the other ones have theirs: what the first
-- 4,096 bytes have of the one, and what follows them of the other, are no block.
abbrev pub first_block : Preface → Option Snapshot → List ℕ
first_block preface None = sized_bytes (filled 8192 preface)
first_block preface (Some s) = sized_bytes (filled 4096 preface) ++ snapshot_bytes s

-- What a server holds that has read the first block: its first state, or what the snapshot has,
-- with a state that is loaded from the bytes.
abbrev pub Begins : {S : Type 0} → (S → List ℕ → S → Type 0) → S → Option Snapshot → Holding S
    → Type 0
Begins loads first None now = now ≡ first_day first
Begins loads first (Some s) now =
    (now ≡ record { state = now.state; batch = []; tokens = s.tokens; latest = s.latest })
    × loads first s.saved now.state

-- The state of a server is that of the run of its records, from what its journal begins with: of
-- those in these blocks, and of those in its batch.
pub record IsRunOf {S : Type 0} (step : S → RecordView → S → Type 0)
    (loads : S → List ℕ → S → Type 0) (first : S) (start : Option Snapshot)
    (blocks : List (List ℕ)) (now : Holding S) : Type 0 where
  pub begin : Holding S
  pub begins : Begins loads first start begin
  pub plays : PlaysRecords step (concat blocks ++ now.batch) begin now

-- What was saved of a state that can be saved, and to which records lead from a first one, is
-- loaded into that first one as the same state.
abbrev pub LoadsWhatWasSaved : {S : Type 0} → (S → RequestView → Response → S → Type 0)
    → (S → List ℕ) → (S → Type 0) → (S → List ℕ → S → Type 0) → Type 0
LoadsWhatWasSaved {S} answers saved is_saveable loads =
    (first state loaded : S) (records : List RecordView)
    → RecordsRun (answer_step answers) first records state → is_saveable state
    → loads first (saved state) loaded → loaded ≡ state

-- More records follow those of the batch, lead from the one state to the other, and are counted.
pub record RecordsFollow {S : Type 0} (step : S → RecordView → S → Type 0) (old new : Holding S)
    : Type 0 where
  pub more : List ℕ
  pub longer : new.batch ≡ old.batch ++ more
  pub plays : PlaysRecords step more old new

-- what is held where a request was counted
abbrev pub with_count : {S : Type 0} → Holding S → RequestView → Holding S
with_count old r =
    record old { tokens = old.tokens + token_count r.token; latest = max old.latest r.moment }

-- what is held after an answer with this effect: where it left the state all is as it was, and
-- where it changed it the record is in the batch, and is counted
abbrev pub after : {S : Type 0} → Holding S → RecordView → Effect → S → Holding S
after old r effect.Left state = old
after old r effect.Changed state =
    record (with_count old r.request) { state = state; batch = old.batch ++ record_bytes r }

-- An answer to a request, and what is held after it.
pub record IsAnswerOf {S : Type 0} (answers : S → RequestView → Response → S → Type 0) (old : Holding S)
    (request : RequestView) (response : Response) (does : Effect) (new : Holding S) : Type 0 where
  pub is_answer : answers old.state request response new.state
  pub held : new ≡ after old (record { request = request; status = response.status }) does new.state

-- what is held after a commit: the batch is empty
abbrev pub committed : {S : Type 0} → Holding S → Holding S
committed old = record old { batch = [] }

-- the blocks after a commit: the batch is one more, unless it is empty
abbrev pub with_batch : List (List ℕ) → List ℕ → List (List ℕ)
with_batch blocks [] = blocks
with_batch blocks (b ∷ batch) = blocks ++ (b ∷ batch) ∷ []

-- the blocks after an opening: one more, which has no record, where there was room for it
abbrev pub with_opening : Bool → List (List ℕ) → List (List ℕ)
with_opening true blocks = blocks ++ [] ∷ []
with_opening false blocks = blocks

-- all blocks of a journal: none where it is new, or else the first one before these
abbrev pub with_first : Bool → List ℕ → List (List ℕ) → List (List ℕ)
with_first true first blocks = []
with_first false first blocks = first ∷ blocks

-- the blocks after a snapshot: the first one of a journal that began anew, or, where there was no
-- room, those from before it
abbrev pub with_snapshot : Bool → List ℕ → List (List ℕ) → List (List ℕ)
with_snapshot true first blocks = first ∷ []
with_snapshot false first blocks = blocks

-- what a server holds
abbrev pub held_by : {H J : Type 0} → Kept H J → Holding H
held_by k =
    record { state = k.handler; batch = k.batch; tokens = k.tokens; latest = k.latest }

-- its journal
abbrev pub journal_of : {H J : Type 0} → Kept H J → J
journal_of k = k.journal

-- what the first block of its journal begins with
abbrev pub preface_of : {H J : Type 0} → Kept H J → Preface
preface_of k = (k.preface.items, k.has_zeros)

-- where the blocks of its journal ended at its last snapshot
abbrev pub base_of : {H J : Type 0} → Kept H J → ℕ
base_of k = k.base

-- its journal has no block
abbrev pub is_new : {H J : Type 0} → Kept H J → Bool
is_new k = k.is_new

-- its preface is as it was, and whether its journal is new
abbrev pub StaysInJournal : {H J : Type 0} → Kept H J → Kept H J → Type 0
StaysInJournal old new = (preface_of new ≡ preface_of old) × (is_new new ≡ is_new old)

-- its batch and its preface are as they were, and whether its journal is new
pub record StaysAsKept {H J : Type 0} (old new : Kept H J) : Type 0 where
  pub batch : (held_by new).batch ≡ (held_by old).batch
  pub preface : preface_of new ≡ preface_of old
  pub novelty : is_new new ≡ is_new old

-- how many quiet moments in a row it let pass
abbrev pub quiet_of : {H J : Type 0} → Kept H J → ℕ
quiet_of k = k.quiet

-- the most that it lets pass in a row
abbrev pub beat : ℕ
beat = 4

-- In a quiet moment a server sees that no other opening went on with its journal, and that its disk
-- still keeps what it is told; or it lets the moment pass, as one of so many in a row.
abbrev pub IsBeat : {H J : Type 0} → (J → Type 0) → (J → Type 0) → (J → Type 0) → Kept H J
    → Kept H J → Type 0
IsBeat is_clean is_own is_synced old new =
    ((is_clean (journal_of new) → is_own (journal_of old)) × is_synced (journal_of new)
    × (quiet_of new ≡ 0))
    ⊎ ((journal_of new ≡ journal_of old) × (quiet_of new ≡ suc (quiet_of old))
    × (quiet_of new ≤ beat))
