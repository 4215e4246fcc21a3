-- The run of the records of a server, whose journal may begin anew, from turn to turn and from life to life.
use Rattle.std.specs.Prelude.{◌≡◌, ◌⊎◌, ℕ, Bool, true, IsTrue, List, [], ◌∷◌, ◌++◌, Option, Some, None}
use Rattle.http_server.specs.declared.response.Response.{Response}
use Rattle.dav_kept.specs.Kept.{Holding, IsRunOf, RecordsFollow, Snapshot, StaysInJournal, answer_step, committed, first_block, first_day, held_by, is_new, journal_of, preface_of, snapshot_of, with_batch, with_first, with_snapshot}
use Rattle.dav_kept.specs.Life.{IsRunSince}
use Rattle.dav_kept.specs.Records.{RecordView, RequestView, records_bytes}
use Rattle.dav_kept.specs.declared.kept.Kept.{Kept}
use Rattle.dav_live.specs.Numbered.{AreNumbered}

-- ---- what is kept

-- The run of the records goes on: more may follow in the batch, with tokens of the next numbers, and the journal keeps the blocks that it
-- kept.
pub record GoesOn {H J : Type 0} (answers : H → RequestView → Response → H → Type 0) (is_clean : J → Type 0)
    (kept : J → List (List ℕ) → Type 0) (old new : Kept H J) : Type 0 where
  pub follows : RecordsFollow (answer_step answers) (held_by old) (held_by new)
  pub numbered : AreNumbered (held_by old).tokens follows.plays.leads.records
  pub stays : StaysInJournal old new
  pub clean : is_clean (journal_of new) → is_clean (journal_of old)
  pub keeps : (blocks : List (List ℕ)) → kept (journal_of old) blocks → kept (journal_of new) blocks

-- What is held is as it was, and so are the blocks that the journal keeps.
pub record StaysKept {H J : Type 0} (is_clean : J → Type 0) (kept : J → List (List ℕ) → Type 0) (old new : Kept H J) : Type 0 where
  pub held : held_by new ≡ held_by old
  pub stays : StaysInJournal old new
  pub clean : is_clean (journal_of new) → is_clean (journal_of old)
  pub keeps : (blocks : List (List ℕ)) → kept (journal_of old) blocks → kept (journal_of new) blocks

-- All that was answered is kept: the batch is one more block of the journal.
pub record Commits {H J : Type 0} (is_clean : J → Type 0) (kept : J → List (List ℕ) → Type 0) (old new : Kept H J) : Type 0 where
  pub held : held_by new ≡ committed (held_by old)
  pub stays : StaysInJournal old new
  pub clean : is_clean (journal_of new) → is_clean (journal_of old)
  pub keeps : (blocks : List (List ℕ)) → kept (journal_of old) blocks
      → kept (journal_of new) (with_batch blocks (held_by old).batch)

-- All that was answered is kept, and the journal begins anew with a snapshot of the state; or it doesn't, since that can't be saved, or the
-- disk has no room for it.
pub record Saves {H J : Type 0} (saved : H → List ℕ) (is_saveable : H → Type 0) (is_clean : J → Type 0)
    (kept : J → List (List ℕ) → Type 0) (old new : Kept H J) : Type 0 where
  pub is_made : Bool
  pub saveable : IsTrue is_made → is_saveable (held_by old).state
  pub held : held_by new ≡ committed (held_by old)
  pub stays : StaysInJournal old new
  pub clean : is_clean (journal_of new) → is_clean (journal_of old)
  pub keeps : is_clean (journal_of new) → (blocks : List (List ℕ)) → kept (journal_of old) blocks
      → kept (journal_of new) (with_snapshot is_made (first_block (preface_of old) (Some (snapshot_of saved (held_by old))))
      (with_batch blocks (held_by old).batch))

-- ---- one run, from turn to turn

-- The server's state is that of the run of these records since its first day, from a first one, with tokens of the numbers from 0 on; and
-- the journal has the snapshot of those that came before it, if there is one, and the blocks of the others but for those in the batch, and
-- no others, whatever a crash leaves of it from now on.
pub record IsOneRun {H J : Type 0} (answers : H → RequestView → Response → H → Type 0) (saved : H → List ℕ) (is_saveable : H → Type 0)
    (kept : J → List (List ℕ) → Type 0) (first : H) (records : List RecordView) (k : Kept H J) : Type 0 where
  pub start : Option Snapshot
  pub blocks : List (List ℕ)
  pub since : IsRunSince (answer_step answers) saved is_saveable first start blocks (held_by k)
  pub are : since.all.records ≡ records
  pub numbered : AreNumbered 0 records
  pub is_kept : kept (journal_of k) (first_block (preface_of k) start ∷ blocks)

-- The run of the records goes on, whichever it is: more may follow. No lie that a disk told before was taken for true, where none is.
pub record RunGoesOn {H J : Type 0} (answers : H → RequestView → Response → H → Type 0) (saved : H → List ℕ) (is_saveable : H → Type 0)
    (is_clean : J → Type 0) (kept : J → List (List ℕ) → Type 0) (old new : Kept H J) : Type 0 where
  pub clean : is_clean (journal_of new) → is_clean (journal_of old)
  pub goes_on : is_clean (journal_of new) → (first : H) (records : List RecordView) → IsOneRun answers saved is_saveable kept first records old
      → (more : List RecordView) × IsOneRun answers saved is_saveable kept first (records ++ more) new

-- ---- from life to life

-- A server that was opened: its state is that of the run of the records of these blocks, from a first one or from what is loaded of this
-- snapshot; it answered nothing yet; and these are all that its journal has after the preface. A journal without a preface is new.
pub record IsOpened {H J : Type 0} (answers : H → RequestView → Response → H → Type 0) (loads : H → List ℕ → H → Type 0)
    (has_read : J → List (List ℕ) → Type 0) (first : H) (start : Option Snapshot) (blocks : List (List ℕ)) (k : Kept H J) : Type 0 where
  pub run : IsRunOf (answer_step answers) loads first start blocks (held_by k)
  pub empty : (held_by k).batch ≡ []
  pub read : has_read (journal_of k) (with_first (is_new k) (first_block (preface_of k) start) blocks)
  pub none : is_new k ≡ true → (blocks ≡ []) × (start ≡ None)

-- Nothing was kept yet: the journal has no block, or the first one alone, without a snapshot.
abbrev pub IsFirstDay : Bool → Option Snapshot → List (List ℕ) → Type 0
IsFirstDay is_new start blocks = (is_new ≡ true) ⊎ ((start ≡ None) × (blocks ≡ []))

-- A server begins a run: it holds what is held on a first day, and that is the run of no records.
pub record BeginsRun {S : Type 0} (answers : S → RequestView → Response → S → Type 0) (saved : S → List ℕ) (is_saveable : S → Type 0)
    (first : S) (start : Option Snapshot) (blocks : List (List ℕ)) (now : Holding S) : Type 0 where
  pub held : now ≡ first_day first
  pub since : IsRunSince (answer_step answers) saved is_saveable first start blocks now
  pub are : since.all.records ≡ []

-- What a crash leaves of the journal of a server that keeps this snapshot and these blocks, whatever it does: these; or these and the
-- batch, where that is committed; or the snapshot of what is held, where the journal begins anew.
pub data IsLeft {S : Type 0} (saved : S → List ℕ) (is_saveable : S → Type 0) (start : Option Snapshot) (blocks : List (List ℕ))
    (now : Holding S) : Option Snapshot → List (List ℕ) → Type 0 where
  as_before : IsLeft saved is_saveable start blocks now start blocks
  with_the_batch : IsLeft saved is_saveable start blocks now start (with_batch blocks now.batch)
  begun_anew : is_saveable now.state → IsLeft saved is_saveable start blocks now (Some (snapshot_of saved now)) []

-- A server that starts over what is left goes on with the run of these records: it ran the first of them, and what it left out was in the
-- batch, so no reply of it was released. Where it left out none it holds what was held.
pub record StartsWith {S : Type 0} (answers : S → RequestView → Response → S → Type 0) (saved : S → List ℕ) (is_saveable : S → Type 0)
    (first : S) (records : List RecordView) (old : Holding S) (start : Option Snapshot) (blocks : List (List ℕ)) (new : Holding S) : Type 0 where
  pub since : IsRunSince (answer_step answers) saved is_saveable first start blocks new
  pub rest : List RecordView
  pub front : records ≡ since.all.records ++ rest
  pub numbered : AreNumbered 0 since.all.records
  pub unreleased : (rest ≡ []) ⊎ (records_bytes rest ≡ old.batch)
  pub whole : rest ≡ [] → new ≡ committed old
