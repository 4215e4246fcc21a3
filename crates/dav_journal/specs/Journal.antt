-- What contracts see of a journal.
use Rattle.std.specs.Prelude.{◌≡◌, ◌≢◌, ◌⊎◌, ℕ, ◌+◌, ◌<◌, ◌≤◌, ◌^◌, List, [], ◌∷◌, ◌++◌, length, slice_index, IsTrue}
use Rattle.std.specs.Int.{w64, to_be_bytes}
use Rattle.sqlite_disk.specs.Disk.{Holds, Only}
use Rattle.sqlite_disk.specs.declared.Disk.{Ghosts}
use Rattle.dav_journal.specs.Block.{AreBlocks, IsBlock, IsNoBlock, block_bytes, front_of}
use Rattle.dav_journal.specs.File.{Recovers}
use Rattle.dav_journal.specs.Mark.{AreMarks, IsBlank, IsMarkPlace, NoneMarkedPast}
use Rattle.dav_journal.specs.declared.journal.Journal.{Journal}

-- the disk under a journal
abbrev pub disk_of : {D : Type 0} → Journal D → D
disk_of j = j.disk

-- the bytes of its file, as they read
abbrev pub file_of : {D : Type 0} → Ghosts D → Journal D → List ℕ
file_of g j = g.seen j.disk

-- its disk told no lie that was taken for true
abbrev pub IsClean : {D : Type 0} → Ghosts D → Journal D → Type 0
IsClean g j = IsTrue (g.is_clean j.disk)

-- a crash leaves its file as it reads
abbrev pub IsSynced : {D : Type 0} → Ghosts D → Journal D → Type 0
IsSynced g j = Only (g.seen j.disk) (g.may_leave j.disk)

-- where its blocks end
abbrev pub blocks_end : {D : Type 0} → Journal D → ℕ
blocks_end j = j.end

-- how long its file is
abbrev pub blocks_len : {D : Type 0} → Journal D → ℕ
blocks_len j = j.len

-- Blocks of these contents were read, and the file is on the disk as it reads.
pub record IsReading {D : Type 0} (g : Ghosts D) (j : Journal D) (contents : List (List ℕ)) : Type 0 where
  pub small : j.key < 2 ^ 64
  pub front : Holds (g.seen j.disk) 0 (front_of j.key)
  pub blocks : AreBlocks j.key (g.seen j.disk) 72 contents j.end
  pub only : Only (g.seen j.disk) (g.may_leave j.disk)
  pub whole : length (g.seen j.disk) ≡ j.len

-- Blocks of these contents were read, and no other follows, whatever the marks say.
pub record IsAtEnd {D : Type 0} (g : Ghosts D) (j : Journal D) (contents : List (List ℕ)) : Type 0 where
  pub reading : IsReading g j contents
  pub nothing : IsNoBlock j.key (g.seen j.disk) j.end

-- They are all that the file has: no block follows them, but a byte at least, and no mark says that they reached further.
pub record HasRead {D : Type 0} (g : Ghosts D) (j : Journal D) (contents : List (List ℕ)) : Type 0 where
  pub reading : IsReading g j contents
  pub nothing : IsNoBlock j.key (g.seen j.disk) j.end
  pub more : j.end < length (g.seen j.disk)
  pub unmarked : NoneMarkedPast (g.seen j.disk) j.end

-- the same, with marks as a crash may leave them, and zeros where the next one is written
pub record IsCleared {D : Type 0} (g : Ghosts D) (j : Journal D) (contents : List (List ℕ)) : Type 0 where
  pub read : HasRead g j contents
  pub marks : AreMarks (g.seen j.disk) j.end
  pub place : IsMarkPlace j.mark
  pub blank : IsBlank (g.seen j.disk) j.mark

-- a file has blocks of these contents up to a place, zeros from there up to another, and marks of places up to the first
pub record Rests (key : ℕ) (contents : List (List ℕ)) (end zeros : ℕ) (file : List ℕ) : Type 0 where
  pub front : Holds file 0 (front_of key)
  pub blocks : AreBlocks key file 72 contents end
  pub within : zeros ≤ length file
  pub some : end < zeros
  pub blank : (i : ℕ) → end ≤ i → i < zeros → slice_index file i ≡ 0
  pub marks : AreMarks file end

-- The journal keeps these contents: whatever a crash now leaves has them, and no others.
pub record IsKept {D : Type 0} (g : Ghosts D) (j : Journal D) (contents : List (List ℕ)) : Type 0 where
  pub small : j.key < 2 ^ 64
  pub low : j.zeros ≤ j.len
  pub outcomes : (c : List ℕ) → g.may_leave j.disk c → Rests j.key contents j.end j.zeros c
  pub place : IsMarkPlace j.mark
  pub blank : IsBlank (g.seen j.disk) j.mark

-- a file has blocks of these contents up to a place, and there a gate that isn't open, or too few bytes for a block
pub record Ends (key : ℕ) (contents : List (List ℕ)) (end : ℕ) (file : List ℕ) : Type 0 where
  pub front : Holds file 0 (front_of key)
  pub blocks : AreBlocks key file 72 contents end
  pub more : end < length file
  pub shut : (slice_index file end ≢ 1) ⊎ (length file < end + 49)
  pub marks : AreMarks file end

-- whatever a crash now leaves is such a file
pub record IsShut {D : Type 0} (g : Ghosts D) (j : Journal D) (contents : List (List ℕ)) : Type 0 where
  pub small : j.key < 2 ^ 64
  pub outcomes : (c : List ℕ) → g.may_leave j.disk c → Ends j.key contents j.end c
  pub place : IsMarkPlace j.mark
  pub blank : IsBlank (g.seen j.disk) j.mark

-- each outcome of a crash stands for these contents, or for these with one more
abbrev pub LeavesAtMost : {D : Type 0} → Ghosts D → D → List (List ℕ) → List ℕ → Type 0
LeavesAtMost g disk contents content = (c : List ℕ) → g.may_leave disk c → Recovers c contents ⊎ Recovers c (contents ++ content ∷ [])

-- each outcome of a crash of a journal stands for these contents
abbrev pub LeavesOnly : {D : Type 0} → Ghosts D → Journal D → List (List ℕ) → Type 0
LeavesOnly g j contents = (c : List ℕ) → g.may_leave j.disk c → Recovers c contents

-- each outcome of a crash stands for the first contents, or for the other ones
abbrev pub LeavesEither : {D : Type 0} → Ghosts D → D → List (List ℕ) → List (List ℕ) → Type 0
LeavesEither g disk one other =
    (c : List ℕ) → g.may_leave disk c → Recovers c one ⊎ Recovers c other

-- a file has the front with this key, and at least a byte where the blocks begin
pub record HasFront (key : ℕ) (file : List ℕ) : Type 0 where
  pub front : Holds file 0 (front_of key)
  pub more : 72 < length file

-- a file is that of a journal, of whatever blocks and marks
pub record IsJournal (file : List ℕ) : Type 0 where
  pub key : ℕ
  pub small : key < 2 ^ 64
  pub has : HasFront key file

-- a first block begins with a generation that is lower
pub record BeginsBelow (generation : ℕ) (block : List ℕ) : Type 0 where
  pub own : ℕ
  pub lower : own < generation
  pub content : List ℕ
  pub begins : block ≡ to_be_bytes w64 own ++ content

-- a file is that of a journal, of whatever marks, and has no first block but one of an older generation
pub record IsBehind (generation : ℕ) (file : List ℕ) : Type 0 where
  pub key : ℕ
  pub small : key < 2 ^ 64
  pub has : HasFront key file
  pub older : (block : List ℕ) → IsBlock key file 72 block → BeginsBelow generation block

-- each outcome of a crash of a journal is such a file
abbrev pub LeavesBehind : {D : Type 0} → Ghosts D → Journal D → ℕ → Type 0
LeavesBehind g j generation = (c : List ℕ) → g.may_leave j.disk c → IsBehind generation c

-- Whatever a crash now leaves is the file of a journal, of whatever blocks.
pub record IsOpened {D : Type 0} (g : Ghosts D) (j : Journal D) : Type 0 where
  pub small : j.key < 2 ^ 64
  pub outcomes : (c : List ℕ) → g.may_leave j.disk c → HasFront j.key c

-- the same, where a crash leaves the file as it reads, and it has no marks
pub record IsBare {D : Type 0} (g : Ghosts D) (j : Journal D) : Type 0 where
  pub small : j.key < 2 ^ 64
  pub has : HasFront j.key (g.seen j.disk)
  pub only : Only (g.seen j.disk) (g.may_leave j.disk)
  pub place : IsMarkPlace j.mark
  pub blank : (at : ℕ) → IsMarkPlace at → IsBlank (g.seen j.disk) at

-- a disk was only read
pub record OnlyReads {D : Type 0} (g : Ghosts D) (old new : D) : Type 0 where
  pub seen : g.seen new ≡ g.seen old
  pub crash : (c : List ℕ) → g.may_leave new c → g.may_leave old c
  pub clean : IsTrue (g.is_clean new) → IsTrue (g.is_clean old)

-- a journal only read its disk, and stays at its place
pub record Stays {D : Type 0} (g : Ghosts D) (old new : Journal D) : Type 0 where
  pub reads : OnlyReads g old.disk new.disk
  pub key : new.key ≡ old.key
  pub end : new.end ≡ old.end
  pub len : new.len ≡ old.len

-- these are the bytes of a block with this content at the end of a journal, and of the shut gate after it
abbrev pub IsWrittenBlock : {D : Type 0} → Journal D → List ℕ → List ℕ → Type 0
IsWrittenBlock j content bytes = bytes ≡ block_bytes j.key j.end content ++ 0 ∷ []

-- a journal only read its disk, and is as it was
pub record OnlyLooks {D : Type 0} (g : Ghosts D) (old new : Journal D) : Type 0 where
  pub reads : OnlyReads g old.disk new.disk
  pub same : new ≡ record old { disk = new.disk }

-- No other opening goes on with the file of a journal: where its blocks end there is no block; and where it has some, the first is there, and
-- begins with these bytes.
pub record IsOwn {D : Type 0} (g : Ghosts D) (j : Journal D) (begins : List ℕ) : Type 0 where
  pub nothing : IsNoBlock j.key (g.seen j.disk) j.end
  pub first : j.end ≢ 72 → (slice_index (g.seen j.disk) 72 ≡ 1) × Holds (g.seen j.disk) 121 begins
