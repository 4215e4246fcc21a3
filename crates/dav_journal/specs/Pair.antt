-- Two files, of which one counts: what they stand for, and what contracts see of a pair of
-- journals.
use Rattle.std.specs.Prelude.{◌≡◌, ◌≢◌, ◌⊎◌, ℕ, zero, suc, ◌<◌, ◌^◌, List, Option, Some, None, MatchOption, length, slice_index, [], ◌∷◌, ◌++◌, IsTrue}
use Rattle.std.specs.Int.{w64, to_be_bytes}
use Rattle.sqlite_disk.specs.Disk.{Holds, Only}
use Rattle.sqlite_disk.specs.declared.Disk.{Ghosts}
use Rattle.dav_journal.specs.Block.{AreBlocks, IsBlock, IsNoBlock}
use Rattle.dav_journal.specs.File.{IsBegun, Recovers}
use Rattle.dav_journal.specs.Journal.{BeginsBelow, HasFront, HasRead, IsBehind, IsClean, IsKept, IsOwn, IsReading, OnlyLooks, OnlyReads, Stays, disk_of, file_of}
use Rattle.dav_journal.specs.Mark.{NoneMarkedPast}
use Rattle.dav_journal.specs.declared.journal.Journal.{Journal}
use Rattle.dav_journal.specs.declared.pair.Pair.{Pair}

-- contents as the blocks of a file have them: the first one begins with the generation of the file,
-- in 8 bytes
abbrev pub with_generation : ℕ → List (List ℕ) → List (List ℕ)
with_generation generation [] = []
with_generation generation (content ∷ contents) = (to_be_bytes w64 generation ++ content) ∷ contents

-- What is beside a file of a generation and of contents. In the first generation, and where there are
-- no contents, it has no block, and no mark of one; later its first block is of an older generation, or
-- it has none, whatever its marks say.
abbrev pub IsBeside : ℕ → List (List ℕ) → List ℕ → Type 0
IsBeside zero contents other = Recovers other []
IsBeside (suc before) [] other = Recovers other []
IsBeside (suc before) (content ∷ contents) other = IsBehind (suc before) other

-- A file has blocks of these contents and of a generation, and the other one is such a file beside it.
pub record Counts (file other : List ℕ) (contents : List (List ℕ)) : Type 0 where
  pub generation : ℕ
  pub small : generation < 2 ^ 64
  pub counts : Recovers file (with_generation generation contents)
  pub beside : IsBeside generation contents other

-- A pair of files stands for these contents: one of them counts, whichever.
abbrev pub PairRecovers : List ℕ → List ℕ → List (List ℕ) → Type 0
PairRecovers one other contents = Counts one other contents ⊎ Counts other one contents

-- the journal that counts
abbrev pub counting : {D : Type 0} → Pair D → Journal D
counting p = p.counts

-- the other one
abbrev pub spare_of : {D : Type 0} → Pair D → Journal D
spare_of p = p.spare

-- the generation of the one that counts
abbrev pub generation_of : {D : Type 0} → Pair D → ℕ
generation_of p = p.generation

-- neither disk told a lie that was taken for true
abbrev pub IsCleanPair : {D : Type 0} → Ghosts D → Pair D → Type 0
IsCleanPair g p = IsClean g p.counts × IsClean g p.spare

-- where a crash is mixing, of both disks
abbrev pub IsMixingPair : {D : Type 0} → Ghosts D → Pair D → Type 0
IsMixingPair g p = IsTrue (g.is_mixing (disk_of p.counts)) × IsTrue (g.is_mixing (disk_of p.spare))

-- both disks were only read
abbrev pub OnlyReadsPair : {D : Type 0} → Ghosts D → Pair D → Pair D → Type 0
OnlyReadsPair g old new =
    OnlyReads g (disk_of old.counts) (disk_of new.counts)
    × OnlyReads g (disk_of old.spare) (disk_of new.spare)

-- a file was opened: it was empty, or had what a crash left of the first write, or it was only read
abbrev pub WasOpened : {D : Type 0} → Ghosts D → Journal D → Journal D → Type 0
WasOpened g old new = IsBegun (file_of g old) ⊎ OnlyReads g (disk_of old) (disk_of new)

-- both files of a pair were opened, whichever counts now
abbrev pub WereOpened : {D : Type 0} → Ghosts D → Pair D → Pair D → Type 0
WereOpened g old new =
    (WasOpened g old.counts new.counts × WasOpened g old.spare new.spare)
    ⊎ (WasOpened g old.counts new.spare × WasOpened g old.spare new.counts)

-- whatever a crash leaves of the one file and of the other, they stand for the first contents, or
-- for the second ones
abbrev pub PairLeaves : {D : Type 0} → Ghosts D → Pair D → List (List ℕ) → List (List ℕ) → Type 0
PairLeaves g p one other =
    (c d : List ℕ) → g.may_leave (disk_of p.counts) c → g.may_leave (disk_of p.spare) d
    → PairRecovers c d one ⊎ PairRecovers c d other

-- they stand for these
abbrev pub PairLeavesOnly : {D : Type 0} → Ghosts D → Pair D → List (List ℕ) → Type 0
PairLeavesOnly g p contents =
    (c d : List ℕ) → g.may_leave (disk_of p.counts) c → g.may_leave (disk_of p.spare) d
    → PairRecovers c d contents

-- the files as they read stand for these
abbrev pub PairStandsFor : {D : Type 0} → Ghosts D → Pair D → List (List ℕ) → Type 0
PairStandsFor g p contents = PairRecovers (file_of g p.counts) (file_of g p.spare) contents

-- A journal that doesn't count: its file has the front, and no first block but one of a lower
-- generation.
pub record IsSpare {D : Type 0} (g : Ghosts D) (j : Journal D) (generation : ℕ) : Type 0 where
  pub small : j.key < 2 ^ 64
  pub has : HasFront j.key (g.seen j.disk)
  pub only : Only (g.seen j.disk) (g.may_leave j.disk)
  pub older : (block : List ℕ) → IsBlock j.key (g.seen j.disk) 72 block
      → BeginsBelow generation block

-- Blocks of these contents were read in the file that counts.
pub record IsReadingPair {D : Type 0} (g : Ghosts D) (p : Pair D) (contents : List (List ℕ))
    : Type 0 where
  pub small : p.generation < 2 ^ 64
  pub reading : IsReading g p.counts (with_generation p.generation contents)
  pub spare : IsSpare g p.spare p.generation

-- They are all that it has. Where there are none, neither file has a block.
pub record HasReadPair {D : Type 0} (g : Ghosts D) (p : Pair D) (contents : List (List ℕ))
    : Type 0 where
  pub small : p.generation < 2 ^ 64
  pub read : HasRead g p.counts (with_generation p.generation contents)
  pub spare : IsSpare g p.spare p.generation
  pub none : contents ≡ [] → p.generation ≡ 0

-- Blocks of these contents were read in the file that counts. Where there are some, they are all that
-- it has: no block follows them, and no mark says that they reached further.
pub record HasAllPair {D : Type 0} (g : Ghosts D) (p : Pair D) (contents : List (List ℕ))
    : Type 0 where
  pub reading : IsReadingPair g p contents
  pub all : contents ≢ [] → HasReadPair g p contents

-- The pair keeps these contents: whatever a crash now leaves has them, and no others. The other
-- file has no block.
pub record IsKeptPair {D : Type 0} (g : Ghosts D) (p : Pair D) (contents : List (List ℕ))
    : Type 0 where
  pub small : p.generation < 2 ^ 64
  pub kept : IsKept g p.counts (with_generation p.generation contents)
  pub spare : IsKept g p.spare []

-- A pair only read, and stays at its place.
pub record StaysPair {D : Type 0} (g : Ghosts D) (old new : Pair D) : Type 0 where
  pub counts : Stays g (counting old) (counting new)
  pub spare : spare_of new ≡ spare_of old
  pub generation : generation_of new ≡ generation_of old

-- a first block begins with this generation
pub record BeginsWith (generation : ℕ) (block : List ℕ) : Type 0 where
  pub content : List ℕ
  pub begins : block ≡ to_be_bytes w64 generation ++ content

-- a file has a first block, and of this generation
pub record HasGeneration (key : ℕ) (file : List ℕ) (generation : ℕ) : Type 0 where
  pub small : generation < 2 ^ 64
  pub block : List ℕ
  pub is : IsBlock key file 72 block
  pub begins : BeginsWith generation block

-- the generation of a file, where it has a first block
pub record HasFirst {D : Type 0} (g : Ghosts D) (j : Journal D) (generation : Option ℕ)
    : Type 0 where
  pub more : 72 < length (file_of g j)
  pub first : MatchOption generation (IsNoBlock j.key (file_of g j) 72)
      (HasGeneration j.key (file_of g j))

-- a journal is of this generation: its first block begins with it, or it has none, and that is 0
abbrev pub IsOfGeneration : {D : Type 0} → Ghosts D → Journal D → ℕ → Type 0
IsOfGeneration g j generation =
    HasFirst g j (Some generation) ⊎ (HasFirst g j None × (generation ≡ 0))

-- whatever a crash leaves of the one file and of the other, the first stands for blocks of before, or
-- both for these contents
abbrev pub LeavesFormer : {D : Type 0} → Ghosts D → Pair D → List (List ℕ) → List (List ℕ) → Type 0
LeavesFormer g p former contents =
    (c d : List ℕ) → g.may_leave (disk_of p.counts) c → g.may_leave (disk_of p.spare) d
    → Recovers c former ⊎ PairRecovers c d contents

-- A pair only read its files, and is as it was.
pub record OnlyLooksPair {D : Type 0} (g : Ghosts D) (old new : Pair D) : Type 0 where
  pub counts : OnlyLooks g (counting old) (counting new)
  pub spare : OnlyLooks g (spare_of old) (spare_of new)
  pub generation : generation_of new ≡ generation_of old

-- No other opening goes on with the files of a pair: in the one that counts no block is behind those
-- that the pair knows, and the first one is of the generation that it goes on with; and no block is in
-- the other one.
abbrev pub IsOwnPair : {D : Type 0} → Ghosts D → Pair D → Type 0
IsOwnPair g p =
    IsOwn g p.counts (to_be_bytes w64 p.generation)
    × IsNoBlock p.spare.key (g.seen p.spare.disk) p.spare.end

-- No other opening began anew with the files of a pair: in the one that counts the first block is there, and of the generation that was
-- read; and no block is where the other one's would begin.
pub record IsUnturned {D : Type 0} (g : Ghosts D) (p : Pair D) : Type 0 where
  pub gate : slice_index (g.seen p.counts.disk) 72 ≡ 1
  pub first : Holds (g.seen p.counts.disk) 121 (to_be_bytes w64 p.generation)
  pub other : IsNoBlock p.spare.key (g.seen p.spare.disk) p.spare.end

-- No other opening went on with the files of a pair since they were read: no mark says that the blocks
-- of the file that counts reach further, and the first one is of the generation that was read; where
-- there are none, no mark tells of one in the other file.
pub record IsAsRead {D : Type 0} (g : Ghosts D) (p : Pair D) : Type 0 where
  pub unmarked : NoneMarkedPast (g.seen p.counts.disk) p.counts.end
  pub first : p.counts.end ≢ 72 → (slice_index (g.seen p.counts.disk) 72 ≡ 1)
      × Holds (g.seen p.counts.disk) 121 (to_be_bytes w64 p.generation)
  pub other : p.counts.end ≡ 72 → NoneMarkedPast (g.seen p.spare.disk) p.spare.end

-- Another opening went on with the files of a pair: in the one that counts a block is behind those
-- that the pair knows; or it knows some, and the file has blocks of another generation, or none; or
-- a block is in the other file.
pub data IsPassed {D : Type 0} (g : Ghosts D) (p : Pair D) : Type 0 where
  behind : (before more : List (List ℕ)) (opening : List ℕ) (last : ℕ)
      → AreBlocks p.counts.key (g.seen p.counts.disk) 72 before p.counts.end
      → AreBlocks p.counts.key (g.seen p.counts.disk) 72 (before ++ opening ∷ more) last
      → IsPassed g p
  anew : p.counts.end ≢ 72 → p.generation < 2 ^ 64 → (generation : ℕ) → generation ≢ p.generation
      → HasGeneration p.counts.key (g.seen p.counts.disk) generation → IsPassed g p
  cleared : p.counts.end ≢ 72 → slice_index (g.seen p.counts.disk) 72 ≢ 1 → IsPassed g p
  other : (block : List ℕ) → IsBlock p.spare.key (g.seen p.spare.disk) p.spare.end block
      → IsPassed g p

-- Two journals are over one file, and have the same key of it.
pub record AreOfOneFile {D : Type 0} (g : Ghosts D) (one other : Journal D) : Type 0 where
  pub file : file_of g other ≡ file_of g one
  pub key : other.key ≡ one.key

-- A pair knows these contents: the file that counts had blocks of them at some time, up to where it
-- takes them to end; and the other one had none.
pub record Knows {D : Type 0} (p : Pair D) (contents : List (List ℕ)) : Type 0 where
  pub small : p.generation < 2 ^ 64
  pub file : List ℕ
  pub blocks : AreBlocks p.counts.key file 72 (with_generation p.generation contents) p.counts.end
  pub spare : p.spare.end ≡ 72

-- What a later opening of the same files keeps, where an earlier one knows these contents: a block more
-- behind them; or blocks of another generation in that file; or blocks in the other one.
pub data GoesOn {D : Type 0} (g : Ghosts D) (earlier later : Pair D) (contents : List (List ℕ))
    : List (List ℕ) → Type 0 where
  with_more : (opening : List ℕ) (more : List (List ℕ))
      → AreOfOneFile g earlier.counts later.counts → later.generation ≡ earlier.generation
      → GoesOn g earlier later contents (contents ++ opening ∷ more)
  begun_anew : (opening : List ℕ) (more : List (List ℕ))
      → AreOfOneFile g earlier.counts later.counts → later.generation ≢ earlier.generation
      → GoesOn g earlier later contents (opening ∷ more)
  in_the_other : (opening : List ℕ) (more : List (List ℕ))
      → AreOfOneFile g earlier.spare later.counts
      → GoesOn g earlier later contents (opening ∷ more)
