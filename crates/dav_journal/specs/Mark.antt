-- Marks: three places between the front of a file and its first block, each of which can say how far its blocks reached.
use Rattle.std.specs.Prelude.{◌≡◌, ◌⊎◌, ℕ, ◌+◌, ◌<◌, ◌≤◌, ◌^◌, ◌==◌, if◌then◌else◌, List, length, slice_index}
use Rattle.sqlite_disk.specs.Disk.{Holds}
use Rattle.dav_journal.specs.Block.{twice}

-- where the marks are
abbrev pub IsMarkPlace : ℕ → Type 0
IsMarkPlace at = (at ≡ 24) ⊎ ((at ≡ 40) ⊎ (at ≡ 56))

-- the place of the mark that is written after the one at this place
abbrev pub mark_after : ℕ → ℕ
mark_after at = if at == 24 then 40 else if at == 40 then 56 else 24

-- no mark of a file says that its blocks reached past this place
abbrev pub NoneMarkedPast : List ℕ → ℕ → Type 0
NoneMarkedPast file end = (at : ℕ) → IsMarkPlace at → (n : ℕ) → n < 2 ^ 64 → Holds file at (twice n) → n ≤ end

-- the place and the number of the last mark of a file, 0 where it has none
pub record IsLastMark (file : List ℕ) (place number : ℕ) : Type 0 where
  pub some : 0 < number → Holds file place (twice number)
  pub most : NoneMarkedPast file number

-- each byte at this place is 0 or as in these bytes: what a crash leaves of a write over zeros
abbrev pub IsFaint : List ℕ → ℕ → List ℕ → Type 0
IsFaint file at bytes = (i : ℕ) → i < length bytes → (slice_index file (at + i) ≡ 0) ⊎ (slice_index file (at + i) ≡ slice_index bytes i)

-- what a crash may leave of a mark which says that the blocks reached some place up to this one
pub record IsMark (file : List ℕ) (end at : ℕ) : Type 0 where
  pub n : ℕ
  pub small : n < 2 ^ 64
  pub low : n ≤ end
  pub faint : IsFaint file at (twice n)

-- each mark of a file is such a one
abbrev pub AreMarks : List ℕ → ℕ → Type 0
AreMarks file end = (at : ℕ) → IsMarkPlace at → IsMark file end at

-- a file is as it was but for its marks
pub record KeepsOthers (old new : List ℕ) : Type 0 where
  pub same_length : length new ≡ length old
  pub low : (i : ℕ) → i < 24 → slice_index new i ≡ slice_index old i
  pub high : (i : ℕ) → 72 ≤ i → slice_index new i ≡ slice_index old i

-- zeros are at the place of a mark
abbrev pub IsBlank : List ℕ → ℕ → Type 0
IsBlank file at = (i : ℕ) → i < 16 → slice_index file (at + i) ≡ 0
