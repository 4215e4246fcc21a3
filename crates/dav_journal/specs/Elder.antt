-- The elder format, of the files that begin with `vuldarg1`: one file, its blocks without gates and
-- marks. How it is read, and how such a file becomes the first of a pair.
use Rattle.std.specs.Prelude.{◌≡◌, ◌⊎◌, ℕ, ◌+◌, ◌<◌, ◌≤◌, ◌^◌, List, [], ◌∷◌, ◌++◌, length, codes, IsTrue}
use Rattle.std.specs.Int.{w64, to_be_bytes}
use Rattle.sqlite_disk.specs.Digest.{digest}
use Rattle.sqlite_disk.specs.Disk.{Holds, Only}
use Rattle.sqlite_disk.specs.declared.Disk.{Ghosts}
use Rattle.dav_journal.specs.declared.journal.Journal.{Journal}
use Rattle.dav_journal.specs.declared.pair.Pair.{Pair}
use Rattle.dav_journal.specs.Block.{digest_at}
use Rattle.dav_journal.specs.File.{IsBegun, Recovers}
use Rattle.dav_journal.specs.Journal.{disk_of}
use Rattle.dav_journal.specs.Mark.{IsFaint}
use Rattle.dav_journal.specs.Write.{HasZeros}

-- the 24 bytes of a block's head: the length of the content, its digest, and the head's own
unfoldable pub elder_head : ℕ → ℕ → List ℕ → List ℕ
elder_head key place content =
    to_be_bytes w64 (length content) ++ (to_be_bytes w64 (digest key content)
    ++ to_be_bytes w64 (digest_at key place (length content) (digest key content)))

-- the bytes of a block: its head and its content
abbrev pub elder_bytes : ℕ → ℕ → List ℕ → List ℕ
elder_bytes key place content = elder_head key place content ++ content

-- where a block ends that begins at this place and has so many bytes of content
abbrev pub elder_end : ℕ → ℕ → ℕ
elder_end at len = at + 24 + len

-- a block with this content, which isn't empty, is at this place
pub record IsElder (key : ℕ) (file : List ℕ) (at : ℕ) (content : List ℕ) : Type 0 where
  pub some : 0 < length content
  pub small : length content < 2 ^ 64
  pub holds : Holds file at (elder_bytes key at content)

-- no block is at this place
abbrev pub IsNoElder : ℕ → List ℕ → ℕ → Type 0
IsNoElder key file at = (content : List ℕ) → ¬ IsElder key file at content

-- blocks of these contents follow one another, from this place up to that one
abbrev pub AreElder : ℕ → List ℕ → ℕ → List (List ℕ) → ℕ → Type 0
AreElder key file at [] end = at ≡ end
AreElder key file at (b ∷ bs) end =
    IsElder key file at b × AreElder key file (elder_end at (length b)) bs end

-- A file begins in the elder format, with this key: `vuldarg1`, of which bytes may have been lost,
-- and the key of its digests.
pub record HasElderFront (key : ℕ) (file : List ℕ) : Type 0 where
  pub version : IsFaint file 0 (codes "vuldarg1")
  pub key_there : Holds file 8 (to_be_bytes w64 key)

-- A file of the elder format stands for these contents: after its front, from byte 16 on, it has
-- blocks of them, and then no block.
pub record ElderRecovers (file : List ℕ) (contents : List (List ℕ)) : Type 0 where
  pub key : ℕ
  pub small : key < 2 ^ 64
  pub front : HasElderFront key file
  pub end : ℕ
  pub blocks : AreElder key file 16 contents end
  pub nothing : IsNoElder key file end

-- Blocks of these contents were read, and the file is on the disk as it reads.
pub record IsReadingElder {D : Type 0} (g : Ghosts D) (j : Journal D) (contents : List (List ℕ))
    : Type 0 where
  pub small : j.key < 2 ^ 64
  pub front : HasElderFront j.key (g.seen j.disk)
  pub blocks : AreElder j.key (g.seen j.disk) 16 contents j.end
  pub only : Only (g.seen j.disk) (g.may_leave j.disk)
  pub whole : length (g.seen j.disk) ≡ j.len

-- They are all that the file has.
pub record HasReadElder {D : Type 0} (g : Ghosts D) (j : Journal D) (contents : List (List ℕ))
    : Type 0 where
  pub reading : IsReadingElder g j contents
  pub nothing : IsNoElder j.key (g.seen j.disk) j.end

-- A file of the elder format was let go, whose first block had this content: its version is zeros,
-- and of the head of its first block bytes were lost, but none of the length of that content.
pub record IsLetGo (former file : List ℕ) : Type 0 where
  pub key : ℕ
  pub small : key < 2 ^ 64
  pub whole : 40 ≤ length file
  pub version : HasZeros file 0 8
  pub key_there : Holds file 8 (to_be_bytes w64 key)
  pub length_there : Holds file 16 (to_be_bytes w64 (length former))
  pub faint : IsFaint file 16 (elder_head key 16 former)
  pub lost : ¬ Holds file 16 (elder_head key 16 former)

-- a file of the elder format stands for a first block and these after it, or was let go
abbrev pub IsGoing : List ℕ → List (List ℕ) → List ℕ → Type 0
IsGoing former blocks file = ElderRecovers file (former ∷ blocks) ⊎ IsLetGo former file

-- what is left in the end of a file that was let go: 73 bytes, of which all are zeros but 16
pub record IsEmptied (file : List ℕ) : Type 0 where
  pub whole : length file ≡ 73
  pub version : HasZeros file 0 8
  pub rest : HasZeros file 24 73

-- each disk of this kind is mixing
abbrev pub Mixes : {D : Type 0} → Ghosts D → Type 0
Mixes {D} g = (disk : D) → IsTrue (g.is_mixing disk)

-- Two files stand for a first block and these after it: by the first one, of the elder format, or,
-- where that was let go, by the other one, in which another block is before them.
abbrev pub AreGoing : List ℕ → List ℕ → List (List ℕ) → List ℕ → List ℕ → Type 0
AreGoing former first blocks file other =
    ElderRecovers file (former ∷ blocks)
    ⊎ (IsLetGo former file × Recovers other ((to_be_bytes w64 0 ++ first) ∷ blocks))

-- whatever a crash leaves of both files, they are such ones
abbrev pub LeavesGoing : {D : Type 0} → Ghosts D → Pair D → List ℕ → List ℕ → List (List ℕ)
    → Type 0
LeavesGoing g p former first blocks =
    (c d : List ℕ) → g.may_leave (disk_of p.counts) c → g.may_leave (disk_of p.spare) d
    → AreGoing former first blocks c d

-- the same, or of the first one is left what `open` makes a journal of
abbrev pub LeavesGone : {D : Type 0} → Ghosts D → Pair D → List ℕ → List ℕ → List (List ℕ)
    → Type 0
LeavesGone g p former first blocks =
    (c d : List ℕ) → g.may_leave (disk_of p.counts) c → g.may_leave (disk_of p.spare) d
    → AreGoing former first blocks c d
    ⊎ (IsBegun c × Recovers d ((to_be_bytes w64 0 ++ first) ∷ blocks))
