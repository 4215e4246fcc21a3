-- What the file of a journal has.
use Rattle.std.specs.Prelude.{◌≡◌, ℕ, ◌<◌, ◌≤◌, ◌^◌, List, length, drop, codes}
use Rattle.sqlite_disk.specs.Disk.{Holds}
use Rattle.dav_journal.specs.Block.{AreBlocks, IsNoBlock, front_of, zeros_in}
use Rattle.dav_journal.specs.Mark.{AreMarks, IsFaint}

-- A file stands for these contents: it has the front, and then, from byte 72 on, blocks of them. After the last there is at least a byte,
-- and no block. No mark says that the blocks reached further.
pub record Recovers (file : List ℕ) (contents : List (List ℕ)) : Type 0 where
  pub key : ℕ
  pub small : key < 2 ^ 64
  pub front : Holds file 0 (front_of key)
  pub end : ℕ
  pub blocks : AreBlocks key file 72 contents end
  pub more : end < length file
  pub nothing : IsNoBlock key file end
  pub marks : AreMarks file end

-- all of the bytes are 0
abbrev pub AreZeros : List ℕ → Type 0
AreZeros bytes = zeros_in bytes ≡ length bytes

-- What a crash may leave of the first 73 bytes of a file, which are written at once: of the version some bytes, any key, and then zeros.
abbrev pub IsBegun : List ℕ → Type 0
IsBegun file = (length file ≤ 73) × IsFaint file 0 (codes "vuldarg2") × AreZeros (drop 24 file)
