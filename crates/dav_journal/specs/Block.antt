-- The bytes of blocks; numbers are big-endian.
use Rattle.std.specs.Prelude.{◌≡◌, ℕ, suc, ◌+◌, ◌-◌, ◌<◌, ◌^◌, ◌==◌, if◌then◌else◌, List, [], ◌∷◌, ◌++◌, length, codes}
use Rattle.std.specs.Int.{w64, to_be_bytes}
use Rattle.sqlite_disk.specs.Digest.{digest}
use Rattle.sqlite_disk.specs.Disk.{Holds}

-- how many of the bytes are 0
abbrev pub zeros_in : List ℕ → ℕ
zeros_in [] = 0
zeros_in (b ∷ bs) = if b == 0 then suc (zeros_in bs) else zeros_in bs

-- a number in 16 bytes: its eight bytes, and those of its complement. A byte of them that is lost, and is 0, shows.
unfoldable pub twice : ℕ → List ℕ
twice n = to_be_bytes w64 n ++ to_be_bytes w64 (2 ^ 64 - 1 - n)

-- The digest at the end of a block's head, by the journal's key: of the head's place in the file, of the length of the block's content, and
-- of that content's digest.
abbrev pub digest_at : ℕ → ℕ → ℕ → ℕ → ℕ
digest_at key place len told = digest key (to_be_bytes w64 place ++ (to_be_bytes w64 len ++ to_be_bytes w64 told))

-- the 48 bytes of a block's head, after its gate: the length of the content, how many of its bytes are 0, its digest, and the head's own
unfoldable pub head_of : ℕ → ℕ → List ℕ → List ℕ
head_of key place content =
    twice (length content) ++ (twice (zeros_in content) ++ (to_be_bytes w64 (digest key content) ++ to_be_bytes w64 (digest_at key place (length content) (digest key content))))

-- the bytes of a block: its gate, which is open, its head and its content
abbrev pub block_bytes : ℕ → ℕ → List ℕ → List ℕ
block_bytes key place content = 1 ∷ (head_of key place content ++ content)

-- where a block ends that begins at this place and has so many bytes of content, after a gate of 1 and a head of 48
abbrev pub end_of : ℕ → ℕ → ℕ
end_of at len = at + 49 + len

-- a block with this content is at this place
pub record IsBlock (key : ℕ) (file : List ℕ) (at : ℕ) (content : List ℕ) : Type 0 where
  pub small : length content < 2 ^ 64
  pub holds : Holds file at (block_bytes key at content)

-- no block is at this place
abbrev pub IsNoBlock : ℕ → List ℕ → ℕ → Type 0
IsNoBlock key file at = (content : List ℕ) → ¬ IsBlock key file at content

-- blocks of these contents follow one another, from this place up to that one
abbrev pub AreBlocks : ℕ → List ℕ → ℕ → List (List ℕ) → ℕ → Type 0
AreBlocks key file at [] end = at ≡ end
AreBlocks key file at (b ∷ bs) end = IsBlock key file at b × AreBlocks key file (end_of at (length b)) bs end

-- the first 24 bytes of a journal's file: `vuldarg2`, by which it is known, and the key of its digests, twice
abbrev pub front_of : ℕ → List ℕ
front_of key = codes "vuldarg2" ++ twice key
