-- Bytes that are written one part behind another.
use Rattle.std.specs.Prelude.{◌≡◌, ℕ, ◌<◌, List, [], ◌∷◌, ◌++◌, length, slice_index}

-- what contracts see of bytes in three parts
pub record PartsView : Type 0 where
  pub first : List ℕ
  pub body : List ℕ
  pub last : List ℕ

-- all of them
abbrev pub bytes_in : PartsView → List ℕ
bytes_in p = p.first ++ (p.body ++ p.last)

-- the first part begins with a gate that is open, and has more
pub record IsGated (p : PartsView) : Type 0 where
  pub some : 1 < length p.first
  pub opens : slice_index p.first 0 ≡ 1

-- What is written behind the body of a block: the gate after it, which is shut. Where there is no body, what is before it has that gate.
abbrev pub gate_after : List ℕ → List ℕ
gate_after [] = []
gate_after (b ∷ body) = 0 ∷ []
