-- How numbers, texts, options and lists are saved.
use Rattle.std.specs.Prelude.{ℕ, List, [], ◌∷◌, ◌++◌, length, Option, Some, None}
use Rattle.std.specs.List.{flat_map}
use Rattle.std.specs.Int.{w64, to_be_bytes}

-- A number is saved as eight bytes, the highest first.
unfoldable pub number : ℕ → List ℕ
number n = to_be_bytes w64 n

-- Bytes are saved as how many there are, and then they.
abbrev pub sized : List ℕ → List ℕ
sized bytes = number (length bytes) ++ bytes

-- Bytes that may be missing are saved as 0, or as 1 and the bytes.
abbrev pub optional : Option (List ℕ) → List ℕ
optional None = 0 ∷ []
optional (Some bytes) = 1 ∷ sized bytes

-- A pair of byte strings is saved as the first and then the second.
abbrev pub pair : List ℕ × List ℕ → List ℕ
pair p = sized p.0 ++ sized p.1

-- A list is saved as how many items there are, and each in its turn.
abbrev pub many : {A : Type 0} → (A → List ℕ) → List A → List ℕ
many spell xs = number (length xs) ++ flat_map spell xs
