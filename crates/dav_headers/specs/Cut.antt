-- Texts that are cut at a byte, for the code that reads them.
use Rattle.std.specs.Prelude.{ℕ, ◌<◌, List, ◌∷◌, ◌++◌, ◌≡◌, ◌≢◌, length, slice_index}

-- this byte isn't in the text
abbrev pub IsWithout : ℕ → List ℕ → Type 0
IsWithout sign text = (i : ℕ) → i < length text → slice_index text i ≢ sign

-- the text is cut at the first byte of this value: `front` is before it, and `back` after it
abbrev pub IsCut : ℕ → List ℕ → List ℕ → List ℕ → Type 0
IsCut sign text front back = IsWithout sign front × (text ≡ front ++ sign ∷ back)

-- a text can't be cut at a byte: there is no such byte in it
abbrev pub NoCut : ℕ → List ℕ → Type 0
NoCut sign text = (front : List ℕ) → (back : List ℕ) → text ≢ front ++ sign ∷ back
