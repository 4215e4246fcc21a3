-- How the parts of records are saved and read, and which can be.
use Rattle.std.specs.Prelude.{◌≡◌, ◌<◌, ◌≤◌, ◌^◌, ℕ, zero, suc, Bool, true, false, List, [], ◌∷◌, ◌++◌, length, Option, Some, None, IfSome}
use Rattle.std.specs.List.{AllByRecursion}
use Rattle.dav_core.specs.Element.{ElementTree, is_element, depth_of}
use Rattle.dav_saved.specs.Spelling.{number}
use Rattle.dav_saved.specs.Reading.{Read, ◌>>=◌, number_at}
use Rattle.dav_saved.specs.Trees.{tree, element_from, IsSaveable}

-- A pair is saved as its first part and then its second.
abbrev pub both : {A B : Type 0} → (A → List ℕ) → (B → List ℕ) → A × B → List ℕ
both one other x = one x.0 ++ other x.1

-- reads a first part, and the second behind it
unfoldable pub both_at : {A B : Type 0} → (List ℕ → Read A) → (List ℕ → Read B) → List ℕ → Read (A × B)
both_at one other bytes = do
  a ← one bytes
  b ← other a.1
  Some ((a.0, b.0), b.1)

-- reads the parts of a value, and makes the value of them
unfoldable pub as_at : {A B : Type 0} → (A → B) → (List ℕ → Read A) → List ℕ → Read B
as_at make one bytes = do
  a ← one bytes
  Some (make a.0, a.1)

-- An element that may be missing is saved as 0, or as 1 and the element.
abbrev pub value : Option ElementTree → List ℕ
value None = 0 ∷ []
value (Some t) = 1 ∷ tree t

-- reads an element of at most this many levels, which may be missing
unfoldable pub value_at : ℕ → List ℕ → Read (Option ElementTree)
value_at levels [] = None
value_at levels (zero ∷ rest) = Some (None, rest)
value_at levels (suc zero ∷ rest) = do
  t ← element_from levels rest
  Some (Some t.0, t.1)
value_at levels (suc (suc b) ∷ rest) = None

-- A number that may be missing is saved as 0, or as 1 and the number.
abbrev pub moment : Option ℕ → List ℕ
moment None = 0 ∷ []
moment (Some n) = 1 ∷ number n

-- reads a number that may be missing
unfoldable pub moment_at : List ℕ → Read (Option ℕ)
moment_at [] = None
moment_at (zero ∷ rest) = Some (None, rest)
moment_at (suc zero ∷ rest) = do
  n ← number_at rest
  Some (Some n.0, n.1)
moment_at (suc (suc b) ∷ rest) = None

-- True is saved as 1, false as 0.
abbrev pub flag : Bool → List ℕ
flag false = 0 ∷ []
flag true = 1 ∷ []

-- reads true or false
unfoldable pub flag_at : List ℕ → Read Bool
flag_at [] = None
flag_at (zero ∷ rest) = Some (false, rest)
flag_at (suc zero ∷ rest) = Some (true, rest)
flag_at (suc (suc b) ∷ rest) = None

-- the number has 64 bits
abbrev pub Fits64 : ℕ → Type 0
Fits64 n = n < 2 ^ 64

-- the number of bytes has 64 bits
abbrev pub HasLength64 : List ℕ → Type 0
HasLength64 bytes = length bytes < 2 ^ 64

-- how many there are has 64 bits, and this holds of each
abbrev pub AreAll : {A : Type 0} → (A → Type 0) → List A → Type 0
AreAll fits xs = (length xs < 2 ^ 64) × AllByRecursion fits xs

-- this holds of the first part, and that of the second
abbrev pub AreBoth : {A B : Type 0} → (A → Type 0) → (B → Type 0) → A × B → Type 0
AreBoth one other x = one x.0 × other x.1

-- an element, if there is one, has at most this many levels
abbrev pub IsWithin : ℕ → Option ElementTree → Type 0
IsWithin levels v = IfSome v (λ t. depth_of t ≤ levels)

-- Which elements that may be missing can be saved and read: elements of at most this many levels,
-- whose texts are UTF-8.
abbrev pub IsValue : ℕ → Option ElementTree → Type 0
IsValue levels v = IfSome v (λ t. (is_element t ≡ true) × ((depth_of t ≤ levels) × IsSaveable t))
