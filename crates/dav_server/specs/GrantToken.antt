-- Tokens that a lock can be granted with (RFC 4918, section 6.5).
use Rattle.std.specs.Prelude.{◌≢◌, ℕ, ◌<◌, ◌==◌, List, [], ◌∷◌, All, Contains, IsTrue, codes}
use Rattle.std.specs.List.{starts_with}

-- the printable bytes that a lock token can't have: the double quote and the brackets `()<>[]{}`
abbrev pub barred : List ℕ
barred = 34 ∷ codes "()<>[]{}"

-- a byte that a lock token may have: printable ASCII, but no space, double quote or bracket
abbrev pub IsTokenByte : ℕ → Type 0
IsTokenByte b = (32 < b) × (b < 127) × ¬ Contains barred b

-- the text begins with `DAV:`, as `DAV:no-lock`, which no lock has as its token (RFC 4918, section 10.4.8)
abbrev pub IsReserved : List ℕ → Type 0
IsReserved text = IsTrue (starts_with ◌==◌ text (codes "DAV:"))

-- A text that may be handed in as the token of a new lock: one byte or more of printable ASCII without spaces, double quotes and
-- brackets, not beginning with `DAV:` (RFC 4918, section 6.5).
abbrev pub IsGrantToken : List ℕ → Type 0
IsGrantToken text = (text ≢ []) × All IsTokenByte text × ¬ IsReserved text
