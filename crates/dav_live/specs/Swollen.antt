-- Bodies whose element tree would be far larger than they are: each element and attribute has its namespace, which is declared once for all
-- (Namespaces in XML 1.0, sections 5 and 6).
use Rattle.std.specs.Prelude.{◌≡◌, ◌<◌, ◌==◌, ◌||◌, ◌*◌, ◌+◌, ℕ, Bool, true, List, drop, get_or, length, unwrap_or}
use Rattle.std.specs.List.{count_by, position}

-- whether a byte is a quotation mark
abbrev pub is_quote : ℕ → Bool
is_quote b = b == 34 || b == 39

-- how many bytes are a `<` or a `=`: at least as many as there are elements and attributes
abbrev pub marks : List ℕ → ℕ
marks bytes = count_by (λ b. b == 60 || b == 61) bytes

-- how many bytes follow the one at a place, up to the next one like it, or up to the end
abbrev pub quoted_at : List ℕ → ℕ → ℕ
quoted_at bytes k = unwrap_or (position (λ b. b == get_or bytes k 0) (drop (k + 1) bytes)) (length (drop (k + 1) bytes))

-- a quotation mark is at a place, behind which so many bytes come that this many names with them come to more than 32 MiB
abbrev pub IsSwollenAt : List ℕ → ℕ → ℕ → Type 0
IsSwollenAt bytes place names = (is_quote (get_or bytes place 0) ≡ true) × (33554432 < quoted_at bytes place * names)

-- Bytes have so much between two quotation marks that as many elements and attributes with a namespace of that length as there may be would
-- come to more than 32 MiB.
pub record IsSwollen (bytes : List ℕ) : Type 0 where
  pub place : ℕ
  pub within : place < length bytes
  pub swollen : IsSwollenAt bytes place (marks bytes)
