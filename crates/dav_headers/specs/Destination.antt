-- The header Destination (RFC 4918, section 10.3; RFC 3986, section 3).
use Rattle.std.specs.Prelude.{ℕ, List, [], ◌∷◌, ◌++◌, ◌≡◌, ◌⊎◌, ◌==◌, IsSomeAnd, codes, map, if◌then◌else◌}
use Rattle.std.specs.Char.{to_ascii_lowercase}
use Rattle.http_header.specs.FieldValue.{FieldValue}
use Rattle.dav_headers.specs.Value.{only_text}

-- `http` or `https`, ASCII case ignored
abbrev pub IsHttp : List ℕ → Type 0
IsHttp scheme =
    (map to_ascii_lowercase scheme ≡ codes "http") ⊎ (map to_ascii_lowercase scheme ≡ codes "https")

-- the text from its first slash on; `/` where it has none
abbrev pub from_slash : List ℕ → List ℕ
from_slash [] = 47 ∷ []
from_slash (b ∷ bs) = if b == 47 then b ∷ bs else from_slash bs

-- a Destination that begins with a slash is the path itself (RFC 4918, sections 8.3 and 10.3)
abbrev pub IsPathText : List ℕ → List ℕ → Type 0
IsPathText text path = (rest : List ℕ) × (text ≡ 47 ∷ rest) × (path ≡ text)

-- A Destination that is an http or https URI names what is from the first slash after its `//` on, or `/` where there is none; the host
-- isn't looked at (RFC 4918, section 10.3).
abbrev pub IsUriText : List ℕ → List ℕ → Type 0
IsUriText text path =
    (scheme : List ℕ) × (after : List ℕ)
    × IsHttp scheme × (text ≡ scheme ++ 58 ∷ 47 ∷ 47 ∷ after) × (path ≡ from_slash after)

-- a Destination's value names this path: it begins with a slash, or it is an http or https URI (RFC 4918, section 10.3)
abbrev pub IsDestinationText : List ℕ → List ℕ → Type 0
IsDestinationText text path = IsPathText text path ⊎ IsUriText text path

-- the header has one value, and it names this path (RFC 4918, section 10.3)
abbrev pub IsDestination : List FieldValue → List ℕ → Type 0
IsDestination values path = IsSomeAnd (only_text values) (λ text. IsDestinationText text path)
