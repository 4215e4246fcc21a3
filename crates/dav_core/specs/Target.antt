-- The path that a text names (RFC 3986, sections 2.1, 3.3, 3.4 and 5.2.4).
use Rattle.std.specs.Prelude.{◌≡◌, ◌≢◌, ℕ, ◌≤◌, ◌==◌, ◌++◌, ◌⊎◌, Bool, true, false, List, [], ◌∷◌, map, All}
use Rattle.std.specs.List.{before_first, slice_split}
use Rattle.percent_encoding.specs.Percent.{percent_decode}
use Rattle.dav_core.specs.declared.errors.ParseError.{ParseError}
use Rattle.dav_core.specs.declared.errors.ParseError.TheVariants.{InvalidPath, PrefixMismatch, ForbiddenPath, Memory}
use Rattle.dav_core.specs.Path.{Path, parent_piece, IsBlank, IsBad, IsName, path_bytes, star}

-- Decoded segments of which no name is left: each name is paired with a later `..`, like opening and closing brackets, and all
-- others are blank (RFC 3986, section 5.2.4).
pub data Cancels : List (List ℕ) → Type 0 where
  nothing : Cancels []
  blank : {p : List ℕ} {ps : List (List ℕ)} → IsBlank p → Cancels ps → Cancels (p ∷ ps)
  pair : {n : List ℕ} {inside after : List (List ℕ)} → IsName n → Cancels inside → Cancels after → Cancels (n ∷ (inside ++ parent_piece ∷ after))

-- These names are left of decoded segments, in order, once each `..` has removed the name before it (RFC 3986, section 5.2.4).
abbrev pub Leaves : List (List ℕ) → Path → Type 0
Leaves ps [] = Cancels ps
Leaves ps (n ∷ ns) =
    (front : List (List ℕ)) × (rest : List (List ℕ))
    × Cancels front × IsName n × (ps ≡ front ++ n ∷ rest) × Leaves rest ns

-- The first fault of decoded segments is a `..` above the root (RFC 3986, section 5.2.4).
abbrev pub Climbs : List (List ℕ) → Type 0
Climbs ps = (front : List (List ℕ)) × (back : List (List ℕ)) × Cancels front × (ps ≡ front ++ parent_piece ∷ back)

-- The first fault of decoded segments is one that holds a zero byte or a slash (RFC 3986, section 3.3).
abbrev pub HasBadPiece : List (List ℕ) → Type 0
HasBadPiece ps =
    (front : List (List ℕ)) × (names : Path) × (bad : List ℕ) × (back : List (List ℕ))
    × Leaves front names × IsBad bad × (ps ≡ front ++ bad ∷ back)

-- A byte from 32 to 126 that isn't `#`.
abbrev pub IsTextByte : ℕ → Type 0
IsTextByte b = (32 ≤ b) × (b ≤ 126) × (b ≢ 35)

-- What comes before the first `?` (RFC 3986, section 3.4).
abbrev pub before_query : List ℕ → List ℕ
before_query src = before_first (λ b. b == 63) src

-- The segments between slashes, before the query, each percent-decoded (RFC 3986, sections 2.1 and 3.3).
abbrev pub pieces_of : List ℕ → List (List ℕ)
pieces_of src = map percent_decode (slice_split (λ b. b == 47) (before_query src))

-- a text that can name a path: bytes 32 to 126 but `#`, beginning with a slash
pub record IsRooted (src : List ℕ) : Type 0 where
  pub text : All IsTextByte src
  pub rooted : (rest : List ℕ) × (src ≡ 47 ∷ rest)

-- The text ends in a slash.
abbrev pub EndsInSlash : List ℕ → Type 0
EndsInSlash text = (front : List ℕ) × (text ≡ front ++ 47 ∷ [])

-- The text ends in a slash where the Bool is true, and doesn't where it is false.
abbrev pub IsClosed : List ℕ → Bool → Type 0
IsClosed text true = EndsInSlash text
IsClosed text false = ¬ EndsInSlash text

-- The text names the path with these names, closed by a slash at its end or not (RFC 3986, sections 2.1, 3.3, 3.4 and 5.2.4).
pub record NamesPath (src : List ℕ) (names : Path) (closed : Bool) : Type 0 where
  pub rooted : IsRooted src
  pub leaves : Leaves (pieces_of src) names
  pub closed_if : IsClosed (before_query src) closed

-- The text is read as these bytes: the star path, or the path that it names.
abbrev pub Reads : List ℕ → List ℕ → Type 0
Reads src bytes =
    ((src ≡ star) × (bytes ≡ star))
    ⊎ ((names : Path) × (closed : Bool) × NamesPath src names closed × (bytes ≡ path_bytes names closed))

-- Why a text is refused: it can't name a path, or its first decoded segment that is at fault decides. Memory may run out only
-- for a text that can name a path, or for the star path. The prefix isn't looked at here.
abbrev pub IsRefused : List ℕ → ParseError → Type 0
IsRefused src InvalidPath = (src ≢ star) × ((¬ IsRooted src) ⊎ HasBadPiece (pieces_of src))
IsRefused src PrefixMismatch = ⊥
IsRefused src ForbiddenPath = IsRooted src × Climbs (pieces_of src)
IsRefused src Memory = (src ≡ star) ⊎ IsRooted src
