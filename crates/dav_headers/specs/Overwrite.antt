-- The header Overwrite (RFC 4918, section 10.6).
use Rattle.std.specs.Prelude.{ℕ, Bool, true, false, List, ◌≡◌, Some, codes}
use Rattle.http_header.specs.FieldValue.{FieldValue}
use Rattle.dav_headers.specs.Value.{only_text}

-- the value of Overwrite: `T` for true, `F` for false (RFC 4918, section 10.6)
abbrev pub overwrite_text : Bool → List ℕ
overwrite_text true = codes "T"
overwrite_text false = codes "F"

-- the header has one value, and it is `T` or `F` as this flag says (RFC 4918, section 10.6)
abbrev pub IsOverwrite : List FieldValue → Bool → Type 0
IsOverwrite values overwrite = only_text values ≡ Some (overwrite_text overwrite)
