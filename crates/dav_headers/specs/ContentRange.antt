-- The header Content-Range (RFC 9110, section 14.4).
use Rattle.std.specs.Prelude.{ℕ, List, ◌∷◌, ◌++◌, ◌≡◌, Option, Some, None, IsSomeAnd, codes, decimal}
use Rattle.http_header.specs.FieldValue.{FieldValue}
use Rattle.dav_headers.specs.Value.{only_text, IsNumber}
use Rattle.dav_headers.specs.declared.range.ContentRange.{ContentRange}

-- What is before the slash of a Content-Range: `*` where there are no bounds, else the positions of the first and the last byte with a
-- dash between them. The two aren't compared.
abbrev pub IsBounds : List ℕ → Option (ℕ × ℕ) → Type 0
IsBounds text None = text ≡ codes "*"
IsBounds text (Some (a, b)) =
    (first : List ℕ) × (last : List ℕ) × (text ≡ first ++ 45 ∷ last) × IsNumber first a × IsNumber last b

-- What is after the slash of a Content-Range: `*` where the length of the whole representation isn't given, else that length.
abbrev pub IsLength : List ℕ → Option ℕ → Type 0
IsLength text None = text ≡ codes "*"
IsLength text (Some n) = IsNumber text n

-- the text `bytes BOUNDS/LENGTH` of a Content-Range (RFC 9110, section 14.4)
abbrev pub IsContentRangeText : List ℕ → Option (ℕ × ℕ) → Option ℕ → Type 0
IsContentRangeText text bounds length =
    (range : List ℕ) × (size : List ℕ)
    × (text ≡ codes "bytes " ++ (range ++ 47 ∷ size)) × IsBounds range bounds × IsLength size length

-- The header has one value, and it is the text of this range (RFC 9110, section 14.4). A range that ends before it begins, or past its length,
-- is read too.
abbrev pub IsContentRange : List FieldValue → ContentRange → Type 0
IsContentRange values r = IsSomeAnd (only_text values) (λ text. IsContentRangeText text r.bounds r.length)

-- a length as it is written after the slash of a Content-Range: `*` where it isn't given
abbrev pub length_text : Option ℕ → List ℕ
length_text None = codes "*"
length_text (Some n) = decimal n

-- a Content-Range as it is written, with its bounds or, where it has none, with `*` before the slash (RFC 9110, section 14.4)
abbrev pub content_range_text : Option (ℕ × ℕ) → Option ℕ → List ℕ
content_range_text None length = codes "bytes */" ++ length_text length
content_range_text (Some (a, b)) length =
    codes "bytes " ++ (decimal a ++ 45 ∷ (decimal b ++ 47 ∷ length_text length))
