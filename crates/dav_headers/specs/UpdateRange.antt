-- The header X-Update-Range, the range of bytes that a PATCH replaces (SabreDAV's partial update by PATCH).
use Rattle.std.specs.Prelude.{ℕ, List, [], ◌∷◌, ◌++◌, ◌≡◌, ◌⊎◌, IsSomeAnd, codes, decimal}
use Rattle.http_header.specs.FieldValue.{FieldValue}
use Rattle.dav_headers.specs.Value.{only_text, IsNumber}
use Rattle.dav_headers.specs.declared.range.XUpdateRange.{XUpdateRange}
use Rattle.dav_headers.specs.declared.range.XUpdateRange.TheVariants.{FromTo, AllFrom, Last, Append}

-- What is before and after the dash of an X-Update-Range: two numbers, or the first alone (from there on), or the second alone (so many
-- bytes from the end); `append` has no dash.
abbrev pub IsEnds : List ℕ → List ℕ → XUpdateRange → Type 0
IsEnds from to (FromTo a b) = IsNumber from a × IsNumber to b
IsEnds from to (AllFrom a) = IsNumber from a × (to ≡ [])
IsEnds from to (Last n) = (from ≡ []) × IsNumber to n
IsEnds from to Append = ⊥

-- the text of an X-Update-Range: `append`, or `bytes=` and a range
abbrev pub IsUpdateRangeText : List ℕ → XUpdateRange → Type 0
IsUpdateRangeText text range =
    ((text ≡ codes "append") × (range ≡ Append))
    ⊎ ((from : List ℕ) × (to : List ℕ) × (text ≡ codes "bytes=" ++ (from ++ 45 ∷ to)) × IsEnds from to range)

-- the header has one value, and it is the text of this X-Update-Range
abbrev pub IsUpdateRange : List FieldValue → XUpdateRange → Type 0
IsUpdateRange values range = IsSomeAnd (only_text values) (λ text. IsUpdateRangeText text range)

-- an X-Update-Range as it is written
abbrev pub update_range_text : XUpdateRange → List ℕ
update_range_text (FromTo a b) = codes "bytes=" ++ (decimal a ++ 45 ∷ decimal b)
update_range_text (AllFrom a) = codes "bytes=" ++ (decimal a ++ 45 ∷ [])
update_range_text (Last n) = codes "bytes=" ++ 45 ∷ decimal n
update_range_text Append = codes "append"
