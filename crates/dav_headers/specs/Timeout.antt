-- The header Timeout (RFC 4918, section 10.7).
use Rattle.std.specs.Prelude.{ℕ, ◌<◌, ◌^◌, List, [], ◌∷◌, ◌++◌, ◌≡◌, ⊤, IsSomeAnd, codes, decimal, map}
use Rattle.http_header.specs.FieldValue.{FieldValue}
use Rattle.dav_headers.specs.Elements.{joined, elements_of}
use Rattle.dav_headers.specs.Value.{only_text, IsNumber}
use Rattle.dav_headers.specs.declared.timeout.DavTimeout.{DavTimeout}
use Rattle.dav_headers.specs.declared.timeout.DavTimeout.TheVariants.{Seconds, Infinite}

-- a TimeType: `Infinite`, or `Second-` and a number below 2^32 (RFC 4918, section 10.7)
abbrev pub IsTimeType : List ℕ → DavTimeout → Type 0
IsTimeType element (Seconds n) =
    (digits : List ℕ) × (element ≡ codes "Second-" ++ digits) × IsNumber digits n × (n < 2 ^ 32)
IsTimeType element Infinite = element ≡ codes "Infinite"

-- there are as many list elements as TimeTypes, and each is the one at its place
abbrev pub AreTimeTypes : List (List ℕ) → List DavTimeout → Type 0
AreTimeTypes [] [] = ⊤
AreTimeTypes [] (w ∷ ws) = ⊥
AreTimeTypes (p ∷ ps) [] = ⊥
AreTimeTypes (p ∷ ps) (w ∷ ws) = IsTimeType p w × AreTimeTypes ps ws

-- the header has one value, a list of these TimeTypes (RFC 4918, section 10.7)
abbrev pub IsTimeout : List FieldValue → List DavTimeout → Type 0
IsTimeout values time_types = IsSomeAnd (only_text values) (λ text. AreTimeTypes (elements_of text) time_types)

-- a TimeType as it is written (RFC 4918, section 10.7)
abbrev pub time_type_text : DavTimeout → List ℕ
time_type_text (Seconds n) = codes "Second-" ++ decimal n
time_type_text Infinite = codes "Infinite"

-- a Timeout as it is written: its TimeTypes with a comma and a space between them (RFC 4918, section 10.7)
abbrev pub timeout_text : List DavTimeout → List ℕ
timeout_text time_types = joined (map time_type_text time_types)
