-- What is sent in the place of a 200 (RFC 9110, sections 14.4, 15.3.7, 15.4.5, 15.5.13 and 15.5.17).
use Rattle.std.specs.Prelude.{ℕ, ◌≡◌, ◌≤◌, ◌<◌, ◌+◌, ◌-◌, ◌++◌, List, [], ◌∷◌, length, codes, decimal, Option, Some, None}
use Rattle.dav_presented.specs.declared.parts.verdict.Verdict.{Verdict}
use Rattle.dav_presented.specs.declared.parts.verdict.Verdict.TheVariants.{Whole, NotModified, Failed, Part, Unsatisfiable}
use Rattle.dav_presented.specs.Range.{bytes_between}

-- The status of what is sent (RFC 9110, section 15).
abbrev pub status_of : Verdict → ℕ
status_of Whole = 200
status_of NotModified = 304
status_of Failed = 412
status_of (Part first last) = 206
status_of Unsatisfiable = 416

-- Content-Range of a part of so many bytes, `bytes 2-5/10` (RFC 9110, section 14.4).
abbrev pub content_range_part : ℕ → ℕ → ℕ → List ℕ
content_range_part first last len = codes "bytes " ++ (decimal first ++ 45 ∷ (decimal last ++ 47 ∷ decimal len))

-- Content-Range where no part can be sent, `bytes */10` (RFC 9110, section 14.4).
abbrev pub content_range_none : ℕ → List ℕ
content_range_none len = codes "bytes */" ++ decimal len

-- Content-Range of what is sent of so many bytes; none but at 206 and 416 (RFC 9110, section 14.4).
abbrev pub content_range_of : Verdict → ℕ → Option (List ℕ)
content_range_of (Part first last) len = Some (content_range_part first last len)
content_range_of Unsatisfiable len = Some (content_range_none len)
content_range_of Whole len = None
content_range_of NotModified len = None
content_range_of Failed len = None

-- The body of what is sent, of these bytes; none at 304, 412 and 416 (RFC 9110, section 15).
abbrev pub body_of : Verdict → List ℕ → List ℕ
body_of Whole bytes = bytes
body_of (Part first last) bytes = bytes_between first last bytes
body_of NotModified bytes = []
body_of Failed bytes = []
body_of Unsatisfiable bytes = []

-- A part and the one that begins after its last byte are the part of both (RFC 9110, section 14.1.2).
abbrev pub PartsJoin : Type 0
PartsJoin = (a b c : ℕ) (bytes : List ℕ) → a ≤ b → b ≤ c → bytes_between a b bytes ++ bytes_between (b + 1) c bytes ≡ bytes_between a c bytes

-- The part from the first byte to the last one is the whole (RFC 9110, section 14.1.2).
abbrev pub PartsAreWhole : Type 0
PartsAreWhole = (bytes : List ℕ) → 0 < length bytes → bytes_between 0 (length bytes - 1) bytes ≡ bytes
