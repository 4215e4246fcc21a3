-- Laws of headers, which are stated over their grammars.
use Rattle.std.specs.Prelude.{ℕ, ◌<◌, ◌^◌, Bool, true, not, List, [], ◌∷◌, ◌≡◌, ⊤, Option, Some, None, All, decimal}
use Rattle.http_header.specs.FieldValue.{FieldValue, plain_value}
use Rattle.dav_headers.specs.ETag.{EntityTag, IsEntityTag, IsETag, is_strong_match, IsUnquoted, tag_text}
use Rattle.dav_headers.specs.ContentRange.{IsContentRange, content_range_text}
use Rattle.dav_headers.specs.Destination.{IsDestination}
use Rattle.dav_headers.specs.ETagList.{TagList, IsTagList}
use Rattle.dav_headers.specs.Language.{AreLanguages}
use Rattle.dav_headers.specs.Length.{IsContentLength}
use Rattle.dav_headers.specs.Overwrite.{overwrite_text, IsOverwrite}
use Rattle.dav_headers.specs.Depth.{depth_text, IsDepth}
use Rattle.dav_headers.specs.Timeout.{timeout_text, IsTimeout}
use Rattle.dav_headers.specs.declared.timeout.DavTimeout.TheVariants.{Seconds, Infinite}
use Rattle.dav_headers.specs.UpdateRange.{update_range_text, IsUpdateRange}
use Rattle.dav_headers.specs.Value.{IsText}
use Rattle.dav_headers.specs.declared.depth.Depth.{Depth}
use Rattle.dav_headers.specs.declared.range.ContentRange.{ContentRange}
use Rattle.dav_headers.specs.declared.timeout.DavTimeout.{DavTimeout}
use Rattle.dav_headers.specs.declared.range.XUpdateRange.{XUpdateRange}
use Rattle.dav_headers.specs.declared.range.XUpdateRange.TheVariants.{FromTo, AllFrom, Last, Append}

-- the header with this text as its one value
abbrev pub written : List ℕ → List FieldValue
written text = plain_value text ∷ []

-- the strong comparison is symmetric (RFC 9110, section 8.8.3.2)
abbrev pub StrongIsSymmetric : Type 0
StrongIsSymmetric = (e f : EntityTag) → is_strong_match e f ≡ is_strong_match f e

-- the strong comparison is transitive (RFC 9110, section 8.8.3.2)
abbrev pub StrongIsTransitive : Type 0
StrongIsTransitive = (e f g : EntityTag) → is_strong_match e f ≡ true → is_strong_match f g ≡ true → is_strong_match e g ≡ true

-- a tag matches itself by the strong comparison exactly where it is strong (RFC 9110, section 8.8.3.2)
abbrev pub StrongMatchesItself : Type 0
StrongMatchesItself = (e : EntityTag) → is_strong_match e e ≡ not e.weak

-- what is written for an `Overwrite` is read as the same flag
abbrev pub OverwriteReadsAgain : Type 0
OverwriteReadsAgain = (o : Bool) → IsOverwrite (written (overwrite_text o)) o

-- what is written for a `Depth` is read as this one
abbrev pub DepthReadsAgain : Type 0
DepthReadsAgain = (d : Depth) → (text : List ℕ) → depth_text d ≡ Some text → IsDepth (written text) d

-- the numbers of an X-Update-Range are below 2^64
abbrev pub AreBelow : XUpdateRange → Type 0
AreBelow (FromTo a b) = (a < 2 ^ 64) × (b < 2 ^ 64)
AreBelow (AllFrom a) = a < 2 ^ 64
AreBelow (Last n) = n < 2 ^ 64
AreBelow Append = ⊤

-- what is written for an `XUpdateRange` whose numbers are below 2^64 is read as this one
abbrev pub UpdateRangeReadsAgain : Type 0
UpdateRangeReadsAgain = (r : XUpdateRange) → AreBelow r → IsUpdateRange (written (update_range_text r)) r

-- the seconds of a TimeType are below 2^32
abbrev pub IsShort : DavTimeout → Type 0
IsShort (Seconds n) = n < 2 ^ 32
IsShort Infinite = ⊤

-- what is written for a `Timeout` of one TimeType or more, whose seconds are below 2^32, is read as this one
abbrev pub TimeoutReadsAgain : Type 0
TimeoutReadsAgain =
    (w : DavTimeout) → (ws : List DavTimeout) → All IsShort (w ∷ ws) → IsTimeout (written (timeout_text (w ∷ ws))) (w ∷ ws)

-- values are read as one Overwrite at most
abbrev pub OneOverwrite : Type 0
OneOverwrite = (values : List FieldValue) → (a b : Bool) → IsOverwrite values a → IsOverwrite values b → a ≡ b

-- values are read as one Depth at most
abbrev pub OneDepth : Type 0
OneDepth = (values : List FieldValue) → (a b : Depth) → IsDepth values a → IsDepth values b → a ≡ b

-- values are read as one X-Update-Range at most
abbrev pub OneUpdateRange : Type 0
OneUpdateRange =
    (values : List FieldValue) → (a b : XUpdateRange) → IsUpdateRange values a → IsUpdateRange values b → a ≡ b

-- values are read as one Timeout at most
abbrev pub OneTimeout : Type 0
OneTimeout =
    (values : List FieldValue) → (a b : List DavTimeout) → IsTimeout values a → IsTimeout values b → a ≡ b

-- values are read as one list of entity tags at most
abbrev pub OneTagList : Type 0
OneTagList = (values : List FieldValue) → (a b : TagList) → IsTagList values a → IsTagList values b → a ≡ b

-- values are read as one Content-Range at most
abbrev pub OneContentRange : Type 0
OneContentRange =
    (values : List FieldValue) → (a b : ContentRange) → IsContentRange values a → IsContentRange values b → a ≡ b

-- values are read as one Content-Length at most
abbrev pub OneContentLength : Type 0
OneContentLength = (values : List FieldValue) → (m n : ℕ) → IsContentLength values m → IsContentLength values n → m ≡ n

-- values are read as one Destination at most
abbrev pub OneDestination : Type 0
OneDestination = (values : List FieldValue) → (p q : List ℕ) → IsDestination values p → IsDestination values q → p ≡ q

-- values are read as one list of languages at most
abbrev pub OneLanguageList : Type 0
OneLanguageList = (values : List FieldValue) → (a b : List (List ℕ)) → AreLanguages values a → AreLanguages values b → a ≡ b

-- a text is one entity tag at most (RFC 9110, section 8.8.3)
abbrev pub OneEntityTag : Type 0
OneEntityTag = (text : List ℕ) → (d e : EntityTag) → IsEntityTag text d → IsEntityTag text e → d ≡ e

-- values are read as one ETag at most
abbrev pub OneETag : Type 0
OneETag = (values : List FieldValue) → (d e : EntityTag) → IsETag values d → IsETag values e → d ≡ e

-- an entity tag that was read from a header can be written in one: its text is text there
abbrev pub ReadTagIsText : Type 0
ReadTagIsText = (values : List FieldValue) → (e : EntityTag) → IsETag values e → IsText (tag_text e.weak e.tag)

-- what is written for an entity tag without a double quote, whose text is text in a header, is read as this one
abbrev pub ETagReadsAgain : Type 0
ETagReadsAgain =
    (e : EntityTag) → IsUnquoted e.tag → IsText (tag_text e.weak e.tag) → IsETag (written (tag_text e.weak e.tag)) e

-- the bounds of a Content-Range, where it has them, are below 2^64
abbrev pub AreBoundsBelow : Option (ℕ × ℕ) → Type 0
AreBoundsBelow None = ⊤
AreBoundsBelow (Some (a, b)) = (a < 2 ^ 64) × (b < 2 ^ 64)

-- the length of a Content-Range, where it has one, is below 2^64
abbrev pub IsLengthBelow : Option ℕ → Type 0
IsLengthBelow None = ⊤
IsLengthBelow (Some n) = n < 2 ^ 64

-- what is written for a `ContentRange` whose numbers are below 2^64 is read as this one
abbrev pub ContentRangeReadsAgain : Type 0
ContentRangeReadsAgain =
    (r : ContentRange) → AreBoundsBelow r.bounds → IsLengthBelow r.length
    → IsContentRange (written (content_range_text r.bounds r.length)) r

-- what is written for a `ContentLength` below 2^64 is read as this one
abbrev pub ContentLengthReadsAgain : Type 0
ContentLengthReadsAgain = (n : ℕ) → n < 2 ^ 64 → IsContentLength (written (decimal n)) n
