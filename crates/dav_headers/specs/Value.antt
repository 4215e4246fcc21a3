-- Values of headers (RFC 9110, section 5.5), and how text is written as one.
use Rattle.std.specs.Prelude.{ℕ, ◌<◌, ◌^◌, List, [], ◌∷◌, Option, Some, None, Result, Ok, Err, ◌≡◌, if◌then◌else◌}
use Rattle.std.specs.Str.Parse.{IsNumeral, digits_value}
use Rattle.http_header.specs.FieldValue.{FieldValue, plain_value, IsVisibleAscii, is_visible_text}
use Rattle.dav_headers.specs.declared.errors.HeaderError.{HeaderError}
use Rattle.dav_headers.specs.declared.errors.HeaderError.TheVariants.{Invalid, Memory}

-- text: bytes 32 to 126 and tab alone (RFC 9110, section 5.5)
abbrev pub IsText : List ℕ → Type 0
IsText bytes = IsVisibleAscii bytes

-- the text of the only value; none where there is no value or several, or where it isn't text (RFC 9110, section 5.5)
abbrev pub only_text : List FieldValue → Option (List ℕ)
only_text [] = None
only_text (v ∷ []) = if is_visible_text v.bytes then Some v.bytes else None
only_text (v ∷ w ∷ vs) = None

-- this is the text of the only value (RFC 9110, section 5.5)
abbrev pub IsOnlyText : List FieldValue → List ℕ → Type 0
IsOnlyText values text = only_text values ≡ Some text

-- How a text is written as a header's value: the value has its bytes; `Invalid` exactly where it isn't text, so `Memory` only where it
-- is.
abbrev pub Writes : Result FieldValue HeaderError → List ℕ → Type 0
Writes (Ok v) text = IsText text × (v ≡ plain_value text)
Writes (Err Invalid) text = ¬ IsText text
Writes (Err Memory) text = IsText text

-- What a grammar finds in an input: a value that it relates to the input, and none only where it relates none to it.
abbrev pub Decodes : {A B : Type 0} → (A → B → Type 0) → A → Option B → Type 0
Decodes grammar input (Some x) = grammar input x
Decodes {B = B} grammar input None = (x : B) → ¬ grammar input x

-- What is read, seen by a view: a value that the grammar relates to the input; `Invalid` where it relates none to it; and
-- `Memory`, for an allocation that failed, only where it relates one to it.
abbrev pub ReadsAs : {A B C : Type 0} → (C → B) → (A → B → Type 0) → A → Result C HeaderError → Type 0
ReadsAs view grammar input (Ok x) = grammar input (view x)
ReadsAs {B = B} view grammar input (Err Invalid) = (x : B) → ¬ grammar input x
ReadsAs {B = B} view grammar input (Err Memory) = (x : B) × grammar input x

-- `ReadsAs` of what is read itself, without a view
abbrev pub ReadsBy : {A B : Type 0} → (A → B → Type 0) → A → Result B HeaderError → Type 0
ReadsBy grammar input result = ReadsAs (λ x. x) grammar input result

-- one or more decimal digits, which are this number, below 2^64
abbrev pub IsNumber : List ℕ → ℕ → Type 0
IsNumber text n = IsNumeral 10 text × (digits_value 10 text ≡ n) × (n < 2 ^ 64)
