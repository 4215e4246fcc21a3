-- The tokens of an If header (RFC 4918, section 10.4): `(`, `)`, `Not`, and what is in brackets or alone.
use Rattle.std.specs.Prelude.{◌≡◌, ◌≢◌, ℕ, ◌≤◌, ◌<◌, ◌==◌, ◌++◌, ◌⊎◌, ⊤, Bool, true, false, not, if◌then◌else◌, length, List, [], ◌∷◌, All}

-- white space in an If header: space, tab, CR and LF
abbrev pub IsWhiteSpace : ℕ → Type 0
IsWhiteSpace b = (b ≡ 32) ⊎ ((b ≡ 9) ⊎ ((b ≡ 13) ⊎ (b ≡ 10)))

-- a byte of a bare word: from 33 up, but none of `<>()[]`
abbrev pub IsWordByte : ℕ → Type 0
IsWordByte b = (33 ≤ b) × (b ≢ 60) × (b ≢ 62) × (b ≢ 40) × (b ≢ 41) × (b ≢ 91) × (b ≢ 93)

-- What may be before the closing sign of `<>` or `[]` (`quoted`: a quote is open): no white space, the closing sign between quotes only,
-- and no quote still open at the end (RFC 4918, section 10.4.2).
abbrev pub IsInside : ℕ → Bool → List ℕ → Type 0
IsInside close quoted [] = quoted ≡ false
IsInside close quoted (b ∷ bs) =
    (¬ IsWhiteSpace b) × (b ≡ close → quoted ≡ true) × IsInside close (if b == 34 then not quoted else quoted) bs

-- a token of an If header: `(`, `)`, `Not`, what is in `<>`, what is in `[]`, or a bare word (RFC 4918, section 10.4.2)
pub data Token : Type 0 where
  open_list close_list negation : Token
  angle : List ℕ → Token
  square : List ℕ → Token
  word : List ℕ → Token

-- the text doesn't begin with a byte of a bare word
abbrev pub EndsWord : List ℕ → Type 0
EndsWord [] = ⊤
EndsWord (b ∷ bs) = ¬ IsWordByte b

-- The text begins with this token, and goes on with the rest. A bare word is as long as it can be, and doesn't begin
-- with `Not`, which is always a token of its own (RFC 4918, section 10.4.2).
abbrev pub Begins : List ℕ → Token → List ℕ → Type 0
Begins text open_list rest = text ≡ 40 ∷ rest
Begins text close_list rest = text ≡ 41 ∷ rest
Begins text negation rest = text ≡ 78 ∷ 111 ∷ 116 ∷ rest
Begins text (angle t) rest = IsInside 62 false t × (text ≡ 60 ∷ (t ++ 62 ∷ rest))
Begins text (square t) rest = IsInside 93 false t × (text ≡ 91 ∷ (t ++ 93 ∷ rest))
Begins text (word w) rest =
    (0 < length w) × All IsWordByte w × EndsWord rest × (text ≡ w ++ rest)
    × ((more : List ℕ) → text ≢ 78 ∷ 111 ∷ 116 ∷ more)

-- the text consists of these tokens, with optional white space before, between and after them (RFC 4918, section 10.4.2)
abbrev pub Spells : List ℕ → List Token → Type 0
Spells text [] = All IsWhiteSpace text
Spells text (t ∷ ts) =
    (gap : List ℕ) × (inner : List ℕ) × (rest : List ℕ)
    × All IsWhiteSpace gap × (text ≡ gap ++ inner) × Begins inner t rest × Spells rest ts
