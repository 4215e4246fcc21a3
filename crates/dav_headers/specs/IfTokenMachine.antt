-- How an If header is cut into tokens: functions that the code follows.
use Rattle.std.specs.Prelude.{ℕ, ◌+◌, ◌==◌, ◌&&◌, ◌||◌, Bool, false, not, nat_le, nat_eq, if◌then◌else◌, take, drop, List, [], ◌∷◌, Option, Some, None, option_map}
use Rattle.std.specs.List.{starts_with, prefix_len}
use Rattle.dav_headers.specs.IfTokens.{Token, open_list, close_list, negation, angle, square, word}

-- whether a byte is white space in an If header: space, tab, CR or LF
abbrev pub is_white_space : ℕ → Bool
is_white_space b = b == 32 || b == 9 || b == 13 || b == 10

-- whether a byte may be in a bare word: from 33 up, but none of `<>()[]`
abbrev pub is_word_byte : ℕ → Bool
is_word_byte b =
    nat_le 33 b && not (b == 60) && not (b == 62) && not (b == 40) && not (b == 41) && not (b == 91) && not (b == 93)

-- the text without the white space at its beginning
abbrev pub skip : List ℕ → List ℕ
skip [] = []
skip (b ∷ bs) = if is_white_space b then skip bs else b ∷ bs

-- How many bytes are before the first closing sign that isn't between quotes (`quoted`: a quote is open); none where white space is
-- before it, or where there is no such sign.
abbrev pub inside_len : ℕ → Bool → List ℕ → Option ℕ
inside_len close quoted [] = None
inside_len close quoted (b ∷ bs) =
    if is_white_space b then None
    else (if b == close && not quoted then Some 0
    else option_map (λ n. n + 1) (inside_len close (if b == 34 then not quoted else quoted) bs))

-- a token and what follows it, or none
abbrev pub Split : Type 0
Split = Option (Token × List ℕ)

-- the bytes before the closing sign, and those after it; none where white space is before it, or where there is no such sign
abbrev pub split_inside : ℕ → List ℕ → Option (List ℕ × List ℕ)
split_inside close text = option_map (λ n. (take n text, drop (n + 1) text)) (inside_len close false text)

-- the token of the bytes before the closing sign, and what follows that sign; none where there is none
abbrev pub bracketed : (List ℕ → Token) → ℕ → List ℕ → Split
bracketed make close text = option_map (λ x. (make x.0, x.1)) (split_inside close text)

-- how many bytes of a bare word the text begins with
abbrev pub word_len : List ℕ → ℕ
word_len text = prefix_len is_word_byte text

-- the bare word that the text begins with, and what follows it; none where it begins with none
abbrev pub word_at : List ℕ → Split
word_at text =
    if word_len text == 0 then None
    else Some (word (take (word_len text) text), drop (word_len text) text)

-- the token that the text begins with, and what follows it; none where it begins with none
abbrev pub token_at : List ℕ → Split
token_at text =
    if starts_with nat_eq text (40 ∷ []) then Some (open_list, drop 1 text)
    else (if starts_with nat_eq text (41 ∷ []) then Some (close_list, drop 1 text)
    else (if starts_with nat_eq text (78 ∷ 111 ∷ 116 ∷ []) then Some (negation, drop 3 text)
    else (if starts_with nat_eq text (60 ∷ []) then bracketed angle 62 (drop 1 text)
    else (if starts_with nat_eq text (91 ∷ []) then bracketed square 93 (drop 1 text)
    else word_at text))))
