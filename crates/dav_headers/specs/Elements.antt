-- Lists in the values of headers (RFC 9110, section 5.6.1).
use Rattle.std.specs.Prelude.{ℕ, ◌-◌, List, [], ◌∷◌, ◌++◌, ◌==◌, length, take, drop, map}
use Rattle.std.specs.Char.{is_ascii_whitespace}
use Rattle.std.specs.List.{flat_map, prefix_len, slice_split, suffix_len}

-- the text without ASCII white space at its ends; of bytes that are text in a header this is space and tab, OWS (RFC 9110, section 5.6.3)
abbrev pub trimmed : List ℕ → List ℕ
trimmed text =
    let rest = drop (prefix_len is_ascii_whitespace text) text in
    take (length rest - suffix_len is_ascii_whitespace rest) rest

-- the list elements: what is between the commas, without OWS around it, empty elements too (RFC 9110, sections 5.6.1 and 5.6.3)
abbrev pub elements_of : List ℕ → List (List ℕ)
elements_of text = map trimmed (slice_split (λ b. b == 44) text)

-- the list elements as they are written, with a comma and a space between them (RFC 9110, section 5.6.1)
abbrev pub joined : List (List ℕ) → List ℕ
joined [] = []
joined (x ∷ xs) = x ++ flat_map (λ y. 44 ∷ 32 ∷ y) xs
