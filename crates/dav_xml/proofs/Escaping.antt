-- What is escaped byte by byte is written slice by slice.
use Rattle.std.proofs.Common.{◌≡◌, ℕ, ◌+◌, ◌<◌, ◌≤◌, Bool, List, [], ◌∷◌, ◌++◌, length, take, drop, get_or, arith, sym, ap, ◌∙◌, append_assoc}
use Rattle.std.proofs.lemmas.List.{drop_more, drop-append-le, length-drop, length-take-le, nil_from_length, take_more}
use Rattle.dav_xml.specs.Spelling.{escaped, escaped_byte}

-- the first of the bytes that are left
one_more : (attribute : Bool) (bytes : List ℕ) (at : ℕ) → at < length bytes
    → escaped attribute (drop at bytes) ≡ escaped_byte attribute (get_or bytes at 0) ++ escaped attribute (drop (at + 1) bytes)
unfolding escaped
one_more attribute bytes at lt = ap (escaped attribute) (drop_more bytes at 0 lt)

-- a byte that stands for itself is left for the next slice
pub stays : (attribute : Bool) (out out2 all bytes : List ℕ) (from from2 at : ℕ) → out2 ≡ out → from2 ≡ from → from ≤ at → at < length bytes
    → get_or bytes at 0 ∷ [] ≡ escaped_byte attribute (get_or bytes at 0)
    → out ++ (drop from (take at bytes) ++ escaped attribute (drop at bytes)) ≡ all
    → out2 ++ (drop from2 (take (at + 1) bytes) ++ escaped attribute (drop (at + 1) bytes)) ≡ all
stays attribute out out2 all bytes from from2 at same begins le lt itself so_far =
    let x : ℕ = get_or bytes at 0 in
    let left : List ℕ = escaped attribute (drop (at + 1) bytes) in
    let slice : List ℕ = drop from (take at bytes) in
    let within : from ≤ length (take at bytes) = omega (arith, length-take-le at bytes) in
    let longer : drop from (take (at + 1) bytes) ≡ slice ++ x ∷ [] = ap (drop from) (take_more bytes at 0 lt) ∙ drop-append-le from (take at bytes) (x ∷ []) within in
    (λ k. same k ++ (drop (begins k) (take (at + 1) bytes) ++ left))
    ∙ ap (λ (bs : List ℕ). out ++ (bs ++ left)) longer
    ∙ ap (λ (bs : List ℕ). out ++ bs) (append_assoc slice (x ∷ []) left)
    ∙ ap (λ (bs : List ℕ). out ++ (slice ++ (bs ++ left))) itself
    ∙ ap (λ (bs : List ℕ). out ++ (slice ++ bs)) (sym (one_more attribute bytes at lt))
    ∙ so_far

-- the slice before a byte is written, and then the reference that stands for it
pub referred : (attribute : Bool) (out out1 out2 all bytes reference : List ℕ) (from from2 at : ℕ) → from2 ≡ at + 1 → at < length bytes
    → reference ≡ escaped_byte attribute (get_or bytes at 0)
    → out1 ≡ out ++ drop from (take at bytes) → out2 ≡ out1 ++ reference
    → out ++ (drop from (take at bytes) ++ escaped attribute (drop at bytes)) ≡ all
    → out2 ++ (drop from2 (take (at + 1) bytes) ++ escaped attribute (drop (at + 1) bytes)) ≡ all
referred attribute out out1 out2 all bytes reference from from2 at begins lt stands first second so_far =
    let left : List ℕ = escaped attribute (drop (at + 1) bytes) in
    let slice : List ℕ = drop from (take at bytes) in
    let none : drop from2 (take (at + 1) bytes) ≡ [] = nil_from_length (drop from2 (take (at + 1) bytes)) (omega (arith, length-drop from2 (take (at + 1) bytes), length-take-le (at + 1) bytes)) in
    (λ k. second k ++ (none k ++ left))
    ∙ append_assoc out1 reference left
    ∙ (λ k. first k ++ (stands k ++ left))
    ∙ append_assoc out slice (escaped_byte attribute (get_or bytes at 0) ++ left)
    ∙ ap (λ (bs : List ℕ). out ++ (slice ++ bs)) (sym (one_more attribute bytes at lt))
    ∙ so_far
