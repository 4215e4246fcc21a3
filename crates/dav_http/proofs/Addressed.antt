-- An If in which each address of a resource is a whole URL is the value of a field, as it was before.
use Rattle.std.proofs.Common.{◌≡◌, ◌⊎◌, inl, inr, ℕ, Bool, true, false, not, ◌&&◌, ◌==◌, if◌then◌else◌, nat_le, arith, IsTrue, List, [], ◌∷◌, ◌++◌, codes, append_assoc, refl, subst, sym, ap, ◌∙◌, true≢false}
use Rattle.std.specs.List.{list_all}
use Rattle.std.proofs.lemmas.Bool.{and_parts, cond-false, cond-true}
use Rattle.std.proofs.lemmas.Bool.Decides.{nat_tests}
use Rattle.std.proofs.lemmas.List.Elements.{All-nil, All-cons, All-head, All-tail, All-append}
use Rattle.httparse.specs.Grammar.{AllPass, is_ows, is_value_byte, skip_ows}
use Rattle.httparse.proofs.TrimLemmas.{skip_ows_no}
use Rattle.dav_http.specs.Kept.{addressed, is_rooted}

-- the test on a byte of an If, and what comes in its place
abbrev begins : Bool → ℕ → List ℕ → Bool
begins quoted b bs = not quoted && (b == 60 && is_rooted bs)

abbrev piece : Bool → ℕ → List ℕ → List ℕ
piece quoted b bs = if begins quoted b bs then codes "<http://localhost" else b ∷ []

abbrev after : Bool → ℕ → Bool
after quoted b = if b == 34 then not quoted else quoted

abbrev host : List ℕ
host = codes "<http://localhost"

piece_true : (quoted : Bool) (b : ℕ) (bs : List ℕ) → begins quoted b bs ≡ true → piece quoted b bs ≡ host
piece_true quoted b bs is = cond-true (begins quoted b bs) host (b ∷ []) is

piece_false : (quoted : Bool) (b : ℕ) (bs : List ℕ) → begins quoted b bs ≡ false → piece quoted b bs ≡ b ∷ []
piece_false quoted b bs is = cond-false (begins quoted b bs) host (b ∷ []) is

-- ---- its bytes

value_of_digit : (b : ℕ) → (nat_le 32 b && nat_le b 126) ≡ true → is_value_byte b ≡ true
value_of_digit b is = grind (arith, nat_tests, is)

-- printable bytes may stand in the value of a field
pub values_of_printed : (bs : List ℕ) → list_all (λ b. nat_le 32 b && nat_le b 126) bs ≡ true → AllPass is_value_byte bs
values_of_printed [] is = All-nil (λ b. IsTrue (is_value_byte b))
values_of_printed (b ∷ bs) is =
    let both = and_parts _ _ is in
    All-cons (λ b. IsTrue (is_value_byte b)) b bs (value_of_digit b both.0) (values_of_printed bs both.1)

host_passes : AllPass is_value_byte host
host_passes = values_of_printed host refl

piece_passes : (quoted : Bool) (b : ℕ) (bs : List ℕ) → IsTrue (is_value_byte b) → AllPass is_value_byte (piece quoted b bs)
piece_passes quoted b bs one = by_test (begins quoted b bs) refl
  where
    by_test : (t : Bool) → begins quoted b bs ≡ t → AllPass is_value_byte (piece quoted b bs)
    by_test true is = subst (AllPass is_value_byte) (sym (piece_true quoted b bs is)) host_passes
    by_test false is =
        subst (AllPass is_value_byte) (sym (piece_false quoted b bs is))
        (All-cons (λ b. IsTrue (is_value_byte b)) b [] one (All-nil (λ b. IsTrue (is_value_byte b))))

pub bytes_pass : (quoted : Bool) (bs : List ℕ) → AllPass is_value_byte bs → AllPass is_value_byte (addressed quoted bs)
bytes_pass quoted [] all = all
bytes_pass quoted (b ∷ bs) all =
    All-append (λ b. IsTrue (is_value_byte b)) (piece quoted b bs) (addressed (after quoted b) bs)
    (piece_passes quoted b bs (All-head (λ b. IsTrue (is_value_byte b)) b bs all))
    (bytes_pass (after quoted b) bs (All-tail (λ b. IsTrue (is_value_byte b)) b bs all))

-- ---- its ends

first_of_host : (rest : List ℕ) → skip_ows (host ++ rest) ≡ host ++ rest
first_of_host rest = skip_ows_no refl refl

-- where the first byte is no white space, that of what comes in its place is none
pub front_stays : (quoted : Bool) (b : ℕ) (bs : List ℕ) → is_ows b ≡ false → skip_ows (addressed quoted (b ∷ bs)) ≡ addressed quoted (b ∷ bs)
front_stays quoted b bs plain = by_test (begins quoted b bs) refl
  where
    rest : List ℕ
    rest = addressed (after quoted b) bs

    by_test : (t : Bool) → begins quoted b bs ≡ t → skip_ows (piece quoted b bs ++ rest) ≡ piece quoted b bs ++ rest
    by_test true is = subst (λ (p : List ℕ). skip_ows (p ++ rest) ≡ p ++ rest) (sym (piece_true quoted b bs is)) (first_of_host rest)
    by_test false is = subst (λ (p : List ℕ). skip_ows (p ++ rest) ≡ p ++ rest) (sym (piece_false quoted b bs is)) (skip_ows_no refl (sym plain))

last_begins_nothing : (quoted : Bool) (b : ℕ) → begins quoted b [] ≡ false
last_begins_nothing quoted b = by_test (begins quoted b []) refl
  where
    by_test : (t : Bool) → begins quoted b [] ≡ t → begins quoted b [] ≡ false
    by_test false is = is
    by_test true is = absurd (true≢false (sym (and_parts _ _ (and_parts _ _ is).1).1))

-- the last byte stays
pub last_stays : (quoted : Bool) (front : List ℕ) (b : ℕ) → (more : List ℕ) × (addressed quoted (front ++ b ∷ []) ≡ more ++ b ∷ [])
last_stays quoted [] b = ([], ap (λ (p : List ℕ). p ++ []) (piece_false quoted b [] (last_begins_nothing quoted b)))
last_stays quoted (a ∷ front) b =
    let (more, same) = last_stays (after quoted a) front b in
    let p = piece quoted a (front ++ b ∷ []) in
    (p ++ more, ap (λ (xs : List ℕ). p ++ xs) same ∙ sym (append_assoc p more (b ∷ [])))

pub last_or_none : (xs : List ℕ) → (xs ≡ []) ⊎ ((front : List ℕ) × (b : ℕ) × (xs ≡ front ++ b ∷ []))
last_or_none [] = inl refl
last_or_none (x ∷ xs) = by (last_or_none xs)
  where
    by : (xs ≡ []) ⊎ ((front : List ℕ) × (b : ℕ) × (xs ≡ front ++ b ∷ [])) → (x ∷ xs ≡ []) ⊎ ((front : List ℕ) × (b : ℕ) × (x ∷ xs ≡ front ++ b ∷ []))
    by (inl none) = inr ([], x, ap (λ (ys : List ℕ). x ∷ ys) none)
    by (inr (front, b, same)) = inr (x ∷ front, b, ap (λ (ys : List ℕ). x ∷ ys) same)
