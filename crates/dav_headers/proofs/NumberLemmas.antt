-- The texts of numbers.
use Rattle.std.proofs.Common.{◌≡◌, refl, ℕ, ◌<◌, List, [], ◌∷◌, true, arith}
use Rattle.std.specs.List.{list_all}
use Rattle.std.specs.Str.Parse.{AllDigits}
use Rattle.std.proofs.lemmas.Str.Parse.{digit_at, digit_from_value}
use Rattle.std.specs.Prelude.{decimal, Bool, false, nat_lt, ◌==◌, ◌+◌, ◌/◌, ◌%◌, ◌≤◌, suc, zero, if◌then◌else◌}
use Rattle.std.specs.Fmt.{digit_glyph, digits_onto, digits}
use Rattle.std.proofs.lemmas.Bool.{and_from, cond-true, lt-ltb}
use Rattle.std.proofs.lemmas.Bool.Decides.{nat_tests}
use Rattle.std.proofs.lemmas.List.Sums.{AllPass-from_list_all}
use Rattle.http_header.specs.FieldValue.{IsVisibleAscii}
use Rattle.http_header.specs.Token.{is_visible_or_blank}
use Rattle.dav_headers.specs.Cut.{IsWithout}
use Rattle.dav_headers.specs.Value.{IsNumber}

digits_visible : (ds : List ℕ) → AllDigits 10 ds → list_all is_visible_or_blank ds ≡ true
digits_visible [] all = refl
digits_visible (d ∷ ds) all =
    let digit = digit_from_value d all.0 in
    let visible : is_visible_or_blank d ≡ true = grind (arith, nat_tests) in
    and_from _ _ visible (digits_visible ds all.1)

-- a number is text
pub number_visible : (text : List ℕ) (n : ℕ) → IsNumber text n → IsVisibleAscii text
number_visible text n h = AllPass-from_list_all is_visible_or_blank text (digits_visible text h.0.1)

-- a byte below the digits isn't in a number
pub number_without : (c : ℕ) (text : List ℕ) (n : ℕ) → c < 48 → IsNumber text n → IsWithout c text
number_without c text n low h = λ i lt e.
    let digit = digit_at text i h.0.1 lt in
    omega (arith, digit.0, e, low)

glyph_visible : (m : ℕ) → m < 10 → is_visible_or_blank (digit_glyph false m) ≡ true
glyph_visible m small = rw (cond-true (nat_lt m 10) (48 + m) (87 + m) (lt-ltb m 10 small)) (visible (48 + m) (omega arith) (omega (arith, small)))
  where
    visible : (b : ℕ) → 48 ≤ b → b < 58 → is_visible_or_blank b ≡ true
    visible b low high = grind (arith, nat_tests)

onto_visible : (k n : ℕ) (acc : List ℕ) → list_all is_visible_or_blank acc ≡ true → list_all is_visible_or_blank (digits_onto k 10 false n acc) ≡ true
onto_visible zero n acc h = h
onto_visible (suc k) n acc h =
    let more : list_all is_visible_or_blank (digit_glyph false (n % 10) ∷ acc) ≡ true = and_from _ _ (glyph_visible (n % 10) (omega arith)) h in
    by_cases (n / 10 == 0) _ _ more (onto_visible k (n / 10) (digit_glyph false (n % 10) ∷ acc) more)
  where
    by_cases : (b : Bool) (xs ys : List ℕ) → list_all is_visible_or_blank xs ≡ true → list_all is_visible_or_blank ys ≡ true → list_all is_visible_or_blank (if b then xs else ys) ≡ true
    by_cases true xs ys p q = p
    by_cases false xs ys p q = q

-- what is written for a number is text
pub decimal_visible : (n : ℕ) → list_all is_visible_or_blank (decimal n) ≡ true
unfolding digits
decimal_visible n = onto_visible 64 n [] refl
