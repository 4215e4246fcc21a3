-- Numbers in decimal may be sent as texts.
use Rattle.std.proofs.Common.{◌≡◌, ℕ, zero, suc, ◌+◌, ◌/◌, ◌%◌, ◌<◌, ◌==◌, Bool, true, false, cond, ◌&&◌, nat_le, nat_lt, List, [], ◌∷◌, refl, arith}
use Rattle.std.proofs.lemmas.Bool.{and_from}
use Rattle.std.proofs.lemmas.Bool.Decides.{nat_tests}
use Rattle.std.specs.Fmt.{digit_glyph, digits_onto, digits, decimal}
use Rattle.std.specs.List.{list_all}
use Rattle.dav_core.specs.Element.{text, tree_then, no_trees}
use Rattle.dav_xml.specs.Sendable.{AreSendable}
use Rattle.dav_xml.proofs.Escapes.{by_test}
use Rattle.dav_presented.proofs.SentTypes.{is_word, word_sent}

abbrev printable : ℕ → Bool
printable b = nat_le 32 b && nat_le b 126

glyph : (d : ℕ) → d < 10 → printable (digit_glyph false d) ≡ true
glyph d lt = by_test (nat_lt d 10) (λ t. nat_lt d 10 ≡ t → printable (cond t (48 + d) (87 + d)) ≡ true) (λ e is. low d is) (λ e is. high d lt) refl
  where
    low : (d : ℕ) → nat_lt d 10 ≡ true → printable (48 + d) ≡ true
    low d e = grind (arith, nat_tests)

    high : (d : ℕ) → d < 10 → printable (87 + d) ≡ true
    high d lt = grind (arith, nat_tests)

one_more : (n : ℕ) (acc : List ℕ) → list_all printable acc ≡ true → list_all printable (digit_glyph false (n % 10) ∷ acc) ≡ true
one_more n acc h = and_from (printable (digit_glyph false (n % 10))) (list_all printable acc) (glyph (n % 10) (omega arith)) h

onto : (k n : ℕ) (acc : List ℕ) → list_all printable acc ≡ true → is_word (digits_onto (suc k) 10 false n acc) ≡ true
onto zero n acc h =
    let one = one_more n acc h in
    by_test (n / 10 == 0) (λ t. is_word (cond t (digit_glyph false (n % 10) ∷ acc) (digit_glyph false (n % 10) ∷ acc)) ≡ true) (λ e. one) (λ e. one)
onto (suc k) n acc h =
    let one = one_more n acc h in
    by_test (n / 10 == 0) (λ t. is_word (cond t (digit_glyph false (n % 10) ∷ acc) (digits_onto (suc k) 10 false (n / 10) (digit_glyph false (n % 10) ∷ acc))) ≡ true)
    (λ e. one) (λ e. onto k (n / 10) (digit_glyph false (n % 10) ∷ acc) one)

decimal_word : (n : ℕ) → is_word (decimal n) ≡ true
unfolding digits
decimal_word n = onto 63 n [] refl

pub decimal_sent : (n : ℕ) → AreSendable false (tree_then (text (decimal n)) no_trees)
decimal_sent n = word_sent (decimal n) (decimal_word n)
