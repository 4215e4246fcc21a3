-- Characters that a document may have, as bytes.
use Rattle.std.proofs.Common.{◌≡◌, ℕ, ◌+◌, ◌/◌, ◌<◌, ◌≤◌, Bool, true, false, cond, ◌==◌, ltb, List, [], ◌∷◌, ◌++◌, length, Option, Some, None, refl, ap, subst, ◌∙◌, arith}
use Rattle.std.proofs.lemmas.Bool.{eq-eqb, eqb-true, ltb-true, ltb-false, and_parts, and_from}
use Rattle.std.proofs.lemmas.Bool.Decides.{nat_tests}
use Rattle.std.proofs.lemmas.Str.{utf8_valid_len-IsUtf8}
use Rattle.std.proofs.lemmas.List.Folds.{list_all-append}
use Rattle.std.specs.List.{list_all}
use Rattle.std.specs.Str.{IsUtf8, encode_utf8_all, all_scalars}
use Rattle.std.specs.Str.Lossy.{utf8_valid_len}
use lib.Utf8.{encode, next, scalar}
use Rattle.dav_xml.specs.Bytes.{after_text, split_text, behind, found_or}
use Rattle.dav_xml.specs.References.{is_char}
use Rattle.dav_xml.specs.Front.{is_printed, are_chars}
use Rattle.dav_xml.specs.Legal.{IsLegal}
use Rattle.dav_xml.proofs.Escapes.{by_test}

-- by the number of bytes of a character
pub encode_cases : (P : List ℕ → Type 0) (c : ℕ) → (c < 128 → P (c ∷ [])) → (128 ≤ c → c < 2048 → P ((192 + c / 64) ∷ next c ∷ []))
    → (2048 ≤ c → c < 65536 → P ((224 + c / 4096) ∷ next (c / 64) ∷ next c ∷ [])) → (65536 ≤ c → P ((240 + c / 262144) ∷ next (c / 4096) ∷ next (c / 64) ∷ next c ∷ []))
    → P (encode c)
unfolding encode
encode_cases P c p1 p2 p3 p4 =
    by_test (ltb c 128) (λ t. P (cond t (c ∷ []) (cond (ltb c 2048) ((192 + c / 64) ∷ next c ∷ []) (cond (ltb c 65536) ((224 + c / 4096) ∷ next (c / 64) ∷ next c ∷ []) ((240 + c / 262144) ∷ next (c / 4096) ∷ next (c / 64) ∷ next c ∷ [])))))
    (λ e. p1 (ltb-true c 128 e)) (λ e.
    by_test (ltb c 2048) (λ t. P (cond t ((192 + c / 64) ∷ next c ∷ []) (cond (ltb c 65536) ((224 + c / 4096) ∷ next (c / 64) ∷ next c ∷ []) ((240 + c / 262144) ∷ next (c / 4096) ∷ next (c / 64) ∷ next c ∷ []))))
    (λ f. p2 (ltb-false c 128 e) (ltb-true c 2048 f)) (λ f.
    by_test (ltb c 65536) (λ t. P (cond t ((224 + c / 4096) ∷ next (c / 64) ∷ next c ∷ []) ((240 + c / 262144) ∷ next (c / 4096) ∷ next (c / 64) ∷ next c ∷ [])))
    (λ g. p3 (ltb-false c 2048 f) (ltb-true c 65536 g)) (λ g. p4 (ltb-false c 65536 g))))

scalar_of : (c : ℕ) → is_char c ≡ true → scalar c ≡ true
scalar_of c e = grind (arith, nat_tests)

scalars_of : (cs : List ℕ) → list_all is_char cs ≡ true → all_scalars cs ≡ true
scalars_of [] e = refl
scalars_of (c ∷ cs) e = let parts = and_parts (is_char c) (list_all is_char cs) e in and_from (scalar c) (all_scalars cs) (scalar_of c parts.0) (scalars_of cs parts.1)

-- ---- printed

abbrev Printed : List ℕ → Type 0
Printed bytes = list_all is_printed bytes ≡ true

high : (b : ℕ) → 32 ≤ b → is_printed b ≡ true
high b le = grind (arith, nat_tests)

low : (c : ℕ) → is_char c ≡ true → is_printed c ≡ true
low c e = grind (arith, nat_tests)

pub printed : (c : ℕ) → is_char c ≡ true → Printed (encode c)
printed c e = encode_cases Printed c
    (λ lt. rw (low c e) refl)
    (λ le lt. rw (high (192 + c / 64) (omega arith), high (next c) (omega arith)) refl)
    (λ le lt. rw (high (224 + c / 4096) (omega arith), high (next (c / 64)) (omega arith), high (next c) (omega arith)) refl)
    (λ le. rw (high (240 + c / 262144) (omega arith), high (next (c / 4096)) (omega arith), high (next (c / 64)) (omega arith), high (next c) (omega arith)) refl)

-- ---- U+FFFE and U+FFFF

abbrev mark : ℕ → List ℕ
mark last = 239 ∷ 191 ∷ last ∷ []

passed : (last x : ℕ) (xs : List ℕ) → after_text (mark last) (x ∷ xs) ≡ None → split_text (mark last) xs ≡ None → split_text (mark last) (x ∷ xs) ≡ None
passed last x xs here there = ap (λ (o : Option (List ℕ)). found_or o (behind (x ∷ []) (split_text (mark last) xs))) here ∙ ap (behind (x ∷ [])) there

passed_low : (last x : ℕ) (xs : List ℕ) → (x == 239) ≡ false → split_text (mark last) xs ≡ None → split_text (mark last) (x ∷ xs) ≡ None
passed_low last x xs e there = passed last x xs (ap (λ (t : Bool). cond t (after_text (191 ∷ last ∷ []) xs) None) e) there

not_mark : (b : ℕ) → (b < 239) → (b == 239) ≡ false
not_mark b lt = grind (arith, nat_tests)

not_mark_late : (b : ℕ) → (239 < b) → (b == 239) ≡ false
not_mark_late b lt = grind (arith, nat_tests)

abbrev Unmarked : ℕ → List ℕ → List ℕ → Type 0
Unmarked last rest bytes = split_text (mark last) (bytes ++ rest) ≡ None

three_here : (c last : ℕ) (rest : List ℕ) → is_char c ≡ true → 190 ≤ last → last ≤ 191 → c < 65536 → after_text (mark last) ((224 + c / 4096) ∷ next (c / 64) ∷ next c ∷ rest) ≡ None
three_here c last rest e le ge lt =
    by_test (224 + c / 4096 == 239) (λ t. cond t (cond (next (c / 64) == 191) (cond (next c == last) (Some rest) None) None) None ≡ None) (λ e1.
    by_test (next (c / 64) == 191) (λ t. cond t (cond (next c == last) (Some rest) None) None ≡ None) (λ e2.
    by_test (next c == last) (λ t. cond t (Some rest) None ≡ None) (λ e3.
    let n1 : 224 + c / 4096 ≡ 239 = eqb-true (224 + c / 4096) 239 e1 in
    let n2 : next (c / 64) ≡ 191 = eqb-true (next (c / 64)) 191 e2 in
    let n3 : next c ≡ last = eqb-true (next c) last e3 in
    let late : 65534 ≤ c = omega arith in
    absurd (not_late c e late lt)) (λ e3. refl)) (λ e2. refl)) (λ e1. refl)
  where
    not_late : (c : ℕ) → is_char c ≡ true → 65534 ≤ c → c < 65536 → ⊥
    not_late c e le lt = grind (arith, nat_tests)

pub unmarked : (c last : ℕ) (rest : List ℕ) → is_char c ≡ true → 190 ≤ last → last ≤ 191 → split_text (mark last) rest ≡ None → Unmarked last rest (encode c)
unmarked c last rest e le ge there = encode_cases (Unmarked last rest) c
    (λ lt. passed_low last c rest (not_mark c (omega arith)) there)
    (λ b lt. passed_low last (192 + c / 64) (next c ∷ rest) (not_mark (192 + c / 64) (omega arith)) (passed_low last (next c) rest (not_mark (next c) (omega arith)) there))
    (λ b lt. passed last (224 + c / 4096) (next (c / 64) ∷ next c ∷ rest) (three_here c last rest e le ge lt)
    (passed_low last (next (c / 64)) (next c ∷ rest) (not_mark (next (c / 64)) (omega arith)) (passed_low last (next c) rest (not_mark (next c) (omega arith)) there)))
    (λ b. passed_low last (240 + c / 262144) (next (c / 4096) ∷ next (c / 64) ∷ next c ∷ rest) (not_mark_late (240 + c / 262144) (omega arith))
    (passed_low last (next (c / 4096)) (next (c / 64) ∷ next c ∷ rest) (not_mark (next (c / 4096)) (omega arith))
    (passed_low last (next (c / 64)) (next c ∷ rest) (not_mark (next (c / 64)) (omega arith)) (passed_low last (next c) rest (not_mark (next c) (omega arith)) there))))

all_printed : (cs : List ℕ) → list_all is_char cs ≡ true → Printed (encode_utf8_all cs)
all_printed [] e = refl
all_printed (c ∷ cs) e =
    let parts = and_parts (is_char c) (list_all is_char cs) e in
    list_all-append is_printed (encode c) (encode_utf8_all cs) ∙ and_from (list_all is_printed (encode c)) (list_all is_printed (encode_utf8_all cs)) (printed c parts.0) (all_printed cs parts.1)

all_unmarked : (cs : List ℕ) (last : ℕ) → list_all is_char cs ≡ true → 190 ≤ last → last ≤ 191 → split_text (mark last) (encode_utf8_all cs) ≡ None
all_unmarked [] last e le ge = refl
all_unmarked (c ∷ cs) last e le ge =
    let parts = and_parts (is_char c) (list_all is_char cs) e in
    unmarked c last (encode_utf8_all cs) parts.0 le ge (all_unmarked cs last parts.1 le ge)

utf8_of : (cs : List ℕ) → list_all is_char cs ≡ true → (utf8_valid_len (encode_utf8_all cs) == length (encode_utf8_all cs)) ≡ true
utf8_of cs e = eq-eqb (utf8_valid_len (encode_utf8_all cs)) (length (encode_utf8_all cs)) (utf8_valid_len-IsUtf8 (encode_utf8_all cs) (cs, (scalars_of cs e, refl)))

chars_of : (cs : List ℕ) → list_all is_char cs ≡ true → are_chars (encode_utf8_all cs) ≡ true
unfolding are_chars
chars_of cs e = rw (utf8_of cs e, all_printed cs e, all_unmarked cs 190 e (omega arith) (omega arith), all_unmarked cs 191 e (omega arith) (omega arith)) refl

pub legal_chars : (bytes : List ℕ) → IsLegal bytes → are_chars bytes ≡ true
legal_chars bytes h = subst (λ (bs : List ℕ). are_chars bs ≡ true) h.spelled (chars_of h.characters h.legal)

pub legal_is_utf8 : (bytes : List ℕ) → IsLegal bytes → IsUtf8 bytes
legal_is_utf8 bytes h = subst IsUtf8 h.spelled (h.characters, (scalars_of h.characters h.legal, refl))

pub legal_utf8 : (bytes : List ℕ) → IsLegal bytes → (utf8_valid_len bytes == length bytes) ≡ true
legal_utf8 bytes h = subst (λ (bs : List ℕ). (utf8_valid_len bs == length bs) ≡ true) h.spelled (utf8_of h.characters h.legal)
