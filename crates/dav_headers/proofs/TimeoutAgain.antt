-- The text of TimeTypes is read back as the same TimeTypes.
use Rattle.std.proofs.Common.{◌≡◌, ◌⊎◌, inl, inr, ℕ, ◌+◌, ◌-◌, ◌/◌, ◌%◌, ◌<◌, ◌≤◌, ◌^◌, Bool, true, false, List, [], ◌∷◌, ◌++◌, ◌∙◌, sym, ap, refl, subst, length, map, drop, take, reverse, All, arith, append-nil, append_assoc, cond}
use Rattle.std.specs.Prelude.{codes, decimal, ◌==◌, not}
use Rattle.std.specs.Char.{is_ascii_whitespace}
use Rattle.std.specs.List.{flat_map, list_all, prefix_len, slice_split, suffix_len}
use Rattle.std.specs.Str.Parse.{AllDigits}
use Rattle.std.proofs.lemmas.Bool.{and_from, cases_lt}
use Rattle.std.proofs.lemmas.Bool.Decides.{nat_tests}
use Rattle.std.proofs.lemmas.Fmt.{decimal_is_IsNumeral, decimal_digit, decimal_step}
use Rattle.std.proofs.lemmas.List.{take_all, reverse-append}
use Rattle.std.proofs.lemmas.List.Splits.{slice_split_at, slice_split_none}
use Rattle.std.proofs.lemmas.List.Elements.{All-head, All-tail}
use Rattle.std.proofs.lemmas.List.Folds.{list_all-append}
use Rattle.std.proofs.lemmas.List.Sums.{AllPass-from_list_all}
use Rattle.std.proofs.lemmas.Str.Parse.{digit_from_value}
use Rattle.dav_headers.specs.Laws.{written, IsShort}
use Rattle.dav_headers.specs.Elements.{elements_of, trimmed}
use Rattle.dav_headers.specs.Timeout.{AreTimeTypes, IsTimeout, IsTimeType, timeout_text, time_type_text}
use Rattle.dav_headers.specs.declared.timeout.DavTimeout.{DavTimeout}
use Rattle.dav_headers.specs.declared.timeout.DavTimeout.TheVariants.{Seconds, Infinite}
use Rattle.dav_headers.proofs.LawLemmas.{number_again, one_reads}
use Rattle.dav_headers.proofs.TimeoutLemmas.{shown}

-- a text without commas
abbrev plain : List ℕ → Bool
plain text = list_all (λ b. not (b == 44)) text

not_true : (b : Bool) → not b ≡ true → b ≡ false
not_true true e = sym e
not_true false e = refl

no_comma : (text : List ℕ) → plain text ≡ true → All (λ b. (b == 44) ≡ false) text
no_comma text h = λ k d lt. not_true _ (AllPass-from_list_all (λ b. not (b == 44)) text h k d lt)

digits_plain : (ds : List ℕ) → AllDigits 10 ds → plain ds ≡ true
digits_plain [] all = refl
digits_plain (d ∷ ds) all =
    let digit = digit_from_value d all.0 in
    let other : not (d == 44) ≡ true = grind (arith, nat_tests) in
    and_from _ _ other (digits_plain ds all.1)

below : (n : ℕ) → n < 2 ^ 32 → n < 2 ^ 64
below n small = omega (arith, small)

time_type_plain : (w : DavTimeout) → IsShort w → plain (time_type_text w) ≡ true
time_type_plain (Seconds n) small =
    let numeral = decimal_is_IsNumeral n (below n small) in
    list_all-append (λ b. not (b == 44)) (codes "Second-") (decimal n) ∙ and_from _ _ refl (digits_plain (decimal n) numeral.0.1)
time_type_plain Infinite small = refl

-- the elements between the commas of joined texts
split_joined : (x : List ℕ) (ws : List DavTimeout) → plain x ≡ true → All IsShort ws → slice_split (λ b. b == 44) (x ++ flat_map (λ y. 44 ∷ 32 ∷ y) (map time_type_text ws)) ≡ x ∷ map (λ y. 32 ∷ y) (map time_type_text ws)
split_joined x [] h all = ap (slice_split (λ b. b == 44)) (append-nil x) ∙ slice_split_none (λ b. b == 44) x (no_comma x h)
split_joined x (w ∷ ws) h all =
    let this : plain (32 ∷ time_type_text w) ≡ true = time_type_plain w (All-head IsShort w ws all) in
    slice_split_at (λ b. b == 44) x 44 (32 ∷ (time_type_text w ++ flat_map (λ y. 44 ∷ 32 ∷ y) (map time_type_text ws))) (no_comma x h) refl
    ∙ ap (λ ps. x ∷ ps) (split_joined (32 ∷ time_type_text w) ws this (All-tail IsShort w ws all))

-- a text that neither begins nor ends with white space
record IsTight (text : List ℕ) : Type 0 where
  front : prefix_len is_ascii_whitespace text ≡ 0
  back : suffix_len is_ascii_whitespace text ≡ 0

trimmed_tight : (text : List ℕ) → IsTight text → trimmed text ≡ text
trimmed_tight text tight =
    ap (λ k. let rest = drop k text in take (length rest - suffix_len is_ascii_whitespace rest) rest) tight.front
    ∙ ap (λ k. take (length text - k) text) tight.back ∙ take_all (length text - 0) text (omega arith)

trimmed_space : (text : List ℕ) → IsTight text → trimmed (32 ∷ text) ≡ text
trimmed_space text tight =
    ap (λ k. let rest = drop (1 + k) (32 ∷ text) in take (length rest - suffix_len is_ascii_whitespace rest) rest) tight.front
    ∙ ap (λ k. take (length text - k) text) tight.back ∙ take_all (length text - 0) text (omega arith)

last_no_space : (b : ℕ) (xs : List ℕ) → 48 ≤ b → b < 58 → prefix_len is_ascii_whitespace (b ∷ xs) ≡ 0
last_no_space b xs low high =
    let no : is_ascii_whitespace b ≡ false = grind (arith, nat_tests) in
    ap (λ t. cond t (1 + prefix_len is_ascii_whitespace xs) 0) no

ends_in_digit : (front : List ℕ) (b : ℕ) → 48 ≤ b → b < 58 → suffix_len is_ascii_whitespace (front ++ b ∷ []) ≡ 0
ends_in_digit front b low high = ap (prefix_len is_ascii_whitespace) (reverse-append front (b ∷ [])) ∙ last_no_space b (reverse front) low high

decimal_back : (text : List ℕ) (n : ℕ) → n < 2 ^ 64 → suffix_len is_ascii_whitespace (text ++ decimal n) ≡ 0
decimal_back text n small = by_size (cases_lt n 10)
  where
    by_size : (n < 10) ⊎ (10 ≤ n) → suffix_len is_ascii_whitespace (text ++ decimal n) ≡ 0
    by_size (inl one) = ap (λ ds. suffix_len is_ascii_whitespace (text ++ ds)) (decimal_digit n one) ∙ ends_in_digit text (48 + n) (omega arith) (omega (arith, one))
    by_size (inr more) =
        ap (λ ds. suffix_len is_ascii_whitespace (text ++ ds)) (decimal_step n more small)
        ∙ ap (suffix_len is_ascii_whitespace) (sym (append_assoc text (decimal (n / 10)) ((48 + n % 10) ∷ [])))
        ∙ ends_in_digit (text ++ decimal (n / 10)) (48 + n % 10) (omega arith) (omega arith)

time_type_tight : (w : DavTimeout) → IsShort w → IsTight (time_type_text w)
time_type_tight (Seconds n) small = record { front = refl; back = decimal_back (codes "Second-") n (below n small) }
time_type_tight Infinite small = record { front = refl; back = refl }

rest_trimmed : (ws : List DavTimeout) → All IsShort ws → map trimmed (map (λ y. 32 ∷ y) (map time_type_text ws)) ≡ map time_type_text ws
rest_trimmed [] all = refl
rest_trimmed (w ∷ ws) all =
    ap (λ t. t ∷ map trimmed (map (λ y. 32 ∷ y) (map time_type_text ws))) (trimmed_space (time_type_text w) (time_type_tight w (All-head IsShort w ws all)))
    ∙ ap (λ ts. time_type_text w ∷ ts) (rest_trimmed ws (All-tail IsShort w ws all))

elements_again : (w : DavTimeout) (ws : List DavTimeout) → All IsShort (w ∷ ws) → elements_of (timeout_text (w ∷ ws)) ≡ map time_type_text (w ∷ ws)
elements_again w ws all =
    let first = All-head IsShort w ws all in
    let others = All-tail IsShort w ws all in
    ap (map trimmed) (split_joined (time_type_text w) ws (time_type_plain w first) others)
    ∙ ap (λ t. t ∷ map trimmed (map (λ y. 32 ∷ y) (map time_type_text ws))) (trimmed_tight (time_type_text w) (time_type_tight w first))
    ∙ ap (λ ts. time_type_text w ∷ ts) (rest_trimmed ws others)

time_type_again : (w : DavTimeout) → IsShort w → IsTimeType (time_type_text w) w
time_type_again (Seconds n) small = (decimal n, refl, number_again n (below n small), small)
time_type_again Infinite small = refl

time_types_again : (ws : List DavTimeout) → All IsShort ws → AreTimeTypes (map time_type_text ws) ws
time_types_again [] all = tt
time_types_again (w ∷ ws) all = (time_type_again w (All-head IsShort w ws all), time_types_again ws (All-tail IsShort w ws all))

pub timeout_again : (w : DavTimeout) → (ws : List DavTimeout) → All IsShort (w ∷ ws) → IsTimeout (written (timeout_text (w ∷ ws))) (w ∷ ws)
timeout_again w ws all =
    one_reads (timeout_text (w ∷ ws)) (λ t. AreTimeTypes (elements_of t) (w ∷ ws)) (shown (w ∷ ws))
    (subst (λ ps. AreTimeTypes ps (w ∷ ws)) (sym (elements_again w ws all)) (time_types_again (w ∷ ws) all))
