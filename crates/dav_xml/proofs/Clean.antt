-- Bytes without characters that no document may have, and what is cut out of them.
use Rattle.std.proofs.Common.{◌≡◌, ℕ, ◌<◌, ◌≤◌, Bool, true, false, cond, ltb, ◌==◌, List, [], ◌∷◌, ◌++◌, length, Option, Some, None, refl, sym, ap, subst, ◌∙◌, arith, encode_utf8_all}
use Rattle.std.proofs.lemmas.Bool.{ltb-true, ltb-false, and_parts, and_from, ne_eqb}
use Rattle.std.proofs.lemmas.Bool.Decides.{nat_tests}
use Rattle.std.proofs.lemmas.List.Folds.{list_all-append}
use Rattle.std.specs.List.{list_all, prefix_len}
use Rattle.std.specs.Str.{all_scalars}
use Rattle.std.specs.Str.Lossy.{utf8_valid_len}
use Rattle.std.proofs.lemmas.Str.{encode_ascii}
use Rattle.std.proofs.lemmas.List.{take-append-drop}
use lib.Utf8.{encode, scalar}
use Rattle.dav_xml.specs.Bytes.{run, behind, split_byte, after_text, split_text, found_or}
use Rattle.dav_xml.specs.References.{is_char}
use Rattle.dav_xml.specs.Front.{is_printed}
use Rattle.dav_xml.specs.Legal.{IsLegal}
use Rattle.dav_xml.proofs.Escapes.{by_test}
use Rattle.dav_xml.proofs.QualifiedNames.{whole, split_whole}
use Rattle.dav_xml.proofs.PlainNames.{is_text_utf8}
use Rattle.dav_xml.proofs.ReadTrees.{after_joined}

abbrev pub mark : ℕ → List ℕ
mark last = 239 ∷ 191 ∷ last ∷ []

abbrev pub HasNoMark : ℕ → List ℕ → Type 0
HasNoMark last bytes = split_text (mark last) bytes ≡ None

pub record IsClean (bytes : List ℕ) : Type 0 where
  pub printed : list_all is_printed bytes ≡ true
  pub no_fffe : HasNoMark 190 bytes
  pub no_ffff : HasNoMark 191 bytes

-- ---- parts

found_none : (o : Option (List ℕ)) (later : Option (List ℕ × List ℕ)) → found_or o later ≡ None → (o ≡ None) × (later ≡ None)
found_none None later e = (refl, e)
found_none (Some r) later e = absurd cc

behind_none : (front : List ℕ) (o : Option (List ℕ × List ℕ)) → behind front o ≡ None → o ≡ None
behind_none front None e = refl
behind_none front (Some p) e = absurd cc

-- no mark here, and none later
pub mark_parts : (last x : ℕ) (xs : List ℕ) → HasNoMark last (x ∷ xs) → (after_text (mark last) (x ∷ xs) ≡ None) × HasNoMark last xs
mark_parts last x xs e =
    let parts = found_none (after_text (mark last) (x ∷ xs)) (behind (x ∷ []) (split_text (mark last) xs)) e in
    (parts.0, behind_none (x ∷ []) (split_text (mark last) xs) parts.1)

pub mark_join : (last x : ℕ) (xs : List ℕ) → after_text (mark last) (x ∷ xs) ≡ None → HasNoMark last xs → HasNoMark last (x ∷ xs)
mark_join last x xs here there = ap (λ (o : Option (List ℕ)). found_or o (behind (x ∷ []) (split_text (mark last) xs))) here ∙ ap (behind (x ∷ [])) there

after_more : (ws bs ys rest : List ℕ) → after_text ws bs ≡ Some rest → after_text ws (bs ++ ys) ≡ Some (rest ++ ys)
after_more [] bs ys rest e = let same : bs ≡ rest = cc in ap (λ (xs : List ℕ). Some (xs ++ ys)) same
after_more (w ∷ ws) [] ys rest e = absurd cc
after_more (w ∷ ws) (b ∷ bs) ys rest e = by_test (b == w) (λ t. cond t (after_text ws bs) None ≡ Some rest → cond t (after_text ws (bs ++ ys)) None ≡ Some (rest ++ ys)) (λ is k. after_more ws bs ys rest k) (λ other k. absurd cc) e

none_before : (ws bs ys : List ℕ) (o : Option (List ℕ)) → after_text ws bs ≡ o → after_text ws (bs ++ ys) ≡ None → o ≡ None
none_before ws bs ys None is e = refl
none_before ws bs ys (Some rest) is e = let both : Some (rest ++ ys) ≡ None = sym (after_more ws bs ys rest is) ∙ e in absurd cc

mark_after : (last : ℕ) (xs ys : List ℕ) → HasNoMark last (xs ++ ys) → HasNoMark last ys
mark_after last [] ys e = e
mark_after last (x ∷ xs) ys e = mark_after last xs ys (mark_parts last x (xs ++ ys) e).1

mark_before : (last : ℕ) (xs ys : List ℕ) → HasNoMark last (xs ++ ys) → HasNoMark last xs
mark_before last [] ys e = refl
mark_before last (x ∷ xs) ys e =
    let parts = mark_parts last x (xs ++ ys) e in
    let here : after_text (mark last) (x ∷ xs) ≡ None = none_before (mark last) (x ∷ xs) ys (after_text (mark last) (x ∷ xs)) refl parts.0 in
    mark_join last x xs here (mark_before last xs ys parts.1)

pub clean_parts : (xs ys : List ℕ) → IsClean (xs ++ ys) → IsClean xs × IsClean ys
clean_parts xs ys h =
    let parts = and_parts (list_all is_printed xs) (list_all is_printed ys) (sym (list_all-append is_printed xs ys) ∙ h.printed) in (
      record { printed = parts.0; no_fffe = mark_before 190 xs ys h.no_fffe; no_ffff = mark_before 191 xs ys h.no_ffff },
      record { printed = parts.1; no_fffe = mark_after 190 xs ys h.no_fffe; no_ffff = mark_after 191 xs ys h.no_ffff },
    )

pub clean_pair : (bytes xs ys : List ℕ) → xs ++ ys ≡ bytes → IsClean bytes → IsClean xs × IsClean ys
clean_pair bytes xs ys e h = clean_parts xs ys (subst IsClean (sym e) h)

-- ---- clean and UTF-8 is legal

is_char_of : (c : ℕ) → scalar c ≡ true → (c < 128 → is_printed c ≡ true) → (c ≡ 65534 → ⊥) → (c ≡ 65535 → ⊥) → is_char c ≡ true
is_char_of c s p n m =
    let n1 : (c == 65534) ≡ false = ne_eqb c 65534 n in
    let n2 : (c == 65535) ≡ false = ne_eqb c 65535 m in
    by_test (ltb c 128) (λ t. ltb c 128 ≡ t → is_char c ≡ true) (λ e k. low c (p (ltb-true c 128 e)) (ltb-true c 128 e)) (λ e k. high c s n1 n2 (ltb-false c 128 e)) refl
  where
    low : (c : ℕ) → is_printed c ≡ true → c < 128 → is_char c ≡ true
    low c e lt = grind (arith, nat_tests)

    high : (c : ℕ) → scalar c ≡ true → (c == 65534) ≡ false → (c == 65535) ≡ false → 128 ≤ c → is_char c ≡ true
    high c s n1 n2 le = grind (arith, nat_tests)

first_printed : (c : ℕ) (rest : List ℕ) → list_all is_printed (encode c ++ rest) ≡ true → c < 128 → is_printed c ≡ true
first_printed c rest e lt = (and_parts (is_printed c) (list_all is_printed rest) (sym (ap (λ (bs : List ℕ). list_all is_printed (bs ++ rest)) (encode_ascii c lt)) ∙ e)).0

fffe : encode 65534 ≡ mark 190
unfolding encode
fffe = refl

ffff : encode 65535 ≡ mark 191
unfolding encode
ffff = refl

no_mark_first : (c last : ℕ) (rest : List ℕ) → encode c ≡ mark last → (after_text (mark last) (mark last ++ rest) ≡ Some rest) → HasNoMark last (encode c ++ rest) → ⊥
no_mark_first c last rest e found h =
    let there : HasNoMark last (mark last ++ rest) = subst (λ (bs : List ℕ). HasNoMark last (bs ++ rest)) e h in
    let both : Some rest ≡ None = sym found ∙ (mark_parts last 239 (191 ∷ last ∷ rest) there).0 in
    absurd cc

clean_chars : (cs : List ℕ) → all_scalars cs ≡ true → IsClean (encode_utf8_all cs) → list_all is_char cs ≡ true
clean_chars [] s h = refl
clean_chars (c ∷ cs) s h =
    let rest = encode_utf8_all cs in
    let parts = and_parts (scalar c) (all_scalars cs) s in
    let one : is_char c ≡ true = is_char_of c parts.0 (first_printed c rest h.printed)
    (λ e. no_mark_first 65534 190 rest fffe refl (subst (λ (x : ℕ). HasNoMark 190 (encode x ++ rest)) e h.no_fffe))
    (λ e. no_mark_first 65535 191 rest ffff refl (subst (λ (x : ℕ). HasNoMark 191 (encode x ++ rest)) e h.no_ffff)) in
    and_from (is_char c) (list_all is_char cs) one (clean_chars cs parts.1 (clean_parts (encode c) rest h).1)

pub clean_legal : (bytes : List ℕ) → (utf8_valid_len bytes == length bytes) ≡ true → IsClean bytes → IsLegal bytes
clean_legal bytes e h =
    let u = is_text_utf8 bytes e in
    record { characters = u.0; legal = clean_chars u.0 u.1.0 (subst IsClean (sym u.1.1) h); spelled = u.1.1 }

-- ---- what is cut

pub run_clean : (p : ℕ → Bool) (bytes : List ℕ) → IsClean bytes → IsClean (run p bytes).0 × IsClean (run p bytes).1
run_clean p bytes h = clean_pair bytes (run p bytes).0 (run p bytes).1 (take-append-drop (prefix_len p bytes) bytes) h

pub after_clean : (ws bs rest : List ℕ) → after_text ws bs ≡ Some rest → IsClean bs → IsClean rest
after_clean ws bs rest e h = (clean_pair bs ws rest (sym (after_joined ws bs rest e)) h).1

pub split_byte_clean : (q : ℕ) (bytes : List ℕ) (p : List ℕ × List ℕ) → split_byte q bytes ≡ Some p → IsClean bytes → IsClean p.0 × IsClean p.1
split_byte_clean q bytes p e h =
    let joined : p.0 ++ q ∷ p.1 ≡ bytes = ap (λ (o : Option (List ℕ × List ℕ)). whole q o bytes) (sym e) ∙ split_whole q bytes in
    let parts = clean_pair bytes p.0 (q ∷ p.1) joined h in
    (parts.0, (clean_parts (q ∷ []) p.1 parts.1).1)

abbrev wholly : List ℕ → Option (List ℕ × List ℕ) → List ℕ → List ℕ
wholly ws None bytes = bytes
wholly ws (Some p) bytes = p.0 ++ (ws ++ p.1)

wholly_behind : (ws : List ℕ) (x : ℕ) (o : Option (List ℕ × List ℕ)) (xs : List ℕ) → wholly ws (behind (x ∷ []) o) (x ∷ xs) ≡ x ∷ wholly ws o xs
wholly_behind ws x None xs = refl
wholly_behind ws x (Some p) xs = refl

wholly_found : (ws : List ℕ) (x : ℕ) (xs : List ℕ) (later : Option (List ℕ × List ℕ)) → wholly ws later xs ≡ xs → (o : Option (List ℕ)) → after_text ws (x ∷ xs) ≡ o → wholly ws (found_or o (behind (x ∷ []) later)) (x ∷ xs) ≡ x ∷ xs
wholly_found ws x xs later h None is = wholly_behind ws x later xs ∙ ap (λ (ys : List ℕ). x ∷ ys) h
wholly_found ws x xs later h (Some rest) is = sym (after_joined ws (x ∷ xs) rest is)

split_wholly : (ws bytes : List ℕ) → wholly ws (split_text ws bytes) bytes ≡ bytes
split_wholly ws [] = refl
split_wholly ws (x ∷ xs) = wholly_found ws x xs (split_text ws xs) (split_wholly ws xs) (after_text ws (x ∷ xs)) refl

pub split_text_clean : (ws bytes : List ℕ) (p : List ℕ × List ℕ) → split_text ws bytes ≡ Some p → IsClean bytes → IsClean p.0 × IsClean p.1
split_text_clean ws bytes p e h =
    let joined : p.0 ++ (ws ++ p.1) ≡ bytes = ap (λ (o : Option (List ℕ × List ℕ)). wholly ws o bytes) (sym e) ∙ split_wholly ws bytes in
    let parts = clean_pair bytes p.0 (ws ++ p.1) joined h in
    (parts.0, (clean_parts ws p.1 parts.1).1)
