-- Names without a colon, as bytes.
use Rattle.std.proofs.Common.{◌≡◌, ℕ, zero, suc, ◌+◌, ◌/◌, ◌<◌, ◌≤◌, Bool, true, false, cond, not, ◌||◌, ◌==◌, List, [], ◌∷◌, ◌++◌, length, take, codes, Option, Some, None, Result, Ok, Err, refl, sym, ap, subst, ◌∙◌, arith, take_at, chars}
use Rattle.std.proofs.lemmas.Bool.{eqb-true, and_parts, and_from}
use Rattle.std.proofs.lemmas.Bool.Decides.{nat_tests}
use Rattle.std.proofs.lemmas.List.{append-nil}
use Rattle.std.proofs.lemmas.List.Folds.{list_all-append}
use Rattle.std.proofs.lemmas.Str.{IsUtf8-nil, IsUtf8-from_is_utf8, chars-encodes}
use Rattle.std.specs.List.{list_all, list_any}
use Rattle.std.specs.Str.{IsUtf8, is_utf8, encode_utf8_all}
use Rattle.std.specs.Str.Lossy.{valid_len_up_to, utf8_valid_len}
use lib.Utf8.{encode, next}
use Rattle.dav_xml.specs.declared.error.Fault.{Fault}
use Rattle.dav_xml.specs.declared.error.Fault.TheVariants.{Malformed}
use Rattle.dav_xml.specs.Read.{◌>>=◌}
use Rattle.dav_xml.specs.Bytes.{is_name_start, is_name_byte, behind, split_byte}
use Rattle.dav_xml.specs.References.{is_char}
use Rattle.dav_xml.specs.Names.{is_within, is_later, may_begin, may_continue, are_plain, is_plain, plain_name}
use Rattle.dav_xml.specs.Spelling.{is_name}
use Rattle.dav_xml.specs.Legal.{IsLegal, IsLegalName}
use Rattle.dav_xml.specs.Expanded.{IsPlain}
use Rattle.dav_xml.proofs.Escapes.{by_test}
use Rattle.dav_xml.proofs.Legal.{encode_cases}
use Rattle.dav_xml.proofs.Declared.{name_ok, nonempty, name_is_plain}
use Rattle.dav_xml.proofs.Spelled.{split_mark}
use Rattle.dav_xml.proofs.LegalTrees.{legal_append, legal_more, legal_word}
use Rattle.dav_xml.specs.Namespaces.{name_parts, qualified}
use Rattle.dav_xml.specs.Written.{name_with, or_empty}
use Rattle.dav_core.specs.Element.{xmlns_name}

-- ---- UTF-8

up_to_le : (bs : List ℕ) (m : ℕ) → valid_len_up_to bs m ≤ m
up_to_le bs zero = omega arith
up_to_le bs (suc m) = by_test (is_utf8 (take (suc m) bs)) (λ t. cond t (suc m) (valid_len_up_to bs m) ≤ suc m) (λ e. omega arith) (λ e. omega (arith, up_to_le bs m))

all_valid : (bs : List ℕ) (n : ℕ) → length bs ≡ n → valid_len_up_to bs n ≡ n → IsUtf8 bs
all_valid [] zero e h = IsUtf8-nil
all_valid (b ∷ bs) zero e h = absurd (omega (arith, e))
all_valid bs (suc m) e h = by_test (is_utf8 (take (suc m) bs)) (λ t. is_utf8 (take (suc m) bs) ≡ t → cond t (suc m) (valid_len_up_to bs m) ≡ suc m → IsUtf8 bs)
    (λ is k j. subst IsUtf8 whole (IsUtf8-from_is_utf8 (take (suc m) bs) is)) (λ not k j. absurd (omega (arith, j, up_to_le bs m))) refl h
  where
    whole : take (suc m) bs ≡ bs
    whole = ap (λ (n : ℕ). take n bs) (sym e) ∙ ap (take (length bs)) (sym (append-nil bs)) ∙ take_at bs [] (length bs) refl

pub is_text_utf8 : (bs : List ℕ) → (utf8_valid_len bs == length bs) ≡ true → IsUtf8 bs
unfolding utf8_valid_len
is_text_utf8 bs e = all_valid bs (length bs) refl (eqb-true (valid_len_up_to bs (length bs)) (length bs) e)

plain_utf8 : (name : List ℕ) → IsPlain name → IsUtf8 name
plain_utf8 name h = by_test (utf8_valid_len name == length name)
    (λ t. (utf8_valid_len name == length name) ≡ t → (cond {A = Result (List ℕ) Fault} t (Ok name) (Err Malformed) >>= λ found. cond (is_plain found) (Ok found) (Err Malformed)) ≡ Ok name → IsUtf8 name)
    (λ e k j. is_text_utf8 name e) (λ e k j. absurd cc) refl h

-- ---- characters

char_begins : (c : ℕ) → may_begin c ≡ true → is_char c ≡ true
char_begins c e = grind (arith, nat_tests)

char_continues : (c : ℕ) → may_continue c ≡ true → is_char c ≡ true
char_continues c e = grind (arith, nat_tests)

begins_continues : (c : ℕ) → may_begin c ≡ true → may_continue c ≡ true
begins_continues c e = ap (λ (t : Bool). ((t || is_later c) || is_within 0x300 0x36F c) || is_within 0x203F 0x2040 c) e

low_name_byte : (c : ℕ) → c < 128 → may_continue c ≡ true → is_name_byte c ≡ true
low_name_byte c lt e = grind (arith, nat_tests)

low_name_start : (c : ℕ) → c < 128 → may_begin c ≡ true → is_name_start c ≡ true
low_name_start c lt e = grind (arith, nat_tests)

low_no_colon : (c : ℕ) → c < 128 → may_continue c ≡ true → not (c == 58) ≡ true
low_no_colon c lt e = grind (arith, nat_tests)

-- ---- bytes

-- what holds of the bytes of a name's characters
module _ (Q : ℕ → Bool) (low : (c : ℕ) → c < 128 → may_continue c ≡ true → Q c ≡ true) (high : (b : ℕ) → 128 ≤ b → Q b ≡ true) where
  of_character : (c : ℕ) → may_continue c ≡ true → list_all Q (encode c) ≡ true
  of_character c e = encode_cases (λ bytes. list_all Q bytes ≡ true) c
      (λ lt. rw (low c lt e) refl)
      (λ le lt. rw (high (192 + c / 64) (omega arith), high (next c) (omega arith)) refl)
      (λ le lt. rw (high (224 + c / 4096) (omega arith), high (next (c / 64)) (omega arith), high (next c) (omega arith)) refl)
      (λ le. rw (high (240 + c / 262144) (omega arith), high (next (c / 4096)) (omega arith), high (next (c / 64)) (omega arith), high (next c) (omega arith)) refl)

  of_characters : (cs : List ℕ) → list_all may_continue cs ≡ true → list_all Q (encode_utf8_all cs) ≡ true
  of_characters [] e = refl
  of_characters (c ∷ cs) e =
      let parts = and_parts (may_continue c) (list_all may_continue cs) e in
      list_all-append Q (encode c) (encode_utf8_all cs) ∙ and_from (list_all Q (encode c)) (list_all Q (encode_utf8_all cs)) (of_character c parts.0) (of_characters cs parts.1)

high_name_byte : (b : ℕ) → 128 ≤ b → is_name_byte b ≡ true
high_name_byte b le = grind (arith, nat_tests)

high_name_start : (b : ℕ) → 128 ≤ b → is_name_start b ≡ true
high_name_start b le = grind (arith, nat_tests)

high_no_colon : (b : ℕ) → 128 ≤ b → not (b == 58) ≡ true
high_no_colon b le = grind (arith, nat_tests)

abbrev starts : List ℕ → Bool
starts [] = false
starts (b ∷ bs) = is_name_start b

starts_name : (c : ℕ) (rest : List ℕ) → may_begin c ≡ true → starts (encode c ++ rest) ≡ true
starts_name c rest e = encode_cases (λ bytes. starts (bytes ++ rest) ≡ true) c
    (λ lt. low_name_start c lt e)
    (λ le lt. high_name_start (192 + c / 64) (omega arith))
    (λ le lt. high_name_start (224 + c / 4096) (omega arith))
    (λ le. high_name_start (240 + c / 262144) (omega arith))

name_by : (bytes : List ℕ) → starts bytes ≡ true → list_all is_name_byte bytes ≡ true → is_name bytes ≡ true
name_by [] s e = absurd cc
name_by (b ∷ bs) s e = and_from (is_name_start b) (list_all is_name_byte (b ∷ bs)) s e

all_chars : (cs : List ℕ) → list_all may_continue cs ≡ true → list_all is_char cs ≡ true
all_chars [] e = refl
all_chars (c ∷ cs) e = let parts = and_parts (may_continue c) (list_all may_continue cs) e in and_from (is_char c) (list_all is_char cs) (char_continues c parts.0) (all_chars cs parts.1)

-- what is known of such a name
pub record OfPlain (name : List ℕ) : Type 0 where
  pub legal : IsLegalName name
  pub bytes_follow : list_all is_name_byte name ≡ true
  pub no_colon : list_all (λ b. not (b == 58)) name ≡ true

of_spelled : (name cs : List ℕ) → encode_utf8_all cs ≡ name → are_plain cs ≡ true → OfPlain name
of_spelled name [] e p = absurd cc
of_spelled name (c ∷ cs) e p =
    let parts = and_parts (may_begin c) (list_all may_continue cs) p in
    let all : list_all may_continue (c ∷ cs) ≡ true = and_from (may_continue c) (list_all may_continue cs) (begins_continues c parts.0) parts.1 in
    let bytes = of_characters is_name_byte low_name_byte high_name_byte (c ∷ cs) all in
    let legal : IsLegal name = record { characters = c ∷ cs; legal = all_chars (c ∷ cs) all; spelled = e } in
    let known : is_name name ≡ true = ap is_name (sym e) ∙ name_by (encode_utf8_all (c ∷ cs)) (starts_name c (encode_utf8_all cs) parts.0) bytes in
    record {
      legal = record { name = known; legal = legal };
      bytes_follow = ap (list_all is_name_byte) (sym e) ∙ bytes;
      no_colon = ap (list_all (λ b. not (b == 58))) (sym e) ∙ of_characters (λ b. not (b == 58)) low_no_colon high_no_colon (c ∷ cs) all;
    }

pub of_plain : (name : List ℕ) → IsPlain name → OfPlain name
of_plain name h =
    let u = plain_utf8 name h in
    let spells : chars name ≡ u.0 = ap chars (sym u.1.1) ∙ chars-encodes u.0 u.1.0 in
    of_spelled name u.0 u.1.1 (ap are_plain (sym spells) ∙ name_is_plain name name h)

-- ---- colons

not_true : (t : Bool) → not t ≡ true → t ≡ false
not_true true e = absurd cc
not_true false e = refl

not_any : (xs : List ℕ) → list_all (λ b. not (b == 58)) xs ≡ true → list_any (λ b. b == 58) xs ≡ false
not_any [] e = refl
not_any (x ∷ xs) e =
    let parts = and_parts (not (x == 58)) (list_all (λ b. not (b == 58)) xs) e in
    ap (λ (t : Bool). t || list_any (λ b. b == 58) xs) (not_true (x == 58) parts.0) ∙ not_any xs parts.1

split_none : (xs : List ℕ) → list_all (λ b. not (b == 58)) xs ≡ true → split_byte 58 xs ≡ None
split_none [] e = refl
split_none (x ∷ xs) e =
    let parts = and_parts (not (x == 58)) (list_all (λ b. not (b == 58)) xs) e in
    ap (λ (t : Bool). cond t (Some ([], xs)) (behind (x ∷ []) (split_byte 58 xs))) (not_true (x == 58) parts.0) ∙ ap (behind (x ∷ [])) (split_none xs parts.1)

pub qualified_again : (prefix : Option (List ℕ)) (name : List ℕ) → IsPlain name → ((p : List ℕ) → prefix ≡ Some p → IsPlain p) → qualified (name_with (or_empty prefix) name) ≡ Ok (prefix, name)
unfolding qualified
qualified_again None name h hp =
    ap (name_parts name) (split_none name (of_plain name h).no_colon) ∙ ap (λ (r : Result (List ℕ) Fault). r >>= λ local. name_ok None local) h
qualified_again (Some []) name h hp = absurd (nonempty [] [] (hp [] refl) refl)
qualified_again (Some (b ∷ p)) name h hp =
    let prefix : List ℕ = b ∷ p in
    ap (name_parts (prefix ++ 58 ∷ name)) (split_mark 58 prefix name (not_any prefix (of_plain prefix (hp prefix refl)).no_colon))
    ∙ ap (λ (r : Result (List ℕ) Fault). r >>= λ q. plain_name name >>= λ local. name_ok (Some q) local) (hp prefix refl)
    ∙ ap (λ (r : Result (List ℕ) Fault). r >>= λ local. name_ok (Some prefix) local) h

-- a name behind a prefix, and one that declares a prefix
joined_legal : (front name : List ℕ) → IsLegalName front → list_all is_name_byte front ≡ true → list_all is_name_byte name ≡ true → IsLegal name → IsLegalName (front ++ name)
joined_legal [] name h e k l = absurd cc
joined_legal (b ∷ front) name h e k l =
    let first = and_parts (is_name_start b) (list_all is_name_byte (b ∷ front)) h.name in
    record {
      name = and_from (is_name_start b) (list_all is_name_byte (b ∷ (front ++ name))) first.0 (list_all-append is_name_byte (b ∷ front) name ∙ and_from (list_all is_name_byte (b ∷ front)) (list_all is_name_byte name) e k);
      legal = legal_append (b ∷ front) name h.legal l;
    }

pub name_behind : (prefix name : List ℕ) → IsPlain prefix → IsPlain name → IsLegalName (prefix ++ 58 ∷ name)
name_behind prefix name hp h =
    let own = of_plain prefix hp in
    let local = of_plain name h in
    joined_legal prefix (58 ∷ name) own.legal own.bytes_follow (and_from (is_name_byte 58) (list_all is_name_byte name) refl local.bytes_follow) (legal_more 58 name (omega arith) refl local.legal.legal)

pub written_name : (prefix : Option (List ℕ)) (name : List ℕ) → IsPlain name → ((p : List ℕ) → prefix ≡ Some p → IsPlain p) → IsLegalName (name_with (or_empty prefix) name)
written_name None name h hp = (of_plain name h).legal
written_name (Some []) name h hp = (of_plain name h).legal
written_name (Some (b ∷ p)) name h hp = name_behind (b ∷ p) name (hp (b ∷ p) refl) h

pub declaring_name : (prefix : Option (List ℕ)) → ((p : List ℕ) → prefix ≡ Some p → IsPlain p) → IsLegalName (xmlns_name (or_empty prefix))
declaring_name None hp = record { name = refl; legal = legal_word (codes "xmlns") refl }
declaring_name (Some []) hp = record { name = refl; legal = legal_word (codes "xmlns") refl }
declaring_name (Some (b ∷ p)) hp =
    let own = of_plain (b ∷ p) (hp (b ∷ p) refl) in
    joined_legal (codes "xmlns:") (b ∷ p) (record { name = refl; legal = legal_word (codes "xmlns:") refl }) refl own.bytes_follow own.legal.legal
