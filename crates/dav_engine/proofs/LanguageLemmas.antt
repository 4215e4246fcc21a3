-- The languages that PROPPATCH accepts are those that the header Content-Language is read from.
use Rattle.std.proofs.Common.{◌≡◌, ◌⊎◌, inl, inr, ℕ, ◌<◌, ◌==◌, ◌&&◌, ◌||◌, Bool, true, false, List, [], ◌∷◌, length, IsTrue, Option, Some, None, Result, refl, sym, ap, subst, ◌∙◌, arith}
use Rattle.std.specs.Char.{is_ascii_alphanumeric}
use Rattle.std.specs.List.{flat_map, list_all}
use Rattle.std.specs.Option.{is_some, ok_or}
use Rattle.std.proofs.lemmas.Bool.Decides.{nat_tests}
use Rattle.std.proofs.lemmas.List.Elements.{All-nil, All-cons, All-head, All-weaker}
use Rattle.std.proofs.lemmas.List.Sums.{AllPass-from_list_all, list_all-from_AllPass}
use Rattle.http_header.specs.FieldValue.{FieldValue, IsFieldValue, plain_value, is_visible_text}
use Rattle.http_header.specs.Token.{is_visible_or_blank}
use Rattle.http_header.proofs.TokenLemmas.{IsFieldValue-from_visible}
use Rattle.dav_headers.specs.declared.errors.HeaderError.{HeaderError}
use Rattle.dav_headers.specs.declared.errors.HeaderError.TheVariants.{Invalid}
use Rattle.dav_headers.specs.Elements.{elements_of}
use Rattle.dav_headers.specs.Language.{AreLanguages, IsLanguage}
use Rattle.dav_headers.specs.Value.{ReadsBy}
use Rattle.dav_headers.proofs.Theorems.{IsReadable, readable_are_languages, languages_are_readable}
use Rattle.dav_core.specs.Path.{is_nonempty}
use Rattle.dav_engine.specs.LanguageLaws.{AcceptedLanguagesAreRead}
use Rattle.dav_engine.specs.Proppatch.{are_languages, is_language}

either : (b : Bool) → (b ≡ true) ⊎ (b ≡ false)
either true = inl refl
either false = inr refl

-- both tests hold
both_hold : (a b : Bool) → (a && b) ≡ true → (a ≡ true) × (b ≡ true)
both_hold true b h = (refl, h)
both_hold false b h = absurd (cc)

all_hold : (a b : Bool) → a ≡ true → b ≡ true → (a && b) ≡ true
all_hold a b p q = rw (p, q)

-- a byte of a language
abbrev is_letter : ℕ → Bool
is_letter b = is_ascii_alphanumeric b || (b == 45)

abbrev IsLetter : ℕ → Type 0
IsLetter b = IsTrue (is_ascii_alphanumeric b) ⊎ (b ≡ 45)

letter_is : (b : ℕ) → is_letter b ≡ true → IsLetter b
letter_is b h = elim (either (is_ascii_alphanumeric b)) [ inl met ↦ inl met | inr unmet ↦ inr (let rest : (b == 45) ≡ true = rw unmet at h in grind (arith, nat_tests)) ]

is_its_letter : (b : ℕ) → IsLetter b → is_letter b ≡ true
is_its_letter b (inl met) = rw met
is_its_letter b (inr hyphen) = rw hyphen

nonempty_has : (tag : List ℕ) → is_nonempty tag ≡ true → 0 < length tag
nonempty_has [] h = absurd (cc)
nonempty_has (b ∷ bs) h = omega arith

has_nonempty : (tag : List ℕ) → 0 < length tag → is_nonempty tag ≡ true
has_nonempty [] h = absurd (omega arith)
has_nonempty (b ∷ bs) h = refl

language_is : (tag : List ℕ) → is_language tag ≡ true → IsLanguage tag
language_is tag h =
    let parts = both_hold (is_nonempty tag) (list_all is_letter tag) h in
    (nonempty_has tag parts.0, All-weaker (λ b. is_letter b ≡ true) IsLetter letter_is tag (AllPass-from_list_all is_letter tag parts.1))

is_its_language : (tag : List ℕ) → IsLanguage tag → is_language tag ≡ true
is_its_language tag (some, all) =
    all_hold (is_nonempty tag) (list_all is_letter tag) (has_nonempty tag some)
    (list_all-from_AllPass is_letter tag (All-weaker IsLetter (λ b. is_letter b ≡ true) is_its_letter tag all))

-- a text that is accepted
accepted_is : (text : List ℕ) → are_languages text ≡ true → IsReadable (plain_value text)
accepted_is text h =
    let parts = both_hold (is_visible_text text) (list_all is_language (elements_of text)) h in (
      AllPass-from_list_all is_visible_or_blank text parts.0,
      All-weaker (λ tag. is_language tag ≡ true) IsLanguage language_is (elements_of text) (AllPass-from_list_all is_language (elements_of text) parts.1),
    )

is_accepted : (text : List ℕ) → IsReadable (plain_value text) → are_languages text ≡ true
is_accepted text (visible, all) =
    all_hold (is_visible_text text) (list_all is_language (elements_of text)) (list_all-from_AllPass is_visible_or_blank text visible)
    (list_all-from_AllPass is_language (elements_of text) (All-weaker IsLanguage (λ tag. is_language tag ≡ true) is_its_language (elements_of text) all))

accepted_reads : (text : List ℕ) → are_languages text ≡ true → (items : List (List ℕ)) × AreLanguages (plain_value text ∷ []) items
accepted_reads text h = (
  flat_map (λ v. elements_of v.bytes) (plain_value text ∷ []),
  readable_are_languages (plain_value text ∷ []) (omega arith) (All-cons IsReadable (plain_value text) [] (accepted_is text h) (All-nil IsReadable)),
)

read_is_accepted : (text : List ℕ) (items : List (List ℕ)) → AreLanguages (plain_value text ∷ []) items → are_languages text ≡ true
read_is_accepted text items h = is_accepted text (All-head IsReadable (plain_value text) [] (languages_are_readable (plain_value text ∷ []) items h))

pub accepted_languages_are_read : AcceptedLanguagesAreRead
accepted_languages_are_read text = (accepted_reads text, λ h. read_is_accepted text h.0 h.1)

-- what is no field value isn't accepted
pub no_value : (text : List ℕ) → ¬ (IsFieldValue text) → false ≡ are_languages text
no_value text hidden = elim (either (are_languages text)) [
  | inl met ↦ absurd (let readable = accepted_is text met in hidden (IsFieldValue-from_visible text readable.0))
  | inr unmet ↦ sym unmet
]

-- what reading the header says
by_reading : (text : List ℕ) (header : Option (List (List ℕ))) → ReadsBy AreLanguages (plain_value text ∷ []) (ok_or header Invalid) → is_some header ≡ are_languages text
by_reading text (Some items) reads = sym (read_is_accepted text items reads)
by_reading text None reads = elim (either (are_languages text)) [
  | inl met ↦ absurd (let read = accepted_reads text met in reads read.0 read.1)
  | inr unmet ↦ sym unmet
]

pub judged_by_reading : (text : List ℕ) (v : FieldValue) (values : List FieldValue) (header : Option (List (List ℕ))) (decoded : Result (List (List ℕ)) HeaderError)
    → v ≡ plain_value text → values ≡ v ∷ [] → decoded ≡ ok_or header Invalid → ReadsBy AreLanguages values decoded → is_some header ≡ are_languages text
judged_by_reading text v values header decoded is one same reads =
    by_reading text header (subst (λ (r : Result (List (List ℕ)) HeaderError). ReadsBy AreLanguages (plain_value text ∷ []) r) same
    (subst (λ vs. ReadsBy AreLanguages vs decoded) (one ∙ ap (λ (w : FieldValue). w ∷ []) is) reads))
