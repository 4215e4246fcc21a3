-- Destinations, languages and tags are read in one way, and lengths and tags that are written are read as the same.
use Rattle.std.proofs.Common.{◌≡◌, ◌⊎◌, inl, inr, ℕ, ◌<◌, ◌^◌, true, false, List, [], ◌∷◌, ◌++◌, ◌∙◌, Option, Some, None, IsSomeAnd, length, get_or, drop, sym, ap, refl, subst, arith, append_assoc}
use Rattle.std.specs.Prelude.{codes, decimal}
use Rattle.std.specs.Char.{to_ascii_lowercase}
use Rattle.std.proofs.lemmas.Bool.{cases_Bool, cond-true, cond-false}
use Rattle.std.proofs.lemmas.List.Elements.{All-cons, All-nil}
use Rattle.std.proofs.lemmas.List.Sums.{AllPass-from_list_all}
use Rattle.http_header.specs.FieldValue.{FieldValue, plain_value, is_visible_text}
use Rattle.http_header.specs.Token.{is_visible_or_blank}
use Rattle.dav_headers.specs.ContentRange.{IsLength, IsContentRange, IsContentRangeText, content_range_text, length_text}
use Rattle.dav_headers.specs.Destination.{IsDestination, IsDestinationText, IsHttp, from_slash}
use Rattle.dav_headers.specs.ETag.{EntityTag, IsEntityTag, IsETag, IsUnquoted, tag_text}
use Rattle.dav_headers.specs.Language.{AreLanguages}
use Rattle.dav_headers.specs.Laws.{written, AreBoundsBelow, IsLengthBelow}
use Rattle.dav_headers.specs.Length.{IsContentLength}
use Rattle.dav_headers.specs.Value.{only_text, IsNumber, IsText}
use Rattle.dav_headers.specs.declared.range.ContentRange.{ContentRange}
use Rattle.dav_headers.proofs.DestinationLemmas.{at_colon, scheme_without}
use Rattle.dav_headers.proofs.IfLawLemmas.{entity_tag_one}
use Rattle.dav_headers.proofs.LawLemmas.{both_at, number_again, one_reads}
use Rattle.dav_headers.proofs.RangeLemmas.{content_range_shown}
use Rattle.dav_headers.proofs.TextLemmas.{written_text}

-- ---- one reading

-- a scheme doesn't begin with a slash
no_slash : (scheme rest more : List ℕ) → IsHttp scheme → scheme ++ rest ≡ 47 ∷ more → ⊥
no_slash [] rest more (inl e) f = omega (arith, ap length e)
no_slash [] rest more (inr e) f = omega (arith, ap length e)
no_slash (b ∷ bs) rest more http f = by_scheme http
  where
    slash : b ≡ 47
    slash = ap (λ t. get_or t 0 0) f

    by_scheme : IsHttp (b ∷ bs) → ⊥
    by_scheme (inl e) = let lower : to_ascii_lowercase 47 ≡ 104 = sym (ap to_ascii_lowercase slash) ∙ ap (λ t. get_or t 0 0) e in omega (arith, lower)
    by_scheme (inr e) = let lower : to_ascii_lowercase 47 ≡ 104 = sym (ap to_ascii_lowercase slash) ∙ ap (λ t. get_or t 0 0) e in omega (arith, lower)

after_one : (a b : List ℕ) → 47 ∷ 47 ∷ a ≡ 47 ∷ 47 ∷ b → a ≡ b
after_one a b e = ap (drop 2) e

destination_one : (text p q : List ℕ) → IsDestinationText text p → IsDestinationText text q → p ≡ q
destination_one text p q (inl (rest, e, h)) (inl (more, f, k)) = h ∙ sym k
destination_one text p q (inl (rest, e, h)) (inr (scheme, after, http, f, k)) = absurd (no_slash scheme (58 ∷ 47 ∷ 47 ∷ after) rest http (sym f ∙ e))
destination_one text p q (inr (scheme, after, http, e, h)) (inl (rest, f, k)) = absurd (no_slash scheme (58 ∷ 47 ∷ 47 ∷ after) rest http (sym e ∙ f))
destination_one text p q (inr (scheme, after, http, e, h)) (inr (other, more, also, f, k)) =
    let parts = at_colon text scheme (47 ∷ 47 ∷ after) other more (scheme_without scheme http, e) also f in
    h ∙ ap from_slash (after_one after more parts.1) ∙ sym k

pub one_destination : (values : List FieldValue) → (p q : List ℕ) → IsDestination values p → IsDestination values q → p ≡ q
one_destination values p q h k =
    let both = both_at (only_text values) (λ t. IsDestinationText t p) (λ t. IsDestinationText t q) h k in
    destination_one both.0 p q both.1 both.2

pub one_language_list : (values : List FieldValue) → (a b : List (List ℕ)) → AreLanguages values a → AreLanguages values b → a ≡ b
one_language_list values a b h k = h.2 ∙ sym k.2

pub one_etag : (values : List FieldValue) → (d e : EntityTag) → IsETag values d → IsETag values e → d ≡ e
one_etag values d e h k =
    let both = both_at (only_text values) (λ t. IsEntityTag t d) (λ t. IsEntityTag t e) h k in
    entity_tag_one both.0 d e both.1 both.2

-- ---- what is written again

-- the text of the only value is text
text_at : (values : List FieldValue) (P : List ℕ → Type 0) → IsSomeAnd (only_text values) P → (t : List ℕ) × IsText t × P t
text_at [] P h = absurd h
text_at (v ∷ []) P h = by_test (cases_Bool (is_visible_text v.bytes))
  where
    by_test : (is_visible_text v.bytes ≡ true) ⊎ (is_visible_text v.bytes ≡ false) → (t : List ℕ) × IsText t × P t
    by_test (inl e) = (v.bytes, AllPass-from_list_all is_visible_or_blank v.bytes e, subst (λ o. IsSomeAnd o P) (cond-true _ _ _ e) h)
    by_test (inr e) = let none : IsSomeAnd None P = subst (λ o. IsSomeAnd o P) (cond-false _ _ _ e) h in absurd none
text_at (v ∷ w ∷ vs) P h = absurd h

pub read_tag_is_text : (values : List FieldValue) → (e : EntityTag) → IsETag values e → IsText (tag_text e.weak e.tag)
read_tag_is_text values e h =
    let (t, text, is) = text_at values (λ t. IsEntityTag t e) h in
    subst IsText is.1 text

pub etag_again : (e : EntityTag) → IsUnquoted e.tag → IsText (tag_text e.weak e.tag) → IsETag (written (tag_text e.weak e.tag)) e
etag_again e clean text = written_text (plain_value (tag_text e.weak e.tag)) (tag_text e.weak e.tag) (λ t. IsEntityTag t e) text refl (clean, refl)

length_again : (l : Option ℕ) → IsLengthBelow l → IsLength (length_text l) l
length_again None small = refl
length_again (Some n) small = number_again n small

range_again : (b : Option (ℕ × ℕ)) (l : Option ℕ) → AreBoundsBelow b → IsLengthBelow l → IsContentRangeText (content_range_text b l) b l
range_again None l low small = (codes "*", length_text l, refl, refl, length_again l small)
range_again (Some (m, n)) l (low, high) small = (
  decimal m ++ 45 ∷ decimal n,
  length_text l,
  ap (λ t. codes "bytes " ++ t) (sym (append_assoc (decimal m) (45 ∷ decimal n) (47 ∷ length_text l))),
  (decimal m, decimal n, refl, number_again m low, number_again n high),
  length_again l small,
)

pub content_range_again : (r : ContentRange) → AreBoundsBelow r.bounds → IsLengthBelow r.length → IsContentRange (written (content_range_text r.bounds r.length)) r
content_range_again r low small =
    one_reads (content_range_text r.bounds r.length) (λ t. IsContentRangeText t r.bounds r.length) (content_range_shown r.bounds r.length) (range_again r.bounds r.length low small)

pub content_length_again : (n : ℕ) → n < 2 ^ 64 → IsContentLength (written (decimal n)) n
content_length_again n small =
    (omega arith, All-cons (λ (v : FieldValue). IsNumber v.bytes n) (plain_value (decimal n)) [] (number_again n small) (All-nil (λ (v : FieldValue). IsNumber v.bytes n)))
