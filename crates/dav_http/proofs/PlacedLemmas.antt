-- The first byte that a request names is one.
use Rattle.std.proofs.Common.{◌≡◌, ◌≢◌, ◌⊎◌, ◌<◌, ◌==◌, not, inl, inr, ℕ, Bool, true, false, List, [], length, codes, Option, Some, None, refl, sym, ap, subst, ◌∙◌, true≢false, arith}
use Rattle.std.specs.Bool.{Decides}
use Rattle.std.specs.Prelude.{IsSomeAnd}
use Rattle.http_header.specs.FieldValue.{FieldValue}
use Rattle.http_header.specs.HeaderMap.{get_all}
use Rattle.dav_headers.specs.ContentRange.{IsContentRange}
use Rattle.dav_headers.specs.UpdateRange.{IsUpdateRange}
use Rattle.dav_headers.specs.Value.{Decodes}
use Rattle.dav_headers.specs.declared.range.ContentRange.{ContentRange}
use Rattle.dav_headers.specs.declared.range.XUpdateRange.{XUpdateRange}
use Rattle.dav_headers.specs.declared.range.XUpdateRange.TheVariants.{AllFrom, Append, FromTo, Last}
use Rattle.dav_headers.proofs.LawLemmas.{one_update_range}
use Rattle.dav_headers.proofs.OneReading.{one_content_range}
use Rattle.dav_engine.specs.Headers.{Headers}
use Rattle.dav_server.specs.Head.{Request}
use Rattle.dav_server.specs.Headers.{headers_of}
use Rattle.dav_http.specs.Placed.{BeginsPast, IsPlaced, IsRangedFrom, IsUpdatedFrom, NamesBytes, NamesFirst}
use Rattle.dav_http.specs.Refused.{IsUnread}

-- a range that was read without bounds names no first byte
pub unbounded : (values : List FieldValue) (r : ContentRange) → IsContentRange values r → r.bounds ≡ None → Decodes IsRangedFrom values None
unbounded values r is none first (last, length, named) =
    let same : r ≡ record { bounds = Some (first, last); length = length } = one_content_range values r (record { bounds = Some (first, last); length = length }) is named in
    let bounds : None ≡ Some (first, last) = sym none ∙ ap (λ (c : ContentRange). c.bounds) same in
    cc

-- a range with bounds names their first
pub bounded : (values : List FieldValue) (r : ContentRange) (first last : ℕ) → IsContentRange values r → r.bounds ≡ Some (first, last) → Decodes IsRangedFrom values (Some first)
bounded values r first last is some =
    (last, r.length, subst (λ (b : Option (ℕ × ℕ)). IsContentRange values (record { bounds = b; length = r.length })) some is)

-- without a range none is named
pub no_range : (values : List FieldValue) → Decodes IsContentRange values None → Decodes IsRangedFrom values None
no_range values none first (last, length, named) = none (record { bounds = Some (first, last); length = length }) named

pub no_update : (values : List FieldValue) → Decodes IsUpdateRange values None → Decodes IsUpdatedFrom values None
no_update values none first (inl (last, named)) = none (FromTo first last) named
no_update values none first (inr named) = none (AllFrom first) named

-- what appends, or is counted from the end, names no first byte
pub ended : (values : List FieldValue) (u : XUpdateRange) → IsUpdateRange values u → ((a b : ℕ) → u ≡ FromTo a b → ⊥) → ((a : ℕ) → u ≡ AllFrom a → ⊥) → Decodes IsUpdatedFrom values None
ended values u is within on first (inl (last, named)) = within first last (one_update_range values u (FromTo first last) is named)
ended values u is within on first (inr named) = on first (one_update_range values u (AllFrom first) is named)

-- ---- past so many bytes

module _ (P : List FieldValue → ℕ → Type 0) (values : List FieldValue) (one : (a b : ℕ) → P values a → P values b → a ≡ b) (most : ℕ) where
  past_of : (o : Option ℕ) → Decodes P values o → IsSomeAnd o (λ n. most < n) → (first : ℕ) × P values first × (most < first)
  past_of None none past = absurd past
  past_of (Some n) is past = (n, is, past)

  of_past : (o : Option ℕ) → Decodes P values o → (first : ℕ) → P values first → most < first → IsSomeAnd o (λ n. most < n)
  of_past None none first named past = absurd (none first named)
  of_past (Some n) is first named past = subst (λ (k : ℕ). most < k) (one first n named is) past

abbrev first_in : Option (ℕ × ℕ) → ℕ
first_in None = 0
first_in (Some (first, last)) = first

pub one_ranged : (values : List FieldValue) (a b : ℕ) → IsRangedFrom values a → IsRangedFrom values b → a ≡ b
one_ranged values a b (x, l, one) (y, m, two) =
    let same : ◌≡◌ {A = ContentRange} (record { bounds = Some (a, x); length = l }) (record { bounds = Some (b, y); length = m }) =
    one_content_range values (record { bounds = Some (a, x); length = l }) (record { bounds = Some (b, y); length = m }) one two in
    ap (λ (c : ContentRange). first_in c.bounds) same

pub one_updated : (values : List FieldValue) (a b : ℕ) → IsUpdatedFrom values a → IsUpdatedFrom values b → a ≡ b
one_updated values a b (inl (x, one)) (inl (y, two)) = let same : FromTo a x ≡ FromTo b y = one_update_range values (FromTo a x) (FromTo b y) one two in cc
one_updated values a b (inl (x, one)) (inr two) = let same : FromTo a x ≡ AllFrom b = one_update_range values (FromTo a x) (AllFrom b) one two in cc
one_updated values a b (inr one) (inl (y, two)) = let same : AllFrom a ≡ FromTo b y = one_update_range values (AllFrom a) (FromTo b y) one two in cc
one_updated values a b (inr one) (inr two) = let same : AllFrom a ≡ AllFrom b = one_update_range values (AllFrom a) (AllFrom b) one two in cc

module _ (r : Request) (headers : Headers) (same : headers ≡ headers_of r.fields) (most : ℕ) (ranged updated : Option ℕ)
    (here : Decodes IsRangedFrom (get_all headers (codes "content-range")) ranged) (there : Decodes IsUpdatedFrom (get_all headers (codes "x-update-range")) updated) where
  pub past_by : (r.method ≡ codes "PUT") ⊎ (r.method ≡ codes "PATCH") → IsSomeAnd ranged (λ n. most < n) ⊎ IsSomeAnd updated (λ n. most < n) → BeginsPast most r
  past_by writes (inl past) =
      let (first, named, is) = past_of IsRangedFrom (get_all headers (codes "content-range")) (one_ranged (get_all headers (codes "content-range"))) most ranged here past in
      (writes, (first, subst (λ (h : Headers). NamesFirst h first) same (inl named), is))
  past_by writes (inr past) =
      let (first, named, is) = past_of IsUpdatedFrom (get_all headers (codes "x-update-range")) (one_updated (get_all headers (codes "x-update-range"))) most updated there past in
      (writes, (first, subst (λ (h : Headers). NamesFirst h first) same (inr named), is))

  pub by_past : BeginsPast most r → IsSomeAnd ranged (λ n. most < n) ⊎ IsSomeAnd updated (λ n. most < n)
  by_past (writes, (first, named, is)) =
      elim (subst (λ (h : Headers). NamesFirst h first) (sym same) named) [
        | inl from ↦ inl (of_past IsRangedFrom (get_all headers (codes "content-range")) (one_ranged (get_all headers (codes "content-range"))) most ranged here first from is)
        | inr from ↦ inr (of_past IsUpdatedFrom (get_all headers (codes "x-update-range")) (one_updated (get_all headers (codes "x-update-range"))) most updated there first from is)
      ]

-- ---- ranges that name no bytes

not_both_ways : (is : Bool) → not is ≡ true → is ≡ true → ⊥
not_both_ways true h k = true≢false (sym h)
not_both_ways false h k = true≢false (sym k)

not_it : (is : Bool) → (is ≡ true → ⊥) → not is ≡ true
not_it true never = absurd (never refl)
not_it false never = refl

-- a range that is there names no bytes, where it isn't so that what it says names some
pub decides_unplaced : (values : List FieldValue) (range : Option ContentRange) (r : ContentRange) (is : Bool) → range ≡ Some r → values ≢ []
    → Decodes IsContentRange values range → (is ≡ true → NamesBytes r) × (NamesBytes r → is ≡ true)
    → (not is ≡ true → IsUnread IsPlaced values) × (IsUnread IsPlaced values → not is ≡ true)
decides_unplaced values range r is some there decodes names =
    let reads : IsContentRange values r = subst (λ (o : Option ContentRange). Decodes IsContentRange values o) some decodes in (
      λ no. (there, λ a placed. not_both_ways is no (names.1 (subst NamesBytes (one_content_range values a r placed.0 reads) placed.1))),
      λ unread. not_it is (λ yes. unread.1 r (reads, names.0 yes)),
    )

-- a field is there of which values were found
pub is_there : (items values : List FieldValue) → items ≡ values → (length items == 0) ≡ false → values ≢ []
is_there items values same some none = true≢false (ap (λ (vs : List FieldValue). length vs == 0) (sym none ∙ sym same) ∙ some)
