-- Values are read in one way: lists of tags, Content-Range and Content-Length.
use Rattle.std.proofs.Common.{◌≡◌, ℕ, List, [], ◌∷◌, ◌++◌, Option, Some, None, inl, inr, refl, sym, subst, ap, ◌∙◌, arith, length, get_or, ◌≤◌, IsSomeAnd}
use Rattle.std.specs.Prelude.{codes}
use Rattle.std.proofs.lemmas.List.{append_cancel_left}
use Rattle.http_header.specs.FieldValue.{FieldValue, plain_value}
use Rattle.dav_headers.specs.ContentRange.{IsBounds, IsLength, IsContentRangeText, IsContentRange}
use Rattle.dav_headers.specs.ETag.{EntityTag}
use Rattle.dav_headers.specs.ETagList.{TagList, star, tags, AreTags, ReadTags, IsTagList}
use Rattle.dav_headers.specs.Length.{IsContentLength}
use Rattle.dav_headers.specs.Elements.{elements_of}
use Rattle.dav_headers.specs.Value.{only_text, IsNumber}
use Rattle.dav_headers.specs.declared.range.ContentRange.{ContentRange}
use Rattle.dav_headers.proofs.CutLemmas.{cut_one}
use Rattle.dav_headers.proofs.IfLawLemmas.{entity_tag_one}
use Rattle.dav_headers.proofs.LawLemmas.{same_number}
use Rattle.dav_headers.proofs.NumberLemmas.{number_without}
use Rattle.dav_headers.proofs.RangeLemmas.{bounds_without}

-- ---- tags

tags_one : (ps : List (List ℕ)) (s t : List EntityTag) → AreTags ps s → AreTags ps t → s ≡ t
tags_one [] s t h k = h ∙ sym k
tags_one (p ∷ ps) s t (inl (none, h)) (inl (also, k)) = tags_one ps s t h k
tags_one (p ∷ ps) s t (inl (none, h)) (inr (e, more, is, eq, k)) = absurd (none e is)
tags_one (p ∷ ps) s t (inr (e, more, is, eq, h)) (inl (none, k)) = absurd (none e is)
tags_one (p ∷ ps) s t (inr (d, front, is, eq, h)) (inr (e, more, also, same, k)) =
    eq ∙ ap (λ (x : EntityTag). x ∷ front) (entity_tag_one p d e is also) ∙ ap (λ (xs : List EntityTag). e ∷ xs) (tags_one ps front more h k) ∙ sym same

no_star : (vs : List FieldValue) (ts : List EntityTag) → ReadTags vs star → ReadTags vs (tags ts) → ⊥
no_star [] ts h k = h
no_star (v ∷ vs) ts (text, inl is) (_, other, more) = other is
no_star (v ∷ vs) ts (text, inr h) (_, other, (front, back, eq, are, k)) = no_star vs back h k

lists_one : (vs : List FieldValue) (s t : List EntityTag) → ReadTags vs (tags s) → ReadTags vs (tags t) → s ≡ t
lists_one [] s t h k = h ∙ sym k
lists_one (v ∷ vs) s t (_, _, (front, back, eq, are, h)) (_, _, (first, rest, same, also, k)) =
    eq ∙ ap (λ (xs : List EntityTag). xs ++ back) (tags_one (elements_of v.bytes) front first are also) ∙ ap (λ (xs : List EntityTag). first ++ xs) (lists_one vs back rest h k) ∙ sym same

read_one : (vs : List FieldValue) (a b : TagList) → ReadTags vs a → ReadTags vs b → a ≡ b
read_one vs star star h k = refl
read_one vs star (tags t) h k = absurd (no_star vs t h k)
read_one vs (tags s) star h k = absurd (no_star vs s k h)
read_one vs (tags s) (tags t) h k = ap tags (lists_one vs s t h k)

pub one_tag_list : (values : List FieldValue) → (a b : TagList) → IsTagList values a → IsTagList values b → a ≡ b
one_tag_list values a b h k = read_one values a b h.1 k.1

-- ---- ranges

longer : (more last : List ℕ) → 1 ≤ length (more ++ 45 ∷ last)
longer [] last = omega arith
longer (b ∷ more) last = omega arith

star_has_no_dash : (first last : List ℕ) → codes "*" ≡ first ++ 45 ∷ last → ⊥
star_has_no_dash [] last e = let heads : ◌≡◌ {A = ℕ} 42 45 = ap (λ (x : List ℕ). get_or x 0 0) e in absurd (omega (arith, heads))
star_has_no_dash (b ∷ more) last e = absurd (omega (arith, ap length e, longer more last))

bounds_one : (text : List ℕ) (a b : Option (ℕ × ℕ)) → IsBounds text a → IsBounds text b → a ≡ b
bounds_one text None None h k = refl
bounds_one text None (Some (m, n)) h (first, last, e, p, q) = absurd (star_has_no_dash first last (sym h ∙ e))
bounds_one text (Some (m, n)) None (first, last, e, p, q) k = absurd (star_has_no_dash first last (sym k ∙ e))
bounds_one text (Some (k, l)) (Some (m, n)) (x, y, e, p, q) (u, v, f, r, s) =
    let parts = cut_one 45 x y u v (sym e ∙ f) (number_without 45 x k (omega arith) p) (number_without 45 u m (omega arith) r) in
    let one = same_number u k m (subst (λ t. IsNumber t k) parts.0 p) r in
    let two = same_number v l n (subst (λ t. IsNumber t l) parts.1 q) s in
    ap (λ (i : ℕ). Some (i, l)) one ∙ ap (λ (i : ℕ). Some (m, i)) two

star_is_no_number : (n : ℕ) → IsNumber (codes "*") n → ⊥
star_is_no_number n h = number_without 42 (codes "*") n (omega arith) h 0 (omega arith) refl

length_one : (text : List ℕ) (l m : Option ℕ) → IsLength text l → IsLength text m → l ≡ m
length_one text None None h k = refl
length_one text None (Some n) h k = absurd (star_is_no_number n (subst (λ t. IsNumber t n) h k))
length_one text (Some n) None h k = absurd (star_is_no_number n (subst (λ t. IsNumber t n) k h))
length_one text (Some m) (Some n) h k = ap Some (same_number text m n h k)

range_text_one : (text : List ℕ) (a b : Option (ℕ × ℕ)) (l m : Option ℕ) → IsContentRangeText text a l → IsContentRangeText text b m → (a ≡ b) × (l ≡ m)
range_text_one text a b l m (range, size, e, p, q) (other, whole, f, r, s) =
    let same : range ++ 47 ∷ size ≡ other ++ 47 ∷ whole = append_cancel_left (codes "bytes ") (range ++ 47 ∷ size) (other ++ 47 ∷ whole) (sym e ∙ f) in
    let parts = cut_one 47 range size other whole same (bounds_without range a p) (bounds_without other b r) in
    (bounds_one other a b (subst (λ t. IsBounds t a) parts.0 p) r, length_one whole l m (subst (λ t. IsLength t l) parts.1 q) s)

at_text : (o : Option (List ℕ)) (a b : Option (ℕ × ℕ)) (l m : Option ℕ)
    → IsSomeAnd o (λ text. IsContentRangeText text a l) → IsSomeAnd o (λ text. IsContentRangeText text b m) → (a ≡ b) × (l ≡ m)
at_text None a b l m h k = absurd h
at_text (Some text) a b l m h k = range_text_one text a b l m h k

pub one_content_range : (values : List FieldValue) → (a b : ContentRange) → IsContentRange values a → IsContentRange values b → a ≡ b
one_content_range values a b h k =
    let same = at_text (only_text values) a.bounds b.bounds a.length b.length h k in
    let first : Option (ℕ × ℕ) → ContentRange = λ x. record { bounds = x; length = a.length } in
    let second : Option ℕ → ContentRange = λ x. record { bounds = b.bounds; length = x } in
    ap first same.0 ∙ ap second same.1

-- ---- lengths

-- the first value is one number
pub one_content_length : (values : List FieldValue) → (m n : ℕ) → IsContentLength values m → IsContentLength values n → m ≡ n
one_content_length values m n p q = sym (p.1 0 (plain_value []) p.0).1 ∙ (q.1 0 (plain_value []) q.0).1
