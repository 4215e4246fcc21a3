-- What a range is, in terms of where its text is cut.
use Rattle.std.proofs.Common.{refl, ◌≡◌, ◌≢◌, ℕ, List, [], ◌∷◌, ◌++◌, Option, Some, None, inl, inr, sym, ◌∙◌, subst, ap, length, arith, IsSomeAnd}
use Rattle.std.specs.Prelude.{codes}
use Rattle.http_header.specs.FieldValue.{FieldValue}
use Rattle.std.proofs.lemmas.List.{append_cancel_left}
use Rattle.std.proofs.Common.{get_or}
use Rattle.dav_headers.specs.Cut.{IsCut, IsWithout}
use Rattle.dav_headers.specs.Value.{only_text, IsNumber}
use Rattle.dav_headers.specs.ContentRange.{IsBounds, IsLength, IsContentRangeText, IsContentRange, length_text, content_range_text}
use Rattle.dav_headers.specs.UpdateRange.{IsEnds, IsUpdateRangeText, IsUpdateRange, update_range_text}
use Rattle.dav_headers.specs.declared.range.ContentRange.{ContentRange}
use Rattle.dav_headers.specs.declared.range.XUpdateRange.{XUpdateRange}
use Rattle.dav_headers.specs.declared.range.XUpdateRange.TheVariants.{FromTo, AllFrom, Last, Append}
use Rattle.dav_headers.proofs.CutLemmas.{cut_one, IsWithout-append, IsWithout-cons, IsWithout-nil}
use Rattle.dav_headers.proofs.NumberLemmas.{number_without, decimal_visible}
use Rattle.std.proofs.Common.{true}
use Rattle.std.specs.Prelude.{decimal}
use Rattle.std.specs.List.{list_all}
use Rattle.std.proofs.lemmas.Bool.{and_from}
use Rattle.std.proofs.lemmas.List.Folds.{list_all-append}
use Rattle.std.proofs.lemmas.List.Sums.{AllPass-from_list_all}
use Rattle.http_header.specs.FieldValue.{IsVisibleAscii}
use Rattle.http_header.specs.Token.{is_visible_or_blank}

-- the parts of one text at its first such byte
parts_one : (c : ℕ) (text x y u v : List ℕ) → IsCut c text x y → IsWithout c u → text ≡ u ++ c ∷ v → (x ≡ u) × (y ≡ v)
parts_one c text x y u v cut without e = cut_one c x y u v (sym cut.1 ∙ e) cut.0 without

pub ends_without : (from to : List ℕ) (r : XUpdateRange) → IsEnds from to r → IsWithout 45 from
ends_without from to (FromTo a b) h = number_without 45 from a (omega arith) h.0
ends_without from to (AllFrom a) h = number_without 45 from a (omega arith) h.0
ends_without from to (Last n) h = subst (IsWithout 45) (sym h.0) (IsWithout-nil 45)
ends_without from to Append h = absurd h

-- the two forms begin differently
pub not_append : (bs : List ℕ) → codes "append" ≡ codes "bytes=" ++ bs → ⊥
not_append bs e =
    let heads : get_or (codes "append") 0 0 ≡ get_or (codes "bytes=" ++ bs) 0 0 = ap (λ xs. get_or xs 0 0) e in
    absurd (omega (arith, heads))

-- a range after `bytes=` has what is around the first dash as its ends
pub ends_at_cut : (text rest x y : List ℕ) (r : XUpdateRange) → text ≡ codes "bytes=" ++ rest → IsCut 45 rest x y → IsUpdateRangeText text r → IsEnds x y r
ends_at_cut text rest x y r e cut (inl h) = absurd (not_append rest (sym (h.0) ∙ e))
ends_at_cut text rest x y r e cut (inr (from, to, f, ends)) =
    let same : rest ≡ from ++ 45 ∷ to = append_cancel_left (codes "bytes=") rest (from ++ 45 ∷ to) (sym e ∙ f) in
    let parts = parts_one 45 rest x y from to cut (ends_without from to r ends) same in
    subst (λ v. IsEnds x v r) (sym parts.1) (subst (λ u. IsEnds u to r) (sym parts.0) ends)

pub no_update_range : (values : List FieldValue) (text rest x y : List ℕ) → Some text ≡ only_text values → text ≡ codes "bytes=" ++ rest → IsCut 45 rest x y → ((r : XUpdateRange) → ¬ IsEnds x y r) → (r : XUpdateRange) → ¬ IsUpdateRange values r
no_update_range values text rest x y is e cut none r h =
    let here : IsSomeAnd (Some text) (λ t. IsUpdateRangeText t r) = subst (λ o. IsSomeAnd o (λ t. IsUpdateRangeText t r)) (sym is) h in
    none r (ends_at_cut text rest x y r e cut here)

-- what no range has as its ends
pub no_last : (from to : List ℕ) → from ≡ [] → ((n : ℕ) → ¬ IsNumber to n) → (r : XUpdateRange) → ¬ IsEnds from to r
no_last from to e none (FromTo a b) h = none b h.1
no_last from to e none (AllFrom a) h = let some = h.0 in absurd (omega (arith, some.0.0, ap length e))
no_last from to e none (Last n) h = none n h.1
no_last from to e none Append h = h

pub no_start : (from to : List ℕ) → from ≢ [] → ((n : ℕ) → ¬ IsNumber from n) → (r : XUpdateRange) → ¬ IsEnds from to r
no_start from to some none (FromTo a b) h = none a h.0
no_start from to some none (AllFrom a) h = none a h.0
no_start from to some none (Last n) h = some h.0
no_start from to some none Append h = h

pub no_end : (from to : List ℕ) → from ≢ [] → to ≢ [] → ((n : ℕ) → ¬ IsNumber to n) → (r : XUpdateRange) → ¬ IsEnds from to r
no_end from to some more none (FromTo a b) h = none b h.1
no_end from to some more none (AllFrom a) h = more h.1
no_end from to some more none (Last n) h = some h.0
no_end from to some more none Append h = h

-- bounds are the numbers around the first dash
pub bounds_at_cut : (text x y : List ℕ) (b : Option (ℕ × ℕ)) → IsCut 45 text x y → text ≢ codes "*" → IsBounds text b → (m : ℕ) × (n : ℕ) × IsNumber x m × IsNumber y n
bounds_at_cut text x y None cut other h = absurd (other h)
bounds_at_cut text x y (Some (m, n)) cut other (first, last, e, a, b) =
    let parts = parts_one 45 text x y first last cut (number_without 45 first m (omega arith) a) e in
    (m, n, subst (λ t. IsNumber t m) (sym parts.0) a, subst (λ t. IsNumber t n) (sym parts.1) b)

pub bounds_without : (text : List ℕ) (b : Option (ℕ × ℕ)) → IsBounds text b → IsWithout 47 text
bounds_without text None h = subst (IsWithout 47) (sym h) (IsWithout-cons 47 42 [] (λ e. omega (arith, e)) (IsWithout-nil 47))
bounds_without text (Some (m, n)) (first, last, e, a, b) =
    subst (IsWithout 47) (sym e)
    (IsWithout-append 47 first (45 ∷ last) (number_without 47 first m (omega arith) a)
    (IsWithout-cons 47 45 last (λ f. omega (arith, f)) (number_without 47 last n (omega arith) b)))

-- a range after `bytes ` has what is around the first slash as its parts
pub parts_at_cut : (text rest x y : List ℕ) (b : Option (ℕ × ℕ)) (l : Option ℕ) → text ≡ codes "bytes " ++ rest → IsCut 47 rest x y → IsContentRangeText text b l → IsBounds x b × IsLength y l
parts_at_cut text rest x y b l e cut (range, size, f, bounds, length) =
    let same : rest ≡ range ++ 47 ∷ size = append_cancel_left (codes "bytes ") rest (range ++ 47 ∷ size) (sym e ∙ f) in
    let parts = parts_one 47 rest x y range size cut (bounds_without range b bounds) same in
    (subst (λ t. IsBounds t b) (sym parts.0) bounds, subst (λ t. IsLength t l) (sym parts.1) length)

pub parts_of_range : (values : List FieldValue) (text rest x y : List ℕ) → Some text ≡ only_text values → text ≡ codes "bytes " ++ rest → IsCut 47 rest x y → (r : ContentRange) → IsContentRange values r → IsBounds x r.bounds × IsLength y r.length
parts_of_range values text rest x y is e cut r h =
    let here : IsSomeAnd (Some text) (λ t. IsContentRangeText t r.bounds r.length) = subst (λ o. IsSomeAnd o (λ t. IsContentRangeText t r.bounds r.length)) (sym is) h in
    parts_at_cut text rest x y r.bounds r.length e cut here

-- two visible texts, one after the other
pub both : (xs ys : List ℕ) → list_all is_visible_or_blank xs ≡ true → list_all is_visible_or_blank ys ≡ true → list_all is_visible_or_blank (xs ++ ys) ≡ true
both xs ys p q = list_all-append is_visible_or_blank xs ys ∙ and_from _ _ p q

-- a visible byte, and then a visible text
after_byte : (b : ℕ) (ys : List ℕ) → is_visible_or_blank b ≡ true → list_all is_visible_or_blank ys ≡ true → list_all is_visible_or_blank (b ∷ ys) ≡ true
after_byte b ys p q = and_from (is_visible_or_blank b) (list_all is_visible_or_blank ys) p q

pub update_range_shown : (r : XUpdateRange) → list_all is_visible_or_blank (update_range_text r) ≡ true
update_range_shown (FromTo a b) = both (codes "bytes=") (decimal a ++ 45 ∷ decimal b) refl (both (decimal a) (45 ∷ decimal b) (decimal_visible a) (after_byte 45 (decimal b) refl (decimal_visible b)))
update_range_shown (AllFrom a) = both (codes "bytes=") (decimal a ++ 45 ∷ []) refl (both (decimal a) (45 ∷ []) (decimal_visible a) refl)
update_range_shown (Last n) = both (codes "bytes=") (45 ∷ decimal n) refl (after_byte 45 (decimal n) refl (decimal_visible n))
update_range_shown Append = refl

pub update_range_visible : (r : XUpdateRange) → IsVisibleAscii (update_range_text r)
update_range_visible r = AllPass-from_list_all is_visible_or_blank (update_range_text r) (update_range_shown r)

length_shown : (l : Option ℕ) → list_all is_visible_or_blank (length_text l) ≡ true
length_shown None = refl
length_shown (Some n) = decimal_visible n

pub content_range_shown : (b : Option (ℕ × ℕ)) (l : Option ℕ) → list_all is_visible_or_blank (content_range_text b l) ≡ true
content_range_shown None l = both (codes "bytes */") (length_text l) refl (length_shown l)
content_range_shown (Some (m, n)) l =
    both (codes "bytes ") (decimal m ++ 45 ∷ (decimal n ++ 47 ∷ length_text l)) refl
    (both (decimal m) (45 ∷ (decimal n ++ 47 ∷ length_text l)) (decimal_visible m)
    (after_byte 45 (decimal n ++ 47 ∷ length_text l) refl
    (both (decimal n) (47 ∷ length_text l) (decimal_visible n) (after_byte 47 (length_text l) refl (length_shown l)))))

pub content_range_visible : (b : Option (ℕ × ℕ)) (l : Option ℕ) → IsVisibleAscii (content_range_text b l)
content_range_visible b l = AllPass-from_list_all is_visible_or_blank (content_range_text b l) (content_range_shown b l)
