-- Lists of tags, element by element and value by value.
use Rattle.std.proofs.Common.{◌≡◌, ◌≢◌, ◌⊎◌, ◌<◌, ℕ, zero, suc, Bool, true, false, List, [], ◌∷◌, ◌++◌, ◌∙◌, length, drop, get_or, sym, ap, refl, inl, inr, subst, append_assoc, append-nil, arith, length-append}
use Rattle.std.specs.Prelude.{codes, Contains, nat_eq}
use Rattle.std.specs.Cmp.Lexicographic.{pointwise, same_text, other_text}
use Rattle.std.proofs.lemmas.Bool.{cases_eq}
use Rattle.std.proofs.lemmas.List.{append_cancel_right}
use Rattle.http_header.specs.FieldValue.{FieldValue}
use Rattle.dav_headers.specs.ETag.{EntityTag, IsEntityTag, IsUnquoted, tag_text}
use Rattle.dav_headers.specs.ETagList.{AreTags, ReadTags, TagList, star, tags}
use Rattle.dav_headers.specs.Elements.{elements_of, trimmed}
use Rattle.dav_headers.specs.Value.{IsText}

-- one more list element, which isn't a tag
pub AreTags-skip : (ps : List (List ℕ)) (ts : List EntityTag) (p : List ℕ) → AreTags ps ts → ((t : EntityTag) → ¬ IsEntityTag p t) → AreTags (ps ++ p ∷ []) ts
AreTags-skip [] ts p h none = inl (none, h)
AreTags-skip (q ∷ ps) ts p (inl (other, h)) none = inl (other, AreTags-skip ps ts p h none)
AreTags-skip (q ∷ ps) ts p (inr (t, more, is, e, h)) none = inr (t, more, is, e, AreTags-skip ps more p h none)

-- one more list element, which is a tag
pub AreTags-push : (ps : List (List ℕ)) (ts : List EntityTag) (p : List ℕ) (t : EntityTag) → AreTags ps ts → IsEntityTag p t → AreTags (ps ++ p ∷ []) (ts ++ t ∷ [])
AreTags-push [] ts p t h is = inr (t, [], is, ap (λ us. us ++ t ∷ []) h, refl)
AreTags-push (q ∷ ps) ts p t (inl (other, h)) is = inl (other, AreTags-push ps ts p t h is)
AreTags-push (q ∷ ps) ts p t (inr (u, more, tag, e, h)) is =
    inr (u, more ++ t ∷ [], tag, ap (λ us. us ++ t ∷ []) e, AreTags-push ps more p t h is)

-- the tags so far, and what all the values mean by what the remaining ones mean
pub record Sofar (vs rest : List FieldValue) (ts : List EntityTag) : Type 0 where
  pub any : ReadTags rest star → ReadTags vs star
  pub found : (more : List EntityTag) → ReadTags rest (tags more) → ReadTags vs (tags (ts ++ more))
  pub only : (l : TagList) → ReadTags vs l → (m : TagList) × ReadTags rest m

pub Sofar-start : (vs : List FieldValue) → Sofar vs vs []
Sofar-start vs = record { any = λ h. h; found = λ more h. h; only = λ l h. (l, h) }

rest_of : (v : FieldValue) (vs : List FieldValue) → trimmed v.bytes ≢ codes "*" → (l : TagList) → ReadTags (v ∷ vs) l → (m : TagList) × ReadTags vs m
rest_of v vs other star (text, inl e) = absurd (other e)
rest_of v vs other star (text, inr h) = (star, h)
rest_of v vs other (tags ts) (text, no_star, (front, back, e, these, h)) = (tags back, h)

-- one more value, which isn't `*`
pub Sofar-step : (vs rest : List FieldValue) (v : FieldValue) (ts added : List EntityTag) → Sofar vs (v ∷ rest) ts → IsText v.bytes → trimmed v.bytes ≢ codes "*" → AreTags (elements_of v.bytes) added → Sofar vs rest (ts ++ added)
Sofar-step vs rest v ts added sofar text other these =
    record {
      any = λ h. sofar.any (text, inr h);
      found = λ more h.
          subst (λ us. ReadTags vs (tags us)) (sym (append_assoc ts added more))
          (sofar.found (added ++ more) (text, other, (added, more, refl, these, h)));
      only = λ l h. let (m, k) = sofar.only l h in rest_of v rest other m k;
    }

-- the end of the values
pub Sofar-end : (vs : List FieldValue) (ts : List EntityTag) → Sofar vs [] ts → ReadTags vs (tags ts)
Sofar-end vs ts sofar = subst (λ us. ReadTags vs (tags us)) (append-nil ts) (sofar.found [] refl)

no_text : (v : FieldValue) (rest : List FieldValue) (m : TagList) → ¬ IsText v.bytes → ¬ ReadTags (v ∷ rest) m
no_text v rest star hidden h = hidden h.0
no_text v rest (tags ts) hidden h = hidden h.0

-- a value that isn't text
pub Sofar-stuck : (vs rest : List FieldValue) (v : FieldValue) (ts : List EntityTag) → Sofar vs (v ∷ rest) ts → ¬ IsText v.bytes → (l : TagList) → ¬ ReadTags vs l
Sofar-stuck vs rest v ts sofar hidden l h = let (m, k) = sofar.only l h in no_text v rest m hidden k

-- what the test for `*` of a value's text says of the value
pub is_star : (bytes text cut : List ℕ) (r : Bool) → text ≡ bytes → cut ≡ trimmed text → r ≡ pointwise nat_eq cut (codes "*") → r ≡ true → trimmed bytes ≡ codes "*"
is_star bytes text cut r e f g h = ap trimmed (sym e) ∙ sym f ∙ same_text cut (codes "*") (sym h ∙ g)

pub is_no_star : (bytes text cut : List ℕ) (r : Bool) → text ≡ bytes → cut ≡ trimmed text → r ≡ pointwise nat_eq cut (codes "*") → r ≡ false → trimmed bytes ≢ codes "*"
is_no_star bytes text cut r e f g h = λ k. other_text cut (codes "*") (sym h ∙ g) (f ∙ ap trimmed e ∙ k)

-- ---- which tags list elements are

-- a text with this byte at its end, or not
ends_in : (c : ℕ) (xs : List ℕ) → ((ys : List ℕ) × (xs ≡ ys ++ c ∷ [])) ⊎ ((ys : List ℕ) → xs ≢ ys ++ c ∷ [])
ends_in c [] = inr (λ ys e. absurd (omega (arith, ap length e, length-append ys (c ∷ []))))
ends_in c (x ∷ []) = by_test (cases_eq x c)
  where
    alone : (ys : List ℕ) → x ∷ [] ≡ ys ++ c ∷ [] → x ≡ c
    alone [] e = cc
    alone (y ∷ ys) e = absurd (omega (arith, ap length e, length-append ys (c ∷ [])))

    by_test : (x ≡ c) ⊎ (x ≡ c → ⊥) → ((ys : List ℕ) × (x ∷ [] ≡ ys ++ c ∷ [])) ⊎ ((ys : List ℕ) → x ∷ [] ≢ ys ++ c ∷ [])
    by_test (inl e) = inl ([], ap (λ b. b ∷ []) e)
    by_test (inr other) = inr (λ ys e. other (alone ys e))
ends_in c (x ∷ y ∷ xs) = more (ends_in c (y ∷ xs))
  where
    tail_of : (ys : List ℕ) → x ∷ y ∷ xs ≡ ys ++ c ∷ [] → (zs : List ℕ) × (y ∷ xs ≡ zs ++ c ∷ [])
    tail_of [] e = absurd (omega (arith, ap length e))
    tail_of (z ∷ zs) e = (zs, ap (drop 1) e)

    more : ((ys : List ℕ) × (y ∷ xs ≡ ys ++ c ∷ [])) ⊎ ((ys : List ℕ) → y ∷ xs ≢ ys ++ c ∷ []) → ((ys : List ℕ) × (x ∷ y ∷ xs ≡ ys ++ c ∷ [])) ⊎ ((ys : List ℕ) → x ∷ y ∷ xs ≢ ys ++ c ∷ [])
    more (inl (ys, e)) = inl (x ∷ ys, ap (λ zs. x ∷ zs) e)
    more (inr none) = inr (λ ys e. let rest = tail_of ys e in none rest.0 rest.1)

-- a byte is in a text, or not
holds : (c : ℕ) (xs : List ℕ) → Contains xs c ⊎ (¬ Contains xs c)
holds c [] = inr (λ (k, lt, e). omega (arith, lt))
holds c (x ∷ xs) = by_tests (cases_eq x c) (holds c xs)
  where
    neither : (x ≡ c → ⊥) → (¬ Contains xs c) → (k : ℕ) → k < length (x ∷ xs) → get_or (x ∷ xs) k c ≡ c → ⊥
    neither first others zero lt e = first e
    neither first others (suc k) lt e = others (k, omega (arith, lt), e)

    by_tests : (x ≡ c) ⊎ (x ≡ c → ⊥) → Contains xs c ⊎ (¬ Contains xs c) → Contains (x ∷ xs) c ⊎ (¬ Contains (x ∷ xs) c)
    by_tests (inl e) rest = inl (0, omega arith, e)
    by_tests (inr other) (inl (k, lt, e)) = inl (suc k, omega (arith, lt), e)
    by_tests (inr other) (inr none) = inr (λ (k, lt, e). neither other none k lt e)

-- what is between two quotes, if the text has them and no other
between : (text : List ℕ) → ((tag : List ℕ) × IsUnquoted tag × (text ≡ 34 ∷ (tag ++ 34 ∷ []))) ⊎ ((tag : List ℕ) → IsUnquoted tag → text ≢ 34 ∷ (tag ++ 34 ∷ []))
between [] = inr (λ tag clean e. absurd (cc))
between (b ∷ rest) = by_tests (cases_eq b 34) (ends_in 34 rest)
  where
    by_quote : (ys : List ℕ) → b ≡ 34 → rest ≡ ys ++ 34 ∷ [] → Contains ys 34 ⊎ (¬ Contains ys 34) → ((tag : List ℕ) × IsUnquoted tag × (b ∷ rest ≡ 34 ∷ (tag ++ 34 ∷ []))) ⊎ ((tag : List ℕ) → IsUnquoted tag → b ∷ rest ≢ 34 ∷ (tag ++ 34 ∷ []))
    by_quote ys first last (inl inside) = inr (λ tag clean e. clean (subst (λ t. Contains t 34) (append_cancel_right ys tag (34 ∷ []) (sym last ∙ ap (drop 1) e)) inside))
    by_quote ys first last (inr clean) = inl (ys, clean, cc (first, last))

    by_tests : (b ≡ 34) ⊎ (b ≡ 34 → ⊥) → ((ys : List ℕ) × (rest ≡ ys ++ 34 ∷ [])) ⊎ ((ys : List ℕ) → rest ≢ ys ++ 34 ∷ []) → ((tag : List ℕ) × IsUnquoted tag × (b ∷ rest ≡ 34 ∷ (tag ++ 34 ∷ []))) ⊎ ((tag : List ℕ) → IsUnquoted tag → b ∷ rest ≢ 34 ∷ (tag ++ 34 ∷ []))
    by_tests (inl first) (inl (ys, last)) = by_quote ys first last (holds 34 ys)
    by_tests (inl first) (inr none) = inr (λ tag clean e. none tag (ap (drop 1) e))
    by_tests (inr other) ends = inr (λ tag clean e. other (ap (λ t. get_or t 0 0) e))

-- the text after `W/`, if it begins so
after_mark : (text : List ℕ) → ((rest : List ℕ) × (text ≡ 87 ∷ 47 ∷ rest)) ⊎ ((rest : List ℕ) → text ≢ 87 ∷ 47 ∷ rest)
after_mark [] = inr (λ rest e. absurd (cc))
after_mark (a ∷ []) = inr (λ rest e. absurd (omega (arith, ap length e)))
after_mark (a ∷ b ∷ rest) = by_tests (cases_eq a 87) (cases_eq b 47)
  where
    by_tests : (a ≡ 87) ⊎ (a ≡ 87 → ⊥) → (b ≡ 47) ⊎ (b ≡ 47 → ⊥) → ((more : List ℕ) × (a ∷ b ∷ rest ≡ 87 ∷ 47 ∷ more)) ⊎ ((more : List ℕ) → a ∷ b ∷ rest ≢ 87 ∷ 47 ∷ more)
    by_tests (inl e) (inl f) = inl (rest, cc (e, f))
    by_tests (inl e) (inr other) = inr (λ more f. other (ap (λ t. get_or t 1 0) f))
    by_tests (inr other) second = inr (λ more f. other (ap (λ t. get_or t 0 0) f))

-- the tag that a text is, or none
tag_in : (text : List ℕ) → ((t : EntityTag) × IsEntityTag text t) ⊎ ((t : EntityTag) → ¬ IsEntityTag text t)
tag_in text = by_mark (after_mark text)
  where
    only_weak : (rest : List ℕ) → text ≡ 87 ∷ 47 ∷ rest → ((tag : List ℕ) → IsUnquoted tag → rest ≢ 34 ∷ (tag ++ 34 ∷ [])) → (weak : Bool) (tag : List ℕ) → IsUnquoted tag → text ≡ tag_text weak tag → ⊥
    only_weak rest e none true tag clean f = none tag clean (ap (drop 2) (sym e ∙ f))
    only_weak rest e none false tag clean f = let heads : ◌≡◌ {A = ℕ} 87 34 = ap (λ t. get_or t 0 0) (sym e ∙ f) in omega (arith, heads)

    by_rest : (rest : List ℕ) → text ≡ 87 ∷ 47 ∷ rest → ((tag : List ℕ) × IsUnquoted tag × (rest ≡ 34 ∷ (tag ++ 34 ∷ []))) ⊎ ((tag : List ℕ) → IsUnquoted tag → rest ≢ 34 ∷ (tag ++ 34 ∷ [])) → ((t : EntityTag) × IsEntityTag text t) ⊎ ((t : EntityTag) → ¬ IsEntityTag text t)
    by_rest rest e (inl (tag, clean, f)) = inl (record { weak = true; tag = tag }, (clean, e ∙ ap (λ r. 87 ∷ 47 ∷ r) f))
    by_rest rest e (inr none) = inr (λ t h. only_weak rest e none t.weak t.tag h.0 h.1)

    only_strong : ((rest : List ℕ) → text ≢ 87 ∷ 47 ∷ rest) → ((tag : List ℕ) → IsUnquoted tag → text ≢ 34 ∷ (tag ++ 34 ∷ [])) → (weak : Bool) (tag : List ℕ) → IsUnquoted tag → text ≡ tag_text weak tag → ⊥
    only_strong other none true tag clean f = other (34 ∷ (tag ++ 34 ∷ [])) f
    only_strong other none false tag clean f = none tag clean f

    by_text : ((rest : List ℕ) → text ≢ 87 ∷ 47 ∷ rest) → ((tag : List ℕ) × IsUnquoted tag × (text ≡ 34 ∷ (tag ++ 34 ∷ []))) ⊎ ((tag : List ℕ) → IsUnquoted tag → text ≢ 34 ∷ (tag ++ 34 ∷ [])) → ((t : EntityTag) × IsEntityTag text t) ⊎ ((t : EntityTag) → ¬ IsEntityTag text t)
    by_text other (inl (tag, clean, f)) = inl (record { weak = false; tag = tag }, (clean, f))
    by_text other (inr none) = inr (λ t h. only_strong other none t.weak t.tag h.0 h.1)

    by_mark : ((rest : List ℕ) × (text ≡ 87 ∷ 47 ∷ rest)) ⊎ ((rest : List ℕ) → text ≢ 87 ∷ 47 ∷ rest) → ((t : EntityTag) × IsEntityTag text t) ⊎ ((t : EntityTag) → ¬ IsEntityTag text t)
    by_mark (inl (rest, e)) = by_rest rest e (between rest)
    by_mark (inr other) = by_text other (between text)

-- list elements hold some list of tags
pub tags_in : (ps : List (List ℕ)) → (ts : List EntityTag) × AreTags ps ts
tags_in [] = ([], refl)
tags_in (p ∷ ps) = by_tag (tag_in p) (tags_in ps)
  where
    by_tag : ((t : EntityTag) × IsEntityTag p t) ⊎ ((t : EntityTag) → ¬ IsEntityTag p t) → ((ts : List EntityTag) × AreTags ps ts) → (ts : List EntityTag) × AreTags (p ∷ ps) ts
    by_tag (inl (t, is)) (ts, are) = (t ∷ ts, inr (t, ts, is, refl, are))
    by_tag (inr none) (ts, are) = (ts, inl (none, are))
