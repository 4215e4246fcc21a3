-- Which bytes are text, and how text is written.
use Rattle.std.proofs.Common.{◌≡◌, ◌≢◌, Option, Some, ◌⊎◌, inl, inr, ℕ, Bool, true, false, List, [], ◌∷◌, ◌++◌, map, Result, Ok, Err, IfOk, IsSomeAnd, All, refl, sym, ap, ◌∙◌, subst, arith}
use Rattle.std.specs.Prelude.{codes, IsTrue, IsErrAnd, IsErrOf, IsOkUnless, ◌↔◌}
use Rattle.std.specs.Char.{is_ascii_alphanumeric}
use Rattle.std.specs.List.{flat_map, list_all}
use Rattle.std.proofs.lemmas.Bool.{cond-true}
use Rattle.std.proofs.lemmas.Bool.Decides.{nat_tests}
use Rattle.std.proofs.lemmas.List.Elements.{All-nil, All-cons, All-head, All-tail, All-append, All-weaker}
use Rattle.std.proofs.lemmas.List.Sums.{AllPass-from_list_all, list_all-from_AllPass}
use Rattle.http_header.specs.FieldValue.{FieldValue, plain_value}
use Rattle.http_header.specs.Token.{is_visible_or_blank}
use Rattle.dav_headers.specs.ETag.{EntityTag, tag_text, IsUnquoted, IsEntityTag, IsETag}
use Rattle.dav_headers.specs.Depth.{depth_text}
use Rattle.dav_headers.specs.declared.depth.Depth.{Depth}
use Rattle.dav_headers.specs.declared.depth.Depth.TheVariants.{Default, Zero, One, Infinity}
use Rattle.dav_headers.specs.Elements.{joined}
use Rattle.dav_headers.specs.Language.{IsLanguage}
use Rattle.dav_headers.specs.Value.{IsText, Writes, only_text}
use Rattle.dav_headers.specs.declared.errors.HeaderError.{HeaderError}
use Rattle.dav_headers.specs.declared.errors.HeaderError.TheVariants.{Invalid, Memory}

-- ---- parts of a list

pub all_front : {X : Type 0} (P : X → Type 0) (xs ys : List X) → All P (xs ++ ys) → All P xs
all_front P [] ys h = λ k d lt. absurd (omega (arith, lt))
all_front P (x ∷ xs) ys h = All-cons P x xs (All-head P x (xs ++ ys) h) (all_front P xs ys (All-tail P x (xs ++ ys) h))

pub all_back : {X : Type 0} (P : X → Type 0) (xs ys : List X) → All P (xs ++ ys) → All P ys
all_back P [] ys h = h
all_back P (x ∷ xs) ys h = all_back P xs ys (All-tail P x (xs ++ ys) h)

-- ---- text

quote : IsText (34 ∷ [])
quote = AllPass-from_list_all is_visible_or_blank (34 ∷ []) refl

mark : IsText (codes "W/")
mark = AllPass-from_list_all is_visible_or_blank (codes "W/") refl

comma : IsText (44 ∷ 32 ∷ [])
comma = AllPass-from_list_all is_visible_or_blank (44 ∷ 32 ∷ []) refl

append : (xs ys : List ℕ) → IsText xs → IsText ys → IsText (xs ++ ys)
append xs ys h k = All-append (λ b. IsTrue (is_visible_or_blank b)) xs ys h k

back : (xs ys : List ℕ) → IsText (xs ++ ys) → IsText ys
back xs ys h = all_back (λ b. IsTrue (is_visible_or_blank b)) xs ys h

front : (xs ys : List ℕ) → IsText (xs ++ ys) → IsText xs
front xs ys h = all_front (λ b. IsTrue (is_visible_or_blank b)) xs ys h

quoted : (tag : List ℕ) → IsText tag → IsText (34 ∷ (tag ++ 34 ∷ []))
quoted tag h = append (34 ∷ []) (tag ++ 34 ∷ []) quote (append tag (34 ∷ []) h quote)

unquoted : (tag : List ℕ) → IsText (34 ∷ (tag ++ 34 ∷ [])) → IsText tag
unquoted tag h = front tag (34 ∷ []) (back (34 ∷ []) (tag ++ 34 ∷ []) h)

-- a tag is text exactly where what is between its quotes is
pub tag_is_text : (weak : Bool) (tag : List ℕ) → IsText tag → IsText (tag_text weak tag)
tag_is_text true tag h = append (codes "W/") (34 ∷ (tag ++ 34 ∷ [])) mark (quoted tag h)
tag_is_text false tag h = quoted tag h

pub tag_was_text : (weak : Bool) (tag : List ℕ) → IsText (tag_text weak tag) → IsText tag
tag_was_text true tag h = unquoted tag (back (codes "W/") (34 ∷ (tag ++ 34 ∷ [])) h)
tag_was_text false tag h = unquoted tag h

-- joined texts are text exactly where each is
rest_is_text : (xs : List (List ℕ)) → All IsText xs → IsText (flat_map (λ y. 44 ∷ 32 ∷ y) xs)
rest_is_text [] h = All-nil (λ b. IsTrue (is_visible_or_blank b))
rest_is_text (x ∷ xs) h =
    append (44 ∷ 32 ∷ x) (flat_map (λ y. 44 ∷ 32 ∷ y) xs) (append (44 ∷ 32 ∷ []) x comma (All-head IsText x xs h))
    (rest_is_text xs (All-tail IsText x xs h))

pub joined_is_text : (xs : List (List ℕ)) → All IsText xs → IsText (joined xs)
joined_is_text [] h = All-nil (λ b. IsTrue (is_visible_or_blank b))
joined_is_text (x ∷ xs) h = append x (flat_map (λ y. 44 ∷ 32 ∷ y) xs) (All-head IsText x xs h) (rest_is_text xs (All-tail IsText x xs h))

rest_was_text : (xs : List (List ℕ)) → IsText (flat_map (λ y. 44 ∷ 32 ∷ y) xs) → All IsText xs
rest_was_text [] h = All-nil IsText
rest_was_text (x ∷ xs) h =
    All-cons IsText x xs (back (44 ∷ 32 ∷ []) x (front (44 ∷ 32 ∷ x) (flat_map (λ y. 44 ∷ 32 ∷ y) xs) h))
    (rest_was_text xs (back (44 ∷ 32 ∷ x) (flat_map (λ y. 44 ∷ 32 ∷ y) xs) h))

pub joined_was_text : (xs : List (List ℕ)) → IsText (joined xs) → All IsText xs
joined_was_text [] h = All-nil IsText
joined_was_text (x ∷ xs) h =
    All-cons IsText x xs (front x (flat_map (λ y. 44 ∷ 32 ∷ y) xs) h)
    (rest_was_text xs (back x (flat_map (λ y. 44 ∷ 32 ∷ y) xs) h))

-- lists of tags
pub tags_are_text : (ts : List EntityTag) → All (λ t. IsText (tag_text t.weak t.tag)) ts → All IsText (map (λ t. tag_text t.weak t.tag) ts)
tags_are_text [] h = All-nil IsText
tags_are_text (t ∷ ts) h =
    All-cons IsText (tag_text t.weak t.tag) (map (λ t. tag_text t.weak t.tag) ts) (All-head (λ t. IsText (tag_text t.weak t.tag)) t ts h)
    (tags_are_text ts (All-tail (λ t. IsText (tag_text t.weak t.tag)) t ts h))

pub tags_were_text : (ts : List EntityTag) → All IsText (map (λ t. tag_text t.weak t.tag) ts) → All (λ t. IsText (tag_text t.weak t.tag)) ts
tags_were_text [] h = All-nil (λ t. IsText (tag_text t.weak t.tag))
tags_were_text (t ∷ ts) h =
    All-cons (λ t. IsText (tag_text t.weak t.tag)) t ts (All-head IsText (tag_text t.weak t.tag) (map (λ t. tag_text t.weak t.tag) ts) h)
    (tags_were_text ts (All-tail IsText (tag_text t.weak t.tag) (map (λ t. tag_text t.weak t.tag) ts) h))

-- a language is text
byte_is_text : (b : ℕ) → IsTrue (is_ascii_alphanumeric b) ⊎ (b ≡ 45) → IsTrue (is_visible_or_blank b)
byte_is_text b (inl h) = grind (arith, nat_tests)
byte_is_text b (inr h) = grind (arith, nat_tests)

language_is_text : (item : List ℕ) → IsLanguage item → IsText item
language_is_text item h =
    All-weaker (λ b. IsTrue (is_ascii_alphanumeric b) ⊎ (b ≡ 45)) (λ b. IsTrue (is_visible_or_blank b)) byte_is_text item h.1

pub languages_are_text : (items : List (List ℕ)) → All IsLanguage items → IsText (joined items)
languages_are_text items h = joined_is_text items (All-weaker IsLanguage IsText language_is_text items h)

-- ---- what is written

pub writes_memory : (r : Result FieldValue HeaderError) (text : List ℕ) → IsErrAnd r (λ e. e ≡ Memory) → IsText text → Writes r text
writes_memory (Ok v) text h is = absurd h
writes_memory (Err e) text h is = subst (λ d. Writes (Err d) text) (sym h) is

pub never_invalid : (r : Result FieldValue HeaderError) (text : List ℕ) → IsText text → Writes r text → IsOkUnless r Memory
never_invalid (Ok v) text is h = tt
never_invalid (Err Invalid) text is h = absurd (h is)
never_invalid (Err Memory) text is h = refl

-- what is written of a text that is this one, which is text
pub written_is : (r : Result FieldValue HeaderError) (text this : List ℕ) → text ≡ this → Writes r text → IfOk r (λ v. v ≡ plain_value this)
written_is (Ok v) text this e h = h.1 ∙ ap plain_value e
written_is (Err x) text this e h = tt

pub written_unless : (r : Result FieldValue HeaderError) (text this : List ℕ) → text ≡ this → IsText this → Writes r text → IsOkUnless r Memory
written_unless r text this e is h = never_invalid r text (subst IsText (sym e) is) h

pub zero_is_given : Zero ≢ Default
zero_is_given e = cc

pub one_is_given : One ≢ Default
one_is_given e = cc

pub infinity_is_given : Infinity ≢ Default
infinity_is_given e = cc

-- what is written of a depth that has this text
pub depth_written : (d : Depth) (r : Result FieldValue HeaderError) (text : List ℕ) → Some text ≡ depth_text d → Writes r text → IfOk r (λ v. IsSomeAnd (depth_text d) (λ t. v ≡ plain_value t))
depth_written d (Ok v) text e h = let P : Option (List ℕ) → Type 0 = λ o. IsSomeAnd o (λ t. v ≡ plain_value t) in subst P e h.1
depth_written d (Err x) text e h = tt

pub depth_not_invalid : (d e : Depth) (r : Result FieldValue HeaderError) (text : List ℕ) → d ≡ e → e ≢ Default → list_all is_visible_or_blank text ≡ true → Writes r text → IsErrOf r Invalid ↔ (d ≡ Default)
depth_not_invalid d e (Ok v) text is other shown h = (λ wrong. absurd (cc), λ k. absurd (other (sym is ∙ k)))
depth_not_invalid d e (Err Invalid) text is other shown h = absurd (h (AllPass-from_list_all is_visible_or_blank text shown))
depth_not_invalid d e (Err Memory) text is other shown h = (λ wrong. absurd (cc), λ k. absurd (other (sym is ∙ k)))

-- a text that is written is the text of the only value
pub written_text : (v : FieldValue) (text : List ℕ) (P : List ℕ → Type 0) → IsText text → v ≡ plain_value text → P text → IsSomeAnd (only_text (v ∷ [])) P
written_text v text P is e h =
    let read : IsSomeAnd (only_text (plain_value text ∷ [])) P = subst (λ o. IsSomeAnd o P) (sym (cond-true _ _ _ (list_all-from_AllPass is_visible_or_blank text is))) h in
    subst (λ w. IsSomeAnd (only_text (w ∷ [])) P) (sym e) read

-- a tag that is written is read again
pub writes_tag : (r : Result FieldValue HeaderError) (e : EntityTag) → IsUnquoted e.tag → Writes r (tag_text e.weak e.tag) → IfOk r (λ v. IsETag (v ∷ []) e)
writes_tag (Err d) e clean h = tt
writes_tag (Ok v) e clean (is, same) = written_text v (tag_text e.weak e.tag) (λ text. IsEntityTag text e) is same (clean, refl)
