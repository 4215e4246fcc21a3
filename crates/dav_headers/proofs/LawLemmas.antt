-- What is written is read back as the same, and in one way.
use Rattle.std.proofs.Common.{◌≡◌, ◌≢◌, ℕ, ◌<◌, ◌^◌, Bool, true, false, List, [], ◌∷◌, ◌++◌, ◌∙◌, Option, Some, None, IsSomeAnd, length, get_or, sym, ap, refl, subst, inl, inr, arith}
use Rattle.std.specs.Prelude.{codes, decimal}
use Rattle.std.specs.List.{list_all}
use Rattle.std.proofs.lemmas.Bool.{cond-true}
use Rattle.std.proofs.lemmas.Fmt.{decimal_is_IsNumeral}
use Rattle.std.proofs.lemmas.List.{append_cancel_left}
use Rattle.http_header.specs.FieldValue.{FieldValue}
use Rattle.http_header.specs.Token.{is_visible_or_blank}
use Rattle.dav_headers.specs.Laws.{written, AreBelow}
use Rattle.dav_headers.specs.Value.{only_text, IsNumber}
use Rattle.dav_headers.specs.Overwrite.{overwrite_text, IsOverwrite}
use Rattle.dav_headers.specs.Depth.{depth_text, IsDepth, IsDepthText}
use Rattle.dav_headers.specs.Timeout.{AreTimeTypes, IsTimeout, IsTimeType}
use Rattle.dav_headers.specs.Elements.{elements_of}
use Rattle.dav_headers.specs.UpdateRange.{update_range_text, IsEnds, IsUpdateRange, IsUpdateRangeText}
use Rattle.dav_headers.specs.declared.depth.Depth.{Depth}
use Rattle.dav_headers.specs.declared.depth.Depth.TheVariants.{Default, Zero, One, Infinity}
use Rattle.dav_headers.specs.declared.timeout.DavTimeout.{DavTimeout}
use Rattle.dav_headers.specs.declared.timeout.DavTimeout.TheVariants.{Seconds, Infinite}
use Rattle.dav_headers.specs.declared.range.XUpdateRange.{XUpdateRange}
use Rattle.dav_headers.specs.declared.range.XUpdateRange.TheVariants.{FromTo, AllFrom, Last, Append}
use Rattle.dav_headers.proofs.RangeLemmas.{ends_at_cut, ends_without, not_append, update_range_shown}

-- the text of a value that was written
pub one_reads : (text : List ℕ) (P : List ℕ → Type 0) → list_all is_visible_or_blank text ≡ true → P text → IsSomeAnd (only_text (written text)) P
one_reads text P shown h = subst (λ o. IsSomeAnd o P) (sym (cond-true _ _ _ shown)) h

-- two facts about the text of the only value
pub both_at : (o : Option (List ℕ)) (P Q : List ℕ → Type 0) → IsSomeAnd o P → IsSomeAnd o Q → (t : List ℕ) × P t × Q t
both_at None P Q p q = absurd p
both_at (Some t) P Q p q = (t, p, q)

-- two texts that begin with different bytes
differ : (text xs ys : List ℕ) → text ≡ xs → text ≡ ys → get_or xs 0 0 ≢ get_or ys 0 0 → ⊥
differ text xs ys e f other = other (ap (λ t. get_or t 0 0) (sym e ∙ f))

pub overwrite_again : (o : Bool) → IsOverwrite (written (overwrite_text o)) o
overwrite_again true = refl
overwrite_again false = refl

some_text : (x y : List ℕ) → Some x ≡ Some y → x ≡ y
some_text x y e = cc

letters : (a b : Bool) → overwrite_text a ≡ overwrite_text b → a ≡ b
letters true true e = refl
letters true false e = absurd (differ _ _ _ refl e (λ f. omega (arith, f)))
letters false true e = absurd (differ _ _ _ refl e (λ f. omega (arith, f)))
letters false false e = refl

pub one_overwrite : (values : List FieldValue) → (a b : Bool) → IsOverwrite values a → IsOverwrite values b → a ≡ b
one_overwrite values a b e f = letters a b (some_text _ _ (sym e ∙ f))

pub depth_again : (d : Depth) → (text : List ℕ) → depth_text d ≡ Some text → IsDepth (written text) d
depth_again Default text e = absurd (cc)
depth_again Zero text e = subst (λ t. IsDepth (written t) Zero) (some_text _ _ e) refl
depth_again One text e = subst (λ t. IsDepth (written t) One) (some_text _ _ e) refl
depth_again Infinity text e = subst (λ t. IsDepth (written t) Infinity) (some_text _ _ e) (inr refl)

depths : (t : List ℕ) (a b : Depth) → IsDepthText t a → IsDepthText t b → a ≡ b
depths t Default b p q = absurd p
depths t Zero Default p q = absurd q
depths t Zero Zero p q = refl
depths t Zero One p q = absurd (differ t _ _ p q (λ f. omega (arith, f)))
depths t Zero Infinity p (inl q) = absurd (differ t _ _ p q (λ f. omega (arith, f)))
depths t Zero Infinity p (inr q) = absurd (differ t _ _ p q (λ f. omega (arith, f)))
depths t One Default p q = absurd q
depths t One Zero p q = absurd (differ t _ _ p q (λ f. omega (arith, f)))
depths t One One p q = refl
depths t One Infinity p (inl q) = absurd (differ t _ _ p q (λ f. omega (arith, f)))
depths t One Infinity p (inr q) = absurd (differ t _ _ p q (λ f. omega (arith, f)))
depths t Infinity Default p q = absurd q
depths t Infinity Zero (inl p) q = absurd (differ t _ _ p q (λ f. omega (arith, f)))
depths t Infinity Zero (inr p) q = absurd (differ t _ _ p q (λ f. omega (arith, f)))
depths t Infinity One (inl p) q = absurd (differ t _ _ p q (λ f. omega (arith, f)))
depths t Infinity One (inr p) q = absurd (differ t _ _ p q (λ f. omega (arith, f)))
depths t Infinity Infinity p q = refl

pub one_depth : (values : List FieldValue) → (a b : Depth) → IsDepth values a → IsDepth values b → a ≡ b
one_depth values a b p q =
    let both = both_at (only_text values) (λ t. IsDepthText t a) (λ t. IsDepthText t b) p q in
    depths both.0 a b both.1 both.2

pub number_again : (n : ℕ) → n < 2 ^ 64 → IsNumber (decimal n) n
number_again n small = let numeral = decimal_is_IsNumeral n small in (numeral.0, numeral.1, small)

range_again : (r : XUpdateRange) → AreBelow r → IsUpdateRangeText (update_range_text r) r
range_again (FromTo a b) (p, q) = inr (decimal a, decimal b, refl, (number_again a p, number_again b q))
range_again (AllFrom a) p = inr (decimal a, [], refl, (number_again a p, refl))
range_again (Last n) p = inr ([], decimal n, refl, (refl, number_again n p))
range_again Append p = inl (refl, refl)

pub update_range_again : (r : XUpdateRange) → AreBelow r → IsUpdateRange (written (update_range_text r)) r
update_range_again r below = one_reads (update_range_text r) (λ t. IsUpdateRangeText t r) (update_range_shown r) (range_again r below)

pub same_number : (t : List ℕ) (m n : ℕ) → IsNumber t m → IsNumber t n → m ≡ n
same_number t m n p q = sym p.1 ∙ q.1

pub not_empty : (t : List ℕ) (n : ℕ) → IsNumber t n → t ≡ [] → ⊥
not_empty t n p e = absurd (omega (arith, p.0.0, ap length e))

ends_one : (x y : List ℕ) (a b : XUpdateRange) → IsEnds x y a → IsEnds x y b → a ≡ b
ends_one x y (FromTo k l) (FromTo m n) (p, q) (r, s) = let e = same_number x k m p r in let f = same_number y l n q s in ap (λ i. FromTo i l) e ∙ ap (FromTo m) f
ends_one x y (FromTo k l) (AllFrom m) (p, q) (r, s) = absurd (not_empty y l q s)
ends_one x y (FromTo k l) (Last n) (p, q) (r, s) = absurd (not_empty x k p r)
ends_one x y (FromTo k l) Append p q = absurd q
ends_one x y (AllFrom k) (FromTo m n) (p, q) (r, s) = absurd (not_empty y n s q)
ends_one x y (AllFrom k) (AllFrom m) (p, q) (r, s) = ap AllFrom (same_number x k m p r)
ends_one x y (AllFrom k) (Last n) (p, q) (r, s) = absurd (not_empty x k p r)
ends_one x y (AllFrom k) Append p q = absurd q
ends_one x y (Last k) (FromTo m n) (p, q) (r, s) = absurd (not_empty x m r p)
ends_one x y (Last k) (AllFrom m) (p, q) (r, s) = absurd (not_empty x m r p)
ends_one x y (Last k) (Last n) (p, q) (r, s) = ap Last (same_number y k n q s)
ends_one x y (Last k) Append p q = absurd q
ends_one x y Append b p q = absurd p

ranges : (t : List ℕ) (a b : XUpdateRange) → IsUpdateRangeText t a → IsUpdateRangeText t b → a ≡ b
ranges t a b (inl (e, p)) (inl (f, q)) = p ∙ sym q
ranges t a b (inl (e, p)) (inr (from, to, f, ends)) = absurd (not_append (from ++ 45 ∷ to) (sym e ∙ f))
ranges t a b (inr (from, to, e, ends)) h =
    ends_one from to a b ends (ends_at_cut t (from ++ 45 ∷ to) from to b e (ends_without from to a ends, refl) h)

pub one_update_range : (values : List FieldValue) → (a b : XUpdateRange) → IsUpdateRange values a → IsUpdateRange values b → a ≡ b
one_update_range values a b p q =
    let both = both_at (only_text values) (λ t. IsUpdateRangeText t a) (λ t. IsUpdateRangeText t b) p q in
    ranges both.0 a b both.1 both.2

time_type_one : (p : List ℕ) (a b : DavTimeout) → IsTimeType p a → IsTimeType p b → a ≡ b
time_type_one p (Seconds m) (Seconds n) (x, e, i, k) (y, f, j, l) =
    let same : x ≡ y = append_cancel_left (codes "Second-") x y (sym e ∙ f) in
    ap Seconds (same_number x m n i (subst (λ t. IsNumber t n) (sym same) j))
time_type_one p (Seconds m) Infinite (x, e, i, k) f = absurd (differ p _ _ e f (λ g. omega (arith, g)))
time_type_one p Infinite (Seconds n) e (y, f, j, l) = absurd (differ p _ _ e f (λ g. omega (arith, g)))
time_type_one p Infinite Infinite e f = refl

time_types_one : (ps : List (List ℕ)) (a b : List DavTimeout) → AreTimeTypes ps a → AreTimeTypes ps b → a ≡ b
time_types_one [] [] [] p q = refl
time_types_one [] [] (w ∷ b) p q = absurd q
time_types_one [] (v ∷ a) b p q = absurd p
time_types_one (x ∷ ps) [] b p q = absurd p
time_types_one (x ∷ ps) (v ∷ a) [] p q = absurd q
time_types_one (x ∷ ps) (v ∷ a) (w ∷ b) (p, ps') (q, qs) =
    let e = time_type_one x v w p q in let f = time_types_one ps a b ps' qs in ap (λ u. u ∷ a) e ∙ ap (λ us. w ∷ us) f

pub one_timeout : (values : List FieldValue) → (a b : List DavTimeout) → IsTimeout values a → IsTimeout values b → a ≡ b
one_timeout values a b p q =
    let both = both_at (only_text values) (λ t. AreTimeTypes (elements_of t) a) (λ t. AreTimeTypes (elements_of t) b) p q in
    time_types_one (elements_of both.0) a b both.1 both.2
