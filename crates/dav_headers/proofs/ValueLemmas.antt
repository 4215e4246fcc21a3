-- Facts about the values of a header.
use Rattle.std.proofs.Common.{◌≡◌, ◌<◌, ◌≤◌, ◌⊎◌, inl, inr, length, get_or, true, false, List, [], ◌∷◌, Some, None, arith, ap, sym}
use Rattle.std.proofs.lemmas.Bool.{cases_Bool, cond-true, cond-false}
use Rattle.std.proofs.lemmas.List.Sums.{AllPass-from_list_all, list_all-from_AllPass}
use Rattle.http_header.specs.FieldValue.{FieldValue, IsVisibleAscii, is_visible_text}
use Rattle.http_header.specs.Token.{is_visible_or_blank}
use Rattle.dav_headers.specs.Value.{only_text}

-- the value of a list of one
pub one_value : (vs : List FieldValue) (v : FieldValue) → 1 ≤ length vs → length vs < 2 → v ≡ get_or vs 0 v → vs ≡ v ∷ []
one_value [] v some few is = absurd (omega (arith, some))
one_value (w ∷ []) v some few is = ap (λ x. x ∷ []) (sym is)
one_value (w ∷ x ∷ vs) v some few is = absurd (omega (arith, few))

-- the only value, where it is text
pub only_text_found : (vs : List FieldValue) (v : FieldValue) → 1 ≤ length vs → length vs < 2 → v ≡ get_or vs 0 v → IsVisibleAscii v.bytes → only_text vs ≡ Some v.bytes
only_text_found vs v some few is visible =
    rw (one_value vs v some few is) (cond-true _ _ _ (list_all-from_AllPass is_visible_or_blank v.bytes visible))

by_test : (v : FieldValue) → ¬ IsVisibleAscii v.bytes → (is_visible_text v.bytes ≡ true) ⊎ (is_visible_text v.bytes ≡ false) → only_text (v ∷ []) ≡ None
by_test v hidden (inl e) = absurd (hidden (AllPass-from_list_all is_visible_or_blank v.bytes e))
by_test v hidden (inr e) = cond-false _ _ _ e

-- the only value, where it isn't text
pub only_text_none : (vs : List FieldValue) (v : FieldValue) → 1 ≤ length vs → length vs < 2 → v ≡ get_or vs 0 v → ¬ IsVisibleAscii v.bytes → only_text vs ≡ None
only_text_none vs v some few is hidden = rw (one_value vs v some few is) (by_test v hidden (cases_Bool _))
