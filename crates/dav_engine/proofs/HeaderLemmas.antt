-- Facts about what is read in headers.
use Rattle.std.proofs.Common.{◌≡◌, ◌⊎◌, inl, inr, true, false, Some, None}
use Rattle.std.proofs.lemmas.Bool.{cases_Bool, cond-true, cond-false}
use Rattle.std.proofs.lemmas.List.Sums.{AllPass-from_list_all, list_all-from_AllPass}
use Rattle.http_header.specs.FieldValue.{FieldValue, IsVisibleAscii, is_visible_text}
use Rattle.http_header.specs.Token.{is_visible_or_blank}
use Rattle.dav_engine.specs.Headers.{text_in}

-- a value that is text
pub text_found : (v : FieldValue) → IsVisibleAscii v.bytes → text_in (Some v) ≡ Some v.bytes
text_found v visible = cond-true _ _ _ (list_all-from_AllPass is_visible_or_blank v.bytes visible)

by_test : (v : FieldValue) → ¬ IsVisibleAscii v.bytes → (is_visible_text v.bytes ≡ true) ⊎ (is_visible_text v.bytes ≡ false) → text_in (Some v) ≡ None
by_test v hidden (inl e) = absurd (hidden (AllPass-from_list_all is_visible_or_blank v.bytes e))
by_test v hidden (inr e) = cond-false _ _ _ e

-- a value that isn't text
pub text_none : (v : FieldValue) → ¬ IsVisibleAscii v.bytes → text_in (Some v) ≡ None
text_none v hidden = by_test v hidden (cases_Bool _)
