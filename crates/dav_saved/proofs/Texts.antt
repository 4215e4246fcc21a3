-- A text that is read is UTF-8.
use Rattle.std.proofs.Common.{◌≡◌, ◌<◌, ◌^◌, length, ℕ, Bool, true, false, cond, List, Some, None, refl, sym, ap}
use Rattle.std.specs.Str.{IsUtf8, is_utf8}
use Rattle.std.proofs.lemmas.Str.{IsUtf8-from_is_utf8, is_utf8-from_IsUtf8}
use Rattle.dav_saved.specs.Trees.{IsText}
use Rattle.dav_saved.specs.Reading.{sized_at, text_at}

no_text : (b : Bool) (t : List ℕ × List ℕ) → (b ≡ true → ⊥) → cond b (Some t) None ≡ None
no_text true t h = absurd (h refl)
no_text false t h = refl

pub text_ok : (bytes t text rest : List ℕ) → sized_at bytes ≡ Some (t, rest) → (text ≡ t) × IsUtf8 t → text_at bytes ≡ Some (text, rest)
unfolding text_at
text_ok bytes t text rest e is = rw (e, is_utf8-from_IsUtf8 t is.1) (ap (λ (x : List ℕ). Some (x, rest)) (sym is.0))

pub text_bad : (bytes t rest : List ℕ) → sized_at bytes ≡ Some (t, rest) → ¬ IsUtf8 t → text_at bytes ≡ None
unfolding text_at
text_bad bytes t rest e h = rw e (no_text (is_utf8 t) (t, rest) (λ is. h (IsUtf8-from_is_utf8 t is)))

pub text_fits : (t : List ℕ) → IsUtf8 t → length t < 2 ^ 64 → IsText t
text_fits t is lt = (is_utf8-from_IsUtf8 t is, lt)
