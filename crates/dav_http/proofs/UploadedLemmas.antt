-- The time that a PUT tells of its file, and the request that sets it.
use Rattle.std.proofs.Common.{◌≡◌, ◌≤◌, ◌<◌, ◌⊎◌, ◌++◌, ℕ, List, [], Option, Some, None, Result, Ok, Err, IfOk, MatchOption, arith, sym, subst, ap, ◌∙◌}
use Rattle.http_header.specs.FieldValue.{FieldValue}
use Rattle.dav_core.specs.World.{last_moment}
use Rattle.dav_headers.specs.Length.{IsContentLength}
use Rattle.dav_headers.proofs.Theorems.{one_content_length}
use Rattle.dav_http.specs.Uploaded.{AreTime}

-- five parts, each behind the others
pub five_parts : (a t b i d : List ℕ) {nothing one two three four five : List ℕ} → nothing ≡ [] → one ≡ nothing ++ a → two ≡ one ++ t → three ≡ two ++ b
    → four ≡ three ++ i → five ≡ four ++ d → five ≡ a ++ t ++ b ++ i ++ d
five_parts a t b i d empty first second third fourth fifth =
    fifth
    ∙ ap (λ (x : List ℕ). x ++ d) (fourth ∙ ap (λ (x : List ℕ). x ++ i) (third ∙ ap (λ (x : List ℕ). x ++ b) (second ∙ ap (λ (x : List ℕ). x ++ t) (first ∙ ap (λ (x : List ℕ). x ++ a) empty))))

-- a number past the end of 9999 is no time, and nothing else is
pub no_time_past : (values : List FieldValue) (n time : ℕ) → IsContentLength values n → last_moment < n → ¬ AreTime values time
no_time_past values n time is past (other, le) = absurd-lt (one_content_length values time n other is) le past
  where
    absurd-lt : time ≡ n → time ≤ last_moment → last_moment < n → ⊥
    absurd-lt same le past = omega (arith, same, le, past)

-- what is told by one option, told by another that follows
pub told_so : {A : Type 0} {P Q : Type 0} {R S : A → Type 0} (o : Option A) → (P → Q) → ((x : A) → R x → S x) → MatchOption o P R → MatchOption o Q S
told_so None f g p = f p
told_so (Some x) f g r = g x r

pub told_so_ok : {A E : Type 0} {P Q : Type 0} {R S : A → Type 0} (r : Result (Option A) E) → (P → Q) → ((x : A) → R x → S x)
    → IfOk r (λ o. MatchOption o P R) → IfOk r (λ o. MatchOption o Q S)
told_so_ok (Ok o) f g is = told_so o f g is
told_so_ok (Err e) f g is = tt
