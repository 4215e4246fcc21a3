-- What is read in the headers of a PUT or PATCH.
use Rattle.std.proofs.Common.{arith, ◌≡◌, inr, ℕ, ◌≤◌, List, [], ◌∷◌, length, get_or, Option, Some, None, Result, Ok, Err, IfOk, sym, subst, ap, ◌∙◌}
use Rattle.std.proofs.lemmas.List.Elements.{All-cons, All-nil}
use Rattle.http_header.specs.FieldValue.{FieldValue, plain_value}
use Rattle.dav_headers.specs.ContentRange.{IsContentRange}
use Rattle.dav_headers.specs.Length.{IsContentLength}
use Rattle.dav_headers.specs.Value.{IsNumber}
use Rattle.dav_headers.specs.declared.range.ContentRange.{ContentRange}
use Rattle.dav_engine.specs.declared.methods.put.headers.Bounds.{Bounds}
use Rattle.dav_engine.specs.Headers.{Decodes}
use Rattle.dav_engine.specs.Put.{IsExpectedLength, TellsBounds, bounds_of}

first_or : FieldValue → List FieldValue → FieldValue
first_or v [] = v
first_or v (w ∷ ws) = w

-- the one value is this number
number_in : (v : FieldValue) (n : ℕ) → IsContentLength (v ∷ []) n → IsNumber v.bytes n
number_in v n is = is.1 0 (plain_value []) is.0

length_in : (v : FieldValue) (n : ℕ) → IsNumber v.bytes n → IsContentLength (v ∷ []) n
length_in v n is = (grind arith, All-cons (λ (w : FieldValue). IsNumber w.bytes n) v [] is (All-nil (λ (w : FieldValue). IsNumber w.bytes n)))

-- the first value alone is the expected length
expected_of : (values : List FieldValue) (v : FieldValue) (vs : List FieldValue) (told : Option ℕ)
    → values ≡ v ∷ vs → Decodes IsContentLength (v ∷ []) told → Decodes IsExpectedLength values told
unfolding first_or
expected_of values v vs (Some n) e is = (v, vs, e, number_in v n is)
expected_of values v vs None e none = λ n is. none n (length_in v n (subst (λ (w : FieldValue). IsNumber w.bytes n) (ap (first_or v) (sym is.2 ∙ e)) is.3))

same_first : (values : List FieldValue) (v : FieldValue) → 1 ≤ length values → v ≡ get_or values 0 v → (vs : List FieldValue) × (values ≡ v ∷ vs)
same_first [] v some is = absurd (grind arith)
same_first (w ∷ vs) v some is = (vs, ap (λ (x : FieldValue). x ∷ vs) (sym is))

pub expected_first : {E : Type 0} (values found one : List FieldValue) (v : FieldValue) (told : Result (Option ℕ) E)
    → found ≡ values → 1 ≤ length found → v ≡ get_or found 0 v → one ≡ v ∷ [] → IfOk told (Decodes IsContentLength one) → IfOk told (Decodes IsExpectedLength values)
expected_first values found one v (Err e) same some is alone read = tt
expected_first values found one v (Ok told) same some is alone read =
    let all = same_first found v some is in
    expected_of values v all.0 told (sym same ∙ all.1) (subst (λ (vs : List FieldValue). Decodes IsContentLength vs told) alone read)

-- a range that is read has these bounds
tells_bounds : (values : List FieldValue) (bounds : Option (ℕ × ℕ)) (length : Option ℕ) → IsContentRange values record { bounds = bounds; length = length } → TellsBounds values (bounds_of bounds)
tells_bounds values None length is = inr (length, is)
tells_bounds values (Some (a, b)) length is = (length, is)

pub bounds_told : (values found : List FieldValue) (range : ContentRange) (told : Bounds)
    → found ≡ values → told ≡ bounds_of range.bounds → IsContentRange found range → TellsBounds values told
bounds_told values found range told same is read =
    subst (λ (vs : List FieldValue). TellsBounds vs told) same (subst (λ (b : Bounds). TellsBounds found b) (sym is) (tells_bounds found range.bounds range.length read))
