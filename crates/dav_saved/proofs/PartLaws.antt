-- A part of a record that is read is the part that was saved, and what was saved is read again.
use Rattle.std.proofs.Common.{◌≡◌, ℕ, zero, suc, Bool, true, false, List, [], ◌∷◌, ◌++◌, Option, Some, None, refl, sym, ap, subst, ◌∙◌, append_assoc}
use Rattle.std.specs.Prelude.{IfSome}
use Rattle.dav_core.specs.Element.{ElementTree}
use Rattle.dav_saved.specs.Spelling.{number, optional, many}
use Rattle.dav_saved.specs.Reading.{Read, ◌>>=◌, number_at, optional_at, list_at}
use Rattle.dav_saved.specs.Trees.{element_from, IsText}
use Rattle.dav_saved.specs.Parts.{both, both_at, as_at, value, value_at, moment, moment_at, flag, flag_at, Fits64, AreAll, AreBoth, IsValue}
use Rattle.dav_saved.proofs.Fields.{IsBytes-rest, bind_some, some_is, Takes, Takes-then, TakesBy, AgainBy, number_takes, number_again, optional_again, list_again}
use Rattle.dav_saved.proofs.ReadSteps.{whole_by, rest_by, element_again}

-- ---- two values, and one that is made of another

pub both_takes : {A B : Type 0} (s : A → List ℕ) (r : B → List ℕ) (one : List ℕ → Read A) (other : List ℕ → Read B) → TakesBy s one → TakesBy r other → TakesBy (both s r) (both_at one other)
unfolding both_at
both_takes {A} {B} s r one other t u bytes x fits e =
    let a = bind_some (one bytes) (λ a. other a.1 >>= λ b. Some ((a.0, b.0), b.1)) x e in
    let b = bind_some (other a.0.1) (λ b. Some ((a.0.0, b.0), b.1)) x a.2 in
    let first = t bytes a.0 fits a.1 in
    let second = u a.0.1 b.0 first.rest_fits b.1 in
    let whole = Takes-then bytes (s a.0.0) a.0.1 (r b.0.0) b.0.1 first second in
    subst (λ (y : (A × B) × List ℕ). Takes bytes (both s r y.0) y.1) (some_is ((a.0.0, b.0.0), b.0.1) x b.2) whole

pub both_again : {A B : Type 0} (F : A → Type 0) (G : B → Type 0) (s : A → List ℕ) (r : B → List ℕ) (one : List ℕ → Read A) (other : List ℕ → Read B) → AgainBy F s one → AgainBy G r other
    → AgainBy (AreBoth F G) (both s r) (both_at one other)
unfolding both_at
both_again F G s r one other t u x rest fits =
    let regrouped : both s r x ++ rest ≡ s x.0 ++ (r x.1 ++ rest) = append_assoc (s x.0) (r x.1) rest in
    ap (both_at one other) regrouped ∙ rw (t x.0 (r x.1 ++ rest) fits.0, u x.1 rest fits.1) refl

pub as_takes : {A B : Type 0} (make : A → B) (parts : B → A) (s : A → List ℕ) (one : List ℕ → Read A) → ((a : A) → parts (make a) ≡ a) → TakesBy s one → TakesBy (λ b. s (parts b)) (as_at make one)
unfolding as_at
as_takes {A} {B} make parts s one is t bytes x fits e =
    let a = bind_some (one bytes) (λ a. Some (make a.0, a.1)) x e in
    let first = t bytes a.0 fits a.1 in
    let made : Takes bytes (s (parts (make a.0.0))) a.0.1 = subst (λ (y : A). Takes bytes (s y) a.0.1) (sym (is a.0.0)) first in
    subst (λ (y : B × List ℕ). Takes bytes (s (parts y.0)) y.1) (some_is (make a.0.0, a.0.1) x a.2) made

pub as_again : {A B : Type 0} (make : A → B) (parts : B → A) (F : A → Type 0) (s : A → List ℕ) (one : List ℕ → Read A) → ((b : B) → make (parts b) ≡ b) → AgainBy F s one
    → AgainBy (λ b. F (parts b)) (λ b. s (parts b)) (as_at make one)
unfolding as_at
as_again {A} {B} make parts F s one is t x rest fits = rw (t (parts x) rest fits) (ap (λ (y : B). Some (y, rest)) (is x))

-- ---- each part

pub numbers_take : TakesBy number number_at
numbers_take bytes x fits e = (number_takes bytes x.0 x.1 fits e).0

pub numbers_again : AgainBy Fits64 number number_at
numbers_again = number_again

pub lists_again : {A : Type 0} (F : A → Type 0) (s : A → List ℕ) (one : List ℕ → Read A) → AgainBy F s one → AgainBy (AreAll F) (many s) (list_at one)
lists_again F s one t xs rest fits = list_again F s one t xs rest fits.0 fits.1

pub value_takes : (levels : ℕ) → TakesBy value (value_at levels)
unfolding value_at
value_takes levels [] x fits e = absurd cc
value_takes levels (zero ∷ bytes) x fits e =
    subst (λ (y : Option ElementTree × List ℕ). Takes (0 ∷ bytes) (value y.0) y.1) (some_is (None, bytes) x e) (record { parts = refl; rest_fits = IsBytes-rest 0 bytes fits })
value_takes levels (suc zero ∷ bytes) x fits e =
    let b = bind_some (element_from levels bytes) (λ t. Some (Some t.0, t.1)) x e in
    let t = whole_by levels bytes b.0 (IsBytes-rest 1 bytes fits) b.1 in
    let r = rest_by levels bytes b.0 (IsBytes-rest 1 bytes fits) b.1 in
    subst (λ (y : Option ElementTree × List ℕ). Takes (1 ∷ bytes) (value y.0) y.1) (some_is (Some b.0.0, b.0.1) x b.2) (record { parts = ap (λ (w : List ℕ). 1 ∷ w) t; rest_fits = r })
value_takes levels (suc (suc b) ∷ bytes) x fits e = absurd cc

pub value_again : (levels : ℕ) → AgainBy (IsValue levels) value (value_at levels)
unfolding value_at
value_again levels None rest h = refl
value_again levels (Some t) rest h = rw (element_again t levels rest h.0 h.1.0 h.1.1) refl

pub moment_takes : TakesBy moment moment_at
unfolding moment_at
moment_takes [] x fits e = absurd cc
moment_takes (zero ∷ bytes) x fits e =
    subst (λ (y : Option ℕ × List ℕ). Takes (0 ∷ bytes) (moment y.0) y.1) (some_is (None, bytes) x e) (record { parts = refl; rest_fits = IsBytes-rest 0 bytes fits })
moment_takes (suc zero ∷ bytes) x fits e =
    let b = bind_some (number_at bytes) (λ n. Some (Some n.0, n.1)) x e in
    let t = (number_takes bytes b.0.0 b.0.1 (IsBytes-rest 1 bytes fits) b.1).0 in
    subst (λ (y : Option ℕ × List ℕ). Takes (1 ∷ bytes) (moment y.0) y.1) (some_is (Some b.0.0, b.0.1) x b.2) (record { parts = ap (λ (w : List ℕ). 1 ∷ w) t.parts; rest_fits = t.rest_fits })
moment_takes (suc (suc b) ∷ bytes) x fits e = absurd cc

pub moment_again : AgainBy (λ m. IfSome m Fits64) moment moment_at
unfolding moment_at
moment_again None rest h = refl
moment_again (Some n) rest h = rw (number_again n rest h) refl

pub flag_takes : TakesBy flag flag_at
unfolding flag_at
flag_takes [] x fits e = absurd cc
flag_takes (zero ∷ bytes) x fits e =
    subst (λ (y : Bool × List ℕ). Takes (0 ∷ bytes) (flag y.0) y.1) (some_is (false, bytes) x e) (record { parts = refl; rest_fits = IsBytes-rest 0 bytes fits })
flag_takes (suc zero ∷ bytes) x fits e =
    subst (λ (y : Bool × List ℕ). Takes (1 ∷ bytes) (flag y.0) y.1) (some_is (true, bytes) x e) (record { parts = refl; rest_fits = IsBytes-rest 1 bytes fits })
flag_takes (suc (suc b) ∷ bytes) x fits e = absurd cc

pub flag_again : AgainBy (λ b. Unit {0}) flag flag_at
unfolding flag_at
flag_again false rest h = refl
flag_again true rest h = refl

pub options_again : AgainBy (λ o. IfSome o IsText) optional optional_at
options_again = optional_again
