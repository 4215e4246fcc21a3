-- The fronts of a path, by their lengths.
use Rattle.std.proofs.Common.{◌≡◌, ℕ, zero, suc, ◌+◌, ◌≤◌, ◌<◌, ◌==◌, Bool, true, false, cond, List, [], ◌∷◌, ◌++◌, length, take, map, bytes_eq, Some, None, refl, sym, ap, subst, ◌∙◌, arith, append-nil, add-one}
use Rattle.std.proofs.lemmas.List.{length-map, take-map, map-append, take_all}
use Rattle.std.proofs.lemmas.Grind.{flat_map-append}
use Rattle.std.specs.List.{filter, flat_map, slice_split, onto_first, find as first}
use Rattle.std.specs.Option.{option_map}
use Rattle.std.proofs.lemmas.List.Splits.{slice_split-cons_yes, slice_split-cons_no}
use Rattle.dav_core.specs.Path.{Path, fronts, star, is_nonempty, names_in, names_of}

abbrev segments : List ℕ → List (List ℕ)
segments bytes = slice_split (λ b. b == 47) bytes

-- one more byte makes at most one more name
longer : (b : ℕ) (ps : List (List ℕ)) (n : ℕ) → length (filter is_nonempty ps) ≤ n → length (filter is_nonempty (onto_first b ps)) ≤ n + 1
longer b [] n h = omega arith
longer b ([] ∷ ps) n h = omega arith
longer b ((x ∷ p) ∷ ps) n h = omega arith

count_step : (b : ℕ) (bytes : List ℕ) (c : Bool) → (b == 47) ≡ c → length (names_in bytes) ≤ length bytes → length (names_in (b ∷ bytes)) ≤ length bytes + 1
count_step b bytes true is h = subst (λ (ps : List (List ℕ)). length (filter is_nonempty ps) ≤ length bytes + 1) (sym (slice_split-cons_yes (λ x. x == 47) b bytes is)) (omega (arith, h))
count_step b bytes false is h = subst (λ (ps : List (List ℕ)). length (filter is_nonempty ps) ≤ length bytes + 1) (sym (slice_split-cons_no (λ x. x == 47) b bytes is)) (longer b (segments bytes) (length bytes) h)

-- there are at most as many names as bytes
names_in_bytes : (bytes : List ℕ) → length (names_in bytes) ≤ length bytes
names_in_bytes [] = omega arith
names_in_bytes (b ∷ bytes) = let h = count_step b bytes (b == 47) refl (names_in_bytes bytes) in omega (arith, h)

names_by : (bytes : List ℕ) (c : Bool) → length (cond c [] (names_in bytes)) ≤ length bytes
names_by bytes true = omega arith
names_by bytes false = names_in_bytes bytes

pub names_of_bytes : (bytes : List ℕ) → length (names_of bytes) ≤ length bytes
names_of_bytes bytes = names_by bytes (bytes_eq bytes star)

-- the first of mapped paths that passes a test
first_mapped : (f : Path → Path) (test : Path → Bool) (ps : List Path) → first test (map f ps) ≡ option_map f (first (λ q. test (f q)) ps)
first_mapped f test [] = refl
first_mapped f test (q ∷ ps) =
    elim (test (f q)) as (λ b. cond b (Some (f q)) (first test (map f ps)) ≡ option_map f (cond b (Some q) (first (λ r. test (f r)) ps))) [
      | true ↦ refl
      | false ↦ first_mapped f test ps
    ]

abbrev NoneShorter : (Path → Bool) → Path → ℕ → Type 0
NoneShorter test p n = (k : ℕ) → k < n → test (take k p) ≡ false

-- the front of so many names is the first that passes where no shorter one does
pub first_front : (test : Path → Bool) (p : Path) (n : ℕ) → NoneShorter test p n → test (take n p) ≡ true → first test (fronts p) ≡ Some (take n p)
first_front test [] zero none here = ap (λ b. cond b (Some []) None) here
first_front test [] (suc n) none here = ap (λ b. cond b (Some []) None) here
first_front test (x ∷ p) zero none here = ap (λ b. cond b (Some []) (first test (map (λ q. x ∷ q) (fronts p)))) here
first_front test (x ∷ p) (suc n) none here =
    let rest = first_front (λ q. test (x ∷ q)) p n (λ k h. none (suc k) (omega arith)) here in
    ap (λ b. cond b (Some []) (first test (map (λ q. x ∷ q) (fronts p)))) (none 0 (omega arith))
    ∙ first_mapped (λ q. x ∷ q) test (fronts p) ∙ ap (option_map (λ q. x ∷ q)) rest

-- no front passes where none does up to the path itself
pub no_front : (test : Path → Bool) (p : Path) → NoneShorter test p (length p + 1) → first test (fronts p) ≡ None
no_front test [] none = ap (λ b. cond b (Some []) None) (none 0 (omega arith))
no_front test (x ∷ p) none =
    let rest = no_front (λ q. test (x ∷ q)) p (λ k h. none (suc k) (omega arith)) in
    ap (λ b. cond b (Some []) (first test (map (λ q. x ∷ q) (fronts p)))) (none 0 (omega arith))
    ∙ first_mapped (λ q. x ∷ q) test (fronts p) ∙ ap (option_map (λ q. x ∷ q)) rest

more_names : (p : Path) (n : ℕ) → n ≤ length p → take (suc n) (fronts p) ≡ take n (fronts p) ++ take n p ∷ []
more_names [] zero h = refl
more_names [] (suc n) h = absurd (omega arith)
more_names (x ∷ p) zero h = refl
more_names (x ∷ p) (suc n) h =
    let f = λ (q : Path). x ∷ q in
    ap (λ (qs : List Path). [] ∷ qs) (take-map f (suc n) (fronts p) ∙ ap (map f) (more_names p n (omega arith)) ∙ map-append f (take n (fronts p)) (take n p ∷ []) ∙ ap (λ (qs : List Path). qs ++ (x ∷ take n p) ∷ []) (sym (take-map f n (fronts p))))

-- what is collected from the fronts of up to so many names
pub gathered_more : {A : Type 0} (f : Path → List A) (p : Path) (n : ℕ) → n ≤ length p → flat_map f (take (n + 1) (fronts p)) ≡ flat_map f (take n (fronts p)) ++ f (take n p)
gathered_more f p n h =
    ap (λ k. flat_map f (take k (fronts p))) (add-one n) ∙ ap (flat_map f) (more_names p n h) ∙ flat_map-append f (take n (fronts p)) (take n p ∷ [])
    ∙ ap (λ ys. flat_map f (take n (fronts p)) ++ ys) (append-nil (f (take n p)))

length_fronts : (p : Path) → length (fronts p) ≡ length p + 1
length_fronts [] = refl
length_fronts (x ∷ p) = let h = length_fronts p in let k = length-map (fronts p) (λ (q : Path). x ∷ q) in omega (arith, h, k)

-- what is collected from all fronts
pub gathered : {A : Type 0} (f : Path → List A) (p : Path) (n : ℕ) → length p ≤ n → flat_map f (take (n + 1) (fronts p)) ≡ flat_map f (fronts p)
gathered f p n h = ap (flat_map f) (take_all (n + 1) (fronts p) (let k = length_fronts p in omega (arith, h, k)))
