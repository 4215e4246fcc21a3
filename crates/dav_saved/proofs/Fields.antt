-- A field that is read is the field that was saved, and what was saved is read again.
use Rattle.std.proofs.Common.{◌≡◌, ℕ, zero, suc, ◌+◌, ◌^◌, ◌<◌, ◌≤◌, Bool, true, false, cond, ltb, List, [], ◌∷◌, ◌++◌, length, get_or, take, drop, Option, Some, None, refl, sym, ap, subst, ◌∙◌, append_assoc, arith, inl, inr}
use Rattle.std.specs.Prelude.{IfSome}
use Rattle.std.specs.Int.{w64, from_be_bytes}
use Rattle.std.specs.List.{flat_map, AllByRecursion}
use Rattle.std.specs.Str.{is_utf8}
use Rattle.std.proofs.lemmas.Bool.{cases_lt, ltb-false, le-ltb}
use Rattle.std.proofs.lemmas.List.{take_at, drop_at, take-append-drop, length-append, length-take, get_or-drop, get_or-take, get_or_past}
use Rattle.std.proofs.lemmas.List.Concat.{flat_map-cons}
use Rattle.std.proofs.lemmas.Nat.{be_bytes_8, from_be_bytes-to_be_bytes_8}
use Rattle.dav_saved.specs.Spelling.{number, sized, optional, pair, many}
use Rattle.dav_saved.specs.Reading.{Read, ◌>>=◌, number_at, sized_at, text_at, optional_at, pair_at, many_at, list_at}
use Rattle.dav_saved.specs.Trees.{IsText, IsPair}

abbrev pub IsBytes : List ℕ → Type 0
IsBytes bytes = (i : ℕ) → get_or bytes i 0 < 256

pub IsBytes-drop : (n : ℕ) (bytes : List ℕ) → IsBytes bytes → IsBytes (drop n bytes)
IsBytes-drop n bytes h i = rw get_or-drop (h (n + i))

IsBytes-take : (n : ℕ) (bytes : List ℕ) → IsBytes bytes → IsBytes (take n bytes)
IsBytes-take n bytes h i =
    elim (cases_lt i n) [
      | inl lt ↦ rw (get_or-take n bytes i 0 lt) (h i)
      | inr le ↦ rw (get_or_past (take n bytes) i 0 (omega (arith, length-take n bytes))) (omega arith)
    ]

pub IsBytes-rest : (b : ℕ) (bytes : List ℕ) → IsBytes (b ∷ bytes) → IsBytes bytes
IsBytes-rest b bytes h i = h (suc i)

-- the value of a step that did not fail
pub bind_some : {A B : Type 0} (r : Option A) (f : A → Option B) (y : B) → (r >>= f) ≡ Some y → (x : A) × (r ≡ Some x) × (f x ≡ Some y)
bind_some (Some x) f y e = (x, refl, e)
bind_some None f y e = absurd cc

-- a test that did not fail
pub guard_some : {A : Type 0} (b : Bool) (x y : A) → cond b None (Some x) ≡ Some y → (b ≡ false) × (x ≡ y)
guard_some true x y e = absurd cc
guard_some false x y e = (refl, cc)

pub test_some : {A : Type 0} (b : Bool) (x y : A) → cond b (Some x) None ≡ Some y → (b ≡ true) × (x ≡ y)
test_some true x y e = (refl, cc)
test_some false x y e = absurd cc

abbrev done : {A : Type 0} → A → Option A
done x = Some x

pub some_is : {A : Type 0} (x y : A) → done x ≡ done y → x ≡ y
some_is x y e = cc

-- what a reader took from the front
pub record Takes (bytes text rest : List ℕ) : Type 0 where
  pub parts : bytes ≡ text ++ rest
  pub rest_fits : IsBytes rest

pub Takes-then : (a x b y c : List ℕ) → Takes a x b → Takes b y c → Takes a (x ++ y) c
Takes-then a x b y c p q = record { parts = p.parts ∙ ap (λ (t : List ℕ). x ++ t) q.parts ∙ sym (append_assoc x y c); rest_fits = q.rest_fits }

-- a reader takes what is spelled so
abbrev pub TakesBy : {A : Type 0} → (A → List ℕ) → (List ℕ → Read A) → Type 0
TakesBy {A} spell read = (bytes : List ℕ) (x : A × List ℕ) → IsBytes bytes → read bytes ≡ Some x → Takes bytes (spell x.0) x.1

-- a reader reads again what is spelled so
abbrev pub AgainBy : {A : Type 0} → (A → Type 0) → (A → List ℕ) → (List ℕ → Read A) → Type 0
AgainBy {A} fits spell read = (x : A) (rest : List ℕ) → fits x → read (spell x ++ rest) ≡ Some (x, rest)

-- ---- numbers

number_len : (n : ℕ) → length (number n) ≡ 8
unfolding number
number_len n = refl

number_back : (bytes : List ℕ) → length bytes ≡ 8 → IsBytes bytes → number (from_be_bytes w64 bytes) ≡ bytes
unfolding number
number_back bytes len fits = be_bytes_8 bytes _ len fits refl

number_is : (n : ℕ) → n < 2 ^ 64 → from_be_bytes w64 (number n) ≡ n
unfolding number
number_is n lt = from_be_bytes-to_be_bytes_8 n lt

number_below : (bytes : List ℕ) → IsBytes bytes → from_be_bytes w64 bytes < 2 ^ 64
number_below bytes fits = omega (arith, fits 0, fits 1, fits 2, fits 3, fits 4, fits 5, fits 6, fits 7)

pub number_takes : (bytes : List ℕ) (n : ℕ) (rest : List ℕ) → IsBytes bytes → number_at bytes ≡ Some (n, rest) → Takes bytes (number n) rest × (n < 2 ^ 64)
unfolding number_at
number_takes bytes n rest fits e =
    let g = guard_some (ltb (length bytes) 8) (from_be_bytes w64 (take 8 bytes), drop 8 bytes) (n, rest) e in
    let long : 8 ≤ length bytes = ltb-false _ _ g.0 in
    let n-is : from_be_bytes w64 (take 8 bytes) ≡ n = ap (λ (p : ℕ × List ℕ). p.0) g.1 in
    let rest-is : drop 8 bytes ≡ rest = ap (λ (p : ℕ × List ℕ). p.1) g.1 in
    let front : number n ≡ take 8 bytes = ap number (sym n-is) ∙ number_back (take 8 bytes) (omega (arith, length-take 8 bytes)) (IsBytes-take 8 bytes fits) in
    let whole : bytes ≡ number n ++ rest = sym (take-append-drop 8 bytes) ∙ ap (λ (xs : List ℕ). xs ++ drop 8 bytes) (sym front) ∙ ap (λ (xs : List ℕ). number n ++ xs) rest-is in (
      record { parts = whole; rest_fits = subst IsBytes rest-is (IsBytes-drop 8 bytes fits) },
      subst (λ (k : ℕ). k < 2 ^ 64) n-is (number_below (take 8 bytes) (IsBytes-take 8 bytes fits)),
    )

pub number_again : (n : ℕ) (rest : List ℕ) → n < 2 ^ 64 → number_at (number n ++ rest) ≡ Some (n, rest)
unfolding number_at
number_again n rest lt =
    let len = number_len n in
    let long : ltb (length (number n ++ rest)) 8 ≡ false = le-ltb _ _ (omega (arith, len, length-append (number n) rest)) in
    rw (long, take_at (number n) rest 8 len, drop_at (number n) rest 8 len, number_is n lt) refl

-- ---- bytes behind their length

pub sized_takes : TakesBy sized sized_at
unfolding sized_at
sized_takes bytes x fits e =
    let b = bind_some (number_at bytes) (λ n. cond (ltb (length n.1) n.0) None (Some (take n.0 n.1, drop n.0 n.1))) x e in
    let n = b.0 in
    let t = number_takes bytes n.0 n.1 fits b.1 in
    let g = guard_some (ltb (length n.1) n.0) (take n.0 n.1, drop n.0 n.1) x b.2 in
    let long : n.0 ≤ length n.1 = ltb-false _ _ g.0 in
    let len : length (take n.0 n.1) ≡ n.0 = omega (arith, length-take n.0 n.1) in
    let second : Takes n.1 (take n.0 n.1) (drop n.0 n.1) = record { parts = sym (take-append-drop n.0 n.1); rest_fits = IsBytes-drop n.0 n.1 t.0.rest_fits } in
    let both = Takes-then bytes (number n.0) n.1 (take n.0 n.1) (drop n.0 n.1) t.0 second in
    let whole : Takes bytes (sized (take n.0 n.1)) (drop n.0 n.1) = subst (λ (k : ℕ). Takes bytes (number k ++ take n.0 n.1) (drop n.0 n.1)) (sym len) both in
    subst (λ (p : List ℕ × List ℕ). Takes bytes (sized p.0) p.1) g.1 whole

pub sized_again : (text rest : List ℕ) → length text < 2 ^ 64 → sized_at (sized text ++ rest) ≡ Some (text, rest)
unfolding sized_at
sized_again text rest lt =
    let regrouped : sized text ++ rest ≡ number (length text) ++ (text ++ rest) = append_assoc (number (length text)) text rest in
    let long : ltb (length (text ++ rest)) (length text) ≡ false = le-ltb _ _ (omega (arith, length-append text rest)) in
    ap sized_at regrouped ∙ rw (number_again (length text) (text ++ rest) lt, long, take_at text rest (length text) refl, drop_at text rest (length text) refl) refl

-- ---- texts

pub text_takes : TakesBy sized text_at
unfolding text_at
text_takes bytes x fits e =
    let b = bind_some (sized_at bytes) (λ t. cond (is_utf8 t.0) (Some t) None) x e in
    let g = test_some (is_utf8 b.0.0) b.0 x b.2 in
    subst (λ (p : List ℕ × List ℕ). Takes bytes (sized p.0) p.1) g.1 (sized_takes bytes b.0 fits b.1)

pub text_again : AgainBy IsText sized text_at
unfolding text_at
text_again text rest fits = rw (sized_again text rest fits.1, fits.0) refl

-- ---- texts that may be missing

pub optional_takes : TakesBy optional optional_at
unfolding optional_at
optional_takes [] x fits e = absurd cc
optional_takes (zero ∷ bytes) x fits e =
    subst (λ (y : Option (List ℕ) × List ℕ). Takes (0 ∷ bytes) (optional y.0) y.1) (some_is (None, bytes) x e) (record { parts = refl; rest_fits = IsBytes-rest 0 bytes fits })
optional_takes (suc zero ∷ bytes) x fits e =
    let b = bind_some (text_at bytes) (λ t. Some (Some t.0, t.1)) x e in
    let t = text_takes bytes b.0 (IsBytes-rest 1 bytes fits) b.1 in
    subst (λ (y : Option (List ℕ) × List ℕ). Takes (1 ∷ bytes) (optional y.0) y.1) (some_is (Some b.0.0, b.0.1) x b.2) (record { parts = ap (λ (w : List ℕ). 1 ∷ w) t.parts; rest_fits = t.rest_fits })
optional_takes (suc (suc b) ∷ bytes) x fits e = absurd cc

pub optional_again : (o : Option (List ℕ)) (rest : List ℕ) → IfSome o IsText → optional_at (optional o ++ rest) ≡ Some (o, rest)
unfolding optional_at
optional_again None rest h = refl
optional_again (Some t) rest h = rw (text_again t rest h) refl

-- ---- pairs

pub pair_takes : TakesBy pair pair_at
unfolding pair_at
pair_takes bytes x fits e =
    let a = bind_some (text_at bytes) (λ a. text_at a.1 >>= λ b. Some ((a.0, b.0), b.1)) x e in
    let b = bind_some (text_at a.0.1) (λ b. Some ((a.0.0, b.0), b.1)) x a.2 in
    let first = text_takes bytes a.0 fits a.1 in
    let second = text_takes a.0.1 b.0 first.rest_fits b.1 in
    let both = Takes-then bytes (sized a.0.0) a.0.1 (sized b.0.0) b.0.1 first second in
    subst (λ (y : (List ℕ × List ℕ) × List ℕ). Takes bytes (pair y.0) y.1) (some_is ((a.0.0, b.0.0), b.0.1) x b.2) both

pub pair_again : AgainBy IsPair pair pair_at
unfolding pair_at
pair_again p rest fits =
    let regrouped : pair p ++ rest ≡ sized p.0 ++ (sized p.1 ++ rest) = append_assoc (sized p.0) (sized p.1) rest in
    ap pair_at regrouped ∙ rw (text_again p.0 (sized p.1 ++ rest) fits.0, text_again p.1 rest fits.1) refl

-- ---- lists

pub many_take : {A : Type 0} (spell : A → List ℕ) (one : List ℕ → Read A) → TakesBy spell one
    → (n : ℕ) (bytes : List ℕ) (x : List A × List ℕ) → IsBytes bytes → many_at one n bytes ≡ Some x → Takes bytes (flat_map spell x.0) x.1 × (length x.0 ≡ n)
unfolding many_at
many_take {A} spell one takes zero bytes x fits e =
    subst (λ (y : List A × List ℕ). Takes bytes (flat_map spell y.0) y.1 × (length y.0 ≡ 0)) (some_is ([], bytes) x e) (record { parts = refl; rest_fits = fits }, refl)
many_take {A} spell one takes (suc n) bytes x fits e =
    let a = bind_some (one bytes) (λ first. many_at one n first.1 >>= λ others. Some (first.0 ∷ others.0, others.1)) x e in
    let b = bind_some (many_at one n a.0.1) (λ others. Some (a.0.0 ∷ others.0, others.1)) x a.2 in
    let first = takes bytes a.0 fits a.1 in
    let second = many_take spell one takes n a.0.1 b.0 first.rest_fits b.1 in
    let both = Takes-then bytes (spell a.0.0) a.0.1 (flat_map spell b.0.0) b.0.1 first second.0 in
    let made : List A × List ℕ = (a.0.0 ∷ b.0.0, b.0.1) in
    subst (λ (y : List A × List ℕ). Takes bytes (flat_map spell y.0) y.1 × (length y.0 ≡ suc n)) (some_is made x b.2) (rw flat_map-cons both, ap suc second.1)

pub many_again : {A : Type 0} (fits : A → Type 0) (spell : A → List ℕ) (one : List ℕ → Read A) → AgainBy fits spell one
    → (xs : List A) (rest : List ℕ) → AllByRecursion fits xs → many_at one (length xs) (flat_map spell xs ++ rest) ≡ Some (xs, rest)
unfolding many_at
many_again fits spell one again [] rest h = refl
many_again fits spell one again (x ∷ xs) rest h =
    let regrouped : flat_map spell (x ∷ xs) ++ rest ≡ spell x ++ (flat_map spell xs ++ rest) = ap (λ (y : List ℕ). y ++ rest) (flat_map-cons spell x xs) ∙ append_assoc (spell x) (flat_map spell xs) rest in
    ap (many_at one (suc (length xs))) regrouped ∙ rw (again x (flat_map spell xs ++ rest) h.0, many_again fits spell one again xs rest h.1) refl

pub list_takes : {A : Type 0} (spell : A → List ℕ) (one : List ℕ → Read A) → TakesBy spell one → TakesBy (many spell) (list_at one)
unfolding list_at
list_takes spell one takes bytes x fits e =
    let b = bind_some (number_at bytes) (λ n. many_at one n.0 n.1) x e in
    let first = number_takes bytes b.0.0 b.0.1 fits b.1 in
    let second = many_take spell one takes b.0.0 b.0.1 x first.0.rest_fits b.2 in
    let both = Takes-then bytes (number b.0.0) b.0.1 (flat_map spell x.0) x.1 first.0 second.0 in
    subst (λ (k : ℕ). Takes bytes (number k ++ flat_map spell x.0) x.1) (sym second.1) both

pub list_again : {A : Type 0} (fits : A → Type 0) (spell : A → List ℕ) (one : List ℕ → Read A) → AgainBy fits spell one
    → (xs : List A) (rest : List ℕ) → length xs < 2 ^ 64 → AllByRecursion fits xs → list_at one (many spell xs ++ rest) ≡ Some (xs, rest)
unfolding list_at
list_again fits spell one again xs rest lt h =
    let regrouped : many spell xs ++ rest ≡ number (length xs) ++ (flat_map spell xs ++ rest) = append_assoc (number (length xs)) (flat_map spell xs) rest in
    ap (list_at one) regrouped ∙ rw (number_again (length xs) (flat_map spell xs ++ rest) lt) (many_again fits spell one again xs rest h)
