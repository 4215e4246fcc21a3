-- The port of an authority.
use Rattle.std.proofs.Common.{◌≡◌, ℕ, ◌≤◌, List, [], ◌∷◌, ◌++◌, Contains, ap, sym, subst, refl, arith, drop, ◌∙◌, Option, None, MatchOption, Bool, false, ◌||◌, map, true≢false}
use Rattle.std.specs.List.{list_any}
use Rattle.std.proofs.lemmas.List.Elements.{All-contains, Contains-append_right}
use Rattle.std.specs.Bool.{Decides}
use Rattle.dav_live.specs.Hosts.{AreDigits, HasBadPort, IsPort}

-- a text that goes on with a colon has one
pub has_colon : (a p : List ℕ) → Contains (a ++ 58 ∷ p) 58
has_colon a p = Contains-append_right a (58 ∷ p) 58 (0, omega arith, refl)

-- what follows the last colon is one text
last_colon : (a b p q : List ℕ) → a ++ 58 ∷ p ≡ b ++ 58 ∷ q → ¬ Contains p 58 → ¬ Contains q 58 → p ≡ q
last_colon [] [] p q same no_p no_q = ap (drop 1) same
last_colon [] (y ∷ ys) p q same no_p no_q = absurd (no_p (subst (λ (t : List ℕ). Contains t 58) (sym (ap (drop 1) same)) (has_colon ys q)))
last_colon (x ∷ xs) [] p q same no_p no_q = absurd (no_q (subst (λ (t : List ℕ). Contains t 58) (ap (drop 1) same) (has_colon xs p)))
last_colon (x ∷ xs) (y ∷ ys) p q same no_p no_q = last_colon xs ys p q (ap (drop 1) same) no_p no_q

-- and so is what comes before it
pub front_of_last : (a b p q : List ℕ) → a ++ 58 ∷ p ≡ b ++ 58 ∷ q → ¬ Contains p 58 → ¬ Contains q 58 → a ≡ b
front_of_last [] [] p q same no_p no_q = refl
front_of_last [] (y ∷ ys) p q same no_p no_q = absurd (no_p (subst (λ (t : List ℕ). Contains t 58) (sym (ap (drop 1) same)) (has_colon ys q)))
front_of_last (x ∷ xs) [] p q same no_p no_q = absurd (no_q (subst (λ (t : List ℕ). Contains t 58) (ap (drop 1) same) (has_colon xs p)))
front_of_last (x ∷ xs) (y ∷ ys) p q same no_p no_q =
    let tails = front_of_last xs ys p q (ap (drop 1) same) no_p no_q in cc

-- digits are no colon
pub no_colon : (p : List ℕ) → AreDigits p → ¬ Contains p 58
no_colon p digits has = let it = All-contains (λ b. (48 ≤ b) × (b ≤ 57)) p 58 digits has in omega (arith, it.1)

pub no_port : (t host port : List ℕ) → t ≡ host ++ 58 ∷ port → ¬ Contains port 58 → ¬ AreDigits port → (h p : List ℕ) → t ≡ h ++ 58 ∷ p → ¬ AreDigits p
no_port t host port is none not_digits h p also digits =
    not_digits (subst AreDigits (last_colon h host p port (sym also ∙ is) (no_colon p digits) none) digits)

pub no_colon_no_port : (t : List ℕ) → ¬ Contains t 58 → (h p : List ℕ) → t ≡ h ++ 58 ∷ p → ¬ AreDigits p
no_colon_no_port t none h p is digits = none (subst (λ (u : List ℕ). Contains u 58) (sym is) (has_colon h p))

-- the port after the last colon is a bad one, or there is none
pub bad_after : (t host port : List ℕ) (b : Bool) → t ≡ host ++ 58 ∷ port → ¬ Contains port 58 → Decides b (AreDigits port × (¬ IsPort port))
    → Decides b (HasBadPort t)
bad_after t host port b is none decides = (
  λ yes. let both = decides.0 yes in (host, port, is, both.0, both.1),
  λ (h, p, also, digits, bad).
      let same = last_colon h host p port (sym also ∙ is) (no_colon p digits) none in
      decides.1 (subst AreDigits same digits, subst (λ (q : List ℕ). ¬ IsPort q) same bad),
)

pub bad_without : (t : List ℕ) (b : Bool) → ¬ Contains t 58 → b ≡ false → Decides b (HasBadPort t)
bad_without t b none is = (
  λ yes. absurd (true≢false (sym yes ∙ is)),
  λ (h, p, also, _, _). absurd (none (subst (λ (u : List ℕ). Contains u 58) (sym also) (has_colon h p))),
)

pub of_none : {A : Type 0} (N : Type 0) (P : A → Type 0) (o : Option A) → o ≡ None → MatchOption o N P → N
of_none {A} N P o none is = subst (λ (x : Option A). MatchOption x N P) none is

pub any_mapped : {X Y : Type 0} (f : X → Y) (p : Y → Bool) (xs : List X) → list_any (λ x. p (f x)) xs ≡ list_any p (map f xs)
any_mapped f p [] = refl
any_mapped f p (x ∷ xs) = ap (λ b. p (f x) || b) (any_mapped f p xs)
