-- What is left of a list of locks after one of them ended.
use Rattle.std.proofs.Common.{◌≡◌, ◌≢◌, ◌&&◌, ◌||◌, ◌++◌, ℕ, Bool, true, false, true≢false, cond, map, List, [], ◌∷◌, Option, Some, None, refl, sym, ap, subst, ◌∙◌}
use Rattle.std.specs.List.{list_any, find as first}
use Rattle.std.specs.Option.{option_map}
use Rattle.std.specs.Str.{bytes_eq}
use Rattle.std.proofs.lemmas.Slice.Eq.{bytes_eq-Decides}
use Rattle.dav_core.specs.Lists.{without_first}
use Rattle.dav_core.specs.Locks.{Lock, has_token_at, lock_front, unlocked}
use Rattle.dav_core.specs.Path.{Path, names, is_same_path, fronts}
use Rattle.dav_core.proofs.Theorems.{path-itself}
use Rattle.dav_engine.specs.Guard.{folder_of, IsSameLock, IsListed, listed_here, listed_later, IsElsewhere, AllElsewhere, no_others, another, Guards, guards_here, guards_later, StillGuards}
use Rattle.dav_engine.proofs.SparingDelete.{not_listed}

-- what a function gives of something that is there
pub mapped_from : {A B : Type 0} (f : A → B) (o : Option A) (b : B) → option_map f o ≡ Some b → (a : A) × (o ≡ Some a) × (f a ≡ b)
mapped_from f None b is = absurd (cc)
mapped_from f (Some a) b is = (a, refl, let same : f a ≡ b = cc in same)

-- ---- a guard is left, or it is gone

module _ (h : Lock) (test : Lock → Bool) where
  others_by : (l : Lock) (ls : List Lock) (b : Bool) → AllElsewhere h ls → AllElsewhere h (l ∷ without_first test ls) → AllElsewhere h (cond b ls (l ∷ without_first test ls))
  others_by l ls true all rest = all
  others_by l ls false all rest = rest

  others_left : (ls : List Lock) → AllElsewhere h ls → AllElsewhere h (without_first test ls)
  others_left [] no_others = no_others
  others_left (l ∷ ls) (another off more) = others_by l ls (test l) more (another off (others_left ls more))

  here_by : (l : Lock) (ls : List Lock) (b : Bool) → IsSameLock h l → AllElsewhere h ls → IsListed h (cond b ls (l ∷ without_first test ls)) → Guards h (cond b ls (l ∷ without_first test ls))
  here_by l ls true is off there = absurd (not_listed h off there)
  here_by l ls false is off there = guards_here is (others_left ls off)

  later_by : (l : Lock) (ls : List Lock) (b : Bool) → IsElsewhere h l → Guards h ls → StillGuards h (without_first test ls)
      → IsListed h (cond b ls (l ∷ without_first test ls)) → Guards h (cond b ls (l ∷ without_first test ls))
  later_by l ls true off guards rest there = guards
  later_by l ls false off guards rest (listed_here is) = absurd (off.token (ap (λ (m : Lock). m.token) is))
  later_by l ls false off guards rest (listed_later there) = guards_later off (rest there)

  guard_left : (ls : List Lock) → Guards h ls → StillGuards h (without_first test ls)
  guard_left [] g there = elim g [ ]
  guard_left (l ∷ ls) (guards_here is off) there = here_by l ls (test l) is off there
  guard_left (l ∷ ls) (guards_later off more) there = later_by l ls (test l) off more (guard_left ls more) there

  -- ---- a lock that doesn't pass the test stays

  listed_by : (l : Lock) (ls : List Lock) (b : Bool) → IsListed h ls → IsListed h (without_first test ls) → IsListed h (cond b ls (l ∷ without_first test ls))
  listed_by l ls true there rest = there
  listed_by l ls false there rest = listed_later rest

  pub listed_left : ((l : Lock) → IsSameLock h l → test l ≡ false) → (ls : List Lock) → IsListed h ls → IsListed h (without_first test ls)
  listed_left passes [] there = elim there [ ]
  listed_left passes (l ∷ ls) (listed_here is) = subst (λ b. IsListed h (cond b ls (l ∷ without_first test ls))) (sym (passes l is)) (listed_here is)
  listed_left passes (l ∷ ls) (listed_later there) = listed_by l ls (test l) there (listed_left passes ls there)

pub unlocked_guards : (h : Lock) (token : List ℕ) (p : Path) (ls left : List Lock) → Guards h ls → unlocked token p ls ≡ Some left → StillGuards h left
unlocked_guards h token p ls left g is =
    let (q, front, same) = mapped_from (λ q. without_first (has_token_at token q) ls) (lock_front token p ls) left is in
    subst (StillGuards h) same (guard_left h (has_token_at token q) ls g)

-- ---- another token

other_by : (t u : List ℕ) (same b : Bool) → bytes_eq t u ≡ b → t ≢ u → (b && same) ≡ false
other_by t u same true is differ = absurd (differ ((bytes_eq-Decides t u).0 is))
other_by t u same false is differ = refl

pub other_token : (token : List ℕ) (q : Path) (l : Lock) → l.token ≢ token → has_token_at token q l ≡ false
other_token token q l differ = other_by l.token token (is_same_path (names l.path) q) (bytes_eq l.token token) refl differ

pub unlocked_listed : (h : Lock) (token : List ℕ) (p : Path) (ls left : List Lock) → token ≢ h.token → IsListed h ls → unlocked token p ls ≡ Some left → IsListed h left
unlocked_listed h token p ls left differ there is =
    let (q, front, same) = mapped_from (λ q. without_first (has_token_at token q) ls) (lock_front token p ls) left is in
    subst (IsListed h) same (listed_left h (has_token_at token q) (λ l is. other_token token q l (λ e. differ (sym e ∙ ap (λ (m : Lock). m.token) is))) ls there)

-- ---- the guard's own token

first_mapped_step : (f : Path → Path) (test : Path → Bool) (q : Path) (ps : List Path) (p : Path) (b : Bool)
    → (first (λ x. test (f x)) ps ≡ Some p → first test (map f ps) ≡ Some (f p))
    → cond b (Some q) (first (λ x. test (f x)) ps) ≡ Some p → cond b (Some (f q)) (first test (map f ps)) ≡ Some (f p)
first_mapped_step f test q ps p true ih h = let same : q ≡ p = cc in ap (λ x. Some (f x)) same
first_mapped_step f test q ps p false ih h = ih h

first_mapped : (f : Path → Path) (test : Path → Bool) (ps : List Path) (p : Path) → first (λ q. test (f q)) ps ≡ Some p → first test (map f ps) ≡ Some (f p)
first_mapped f test [] p h = cc
first_mapped f test (q ∷ ps) p h = first_mapped_step f test q ps p (test (f q)) (first_mapped f test ps p) h

-- a front of a path passes, the first that does
abbrev pub Front : Path → (Path → Bool) → Type 0
Front p test = (q : Path) × (first test (fronts p) ≡ Some q) × (test q ≡ true)

front_by : (x : List ℕ) (p : Path) (test : Path → Bool) (b : Bool) → test [] ≡ b → Front p (λ q. test (x ∷ q))
    → (q : Path) × (cond b (Some []) (first test (map (λ q. x ∷ q) (fronts p))) ≡ Some q) × (test q ≡ true)
front_by x p test true is more = ([], refl, is)
front_by x p test false is (q, found, here) = (x ∷ q, first_mapped (λ q. x ∷ q) test (fronts p) q found, here)

-- where a front of a path passes, there is a first front that does
pub front_found : (folder rest : Path) (test : Path → Bool) → test folder ≡ true → Front (folder ++ rest) test
front_found [] [] test passes = ([], ap (λ b. cond b (Some []) None) passes, passes)
front_found [] (x ∷ rest) test passes = ([], ap (λ b. cond b (Some []) (first test (map (λ q. x ∷ q) (fronts rest)))) passes, passes)
front_found (x ∷ folder) rest test passes = front_by x (folder ++ rest) test (test []) refl (front_found folder rest (λ q. test (x ∷ q)) passes)

module _ (h : Lock) where
  abbrev pub here : Path → Lock → Bool
  here q = has_token_at h.token q

  pub none_here : (q : Path) (ls : List Lock) → AllElsewhere h ls → list_any (here q) ls ≡ false
  none_here q [] no_others = refl
  none_here q (l ∷ ls) (another off more) = ap (λ b. b || list_any (here q) ls) (other_token h.token q l off.token) ∙ none_here q ls more

  itself : (l : Lock) → IsSameLock h l → here (folder_of h) l ≡ true
  itself l is =
      ap (λ (m : Lock). here (folder_of h) m) is ∙ ap (λ b. b && is_same_path (folder_of h) (folder_of h)) ((bytes_eq-Decides h.token h.token).1 refl) ∙ path-itself (folder_of h)

  pub any_here : (ls : List Lock) → Guards h ls → list_any (here (folder_of h)) ls ≡ true
  any_here [] g = elim g [ ]
  any_here (l ∷ ls) (guards_here is off) = ap (λ b. b || list_any (here (folder_of h)) ls) (itself l is)
  any_here (l ∷ ls) (guards_later off more) = ap (λ b. b || list_any (here (folder_of h)) ls) (other_token h.token (folder_of h) l off.token) ∙ any_here ls more

  gone_by : (q : Path) (l : Lock) (ls : List Lock) (b : Bool) → AllElsewhere h ls → (b || list_any (here q) ls) ≡ true → ¬ IsListed h (cond b ls (l ∷ without_first (here q) ls))
  gone_by q l ls true off any there = not_listed h off there
  gone_by q l ls false off any there = true≢false (sym any ∙ none_here q ls off)

  gone_later : (q : Path) (l : Lock) (ls : List Lock) (b : Bool) → b ≡ false → IsElsewhere h l → (list_any (here q) ls ≡ true → ¬ IsListed h (without_first (here q) ls))
      → (b || list_any (here q) ls) ≡ true → ¬ IsListed h (cond b ls (l ∷ without_first (here q) ls))
  gone_later q l ls true is off more any there = absurd (true≢false is)
  gone_later q l ls false is off more any (listed_here same) = off.token (ap (λ (m : Lock). m.token) same)
  gone_later q l ls false is off more any (listed_later there) = more any there

  gone : (q : Path) (ls : List Lock) → Guards h ls → list_any (here q) ls ≡ true → ¬ IsListed h (without_first (here q) ls)
  gone q [] g any there = elim g [ ]
  gone q (l ∷ ls) (guards_here is off) any there = gone_by q l ls (here q l) off any there
  gone q (l ∷ ls) (guards_later off more) any there = gone_later q l ls (here q l) (other_token h.token q l off.token) off (gone q ls more) any there

-- a guard ends by its token, at its folder and below it
pub guard_ends : (h : Lock) (rest : Path) (ls : List Lock) → Guards h ls → (left : List Lock) × (unlocked h.token (folder_of h ++ rest) ls ≡ Some left) × (¬ IsListed h left)
guard_ends h rest ls g =
    let (q, front, any) = front_found (folder_of h) rest (λ q. list_any (has_token_at h.token q) ls) (any_here h ls g) in
    (without_first (has_token_at h.token q) ls, ap (option_map (λ q. without_first (has_token_at h.token q) ls)) front, gone h q ls g any)
