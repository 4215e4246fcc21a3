-- Walks down a tree of numbered nodes, and climbs up it.
use Rattle.std.proofs.Common.{◌≡◌, ℕ, zero, suc, ◌+◌, ◌<◌, ◌≤◌, Bool, true, false, List, [], ◌∷◌, ◌++◌, Option, Some, None, refl, sym, ap, ◌∙◌, length, arith, length-append, ⊎_elim, reverse}
use Rattle.std.specs.Prelude.{nat_eq, ◌||◌}
use Rattle.std.specs.Option.{option_map, option_and_then, unwrap_or}
use Rattle.std.specs.List.{list_any, IsDistinct}
use Rattle.std.specs.Cmp.{nat_eq_equiv}
use Rattle.std.proofs.lemmas.Bool.{cases_Bool, or_cases, eqb-true}
use Rattle.std.proofs.lemmas.List.Folds.{list_any-append}
use Rattle.std.proofs.lemmas.List.{reverse-reverse, reverse-append}
use Rattle.std.proofs.lemmas.Map.Keys.{IsDistinct-push}
use Rattle.std.proofs.lemmas.Map.Steps.{length-le_from_distinct_below}
use Rattle.dav_store.specs.Walks.{reach, walk, climb, climb_from}

pub inner : {X : Type 0} (x y : X) → Some x ≡ Some y → x ≡ y
inner x y e = ap (λ o. unwrap_or o x) e

module _ {K : Type 0} (child : ℕ → K → Option ℕ) where
  walk_then : (o : Option ℕ) (q s : List K) → ((m : ℕ) → walk child m (q ++ s) ≡ option_and_then (λ x. walk child x s) (walk child m q))
      → option_and_then (λ m. walk child m (q ++ s)) o ≡ option_and_then (λ x. walk child x s) (option_and_then (λ m. walk child m q) o)
  walk_then None q s ih = refl
  walk_then (Some m) q s ih = ih m

  pub walk-append : (n : ℕ) (q s : List K) → walk child n (q ++ s) ≡ option_and_then (λ m. walk child m s) (walk child n q)
  walk-append n [] s = refl
  walk-append n (k ∷ q) s = walk_then (child n k) q s (λ m. walk-append m q s)

  last_step : (k : K) (o : Option ℕ) → option_and_then (λ m. walk child m (k ∷ [])) o ≡ option_and_then (λ m. child m k) o
  last_step k None = refl
  last_step k (Some m) = by (child m k) where
    by : (p : Option ℕ) → option_and_then (λ x. Some x) p ≡ p
    by None = refl
    by (Some x) = refl

  -- one step more
  pub walk-push : (n : ℕ) (q : List K) (k : K) → walk child n (q ++ k ∷ []) ≡ option_and_then (λ m. child m k) (walk child n q)
  walk-push n q k = walk-append n q (k ∷ []) ∙ last_step k (walk child n q)

  -- a walk goes the path that is read from its last key up
  pub walk-reverse : (r : List K) → walk child 1 (reverse r) ≡ reach child r
  walk-reverse [] = refl
  walk-reverse (k ∷ r) = ap (walk child 1) (reverse-append (k ∷ []) r) ∙ walk-push 1 (reverse r) k ∙ ap (option_and_then (λ n. child n k)) (walk-reverse r)

  pub reach-reverse : (q : List K) → reach child (reverse q) ≡ walk child 1 q
  reach-reverse q = sym (walk-reverse (reverse q)) ∙ ap (walk child 1) (reverse-reverse q)

  -- a walk that leads somewhere did so before its last step
  before_by : (k : K) (r : List K) (m : ℕ) (o : Option ℕ) → reach child r ≡ o → option_and_then (λ n. child n k) o ≡ Some m → (n : ℕ) × (reach child r ≡ Some n) × (child n k ≡ Some m)
  before_by k r m None was e = cc
  before_by k r m (Some n) was e = (n, was, e)

  pub before : (k : K) (r : List K) (m : ℕ) → reach child (k ∷ r) ≡ Some m → (n : ℕ) × (reach child r ≡ Some n) × (child n k ≡ Some m)
  before k r m e = before_by k r m (reach child r) refl e

module _ {K : Type 0} (child : ℕ → K → Option ℕ) (seat : ℕ → Option (Option (ℕ × K))) where
  -- a node's seat is the root's, or the one child's of one parent under one key
  pub record IsSeated : Type 0 where
    pub root : seat 1 ≡ Some None
    pub only : (m : ℕ) → seat m ≡ Some None → m ≡ 1
    pub down : (n : ℕ) (k : K) (m : ℕ) → child n k ≡ Some m → seat m ≡ Some (Some (n, k))
    pub up : (n : ℕ) (k : K) (m : ℕ) → seat m ≡ Some (Some (n, k)) → child n k ≡ Some m

  module _ (is : IsSeated) where
    climb_step : (k : K) (r : List K) (m f : ℕ) (o : Option ℕ) → reach child r ≡ o → ((n : ℕ) → reach child r ≡ Some n → climb seat f n ≡ Some r) → option_and_then (λ n. child n k) o ≡ Some m → climb seat (suc f) m ≡ Some (k ∷ r)
    climb_step k r m f None was ih e = cc
    climb_step k r m f (Some n) was ih e = ap (climb_from seat (climb seat f)) (is.down n k m e) ∙ ap (option_map (λ r. k ∷ r)) (ih n was)

    -- a walk is found again by a climb
    pub climb_reach : (r : List K) (m f : ℕ) → reach child r ≡ Some m → length r < f → climb seat f m ≡ Some r
    climb_reach r m zero e h = absurd (omega (arith, h))
    climb_reach [] m (suc f) e h = ap (climb_from seat (climb seat f)) (ap seat (sym (inner 1 m e)) ∙ is.root)
    climb_reach (k ∷ r) m (suc f) e h = climb_step k r m f (reach child r) refl (λ n was. climb_reach r n f was (omega (arith, h))) e

    reach_under : (m n : ℕ) (k : K) (r : List K) (o : Option (List K)) → seat m ≡ Some (Some (n, k)) → ((s : List K) → o ≡ Some s → reach child s ≡ Some n) → option_map (λ r. k ∷ r) o ≡ Some r → reach child r ≡ Some m
    reach_under m n k r None was ih e = cc
    reach_under m n k r (Some s) was ih e =
        ap (reach child) (sym (inner (k ∷ s) r e)) ∙ ap (option_and_then (λ n. child n k)) (ih s refl) ∙ is.up n k m was

    reach_from : (above : ℕ → Option (List K)) (m : ℕ) (r : List K) (o : Option (Option (ℕ × K))) → seat m ≡ o → ((n : ℕ) (s : List K) → above n ≡ Some s → reach child s ≡ Some n) → climb_from seat above o ≡ Some r → reach child r ≡ Some m
    reach_from above m r None was ih e = cc
    reach_from above m r (Some None) was ih e = ap (reach child) (sym (inner [] r e)) ∙ ap Some (sym (is.only m was))
    reach_from above m r (Some (Some s)) was ih e = reach_under m s.0 s.1 r (above s.0) was (ih s.0) e

    -- and a climb is walked again
    pub reach_climb : (f m : ℕ) (r : List K) → climb seat f m ≡ Some r → reach child r ≡ Some m
    reach_climb zero m r e = cc
    reach_climb (suc f) m r e = reach_from (climb seat f) m r (seat m) refl (reach_climb f) e

    -- one path leads to a node
    pub one_path : (r s : List K) (m : ℕ) → reach child r ≡ Some m → reach child s ≡ Some m → r ≡ s
    one_path r s m a b =
        let f = length r + length s + 1 in
        inner r s (sym (climb_reach r m f a (omega arith)) ∙ climb_reach s m f b (omega arith))

    pub one_walk : (p q : List K) (m : ℕ) → walk child 1 p ≡ Some m → walk child 1 q ≡ Some m → p ≡ q
    one_walk p q m a b =
        sym (reverse-reverse p) ∙ ap reverse (one_path (reverse p) (reverse q) m (reach-reverse child p ∙ a) (reach-reverse child q ∙ b)) ∙ reverse-reverse q

    -- the nodes on the way
    abbrev visited : List K → List ℕ
    visited [] = 1 ∷ []
    visited (k ∷ r) = visited r ++ unwrap_or (reach child (k ∷ r)) 0 ∷ []

    length-visited : (r : List K) → length (visited r) ≡ length r + 1
    length-visited [] = refl
    length-visited (k ∷ r) = omega (arith, length-append (visited r) (unwrap_or (reach child (k ∷ r)) 0 ∷ []), length-visited r)

    lone : (a : Bool) → (a || false) ≡ true → a ≡ true
    lone true e = refl
    lone false e = e

    -- each node on the way is reached by no longer a path
    on_way : (r : List K) (m x : ℕ) → reach child r ≡ Some m → list_any (nat_eq x) (visited r) ≡ true → (s : List K) × (length s ≤ length r) × (reach child s ≡ Some x)
    on_way [] m x e h = ([], omega arith, ap Some (sym (eqb-true x 1 (lone _ h))))
    on_way (k ∷ r) m x e h =
        let y = unwrap_or (reach child (k ∷ r)) 0 in
        let b = before child k r m e in
        ⊎_elim
        (λ a. let w = on_way r b.0 x b.1 a in (w.0, omega (arith, w.1), w.2))
        (λ a. (k ∷ r, omega arith, e ∙ ap Some (ap (λ o. unwrap_or o 0) (sym e) ∙ sym (eqb-true x y (lone _ a)))))
        (or_cases (list_any (nat_eq x) (visited r)) (nat_eq x y || false) (sym (list_any-append (nat_eq x) (visited r) (y ∷ [])) ∙ h))

    none_twice : (r : List K) (m : ℕ) → reach child r ≡ Some m → IsDistinct nat_eq (visited r)
    unfolding IsDistinct
    none_twice [] m e = (tt, tt)
    none_twice (k ∷ r) m e =
        let y = unwrap_or (reach child (k ∷ r)) 0 in
        let b = before child k r m e in
        let same : m ≡ y = ap (λ o. unwrap_or o 0) (sym e) in
        IsDistinct-push nat_eq_equiv (visited r) y (none_twice r b.0 b.1)
        (⊎_elim
        (λ a. let w = on_way r b.0 y b.1 a in
        absurd (let longer : length w.0 ≡ length (k ∷ r) = ap length (one_path w.0 (k ∷ r) y w.2 (e ∙ ap Some same)) in omega (arith, longer, w.1)))
        (λ a. a)
        (cases_Bool (list_any (nat_eq y) (visited r))))

    module _ (last : ℕ) (within : (x : ℕ) (p : Option (ℕ × K)) → seat x ≡ Some p → x ≤ last) where
      reached_within : (s : List K) (x : ℕ) → reach child s ≡ Some x → x ≤ last
      reached_within [] x e = within x None (ap seat (sym (inner 1 x e)) ∙ is.root)
      reached_within (k ∷ s) x e = let b = before child k s x e in within x (Some (b.0, k)) (is.down b.0 k x b.2)

      -- no path to a node is longer than the numbers that were handed out
      pub short : (r : List K) (m : ℕ) → reach child r ≡ Some m → length r < last + 1
      short r m e =
          let all = length-le_from_distinct_below (visited r) (last + 1) (none_twice r m e)
          (λ q h. let w = on_way r m q e h in omega (arith, reached_within w.0 q w.2)) in
          omega (arith, all, length-visited r)

module _ {K : Type 0} (child after : ℕ → K → Option ℕ) where
  same_step : (x : ℕ) (k : K) (s : List K) (o : Option ℕ) → child x k ≡ o → ((y : ℕ) → child x k ≡ Some y → walk after y s ≡ walk child y s)
      → option_and_then (λ y. walk after y s) o ≡ option_and_then (λ y. walk child y s) o
  same_step x k s None e ih = refl
  same_step x k s (Some y) e ih = ih y e

  -- a walk finds what it found, where no child on its way changed
  pub walk_same : (s : List K) (x : ℕ) → ((a b : List K) (k : K) (n : ℕ) → s ≡ a ++ k ∷ b → walk child x a ≡ Some n → after n k ≡ child n k)
      → walk after x s ≡ walk child x s
  walk_same [] x h = refl
  walk_same (k ∷ s) x h =
      ap (option_and_then (λ y. walk after y s)) (h [] s k x refl refl)
      ∙ same_step x k s (child x k) refl
      (λ y e. walk_same s y (λ a b l n cut at. h (k ∷ a) b l n (ap (λ z. k ∷ z) cut) (ap (option_and_then (λ z. walk child z a)) e ∙ at)))
