-- The locks that are listed for a path are those that cover it.
use Rattle.std.proofs.Common.{◌≡◌, ℕ, zero, suc, ◌<◌, ◌++◌, ◌∷◌, [], Bool, true, false, ◌&&◌, cond, List, map, get_or, inl, inr, refl, sym, ap, subst, ◌∙◌, arith}
use Rattle.std.specs.List.{Contains, filter, flat_map}
use Rattle.std.proofs.lemmas.List.Elements.{All-contains, All-filter, All-contains_itself, filter_passes, Contains-push, Contains-append_left, Contains-append_right, Contains-append_cases}
use Rattle.dav_core.specs.Path.{Path, names, fronts, is_same_path}
use Rattle.dav_core.specs.Locks.{Lock, covers}
use Rattle.dav_core.specs.LockLaws.{DiscoveredAreCovering}
use Rattle.dav_core.proofs.NodesLemmas.{path-itself}
use Rattle.std.proofs.lemmas.Bool.{and_parts}
use Rattle.dav_core.proofs.SharedLemmas.{covering_way, front_of}

first_is_contained : {X : Type 0} (x : X) (xs : List X) → Contains (x ∷ xs) x
first_is_contained x xs = Contains-append_left (x ∷ []) xs x (Contains-push [] x)

others_are_contained : {X : Type 0} (x : X) (xs : List X) (y : X) → Contains xs y → Contains (x ∷ xs) y
others_are_contained x xs y h = Contains-append_right (x ∷ []) xs y h

none_is_contained : {X : Type 0} (x : X) → Contains [] x → ⊥
none_is_contained x (k, small, is) = absurd (omega (arith, small))

alone : {X : Type 0} (x : X) (k : ℕ) (d : X) → k < 1 → get_or (x ∷ []) k d ≡ x
alone x zero d small = refl
alone x (suc k) d small = absurd (omega (arith, small))

-- a list of one item contains it alone
only_one : {X : Type 0} (x y : X) → Contains (x ∷ []) y → y ≡ x
only_one x y here = All-contains (λ z. z ≡ x) (x ∷ []) y (alone x) here

-- what is in one of the lists is in all of them, joined
joined_keeps : {X A : Type 0} (f : X → List A) (xs : List X) (x : X) (a : A) → Contains xs x → Contains (f x) a → Contains (flat_map f xs) a
joined_keeps f [] x a member h = absurd (none_is_contained x member)
joined_keeps f (y ∷ ys) x a member h =
    elim (Contains-append_cases (y ∷ []) ys x member) [
      | inl here ↦ Contains-append_left (f y) (flat_map f ys) a (subst (λ z. Contains (f z) a) (only_one y x here) h)
      | inr there ↦ Contains-append_right (f y) (flat_map f ys) a (joined_keeps f ys x a there h)
    ]

-- what is in the joined lists is in one of them
in_one : {X A : Type 0} (f : X → List A) (xs : List X) (a : A) → Contains (flat_map f xs) a → (x : X) × Contains (f x) a
in_one f [] a h = absurd (none_is_contained a h)
in_one f (x ∷ xs) a h =
    elim (Contains-append_cases (f x) (flat_map f xs) a h) [
      | inl here ↦ (x, here)
      | inr there ↦ in_one f xs a there
    ]

-- what passes stays
passing_is_kept : {X : Type 0} (test : X → Bool) (xs : List X) (x : X) → Contains xs x → test x ≡ true → Contains (filter test xs) x
passing_is_kept test [] x h passes = absurd (none_is_contained x h)
passing_is_kept test (y ∷ ys) x h passes =
    elim (Contains-append_cases (y ∷ []) ys x h) [
      | inl here ↦ kept (test y) refl here
      | inr there ↦ later (test y) (passing_is_kept test ys x there passes)
    ]
  where
    later : (b : Bool) → Contains (filter test ys) x → Contains (cond b (y ∷ filter test ys) (filter test ys)) x
    later true k = others_are_contained y (filter test ys) x k
    later false k = k

    kept : (b : Bool) → test y ≡ b → Contains (y ∷ []) x → Contains (cond b (y ∷ filter test ys) (filter test ys)) x
    kept true is here = subst (Contains (y ∷ filter test ys)) (sym (only_one y x here)) (first_is_contained y (filter test ys))
    kept false is here = let clash : true ≡ false = sym passes ∙ ap test (only_one y x here) ∙ is in cc

mapped_is_contained : (f : Path → Path) (ps : List Path) (p : Path) → Contains ps p → Contains (map f ps) (f p)
mapped_is_contained f [] p h = absurd (none_is_contained p h)
mapped_is_contained f (q ∷ ps) p h =
    elim (Contains-append_cases (q ∷ []) ps p h) [
      | inl here ↦ subst (λ z. Contains (f q ∷ map f ps) (f z)) (sym (only_one q p here)) (first_is_contained (f q) (map f ps))
      | inr there ↦ others_are_contained (f q) (map f ps) (f p) (mapped_is_contained f ps p there)
    ]

-- each front of a path is among its fronts
front_is_listed : (q r : Path) → Contains (fronts (q ++ r)) q
front_is_listed [] [] = first_is_contained [] []
front_is_listed [] (x ∷ r) = first_is_contained [] (map (λ p. x ∷ p) (fronts r))
front_is_listed (x ∷ q) r =
    others_are_contained [] (map (λ p. x ∷ p) (fronts (q ++ r))) (x ∷ q) (mapped_is_contained (λ p. x ∷ p) (fronts (q ++ r)) q (front_is_listed q r))

together : (a b : Bool) → a ≡ true → b ≡ true → (a && b) ≡ true
together true b h k = k
together false b h k = cc

abbrev at_front : Path → Path → Lock → Bool
at_front p q l = is_same_path (names l.path) q && covers l p

pub discovered_are_covering : DiscoveredAreCovering
discovered_are_covering p ls l = (
  λ h.
      let (q, found) = in_one (λ q. filter (at_front p q) ls) (fronts p) l h in (
        All-contains (Contains ls) (filter (at_front p q) ls) l (All-filter (at_front p q) (Contains ls) ls (All-contains_itself ls)) found,
        (and_parts (is_same_path (names l.path) q) (covers l p) (All-contains (λ m. at_front p q m ≡ true) (filter (at_front p q) ls) l (filter_passes (at_front p q) ls) found)).1,
      ),
  λ h.
      let (r, is) = front_of l p (covering_way l p h.1) in
      joined_keeps (λ q. filter (at_front p q) ls) (fronts p) (names l.path) l
      (subst (λ q. Contains (fronts q) (names l.path)) (sym is) (front_is_listed (names l.path) r))
      (passing_is_kept (at_front p (names l.path)) ls l h.0 (together (is_same_path (names l.path) (names l.path)) (covers l p) (path-itself (names l.path)) h.1)),
)
