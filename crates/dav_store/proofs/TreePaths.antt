-- What a walk by names finds after some children of a tree changed.
use Rattle.std.proofs.Common.{◌≡◌, ℕ, Bool, true, false, List, [], ◌∷◌, ◌++◌, length, Option, Some, None, refl, sym, ap, ◌∙◌, arith, append_assoc, length-append, reverse}
use Rattle.std.specs.Option.{option_and_then, IsSome, is_some}
use Rattle.dav_core.specs.Path.{Path, rest_after, is_same_path}
use Rattle.dav_core.proofs.Theorems.{rest_after-append, same_path}
use Rattle.dav_store.specs.Tree.{Tree, value_of}
use Rattle.dav_store.specs.Walks.{walk, reach}
use Rattle.dav_store.specs.Placed.{named, found, IsNamedTree}
use Rattle.dav_store.proofs.Walks.{walk-append, walk-push, walk_same, inner, reach-reverse, before}
use Rattle.dav_store.proofs.Placing.{one_at, root_there}

pub some_is : {X : Type 0} (o : Option X) → IsSome o → (x : X) × (o ≡ Some x)
some_is None h = let no : false ≡ true = h in cc
some_is (Some x) h = (x, refl)

-- what follows a walk, where each node that it may find is alike
pub then_same : {X : Type 0} (f g : ℕ → Option X) (o : Option ℕ) → ((m : ℕ) → o ≡ Some m → f m ≡ g m) → option_and_then f o ≡ option_and_then g o
then_same f g None same = refl
then_same f g (Some m) same = same m refl

-- a path with one name more is longer
pub not_longer : (p b : Path) (k : List ℕ) → p ≡ (p ++ k ∷ []) ++ b → ⊥
not_longer p b k e =
    let l : length p ≡ length ((p ++ k ∷ []) ++ b) = ap (length {A = List ℕ}) e in
    absurd (omega (arith, l, length-append (p ++ k ∷ []) b, length-append p (k ∷ [])))

-- a path with names behind it isn't that path
pub not_behind : (p s : Path) (l : List ℕ) → p ++ l ∷ s ≡ p → ⊥
not_behind p s l e =
    let n : length (p ++ l ∷ s) ≡ length p = ap (length {A = List ℕ}) e in
    absurd (omega (arith, n, length-append p (l ∷ s)))

-- what is not below a path
pub no_rest_from : (p q : Path) → rest_after p q ≡ None → (b : Path) → q ≡ p ++ b → ⊥
no_rest_from p q none b e = let some : rest_after p q ≡ Some b = ap (rest_after p) e ∙ rest_after-append p b in let clash : None ≡ Some b = sym none ∙ some in cc

pub differs : (p q : Path) → rest_after p q ≡ None → is_same_path q p ≡ false
differs p q none = by (is_same_path q p) refl where
  empty : (r : Path) → r ≡ r ++ []
  empty [] = refl
  empty (x ∷ r) = ap (λ y. x ∷ y) (empty r)

  by : (b : Bool) → is_same_path q p ≡ b → b ≡ false
  by true is = absurd (no_rest_from p q none [] (same_path q p is ∙ empty p))
  by false is = refl

pub differs_behind : (p s : Path) (l : List ℕ) → is_same_path (p ++ l ∷ s) p ≡ false
differs_behind p s l = by (is_same_path (p ++ l ∷ s) p) refl where
  by : (b : Bool) → is_same_path (p ++ l ∷ s) p ≡ b → b ≡ false
  by true is = absurd (not_behind p s l (same_path (p ++ l ∷ s) p is))
  by false is = refl

module _ {D : Type 0} (t : Tree (List ℕ) D) where
  -- one name more leads to a child
  pub found-push : (q : Path) (n : ℕ) (k : List ℕ) → found t q ≡ Some n → found t (q ++ k ∷ []) ≡ named t n k
  found-push q n k at = walk-push (named t) 1 q k ∙ ap (option_and_then (λ m. named t m k)) at

  -- what is below a path
  pub found-below : (q s : Path) (n : ℕ) → found t q ≡ Some n → found t (q ++ s) ≡ walk (named t) n s
  found-below q s n at = walk-append (named t) 1 q s ∙ ap (option_and_then (λ m. walk (named t) m s)) at

  pub none-below : (q s : Path) → found t q ≡ None → found t (q ++ s) ≡ None
  none-below q s none = walk-append (named t) 1 q s ∙ ap (option_and_then (λ m. walk (named t) m s)) none

  -- a node without children has nothing below it
  pub leaf_below : (n : ℕ) (l : List ℕ) (s : Path) → named t n l ≡ None → walk (named t) n (l ∷ s) ≡ None
  leaf_below n l s none = ap (option_and_then (λ m. walk (named t) m s)) none

  -- what a walk leads to is there
  pub found_there : {holds : Option D → Bool} {fits : List ℕ → Type 0} → IsNamedTree holds fits t → (q : Path) (m : ℕ) → found t q ≡ Some m → IsSome (value_of t m)
  found_there grown q m e = by (reverse q) (reach-reverse (named t) q ∙ e) where
    by : (r : Path) → reach (named t) r ≡ Some m → IsSome (value_of t m)
    by [] h = ap is_some (ap (value_of t) (sym (inner 1 m h))) ∙ root_there t grown
    by (k ∷ r) h = let b = before (named t) k r m h in (grown.children b.0 k m b.2).there

  -- a child has one parent and one name
  pub one_seat : {holds : Option D → Bool} {fits : List ℕ → Type 0} → IsNamedTree holds fits t → (a b : ℕ) (k l : List ℕ) (m : ℕ) → named t a k ≡ Some m → named t b l ≡ Some m → (a ≡ b) × (k ≡ l)
  one_seat grown a b k l m e f =
      let same : a ≡ b = sym (grown.children a k m e).parent ∙ (grown.children b l m f).parent in
      (same, grown.once b k l m (ap (λ n. named t n k) (sym same) ∙ e) f)

  module _ {holds : Option D → Bool} {fits : List ℕ → Type 0} (grown : IsNamedTree holds fits t) (u : Tree (List ℕ) D) where
    -- a path that goes by no child that changed finds what it found
    pub outside : (q : Path) → ((a b : Path) (k : List ℕ) (n : ℕ) → q ≡ a ++ k ∷ b → found t a ≡ Some n → named u n k ≡ named t n k) → found u q ≡ found t q
    outside q h = walk_same (named t) (named u) q 1 h

    -- it goes by a child if it begins with the child's path
    pub goes_by : (p a b q : Path) (k l : List ℕ) (m n : ℕ) → found t p ≡ Some m → found t a ≡ Some n → q ≡ a ++ l ∷ b → (n ≡ m) × (l ≡ k) → q ≡ (p ++ k ∷ []) ++ b
    goes_by p a b q k l m n at there cut same =
        cut ∙ (λ i. one_at t grown a p m (there ∙ ap Some same.0) at i ++ same.1 i ∷ b) ∙ sym (append_assoc p (k ∷ []) b)
