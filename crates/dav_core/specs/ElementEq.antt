-- When two element trees are the same.
use Rattle.std.specs.Prelude.{ℕ, ◌&&◌, Bool, true, false, List, Option, Some, None, bytes_eq}
use Rattle.std.specs.Option.{option_eq}
use Rattle.std.specs.Bool.{Decides, one_answer}
use Rattle.std.specs.Cmp.{IsEquivalence}
use Rattle.std.specs.Cmp.Lexicographic.{pointwise, pointwise_decides}
use Rattle.std.specs.Ordering.{on}
use Rattle.std.proofs.Common.{◌≡◌, refl, ap, sym, subst}
use Rattle.std.proofs.lemmas.Slice.Eq.{bytes_eq-Decides}
use Rattle.dav_core.specs.Element.{ElementTree, ElementTrees, element, text, no_trees, tree_then, name_of, prefix_of, namespace_of, attributes_of}

-- Whether two attributes have the same name and the same value.
abbrev pub attribute_eq : List ℕ × List ℕ → List ℕ × List ℕ → Bool
attribute_eq a b = bytes_eq a.0 b.0 && bytes_eq a.1 b.1

-- Whether two elements have the same name, prefix and namespace, and the same attributes in the same order.
abbrev pub tag_eq : ElementTree → ElementTree → Bool
tag_eq x y =
    bytes_eq (name_of x) (name_of y) && option_eq bytes_eq (prefix_of x) (prefix_of y) && option_eq bytes_eq (namespace_of x) (namespace_of y)
    && pointwise attribute_eq (attributes_of x) (attributes_of y)

abbrev mutual
  -- Whether two trees are the same: elements with the same name, prefix, namespace and attributes whose children are the same
  -- one by one, or texts with the same bytes.
  pub tree_eq : ElementTree → ElementTree → Bool
  tree_eq (element n p s a c) (element m q t b d) = tag_eq (element n p s a c) (element m q t b d) && trees_eq c d
  tree_eq (text a) (text b) = bytes_eq a b
  tree_eq (element n p s a c) (text b) = false
  tree_eq (text a) (element m q t b d) = false

  -- Whether children are the same, one by one.
  pub trees_eq : ElementTrees → ElementTrees → Bool
  trees_eq no_trees no_trees = true
  trees_eq (tree_then x xs) (tree_then y ys) = tree_eq x y && trees_eq xs ys
  trees_eq no_trees (tree_then y ys) = false
  trees_eq (tree_then x xs) no_trees = false

-- ---- trees are equal exactly where they are the same

both : (a b : Bool) → (a && b) ≡ true → (a ≡ true) × (b ≡ true)
both true b e = (refl, e)
both false b e = cc

attribute_eq-Decides : (a b : List ℕ × List ℕ) → Decides (attribute_eq a b) (a ≡ b)
attribute_eq-Decides a b = (same, λ e. rw ((bytes_eq-Decides a.0 b.0).1 (ap (λ p. p.0) e), (bytes_eq-Decides a.1 b.1).1 (ap (λ p. p.1) e)) refl)
  where
    same : attribute_eq a b ≡ true → a ≡ b
    same e = let parts = both _ _ e in λ i. ((bytes_eq-Decides a.0 b.0).0 parts.0 i, (bytes_eq-Decides a.1 b.1).0 parts.1 i)

option_eq-same : (p q : Option (List ℕ)) → option_eq bytes_eq p q ≡ true → p ≡ q
option_eq-same None None e = refl
option_eq-same (Some x) (Some y) e = ap Some ((bytes_eq-Decides x y).0 e)
option_eq-same None (Some y) e = cc
option_eq-same (Some x) None e = cc

option_eq-refl : (p : Option (List ℕ)) → option_eq bytes_eq p p ≡ true
option_eq-refl None = refl
option_eq-refl (Some x) = (bytes_eq-Decides x x).1 refl

mutual
  tree_eq-same : (x y : ElementTree) → tree_eq x y ≡ true → x ≡ y
  tree_eq-same (element n p s a c) (element m q t b d) e =
      let all = both (bytes_eq n m && option_eq bytes_eq p q && option_eq bytes_eq s t && pointwise attribute_eq a b) (trees_eq c d) e in
      let own = both (bytes_eq n m && option_eq bytes_eq p q && option_eq bytes_eq s t) (pointwise attribute_eq a b) all.0 in
      let names = both (bytes_eq n m && option_eq bytes_eq p q) (option_eq bytes_eq s t) own.0 in
      let first = both (bytes_eq n m) (option_eq bytes_eq p q) names.0 in
      let name : n ≡ m = (bytes_eq-Decides n m).0 first.0 in
      let prefix : p ≡ q = option_eq-same p q first.1 in
      let namespace : s ≡ t = option_eq-same s t names.1 in
      let attributes : a ≡ b = (pointwise_decides attribute_eq-Decides a b).0 own.1 in
      let children : c ≡ d = trees_eq-same c d all.1 in
      λ i. element (name i) (prefix i) (namespace i) (attributes i) (children i)
  tree_eq-same (text a) (text b) e = ap text ((bytes_eq-Decides a b).0 e)
  tree_eq-same (element n p s a c) (text b) e = cc
  tree_eq-same (text a) (element m q t b d) e = cc

  trees_eq-same : (xs ys : ElementTrees) → trees_eq xs ys ≡ true → xs ≡ ys
  trees_eq-same no_trees no_trees e = refl
  trees_eq-same (tree_then x xs) (tree_then y ys) e =
      let parts = both (tree_eq x y) (trees_eq xs ys) e in
      let first : x ≡ y = tree_eq-same x y parts.0 in
      let rest : xs ≡ ys = trees_eq-same xs ys parts.1 in
      λ i. tree_then (first i) (rest i)
  trees_eq-same no_trees (tree_then y ys) e = cc
  trees_eq-same (tree_then x xs) no_trees e = cc

mutual
  tree_eq-refl : (x : ElementTree) → tree_eq x x ≡ true
  tree_eq-refl (element n p s a c) =
      rw ((bytes_eq-Decides n n).1 refl, option_eq-refl p, option_eq-refl s, (pointwise_decides attribute_eq-Decides a a).1 refl) (trees_eq-refl c)
  tree_eq-refl (text a) = (bytes_eq-Decides a a).1 refl

  trees_eq-refl : (xs : ElementTrees) → trees_eq xs xs ≡ true
  trees_eq-refl no_trees = refl
  trees_eq-refl (tree_then x xs) = rw (tree_eq-refl x) (trees_eq-refl xs)

-- `tree_eq` is true exactly where the trees are the same
pub tree_eq-Decides : (x y : ElementTree) → Decides (tree_eq x y) (x ≡ y)
tree_eq-Decides x y = (tree_eq-same x y, λ e. subst (λ z. tree_eq x z ≡ true) e (tree_eq-refl x))

-- A test E that is true exactly where two keys are the same is an equality of values, by the keys that `view` gives them.
pub equality_by : {X K : Type 0} (E : K → K → Bool) → ((a b : K) → Decides (E a b) (a ≡ b)) → (view : X → K) → IsEquivalence (on view E)
equality_by E decides view = record {
  refl = λ x. (decides (view x) (view x)).1 refl;
  symm = λ x y. one_answer (E (view x) (view y)) (E (view y) (view x)) (decides (view x) (view y)) ((λ e. sym ((decides (view y) (view x)).0 e)), λ e. (decides (view y) (view x)).1 (sym e));
  congr = λ x y z e. ap (λ k. E k (view z)) ((decides (view x) (view y)).0 e);
}
