-- How the logic stores an element tree: as a tree of numbers, one to one.
use Rattle.std.specs.Prelude.{◌≡◌, ℕ, List, Option}
use Rattle.std.specs.Coded.{Coded, coded_ℕ, coded_list, coded_option, coded×}
use base.Stored.{Gv, gnil, gnum, gcons, num}
use Rattle.std.proofs.Common.{refl, ap, sym}
use native.Mathlib.Nat.{suc-ne-zero}
use Rattle.dav_core.specs.Element.{ElementTree, ElementTrees, element, text, no_trees, tree_then}

-- How the logic stores bytes, one to one.
abbrev pub bytes_code : Coded (List ℕ)
bytes_code = coded_list coded_ℕ

-- the name, prefix, namespace and attributes of an element
abbrev Parts : Type 0
Parts = List ℕ × (Option (List ℕ) × (Option (List ℕ) × List (List ℕ × List ℕ)))

abbrev parts_code : Coded Parts
parts_code = coded× bytes_code (coded× (coded_option bytes_code) (coded× (coded_option bytes_code) (coded_list (coded× bytes_code bytes_code))))

abbrev mutual
  -- How the logic stores a tree: as a tree of numbers.
  pub tree_code : ElementTree → Gv
  tree_code (element n p s a c) = gcons (gnum 0) (gcons (parts_code.code (n, (p, (s, a)))) (trees_code c))
  tree_code (text b) = gcons (gnum 1) (bytes_code.code b)

  -- How the logic stores the children of an element: as a tree of numbers.
  pub trees_code : ElementTrees → Gv
  trees_code no_trees = gnum 0
  trees_code (tree_then t ts) = gcons (tree_code t) (trees_code ts)

abbrev first_of : Gv → Gv
first_of gnil = gnil
first_of (gnum n) = gnum 1
first_of (gcons a b) = a

abbrev second_of : Gv → Gv
second_of gnil = gnil
second_of (gnum n) = gnil
second_of (gcons a b) = b

abbrev is_pair : Gv → ℕ
is_pair gnil = 0
is_pair (gnum n) = 0
is_pair (gcons a b) = 1

mutual
  -- Trees that are stored alike are the same.
  pub tree_code_inj : (x y : ElementTree) → tree_code x ≡ tree_code y → x ≡ y
  tree_code_inj (element n p s a c) (element m q t b d) e =
      let parts : ◌≡◌ {A = Parts} (n, (p, (s, a))) (m, (q, (t, b))) = parts_code.inj _ _ (ap (λ g. first_of (second_of g)) e) in
      let trees : c ≡ d = trees_code_inj c d (ap (λ g. second_of (second_of g)) e) in
      λ i. element (parts i).0 (parts i).1.0 (parts i).1.1.0 (parts i).1.1.1 (trees i)
  tree_code_inj (text a) (text b) e = ap text (bytes_code.inj a b (ap second_of e))
  tree_code_inj (element n p s a c) (text b) e = absurd (suc-ne-zero 0 (sym (ap (λ g. num (first_of g)) e)))
  tree_code_inj (text b) (element n p s a c) e = absurd (suc-ne-zero 0 (ap (λ g. num (first_of g)) e))

  -- Children that are stored alike are the same.
  pub trees_code_inj : (xs ys : ElementTrees) → trees_code xs ≡ trees_code ys → xs ≡ ys
  trees_code_inj no_trees no_trees e = refl
  trees_code_inj (tree_then x xs) (tree_then y ys) e =
      let first : x ≡ y = tree_code_inj x y (ap first_of e) in
      let rest : xs ≡ ys = trees_code_inj xs ys (ap second_of e) in
      λ i. tree_then (first i) (rest i)
  trees_code_inj no_trees (tree_then y ys) e = absurd (suc-ne-zero 0 (sym (ap is_pair e)))
  trees_code_inj (tree_then x xs) no_trees e = absurd (suc-ne-zero 0 (ap is_pair e))

-- How the logic stores a tree, one to one; nothing but the checker needs it.
abbrev pub coded_tree : Coded ElementTree
coded_tree = record { code = tree_code; inj = tree_code_inj }
