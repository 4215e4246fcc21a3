-- Trees as they are added, part by part.
use Rattle.std.proofs.Common.{◌≡◌, ℕ, suc, ◌+◌, ◌<◌, ◌≤◌, ◌^◌, subst, length, map, drop, get_or, arith, List, [], ◌∷◌, ◌++◌, Option, refl, sym, ap, ◌∙◌, append_assoc}
use Rattle.std.proofs.lemmas.List.{append-nil, drop_more, nil_from_length, length-drop}
use Rattle.dav_core.specs.declared.element.XmlNode.{XmlNode}
use Rattle.dav_core.specs.ElementView.{node_tree, attribute_bytes}
use Rattle.std.specs.Prelude.{IfSome, String}
use Rattle.std.specs.Global.{Global}
use Rattle.std.specs.List.{flat_map, AllByRecursion}
use Rattle.std.proofs.lemmas.List.Concat.{flat_map-cons}
use Rattle.dav_core.specs.Element.{ElementTree, ElementTrees, element, text, no_trees, tree_then, tree_list, trees}
use Rattle.dav_saved.specs.Spelling.{number, sized, pair, many}
use Rattle.dav_saved.specs.Trees.{Front, front, tree, forest, IsText, IsPair, IsSaveable, AreSaveable}
use Rattle.dav_saved.proofs.TreeLaws.{list_back}

pub text_put : (bytes : List ℕ) → tree (text bytes) ≡ 1 ∷ sized bytes
unfolding tree
text_put bytes = refl

length_map : (xs : List XmlNode) → length (map node_tree xs) ≡ length xs
length_map [] = refl
length_map (x ∷ xs) = ap suc (length_map xs)

pub element_put : (a b c d e : List ℕ) (n : List ℕ) (p s : Option (List ℕ)) (k : List (List ℕ × List ℕ)) (items : List XmlNode) (len : ℕ)
    → b ≡ a ++ 0 ∷ [] → c ≡ b ++ front (n, (p, (s, k))) → len ≡ length items → d ≡ c ++ number len → e ≡ d ++ forest (trees (map node_tree items))
    → e ≡ a ++ tree (element n p s k (trees (map node_tree items)))
unfolding tree
element_put a b c d e n p s k items len eb ec el ed ee =
    let f : Front = (n, (p, (s, k))) in
    let ts = forest (trees (map node_tree items)) in
    let count : (xs : List XmlNode) → length (tree_list (trees (map node_tree xs))) ≡ length xs = λ xs. ap length (list_back (map node_tree xs)) ∙ length_map xs in
    ee ∙ ap (λ (x : List ℕ). x ++ ts) (ed ∙ ap (λ (x : List ℕ). x ++ number len) (ec ∙ ap (λ (x : List ℕ). x ++ front f) eb))
    ∙ append_assoc ((a ++ 0 ∷ []) ++ front f) (number len) ts
    ∙ append_assoc (a ++ 0 ∷ []) (front f) (number len ++ ts)
    ∙ append_assoc a (0 ∷ []) (front f ++ (number len ++ ts))
    ∙ ap (λ (m : ℕ). a ++ (0 ∷ (front f ++ (number m ++ ts)))) (el ∙ sym (count items))

forest_more : (t : ElementTree) (ts : ElementTrees) → forest (tree_then t ts) ≡ tree t ++ forest ts
unfolding forest
forest_more t ts = refl

forest_none : forest no_trees ≡ []
unfolding forest
forest_none = refl

pub child_turn : (before now all : List ℕ) (items : List XmlNode) (i : ℕ) (x : XmlNode) → i < length items → x ≡ get_or items i x → now ≡ before ++ tree (node_tree x)
    → before ++ forest (trees (map node_tree (drop i items))) ≡ all → now ++ forest (trees (map node_tree (drop (i + 1) items))) ≡ all
child_turn before now all items i x lt is e so_far =
    let split : drop i items ≡ x ∷ drop (i + 1) items = drop_more items i x lt ∙ ap (λ (y : XmlNode). y ∷ drop (i + 1) items) (sym is) in
    let rest = forest (trees (map node_tree (drop (i + 1) items))) in
    ap (λ (bs : List ℕ). bs ++ rest) e ∙ append_assoc before (tree (node_tree x)) rest
    ∙ ap (λ (bs : List ℕ). before ++ bs) (sym (forest_more (node_tree x) (trees (map node_tree (drop (i + 1) items)))))
    ∙ ap (λ (ys : List XmlNode). before ++ forest (trees (map node_tree ys))) (sym split) ∙ so_far

pub all_put : (before all : List ℕ) (items : List XmlNode) (i : ℕ) → length items ≤ i → before ++ forest (trees (map node_tree (drop i items))) ≡ all → before ≡ all
all_put before all items i le so_far =
    let nil : drop i items ≡ [] = nil_from_length (drop i items) (omega (arith, length-drop i items)) in
    sym (append-nil before) ∙ ap (λ (bs : List ℕ). before ++ bs) (sym forest_none) ∙ ap (λ (ys : List XmlNode). before ++ forest (trees (map node_tree ys))) (sym nil) ∙ so_far

pub front_by : (a b n m : List ℕ) (p s : Option (List ℕ)) (k l : List (List ℕ × List ℕ)) → m ≡ n → l ≡ k → b ≡ a ++ front (m, (p, (s, l))) → b ≡ a ++ front (n, (p, (s, k)))
front_by a b n m p s k l e f g = g ∙ ap (λ (x : List ℕ). a ++ front (x, (p, (s, l)))) e ∙ ap (λ (x : List (List ℕ × List ℕ)). a ++ front (n, (p, (s, x)))) f

-- ---- what is added can be saved

pub saveable_turn : (items : List XmlNode) (i : ℕ) (x : XmlNode) → i < length items → x ≡ get_or items i x → IsSaveable (node_tree x)
    → (AreSaveable (trees (map node_tree (drop i items))) → AreSaveable (trees (map node_tree items)))
    → AreSaveable (trees (map node_tree (drop (i + 1) items))) → AreSaveable (trees (map node_tree items))
saveable_turn items i x lt is one so_far rest =
    let split : drop i items ≡ x ∷ drop (i + 1) items = drop_more items i x lt ∙ ap (λ (y : XmlNode). y ∷ drop (i + 1) items) (sym is) in
    so_far (subst (λ (ys : List XmlNode). AreSaveable (trees (map node_tree ys))) (sym split) (one, rest))

pub all_saveable : (items : List XmlNode) (i : ℕ) → length items ≤ i → (AreSaveable (trees (map node_tree (drop i items))) → AreSaveable (trees (map node_tree items))) → AreSaveable (trees (map node_tree items))
all_saveable items i le so_far =
    let nil : drop i items ≡ [] = nil_from_length (drop i items) (omega (arith, length-drop i items)) in
    so_far (subst (λ (ys : List XmlNode). AreSaveable (trees (map node_tree ys))) (sym nil) tt)

pub pairs_turn : (items : List (String Global × String Global)) (i : ℕ) (x : String Global × String Global) → i < length items → x ≡ get_or items i x → IsPair (attribute_bytes x)
    → (AllByRecursion IsPair (map attribute_bytes (drop i items)) → AllByRecursion IsPair (map attribute_bytes items))
    → AllByRecursion IsPair (map attribute_bytes (drop (i + 1) items)) → AllByRecursion IsPair (map attribute_bytes items)
pairs_turn items i x lt is one so_far rest =
    let split : drop i items ≡ x ∷ drop (i + 1) items = drop_more items i x lt ∙ ap (λ (y : String Global × String Global). y ∷ drop (i + 1) items) (sym is) in
    so_far (subst (λ (ys : List (String Global × String Global)). AllByRecursion IsPair (map attribute_bytes ys)) (sym split) (one, rest))

pub all_pairs : (items : List (String Global × String Global)) (i : ℕ) → length items ≤ i
    → (AllByRecursion IsPair (map attribute_bytes (drop i items)) → AllByRecursion IsPair (map attribute_bytes items)) → AllByRecursion IsPair (map attribute_bytes items)
all_pairs items i le so_far =
    let nil : drop i items ≡ [] = nil_from_length (drop i items) (omega (arith, length-drop i items)) in
    so_far (subst (λ (ys : List (String Global × String Global)). AllByRecursion IsPair (map attribute_bytes ys)) (sym nil) tt)

length_pairs : (xs : List (String Global × String Global)) → length (map attribute_bytes xs) ≡ length xs
length_pairs [] = refl
length_pairs (x ∷ xs) = ap suc (length_pairs xs)

pub saveable_element : (n m : List ℕ) (p s : Option (List ℕ)) (k l : List (String Global × String Global)) (items : List XmlNode) → m ≡ n → l ≡ k
    → IsText m × (IfSome p IsText × (IfSome s IsText × AllByRecursion IsPair (map attribute_bytes l)))
    → length k < 2 ^ 64 → length items < 2 ^ 64 → AreSaveable (trees (map node_tree items))
    → IsSaveable (element n p s (map attribute_bytes k) (trees (map node_tree items)))
saveable_element n m p s k l items e f front few short children =
    let count : length (tree_list (trees (map node_tree items))) ≡ length items = ap length (list_back (map node_tree items)) ∙ length_map items in (
      (subst IsText e front.0, (front.1.0, (front.1.1.0, (omega (arith, length_pairs k, few), subst (λ (xs : List (String Global × String Global)). AllByRecursion IsPair (map attribute_bytes xs)) f front.1.1.1)))),
      (omega (arith, count, short), children),
    )

pub attributes_begin : (a b : List ℕ) (items : List (String Global × String Global)) (len : ℕ) → b ≡ a ++ number len → len ≡ length items
    → b ++ flat_map pair (map attribute_bytes items) ≡ a ++ many pair (map attribute_bytes items)
attributes_begin a b items len e is =
    let ps = flat_map pair (map attribute_bytes items) in
    ap (λ (x : List ℕ). x ++ ps) e ∙ append_assoc a (number len) ps ∙ ap (λ (n : ℕ). a ++ (number n ++ ps)) (is ∙ sym (length_pairs items))

pub attribute_turn : (before now all : List ℕ) (items : List (String Global × String Global)) (i : ℕ) (x : String Global × String Global) → i < length items → x ≡ get_or items i x
    → now ≡ before ++ pair (attribute_bytes x)
    → before ++ flat_map pair (map attribute_bytes (drop i items)) ≡ all → now ++ flat_map pair (map attribute_bytes (drop (i + 1) items)) ≡ all
attribute_turn before now all items i x lt is e so_far =
    let split : drop i items ≡ x ∷ drop (i + 1) items = drop_more items i x lt ∙ ap (λ (y : String Global × String Global). y ∷ drop (i + 1) items) (sym is) in
    let rest = flat_map pair (map attribute_bytes (drop (i + 1) items)) in
    ap (λ (bs : List ℕ). bs ++ rest) e ∙ append_assoc before (pair (attribute_bytes x)) rest
    ∙ ap (λ (bs : List ℕ). before ++ bs) (sym (flat_map-cons pair (attribute_bytes x) (map attribute_bytes (drop (i + 1) items))))
    ∙ ap (λ (ys : List (String Global × String Global)). before ++ flat_map pair (map attribute_bytes ys)) (sym split) ∙ so_far

pub attributes_end : (before all : List ℕ) (items : List (String Global × String Global)) (i : ℕ) → length items ≤ i → before ++ flat_map pair (map attribute_bytes (drop i items)) ≡ all → before ≡ all
attributes_end before all items i le so_far =
    let nil : drop i items ≡ [] = nil_from_length (drop i items) (omega (arith, length-drop i items)) in
    sym (append-nil before) ∙ ap (λ (ys : List (String Global × String Global)). before ++ flat_map pair (map attribute_bytes ys)) (sym nil) ∙ so_far
