-- Element trees: children as lists.
use Rattle.std.proofs.Common.{◌≡◌, List, [], ◌∷◌, refl, ap}
use Rattle.dav_core.specs.Element.{ElementTree, ElementTrees, no_trees, tree_then, tree_list, trees}

pub tree_list_trees : (ts : List ElementTree) → tree_list (trees ts) ≡ ts
tree_list_trees [] = refl
tree_list_trees (t ∷ ts) = ap (λ us. t ∷ us) (tree_list_trees ts)

pub trees_tree_list : (ts : ElementTrees) → trees (tree_list ts) ≡ ts
trees_tree_list no_trees = refl
trees_tree_list (tree_then t ts) = ap (λ us. tree_then t us) (trees_tree_list ts)
