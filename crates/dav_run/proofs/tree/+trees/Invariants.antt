use Rattle.std.proofs.Common.{take, map}
use Rattle.std.specs.List.{flat_map}
use Rattle.dav_core.specs.ElementView.{node_tree}
use Rattle.dav_run.specs.TreeData.{Adds, tokens_of, tree_data}
use Rattle.dav_run.proofs.tree.+trees.Given as goal

-- the tokens of the children so far
abbrev pub invariant-write_children-loop-child : goal.invariant-write_children-loop-child
invariant-write_children-loop-child l = Adds l.initial.out l.out (flat_map (λ t. tokens_of (tree_data t)) (map node_tree (take l.child-index l.children)))
