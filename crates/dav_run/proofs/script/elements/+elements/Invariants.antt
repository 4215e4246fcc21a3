use Rattle.std.proofs.Common.{◌+◌, ◌*◌, map, take}
use Rattle.serde_json.specs.Data.{depth, items_depth}
use Rattle.serde_json.specs.View.{view, items_view}
use Rattle.dav_core.specs.ElementView.{node_tree}
use Rattle.dav_run.specs.Script.{AreItems, IsNode}
use Rattle.dav_run.proofs.script.elements.+elements.Given as goal

abbrev pub decreases-read_element : goal.decreases-read_element
decreases-read_element l = 3 * depth (view l.value.now)

abbrev pub decreases-read_nodes : goal.decreases-read_nodes
decreases-read_nodes l = 3 * items_depth (items_view l.list.now) + 2

abbrev pub decreases-read_node : goal.decreases-read_node
decreases-read_node l = 3 * depth (view l.value.now) + 1

abbrev pub invariant-read_nodes-loop-item : goal.invariant-read_nodes-loop-item
invariant-read_nodes-loop-item l = AreItems IsNode (items_view (take l.item-index l.list)) (map node_tree l.nodes.items)
