use Rattle.std.proofs.Common.{map, take}
use Rattle.serde_json.specs.View.{items_view}
use Rattle.dav_core.specs.ElementView.{attribute_bytes}
use Rattle.dav_run.specs.Script.{AreItems, IsAttribute}
use Rattle.dav_run.proofs.script.elements.read_attribute_list.Given as goal

abbrev pub invariant-loop-item : goal.invariant-loop-item
invariant-loop-item l = AreItems IsAttribute (items_view (take l.item-index l.list)) (map attribute_bytes l.attributes.items)
