use Rattle.std.proofs.Common.{take}
use Rattle.serde_json.specs.View.{items_view}
use Rattle.dav_run.specs.Script.{AreItems, IsRefusal}
use Rattle.dav_run.proofs.script.read_refusal_list.Given as goal

abbrev pub invariant-loop-item : goal.invariant-loop-item
invariant-loop-item l = AreItems IsRefusal (items_view (take l.item-index l.list)) l.refusals.items
