use Rattle.std.proofs.Common.{take}
use Rattle.serde_json.specs.View.{items_view}
use Rattle.dav_core.specs.Method.{texts_of}
use Rattle.dav_run.specs.Script.{AreItems, IsText}
use Rattle.dav_run.proofs.script.read_names.Given as goal

abbrev pub invariant-loop-item : goal.invariant-loop-item
invariant-loop-item l = AreItems IsText (items_view (take l.item-index l.list)) (texts_of l.names.items)
