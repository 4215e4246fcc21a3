use Rattle.std.proofs.Common.{map, take}
use Rattle.serde_json.specs.View.{items_view}
use Rattle.dav_run.specs.Script.{AreItems, IsRequest, script_request}
use Rattle.dav_run.proofs.script.read_requests.Given as goal

abbrev pub invariant-loop-item : goal.invariant-loop-item
invariant-loop-item l = AreItems IsRequest (items_view (take l.item-index l.list)) (map script_request l.requests.items)
