use Rattle.std.proofs.Common.{map, take}
use Rattle.std.specs.List.{AllZip}
use Rattle.dav_headers.specs.IfWritten.{SaysCondition}
use Rattle.dav_headers.specs.IfTexts.{condition_view}
use Rattle.dav_headers.specs.IfView.{condition_value}
use Rattle.dav_headers.proofs.if_header.meaning.meant_conditions.Given as goal

abbrev pub invariant-loop-condition : goal.invariant-loop-condition
invariant-loop-condition l =
    AllZip SaysCondition (map condition_view (take l.condition-index l.conditions)) (map condition_value l.meant.items)
