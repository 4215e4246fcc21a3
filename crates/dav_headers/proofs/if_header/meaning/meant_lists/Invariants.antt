use Rattle.std.proofs.Common.{map, take}
use Rattle.std.specs.List.{AllZip}
use Rattle.dav_headers.specs.IfWritten.{SaysList}
use Rattle.dav_headers.specs.IfTexts.{list_view}
use Rattle.dav_headers.specs.IfView.{list_value}
use Rattle.dav_headers.proofs.if_header.meaning.meant_lists.Given as goal

abbrev pub invariant-loop-list : goal.invariant-loop-list
invariant-loop-list l =
    AllZip SaysList (map list_view (take l.list-index l.lists)) (map list_value l.meant.items)
