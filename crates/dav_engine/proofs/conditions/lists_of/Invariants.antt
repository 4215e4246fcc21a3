use Rattle.std.proofs.Common.{map}
use Rattle.dav_core.specs.Path.{names}
use Rattle.dav_headers.specs.IfView.{list_value}
use Rattle.dav_engine.specs.Conditions.{AreAddressed}
use Rattle.dav_engine.specs.ConditionView.{list_of}
use Rattle.dav_engine.proofs.conditions.lists_of.Given as goal

abbrev pub invariant-loop-list : goal.invariant-loop-list
invariant-loop-list l = AreAddressed l.prefix (names l.own) (map list_value l.yielded) (map list_of l.all.items)
