use Rattle.std.proofs.Common.{map, drop}
use Rattle.std.specs.Option.{option_map}
use Rattle.dav_core.specs.Path.{names}
use Rattle.dav_headers.specs.IfView.{condition_value}
use Rattle.dav_engine.specs.Conditions.{all_hold}
use Rattle.dav_engine.specs.ConditionView.{locks_in}
use Rattle.dav_engine.proofs.ConditionLemmas.{Leads}
use Rattle.dav_engine.proofs.conditions.all_hold.Given as goal

abbrev pub invariant-loop-condition : goal.invariant-loop-condition
invariant-loop-condition g l =
    Leads (all_hold (option_map names l.path) (map condition_value l.conditions)) (g.F.DavFileSystem.state l.fn.fs)
    (all_hold (option_map names l.path) (map condition_value (drop l.condition-index l.conditions))) (g.F.DavFileSystem.state l.fs)
    (locks_in g.L.DavLockSystem.locks l.ls)
