use Rattle.std.proofs.Common.{◌≡◌, ◌++◌, map, take}
use Rattle.dav_engine.specs.Proppatch.{element_by_name, property_by_name}
use Rattle.dav_engine.proofs.methods.proppatch.changes.all_done.Given as goal

abbrev pub invariant-loop-status : goal.invariant-loop-status
invariant-loop-status l = l.told.items ≡ map (λ r. (r.0, element_by_name r.1.property)) (take l.status-index l.answered)

abbrev pub invariant-loop-status-2 : goal.invariant-loop-status-2
invariant-loop-status-2 l =
    l.told.items ≡ map (λ r. (r.0, element_by_name r.1.property)) l.answered ++ map (λ a. (a.0, property_by_name a.1)) (take l.status-index l.done)
