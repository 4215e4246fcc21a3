use Rattle.std.proofs.Common.{◌≡◌, ◌++◌, map, take}
use Rattle.dav_engine.specs.Proppatch.{failed_status, failed_element, element_by_name}
use Rattle.dav_engine.proofs.methods.proppatch.changes.all_failed.Given as goal

abbrev pub invariant-loop-status : goal.invariant-loop-status
invariant-loop-status l = l.told.items ≡ map (λ r. (failed_status r.0, element_by_name r.1.property)) (take l.status-index l.judged.answered.items)

abbrev pub invariant-loop-change : goal.invariant-loop-change
invariant-loop-change l =
    l.told.items ≡ map (λ r. (failed_status r.0, element_by_name r.1.property)) l.judged.answered.items ++ map (λ c. (424, failed_element c)) (take l.change-index l.judged.stored.items)
