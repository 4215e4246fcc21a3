use Rattle.std.proofs.Common.{◌≡◌, ◌++◌, map, drop, Some}
use Rattle.dav_engine.specs.Conditions as spec
use Rattle.dav_engine.specs.ConditionView.{texts_of, list_of}
use Rattle.dav_engine.proofs.conditions.submitted.Given as goal

abbrev pub invariant-loop-list : goal.invariant-loop-list
invariant-loop-list l =
    texts_of l.tokens ++ spec.submitted (Some (map list_of (drop l.list-index l.list-items))) ≡ spec.submitted (Some (map list_of l.list-items))
