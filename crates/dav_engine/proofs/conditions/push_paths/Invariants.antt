use Rattle.std.proofs.Common.{◌≡◌, ◌++◌, map, drop}
use Rattle.std.specs.List.{filter_map}
use Rattle.dav_core.specs.Path.{names}
use Rattle.dav_engine.specs.ConditionView.{list_of}
use Rattle.dav_engine.proofs.conditions.push_paths.Given as goal

abbrev pub invariant-loop-list : goal.invariant-loop-list
invariant-loop-list l =
    map names l.paths.items ++ filter_map (λ a. a.path) (map list_of (drop l.list-index l.lists))
    ≡ map names l.initial.paths.items ++ filter_map (λ a. a.path) (map list_of l.lists)
