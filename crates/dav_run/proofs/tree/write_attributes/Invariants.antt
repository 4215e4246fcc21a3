use Rattle.std.proofs.Common.{take, map}
use Rattle.std.specs.List.{flat_map}
use Rattle.dav_core.specs.ElementView.{attribute_bytes}
use Rattle.dav_run.specs.TreeData.{Adds, attribute_data, tokens_of}
use Rattle.dav_run.proofs.tree.write_attributes.Given as goal

-- the tokens of the attributes so far
abbrev pub invariant-loop-name : goal.invariant-loop-name
invariant-loop-name l = Adds l.initial.out l.out (flat_map (λ a. tokens_of (attribute_data a)) (map attribute_bytes (take l.name-index l.attributes)))
