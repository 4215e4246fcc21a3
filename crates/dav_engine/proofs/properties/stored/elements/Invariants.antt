use Rattle.std.proofs.Common.{◌≡◌}
use Rattle.std.specs.List.{filter_map}
use Rattle.dav_core.specs.Property.{Property}
use Rattle.dav_engine.proofs.properties.stored.elements.Given as goal

abbrev pub invariant-loop-property : goal.invariant-loop-property
invariant-loop-property l = l.elements.items ≡ filter_map (λ (p : Property). p.xml) l.yielded
