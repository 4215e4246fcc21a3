use Rattle.std.proofs.Common.{◌≡◌, not}
use Rattle.std.specs.List.{filter, list_any}
use Rattle.dav_engine.specs.Properties.{is_same_property}
use Rattle.dav_engine.proofs.properties.kind.others.Given as goal

abbrev pub invariant-loop-property : goal.invariant-loop-property
invariant-loop-property l = l.more.items ≡ filter (λ e. not (list_any (λ f. is_same_property f e) l.given)) l.yielded
