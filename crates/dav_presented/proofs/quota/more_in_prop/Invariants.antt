use Rattle.std.proofs.Common.{◌≡◌, ◌++◌, take}
use Rattle.dav_core.specs.Element.{children_of, with_children}
use Rattle.dav_presented.proofs.quota.more_in_prop.Given as goal

abbrev pub invariant-loop-property : goal.invariant-loop-property
invariant-loop-property l = l.filled ≡ with_children l.fn.prop (children_of l.fn.prop ++ take l.property-index l.more)
