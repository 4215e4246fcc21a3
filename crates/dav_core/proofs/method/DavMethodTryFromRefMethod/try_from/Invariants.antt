use Rattle.std.proofs.Common.{◌≢◌, ◌<◌}
use Rattle.dav_core.specs.declared.method.DavMethod.{DavMethod}
use Rattle.dav_core.specs.Method.{method_name, place_of}
use Rattle.dav_core.proofs.method.DavMethodTryFromRefMethod.try_from.Given as goal

abbrev pub invariant-loop-method : goal.invariant-loop-method
invariant-loop-method l = (m : DavMethod) → place_of m < l.method-index → l.text ≢ method_name m
