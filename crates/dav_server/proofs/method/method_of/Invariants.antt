-- The methods before have other names.
use Rattle.std.proofs.Common.{◌≢◌, ◌<◌}
use Rattle.dav_core.specs.declared.method.DavMethod.{DavMethod}
use Rattle.dav_core.specs.Method.{method_name, place_of}
use Rattle.dav_server.proofs.method.method_of.Given as goal

abbrev pub invariant-loop-method : goal.invariant-loop-method
invariant-loop-method l = (m : DavMethod) → place_of m < l.method-index → l.name ≢ method_name m
