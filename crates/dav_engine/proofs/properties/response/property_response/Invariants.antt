use Rattle.std.proofs.Common.{◌≡◌, map}
use Rattle.dav_engine.specs.Properties.{property_response}
use Rattle.dav_engine.specs.PropertyView.{group_of}
use Rattle.dav_engine.proofs.properties.response.property_response.Given as goal

abbrev pub invariant-loop-status : goal.invariant-loop-status
invariant-loop-status l = l.response ≡ property_response l.path (map group_of l.yielded)
