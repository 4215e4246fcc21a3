use Rattle.std.proofs.Common.{◌≡◌, map, take}
use Rattle.dav_engine.specs.Multistatus.{multistatus}
use Rattle.dav_seen.specs.Told.{way_response}
use Rattle.dav_seen.proofs.told.multistatus.Given as goal

abbrev pub invariant-loop-path : goal.invariant-loop-path
invariant-loop-path l = l.element ≡ multistatus (map way_response (take l.path-index l.paths))
