use Rattle.std.proofs.Common.{drop}
use Rattle.dav_engine.specs.ConditionView.{locks_in}
use Rattle.dav_engine.proofs.FoundLemmas.{Rest}
use Rattle.dav_engine.proofs.properties.found.found_properties.Given as goal

-- however the rest of the properties is found, so all are
abbrev pub invariant-loop-property : goal.invariant-loop-property
invariant-loop-property g l =
    let state = g.F.DavFileSystem.state in
    Rest l.writer l.resource.path.now l.resource.meta.now (locks_in g.L.DavLockSystem.locks l.ls) l.fn.properties l.fn.known (state l.fn.fs) (drop l.property-index l.properties) l.known (state l.fs) l.found.items
