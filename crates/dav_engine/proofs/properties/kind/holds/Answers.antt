use Rattle.std.proofs.Common.{◌∙◌}
use Rattle.dav_engine.proofs.TellingLemmas.{starts_holds}
use Rattle.dav_engine.proofs.properties.kind.holds.Goals as goal

pub returns : goal.returns
returns c = starts_holds c.loop-rest.rest.now c.args.needle.now c.loop-rest-test.ensures.value ∙ c.loop-rest.invariant
