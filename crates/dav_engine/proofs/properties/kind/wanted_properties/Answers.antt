use Rattle.dav_engine.proofs.TellingLemmas.{wanted_is}
use Rattle.dav_engine.proofs.properties.kind.wanted_properties.Goals as goal

pub returns : goal.returns
returns c = wanted_is c.args.telling c.args.agent.now c.args.given.items _ _ _ _ c.in_ok-listed.ensures c.deref.ensures.value c.in_ok-more.ensures c.in_ok-all.ensures
