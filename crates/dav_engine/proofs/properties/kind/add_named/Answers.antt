use Rattle.dav_engine.proofs.TellingLemmas.{named_added}
use Rattle.dav_engine.proofs.properties.kind.add_named.Goals as goal

pub returns : goal.returns
returns c = named_added _ _ _ _ _ c.in_ok-add_common.ensures c.in_ok-add_asked.ensures c.in_ok-add_asked-2.ensures c.in_ok-add_asked-3.ensures
