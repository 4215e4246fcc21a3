use Rattle.dav_engine.proofs.TellingLemmas.{windows_added}
use Rattle.dav_engine.proofs.properties.kind.add_windows.Goals as goal

pub returns : goal.returns
returns c = windows_added c.args.agent.now _ _ c.if-not-holds.ensures c.in_ok-add_asked.ensures
