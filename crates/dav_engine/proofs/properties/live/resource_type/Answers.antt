use Rattle.dav_engine.proofs.TellingLemmas.{collection}
use Rattle.dav_engine.proofs.properties.live.resource_type.Goals as goal

pub returns : goal.returns
returns c = rw c.if-not-dir.false (collection c.args.property.now c.in_ok-element.element _ _ c.in_ok-element.ensures.cases c.in_ok-new2.ensures c.in_ok-push_element.ensures.ok)
