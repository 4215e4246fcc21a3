use Rattle.dav_engine.specs.Follows.{followed}
use Rattle.dav_engine.proofs.KeptLemmas.{quota_known, quota_asked}
use Rattle.dav_engine.proofs.properties.stored.cached_quota.Goals as goal

pub returns-in-Some : goal.returns-in-Some
returns-in-Some g c ls = rw c.in-Some.is (followed (quota_known c.in-Some.quota ls))

pub returns-in-None : goal.returns-in-None
returns-in-None g c ls = rw c.in-None.is (followed (quota_asked c.get_quota.result c.ok.result c.ok.ensures.value c.get_quota.ensures ls))
