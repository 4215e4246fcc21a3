use Rattle.std.proofs.Common.{refl}
use Rattle.dav_confined.proofs.ReadingLemmas.{at_none, at_some, unread_leave}
use Rattle.dav_confined.proofs.reading.has_leave.Goals as goal

pub returns-in-Some : goal.returns-in-Some
returns-in-Some c = λ s x at is who. c.has_leave.ensures s x who (at_some _ _ _ c.in-Some.asked c.in-Some.is (c.in_ok-asked.ensures s x at is))

pub returns-in-None : goal.returns-in-None
returns-in-None c = λ s x at is who. (λ yes. unread_leave c.args.rules.now s x (at_none _ _ c.in-None.is (c.in_ok-asked.ensures s x at is)), λ leave. refl)
