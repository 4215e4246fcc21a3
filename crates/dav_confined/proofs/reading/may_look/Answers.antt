use Rattle.std.proofs.Common.{true≢false, sym}
use Rattle.dav_confined.proofs.ReadingLemmas.{at_none, at_some, unread_blind}
use Rattle.dav_confined.proofs.reading.may_look.Goals as goal

pub returns : goal.returns
returns c = λ s x at is who. c.may_look.ensures s x who (at_some _ _ _ c.in-Some.asked c.in-Some.is (c.in_ok-asked.ensures s x at is))

pub returns-in_default : goal.returns-in_default
returns-in_default c = λ s x at is who. (λ yes. absurd (true≢false (sym yes)), λ look. absurd (unread_blind c.args.rules.now s x (at_none _ _ c.in_default.is (c.in_ok-asked.ensures s x at is)) look))
