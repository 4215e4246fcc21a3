use Rattle.std.specs.Option.{option_copied}
use Rattle.dav_confined.proofs.ReadingLemmas.{at_none, at_some, may_by_names, may_nothing}
use Rattle.dav_confined.proofs.unlocking.may_unlock.Goals as goal

pub returns-in-Some : goal.returns-in-Some
returns-in-Some c = λ s x at is who.
    may_by_names c.args.rules.now s x (option_copied c.args.who) who c.in-Some.unlock (at_some _ _ _ c.in-Some.unlock c.in-Some.is (c.in_ok-unlock.ensures s x at is)) c.args.locks.now c.may_end_each.result c.may_end_each.ensures

pub returns-in-None : goal.returns-in-None
returns-in-None c = λ s x at is who. may_nothing c.args.rules.now s x c.args.locks.now (at_none _ _ c.in-None.is (c.in_ok-unlock.ensures s x at is))
