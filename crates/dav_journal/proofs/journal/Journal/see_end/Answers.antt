use Rattle.std.proofs.Common.{rules, arith}
use Rattle.dav_journal.proofs.journal.Journal.see_end.Goals as goal

pub returns-then-self-clause-damaged : goal.returns-then-self-clause-damaged
returns-then-self-clause-damaged g c place is clean mixing = (search (rules, is), λ none more. absurd (omega (arith, more, c.if-self.true)))

pub returns-then-reached-self-clause-damaged : goal.returns-then-reached-self-clause-damaged
returns-then-reached-self-clause-damaged g c place is clean mixing =
    let last = c.in_ok-reached.ensures.last clean in (
      search (rules, is),
      λ none more. absurd (omega (arith, none _ c.in_ok-reached.ensures.place c.in_ok-reached.reached (omega arith) (last.some (omega (arith, c.if-reached-self.true))), c.if-reached-self.true)),
    )

pub returns-clause-unmarked : goal.returns-clause-unmarked
returns-clause-unmarked g c clean at is n small h =
    let last = c.in_ok-reached.ensures.last (c.gate.ensures.stays.reads.clean clean) in
    omega (arith, last.most at is n small h, c.if-reached-self.false)
