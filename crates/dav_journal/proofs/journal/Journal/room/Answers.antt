use Rattle.dav_journal.proofs.journal.Journal.room.Goals as goal

pub returns-in_err-grow-2-clause-kept : goal.returns-in_err-grow-2-clause-kept
returns-in_err-grow-2-clause-kept g c = λ contents kept. c.grow-2.ensures.kept contents (c.grow.ensures.kept contents kept)

pub returns-then-branch-2-clause-kept : goal.returns-then-branch-2-clause-kept
returns-then-branch-2-clause-kept g c = λ contents kept. c.grow-2.ensures.kept contents (c.grow.ensures.kept contents kept)

pub returns-clause-kept : goal.returns-clause-kept
returns-clause-kept g c = λ contents kept. c.grow-2.ensures.kept contents (c.grow.ensures.kept contents kept)
