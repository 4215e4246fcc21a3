use Rattle.dav_journal.proofs.BlockLemmas.{rests_recovers}
use Rattle.dav_journal.proofs.journal.keep_and_crash.Goals as goal

pub returns-clause-acknowledged : goal.returns-clause-acknowledged
returns-clause-acknowledged g c acked contents kept =
    let now = c.in-Ok.ensures.kept contents kept in
    rests_recovers _ _ _ _ _ now.small (now.outcomes _ c.crash-2.ensures.left)
