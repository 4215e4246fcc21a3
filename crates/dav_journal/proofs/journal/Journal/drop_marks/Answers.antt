use Rattle.std.proofs.lemmas.Result.{on_ok_weaker}
use Rattle.dav_journal.proofs.ClearLemmas.{opened_stays}
use Rattle.dav_journal.proofs.journal.Journal.drop_marks.Goals as goal

pub returns-clause-bare : goal.returns-clause-bare
returns-clause-bare g c = on_ok_weaker c.see_no_marks.result
    (λ bare clean opened. bare clean c.in_ok-sync.ensures.synced (opened_stays g.D.Disk _ _ c.sync.ensures.stays opened)) c.see_no_marks.ensures.bare
