use Rattle.dav_journal.proofs.PairLemmas.{kept_recovers, pair_alone}
use Rattle.dav_journal.proofs.pair.renew_and_crash.Goals as goal

pub returns-in_default-clause-left : goal.returns-in_default-clause-left
returns-in_default-clause-left g c clean contents kept =
    c.renew.ensures.any_moment (c.crash.ensures.clean (clean.0), c.crash-in_default.ensures.clean (clean.1)) contents kept _ _ c.crash.ensures.left c.crash-in_default.ensures.left

pub returns-clause-left : goal.returns-clause-left
returns-clause-left g c clean contents kept =
    c.renew.ensures.any_moment (c.crash-2.ensures.clean (clean.0), c.crash-3.ensures.clean (clean.1)) contents kept _ _ c.crash-2.ensures.left c.crash-3.ensures.left

pub returns-clause-acknowledged : goal.returns-clause-acknowledged
returns-clause-acknowledged g c acked clean contents kept =
    let now = c.in-Ok.ensures.kept (c.crash-2.ensures.clean (clean.0), c.crash-3.ensures.clean (clean.1)) contents kept in
    pair_alone _ _ _ _ now.small (kept_recovers g.D.Disk _ _ now.kept _ c.crash-2.ensures.left) (kept_recovers g.D.Disk _ _ now.spare _ c.crash-3.ensures.left)
