use Rattle.dav_journal.proofs.PassedLemmas.{kept_is_known}
use Rattle.dav_journal.proofs.pair.what_is_kept_is_known.Goals as goal

pub returns : goal.returns
returns g c contents kept =
    let p = c.args.pair.now in
    kept_is_known g.D.Disk p contents (g.met.D.Disk.seen_may_stay p.counts.disk) (g.met.D.Disk.seen_may_stay p.spare.disk) kept
