use Rattle.dav_journal.proofs.PassedLemmas.{goes_on_passes, only_read, passed_or_own, refused}
use Rattle.dav_journal.proofs.pair.keep_behind_another.Goals as goal

pub returns : goal.returns
returns g c clean contents blocks knows kept goes =
    let earlier = c.args.earlier.now in
    let later = c.args.later.now in
    let passed = goes_on_passes g.D.Disk earlier later contents blocks (g.met.D.Disk.seen_may_stay later.counts.disk) knows kept goes in
    let other = passed_or_own g.D.Disk earlier passed in
    (refused c.keep.result (λ own. other (own clean)) c.keep.ensures.own, only_read other (c.keep.ensures.passed clean))
