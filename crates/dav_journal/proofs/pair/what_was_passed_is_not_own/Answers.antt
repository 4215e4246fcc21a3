use Rattle.dav_journal.proofs.PassedLemmas.{passed_or_own}
use Rattle.dav_journal.proofs.pair.what_was_passed_is_not_own.Goals as goal

pub returns : goal.returns
returns g c = passed_or_own g.D.Disk c.args.pair.now
