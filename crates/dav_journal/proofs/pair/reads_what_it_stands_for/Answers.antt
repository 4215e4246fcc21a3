use Rattle.dav_journal.proofs.PairLemmas.{pair_read}
use Rattle.dav_journal.proofs.pair.reads_what_it_stands_for.Goals as goal

pub returns : goal.returns
returns g c contents others read stands = (pair_read g.D.Disk c.args.pair.now contents others read.small read stands).same
