use Rattle.dav_journal.proofs.LookLemmas.{pair_looks}
use Rattle.dav_journal.proofs.pair.Pair.room.Goals as goal

pub returns-clause-kept : goal.returns-clause-kept
returns-clause-kept g c contents kept = c.make_room.ensures.kept contents (pair_looks g.D.Disk c.args.self.now c.look.new.self contents c.look.ensures.looks kept)
