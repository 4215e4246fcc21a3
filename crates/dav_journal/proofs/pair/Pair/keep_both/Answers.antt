use Rattle.std.proofs.lemmas.Result.{on_ok_weaker}
use Rattle.dav_journal.proofs.LookLemmas.{looks_leaves, pair_looks}
use Rattle.dav_journal.proofs.pair.Pair.keep_both.Goals as goal

pub returns-in_err-look-clause-any_moment : goal.returns-in_err-look-clause-any_moment
returns-in_err-look-clause-any_moment g c contents kept = looks_leaves g.D.Disk c.args.self.now c.look.new.self contents _ c.look.ensures.looks kept

pub returns-clause-kept : goal.returns-clause-kept
returns-clause-kept g c = on_ok_weaker c.add.result (λ more contents kept. more contents (pair_looks g.D.Disk c.args.self.now c.look.new.self contents c.look.ensures.looks kept)) c.add.ensures.kept

pub returns-clause-any_moment : goal.returns-clause-any_moment
returns-clause-any_moment g c contents kept = c.add.ensures.any_moment contents (pair_looks g.D.Disk c.args.self.now c.look.new.self contents c.look.ensures.looks kept)
