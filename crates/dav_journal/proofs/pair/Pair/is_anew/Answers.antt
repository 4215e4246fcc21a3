use Rattle.dav_journal.proofs.LookLemmas.{all_pair_looks, reading_pair_looks}
use Rattle.dav_journal.proofs.pair.Pair.is_anew.Goals as goal

pub returns-in-Ok-clause-all : goal.returns-in-Ok-clause-all
returns-in-Ok-clause-all g c contents = all_pair_looks g.D.Disk c.args.self.now c.see_unturned.new.self contents c.see_unturned.ensures.looks

pub returns-in-Err-Passed-clause-all : goal.returns-in-Err-Passed-clause-all
returns-in-Err-Passed-clause-all g c contents = all_pair_looks g.D.Disk c.args.self.now c.see_unturned.new.self contents c.see_unturned.ensures.looks

pub returns-in-Err : goal.returns-in-Err
returns-in-Err g c = record {
  looks = c.see_unturned.ensures.looks;
  read = λ contents. reading_pair_looks g.D.Disk c.args.self.now c.see_unturned.new.self contents c.see_unturned.ensures.looks;
  all = λ contents. all_pair_looks g.D.Disk c.args.self.now c.see_unturned.new.self contents c.see_unturned.ensures.looks;
  same = tt;
}
