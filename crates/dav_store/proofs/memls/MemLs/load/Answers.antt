use Rattle.std.proofs.Common.{arith, subst, ap, ◌∙◌}
use Rattle.dav_saved.specs.Reading.{Gives}
use Rattle.dav_saved.specs.Locks.{locks, locks_at}
use Rattle.dav_saved.proofs.LockLaws.{locks_take, locks_again}
use Rattle.dav_store.proofs.SavedCalls.{whole_of}
use Rattle.dav_store.proofs.memls.MemLs.load.Goals as goal

pub returns-clause-whole : goal.returns-clause-whole
returns-clause-whole c =
    whole_of locks (λ x. (x.0, x.1.now)) c.read_list.result (locks_at c.args.levels c.args.bytes.now) c.args.bytes.now
    (λ y e. (locks_take c.args.levels c.args.bytes.now y (λ i. omega (arith, c.type_inv.bytes i)) e).parts) c.read_list.ensures

pub returns-clause-back : goal.returns-clause-back
returns-clause-back c = λ ls rest fits e. subst (λ f. Gives (λ x. (x.0, x.1.now)) c.read_list.result f) (ap (locks_at c.args.levels) e ∙ locks_again c.args.levels ls rest fits) c.read_list.ensures
