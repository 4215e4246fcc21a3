use Rattle.std.proofs.Common.{Some, ap, sym, ◌∙◌}
use Rattle.dav_core.specs.Locks.{Lock}
use Rattle.dav_store.specs.LockEnds.{has_ended}
use Rattle.dav_store.proofs.LockLemmas.{first_found, none_found}
use Rattle.dav_store.proofs.memls.ended_in.Goals as goal

pub returns-in-None : goal.returns-in-None
returns-in-None c = sym (none_found (has_ended c.args.now) c.args.locks.now (sym c.in-None.ensures))

pub returns-in-Some : goal.returns-in-Some
returns-in-Some c =
    ap (λ (l : Lock). Some l) c.lock.ensures
    ∙ sym (first_found (has_ended c.args.now) c.args.locks.now c.in-Some.place c.index-locks-place.result (sym c.in-Some.ensures) c.index-locks-place.is)
