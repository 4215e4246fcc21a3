use Rattle.std.proofs.Common.{◌≡◌, ◌&&◌, true, Contains, sym, refl, subst}
use Rattle.std.specs.List.{list_any}
use Rattle.dav_core.specs.Path.{names}
use Rattle.dav_core.specs.Locks.{Lock, covers, is_held, conflicts}
use Rattle.dav_store.specs.LockCalls.{requester_in}
use Rattle.dav_store.proofs.LockLemmas.{free_if_none, conflict_if_some}
use Rattle.dav_store.proofs.memls.conflict_in.Goals as goal

pub returns-in-None : goal.returns-in-None
returns-in-None c =
    free_if_none c.args.deep (requester_in c.args.who) (names c.args.path.now) c.args.locks.now
    (list_any (λ l. covers l (names c.args.path.now) && is_held (requester_in c.args.who) l) c.args.locks.now) refl (sym c.in-None.ensures)

pub returns-in-Some : goal.returns-in-Some
returns-in-Some c =
    let at = conflict_if_some c.args.deep (requester_in c.args.who) (names c.args.path.now) c.args.locks.now
    (list_any (λ l. covers l (names c.args.path.now) && is_held (requester_in c.args.who) l) c.args.locks.now) c.in-Some.i c.index-locks-i.result refl (sym c.in-Some.ensures) c.index-locks-i.is in
    subst (λ (l : Lock). Contains c.args.locks.now l × (conflicts c.args.deep (requester_in c.args.who) (names c.args.path.now) c.args.locks.now l ≡ true)) (sym c.lock.ensures) at
