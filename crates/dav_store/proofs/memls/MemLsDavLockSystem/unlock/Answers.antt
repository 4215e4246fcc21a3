use Rattle.std.proofs.Common.{◌≡◌, ◌+◌, List, sym, subst}
use Rattle.dav_core.specs.Path.{names}
use Rattle.dav_core.specs.Locks.{Lock}
use Rattle.dav_store.specs.LockIndex.{Key, IsIndexOf, tally, times, path_keys}
use Rattle.dav_store.proofs.IndexCalls.{index_shrunk}
use Rattle.dav_store.proofs.memls.MemLsDavLockSystem.unlock.Goals as goal

pub invariant_of-self : goal.invariant_of-self
invariant_of-self c = subst (λ (ls : List Lock). IsIndexOf c.self.inside.index ls) (sym c.in_err-lock.ensures.err.1) c.self.invariant

pub invariant_of-self-2 : goal.invariant_of-self-2
invariant_of-self-2 c =
    index_shrunk c.lower.new.index c.self.inside.locks.items c.unlock_in.new.locks.items (λ k. times k (path_keys c.lock.inside.deep (names c.lock.inside.path)))
    (c.lower.ensures (λ k. tally k c.self.inside.locks.items) c.self.invariant)
    (subst (λ (l : Lock). (k : Key) → tally k c.self.inside.locks.items ≡ tally k c.unlock_in.new.locks.items + times k (path_keys l.deep (names l.path))) (sym c.lock.view_is) c.in_ok-lock.ensures.keys)
