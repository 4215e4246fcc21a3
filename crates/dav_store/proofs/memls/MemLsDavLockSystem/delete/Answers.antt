use Rattle.std.proofs.Common.{List, ◌-◌, ◌∙◌, ap, sym, subst}
use Rattle.std.specs.List.{filter}
use Rattle.dav_core.specs.Path.{names, is_at_or_under}
use Rattle.dav_core.specs.Locks.{Lock, deleted}
use Rattle.dav_store.specs.LockIndex.{HasCounts, IsIndexOf, tally}
use Rattle.dav_store.proofs.IndexCalls.{index_cut, none_deleted}
use Rattle.dav_store.proofs.memls.MemLsDavLockSystem.delete.Goals as goal

pub invariant_of-self : goal.invariant_of-self
invariant_of-self c =
    let ls : List Lock = c.self.inside.locks.items in
    let lowered =
    subst (λ (ms : List Lock). HasCounts c.lower_below.new.index (λ k. tally k ls - tally k (filter (λ l. is_at_or_under (names l.path) (names c.args.path.now)) ms)))
    c.deref.ensures.value (c.lower_below.ensures (λ k. tally k ls) c.self.invariant) in
    index_cut c.lower_below.new.index (names c.args.path.now) ls c.drop_below.new.locks.items lowered (c.drop_below.ensures ∙ ap (λ p. deleted (names p) ls) c.new.ensures)

pub returns-else-may_matter-clause-locks : goal.returns-else-may_matter-clause-locks
returns-else-may_matter-clause-locks c =
    let indexed = subst (λ (ls : List Lock). IsIndexOf c.self.inside.index ls) c.self.view_is c.self.invariant in
    sym (none_deleted (names c.args.path.now) c.args.self.now (c.may_matter.ensures c.args.self.now indexed c.if-may_matter.false))
