use Rattle.std.proofs.Common.{◌≡◌, ◌∙◌, List, false, sym, subst, IfOk}
use Rattle.dav_core.specs.Path.{PathText, names}
use Rattle.dav_core.specs.Locks.{Lock, discovered}
use Rattle.dav_store.specs.LockIndex.{IsIndexOf, MattersAlone}
use Rattle.dav_store.proofs.IndexCalls.{none_discovered, discovered_alone}
use Rattle.dav_store.proofs.memls.MemLsDavLockSystem.discover.Goals as goal

pub returns-then-not-may_matter : goal.returns-then-not-may_matter
returns-then-not-may_matter c =
    let indexed = subst (λ (ls : List Lock). IsIndexOf c.self.inside.index ls) c.self.view_is c.self.invariant in
    c.new.ensures.items ∙ sym (none_discovered false (names c.args.path.now) c.args.self.now (c.may_matter.ensures c.args.self.now indexed c.if-not-may_matter.true))

pub returns-in-Some : goal.returns-in-Some
returns-in-Some c =
    let alone =
    subst (λ (ls : List Lock). MattersAlone false (names c.new-2.result) c.in-Some.kept.now ls) (c.deref.ensures.value ∙ c.self.view_is) c.in-Some.ensures in
    let one = subst (λ (ls : List Lock). IfOk c.discover_in.result (λ found. found.items ≡ discovered (names c.new-2.result) ls)) c.from_ref.ensures.value c.discover_in.ensures in
    let all = subst (λ (ms : List Lock). IfOk c.discover_in.result (λ found. found.items ≡ ms)) (discovered_alone false (names c.new-2.result) c.in-Some.kept.now c.args.self.now alone) one in
    subst (λ (p : PathText). IfOk c.discover_in.result (λ found. found.items ≡ discovered (names p) c.args.self.now)) c.new-2.ensures all
