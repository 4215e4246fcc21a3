use Rattle.std.proofs.Common.{◌≡◌, ◌∙◌, ◌++◌, ◌∷◌, [], List, true, ap, sym, subst}
use Rattle.std.specs.Option.{option_copied}
use Rattle.dav_core.specs.Path.{names}
use Rattle.dav_core.specs.Locks.{Lock, new_lock, is_grantable}
use Rattle.dav_store.specs.LockIndex.{IsIndexOf, tally}
use Rattle.dav_store.proofs.IndexCalls.{index_grown}
use Rattle.dav_store.proofs.LockLemmas.{grantable_seen, conflict_seen}
use Rattle.dav_store.proofs.memls.MemLsDavLockSystem.lock.Goals as goal

pub returns-clause-ok : goal.returns-clause-ok
returns-clause-ok c =
    let new : Lock = new_lock c.args.token.now c.args.path.now (option_copied c.args.principal) (option_copied c.args.owner) c.args.timeout c.args.shared c.args.deep c.args.now in
    let kept : c.in-Ok-keep.lock ≡ new = c.in-Ok-keep.ensures.ok.0 ∙ c.in-Ok.ensures in
    let free = grantable_seen new c.args.self.now c.deref.result.now (c.deref.ensures.value ∙ c.self.view_is) (sym c.if-refuses.ensures) in (
      kept,
      subst (λ (l : Lock). is_grantable l c.args.self.now ≡ true) (sym kept) free,
      c.in-Ok-keep.ensures.ok.1 ∙ ap (λ (ls : List Lock). ls ++ c.in-Ok-keep.lock ∷ []) c.self.view_is,
    )

pub returns-then-refuses-clause-err : goal.returns-then-refuses-clause-err
returns-then-refuses-clause-err c =
    let new : Lock = new_lock c.args.token.now c.args.path.now (option_copied c.args.principal) (option_copied c.args.owner) c.args.timeout c.args.shared c.args.deep c.args.now in
    conflict_seen new c.args.self.now c.deref.result.now (c.deref.ensures.value ∙ c.self.view_is) (sym c.if-refuses.ensures)

pub returns-in_default-clause-err : goal.returns-in_default-clause-err
returns-in_default-clause-err c =
    let new : Lock = new_lock c.args.token.now c.args.path.now (option_copied c.args.principal) (option_copied c.args.owner) c.args.timeout c.args.shared c.args.deep c.args.now in
    grantable_seen new c.args.self.now c.deref.result.now (c.deref.ensures.value ∙ c.self.view_is) (sym c.if-refuses.ensures)

pub returns-in_default-keep-clause-err : goal.returns-in_default-keep-clause-err
returns-in_default-keep-clause-err c =
    let new : Lock = new_lock c.args.token.now c.args.path.now (option_copied c.args.principal) (option_copied c.args.owner) c.args.timeout c.args.shared c.args.deep c.args.now in
    grantable_seen new c.args.self.now c.deref.result.now (c.deref.ensures.value ∙ c.self.view_is) (sym c.if-refuses.ensures)

pub invariant_of-self : goal.invariant_of-self
invariant_of-self c = subst (λ (ls : List Lock). IsIndexOf c.self.inside.index ls) (sym c.in_default-keep.ensures.err) c.self.invariant

pub invariant_of-self-2 : goal.invariant_of-self-2
invariant_of-self-2 c =
    let kept = c.in-Ok-keep.ensures.ok.0 ∙ c.in-Ok.ensures in
    index_grown c.raise.new.index c.args.deep (names c.args.path.now) c.self.inside.locks.items c.keep.new.locks.items c.in-Ok-keep.lock
    (c.raise.ensures (λ k. tally k c.self.inside.locks.items) c.self.invariant) c.in-Ok-keep.ensures.ok.1 (ap (λ (l : Lock). l.deep) kept) (ap (λ (l : Lock). names l.path) kept)
