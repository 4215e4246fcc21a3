use Rattle.std.proofs.Common.{◌∙◌, List, Some, IsSome, ap, subst, sym, refl, set}
use Rattle.std.specs.Option.{option_map}
use Rattle.dav_core.specs.Path.{names}
use Rattle.dav_core.specs.Locks.{Lock, refreshed_lock}
use Rattle.dav_store.proofs.NamedLemmas.{named_lock_at, refreshed_at}
use Rattle.dav_store.proofs.memls.refresh_in.Goals as goal

pub returns-clause-ok : goal.returns-clause-ok
returns-clause-ok c =
    let f : Lock → Lock = refreshed_lock c.args.timeout c.args.now in
    let ls : List Lock = c.args.locks.now.items in (
      ap (option_map f) (named_lock_at c.args.token.now (names c.args.path.now) ls c.deref.result.now c.in-Some.i c.index.result.now c.deref.ensures.value c.in-Some.ensures c.index.ensures)
          ∙ ap (λ l. Some (f l)) (sym c.lock.ensures) ∙ ap (λ l. Some (f l)) c.in-Ok.ensures.cases ∙ ap Some (sym c.set_timeout.ensures),
      refreshed_at c.args.token.now (names c.args.path.now) c.args.timeout c.args.now ls c.deref.result.now c.in-Some.i c.index_mut.result.now c.deref.ensures.value c.in-Some.ensures
          ∙ ap (λ l. Some (set ls c.in-Some.i (f l))) (sym c.index_mut.ensures.value) ∙ ap (λ l. Some (set ls c.in-Some.i l)) (sym c.set_timeout-2.ensures),
    )

pub returns-in_default-clone-clause-err : goal.returns-in_default-clone-clause-err
returns-in_default-clone-clause-err c =
    let there = named_lock_at c.args.token.now (names c.args.path.now) c.args.locks.now.items c.deref.result.now c.in-Some.i c.index.result.now c.deref.ensures.value c.in-Some.ensures c.index.ensures in
    subst IsSome (sym there) refl
