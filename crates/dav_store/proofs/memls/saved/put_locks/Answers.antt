use Rattle.std.proofs.Common.{◌≡◌, ◌++◌, ◌<◌, ◌^◌, length, subst, sym, ap, ◌∙◌, arith}
use Rattle.dav_core.specs.Locks.{Lock}
use Rattle.dav_saved.specs.Parts.{IsWithin}
use Rattle.dav_saved.specs.Locks.{lock, locks, IsSaveableLock}
use Rattle.dav_saved.proofs.Lists.{begins, turn, ends, all_at, all_turn, all_done}
use Rattle.dav_store.proofs.memls.saved.put_locks.Goals as goal

pub loop-kept-init : goal.loop-kept-init
loop-kept-init c = (begins lock c.args.out.now.items c.put_number.new.out.items c.args.list.now c.in_ok-put_number.ensures, λ levels within rest. rest)

pub loop-kept-preserved : goal.loop-kept-preserved
loop-kept-preserved c =
    let ls = c.args.list.now in
    let i = c.loop-kept.kept-index in
    let x = c.kept-item.result in
    let lt = c.loop-kept-test.true in
    let added : c.put_lock.new.out.items ≡ c.loop-kept.out.items ++ lock x = c.in_ok-put_lock.ensures.added ∙ ap (λ (l : Lock). c.loop-kept.out.items ++ lock l) c.lock.ensures in (
      turn lock c.loop-kept.out.items c.put_lock.new.out.items (c.args.out.now.items ++ locks ls) ls i x lt c.kept-item.is added c.loop-kept.invariant.0,
      λ levels within.
          let here : IsWithin levels x.owner = all_at (λ (l : Lock). IsWithin levels l.owner) ls i x lt c.kept-item.is within in
          let one : IsSaveableLock levels x = subst (IsSaveableLock levels) c.lock.ensures (c.in_ok-put_lock.ensures.saveable levels (subst (λ (l : Lock). IsWithin levels l.owner) (sym c.lock.ensures) here)) in
          all_turn (IsSaveableLock levels) ls i x lt c.kept-item.is one (c.loop-kept.invariant.1 levels within),
    )

pub returns-clause-added : goal.returns-clause-added
returns-clause-added c = ends lock c.loop-kept.out.items (c.args.out.now.items ++ locks c.args.list.now) c.args.list.now c.loop-kept.kept-index c.loop-kept-test.false c.loop-kept.invariant.0

pub returns-clause-saveable : goal.returns-clause-saveable
returns-clause-saveable c =
    let few : length c.args.list.now < 2 ^ 64 = omega arith in
    λ levels within. (few, all_done (IsSaveableLock levels) c.args.list.now c.loop-kept.kept-index c.loop-kept-test.false (c.loop-kept.invariant.1 levels within))
