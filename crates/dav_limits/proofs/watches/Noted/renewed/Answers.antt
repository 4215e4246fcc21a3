use Rattle.std.proofs.Common.{◌≡◌, All, sym, subst}
use Rattle.std.proofs.lemmas.List.Elements.{All-nil}
use Rattle.std.specs.Vec.Iter.{into_iter_items}
use Rattle.dav_core.specs.Path.{names}
use Rattle.dav_store.specs.Used.{amount_at}
use Rattle.dav_limits.specs.declared.watches.Watch.{Watch}
use Rattle.dav_limits.specs.Watches.{AreExact, IsPart, NotedView}
use Rattle.dav_limits.proofs.RenewLemmas.{renewed}
use Rattle.dav_limits.proofs.WatchLemmas.{all_first, more_exact}
use Rattle.dav_limits.proofs.watches.Noted.renewed.Goals as goal

pub loop-part-init : goal.loop-part-init
loop-part-init c head body who old reply noted step = (
  subst (AreExact c.args.handler.now.server) (sym c.new-list.ensures.items) (All-nil (λ (w : Watch). w.amount ≡ amount_at (names w.path) c.args.handler.now.server.state.store.world.nodes)),
  subst (All (IsPart old head c.self.inside.asked)) (sym c.into_iter-part-iterator.ensures.into_iter_gives.0) (subst (λ (v : NotedView). All (IsPart old head v.asked) v.parts) (sym c.self.view_is) noted),
)

pub loop-part-preserved-in_default : goal.loop-part-preserved-in_default
loop-part-preserved-in_default c head body who old reply noted step =
    let inv = c.loop-part.invariant head body who old reply noted step in
    (inv.0, (all_first (IsPart old head _) (into_iter_items c.loop-part.part-iterator) (into_iter_items c.next.new.self) c.in-Some.part c.in-Some.ensures.steps.0 inv.1).1)

pub loop-part-preserved : goal.loop-part-preserved
loop-part-preserved c head body who old reply noted step =
    let inv = c.loop-part.invariant head body who old reply noted step in
    (inv.0, (all_first (IsPart old head _) (into_iter_items c.loop-part.part-iterator) (into_iter_items c.next.new.self) c.in-Some.part c.in-Some.ensures.steps.0 inv.1).1)

pub loop-part-preserved-in-Continue-branch-3 : goal.loop-part-preserved-in-Continue-branch-3
loop-part-preserved-in-Continue-branch-3 c head body who old reply noted step =
    let new = c.args.handler.now.server in
    let inv = c.loop-part.invariant head body who old reply noted step in
    let split = all_first (IsPart old head _) (into_iter_items c.loop-part.part-iterator) (into_iter_items c.next.new.self) c.in-Some.part c.in-Some.ensures.steps.0 inv.1 in (
      more_exact new c.loop-part.list.items c.push.new.self.items (record { path = c.in-Some.part.path; amount = c.in-Some-changed.amount }) inv.0
          (renewed head body who old new reply _ c.in-Some.part split.0 c.see_world.ensures step c.in-Some-2.after c.in-Some-changed.amount c.in_ok-after.field-0 c.in_ok-after.ensures c.in-Some-2.is
          c.in-Some-changed.ensures.files c.in-Some-changed.ensures.bytes)
          c.in_ok-push.ensures.items,
      split.1,
    )

pub returns : goal.returns
returns c head body who old reply noted step = (c.loop-part.invariant head body who old reply noted step).0
