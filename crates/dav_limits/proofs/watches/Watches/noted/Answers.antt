use Rattle.std.proofs.Common.{◌≡◌, All, sym, ap, subst, ◌∙◌}
use Rattle.std.proofs.lemmas.List.Elements.{All-nil}
use Rattle.std.specs.Option.{option_copied}
use Rattle.std.specs.Vec.Iter.{into_iter_items}
use Rattle.dav_core.specs.Path.{names}
use Rattle.dav_store.specs.Used.{amount_at}
use Rattle.dav_limits.specs.declared.watches.Watch.{Watch}
use Rattle.dav_limits.specs.Watches.{AreExact, IsPart}
use Rattle.dav_limits.proofs.WatchLemmas.{all_first, more_noted, noted_part}
use Rattle.dav_limits.proofs.watches.Watches.noted.Goals as goal

pub loop-watch-init : goal.loop-watch-init
loop-watch-init c =
    let s = c.args.handler.now.server in (
      subst (All (IsPart s c.args.head.now c.in_ok-asked.asked)) (sym c.new-parts.ensures.items) (All-nil (IsPart s c.args.head.now c.in_ok-asked.asked)),
      subst (AreExact s) (sym (c.into_iter-watch-iterator.ensures.into_iter_gives.0 ∙ c.self.view_is)) c.requires,
      λ t x at is. c.in_ok-asked.ensures t x (at ∙ sym c.prefix.ensures) is,
    )

pub loop-watch-preserved-in-Continue-branch-4 : goal.loop-watch-preserved-in-Continue-branch-4
loop-watch-preserved-in-Continue-branch-4 c =
    let s = c.args.handler.now.server in
    let split = all_first (λ (w : Watch). w.amount ≡ amount_at (names w.path) s.state.store.world.nodes) (into_iter_items c.loop-watch.watch-iterator) (into_iter_items c.next.new.self)
    c.in-Some-watch.watch c.in-Some-watch.ensures.steps.0 c.loop-watch.invariant.1 in (
      more_noted s c.args.head.now _ c.loop-watch.parts.items c.push.new.self.items (record { path = c.in-Some-watch.watch.path; amount = c.in-Some-watch.watch.amount; part = c.in-Some-2.part })
          c.loop-watch.invariant.0
          (noted_part s c.args.head.now _ c.in-Some-watch.watch c.in_ok-part.field-0 c.in-Some-2.part c.in-Some.field-0.now c.loop-watch.invariant.2 c.see_world.ensures split.0
          c.in_ok-part.ensures c.in-Some-2.is (sym c.locks.ensures ∙ ap option_copied c.in-Some.is))
          c.in_ok-push.ensures.items,
      split.1,
      c.loop-watch.invariant.2,
    )

pub loop-watch-preserved : goal.loop-watch-preserved
loop-watch-preserved c =
    let s = c.args.handler.now.server in
    let split = all_first (λ (w : Watch). w.amount ≡ amount_at (names w.path) s.state.store.world.nodes) (into_iter_items c.loop-watch.watch-iterator) (into_iter_items c.next.new.self)
    c.in-Some-watch.watch c.in-Some-watch.ensures.steps.0 c.loop-watch.invariant.1 in
    (c.loop-watch.invariant.0, split.1, c.loop-watch.invariant.2)
