use Rattle.std.proofs.Common.{sym, subst, ◌∙◌}
use Rattle.dav_core.specs.Path.{names}
use Rattle.dav_limits.specs.Watches.{AreExact}
use Rattle.dav_limits.proofs.WatchLemmas.{known_exact}
use Rattle.dav_limits.proofs.watches.Watches.known.Goals as goal

pub returns-then-is_at_or_under-2 : goal.returns-then-is_at_or_under-2
returns-then-is_at_or_under-2 c s exact =
    known_exact s c.deref-watch-items.result.now c.loop-watch.watch-index c.watch-item.result (names c.args.path.now)
    (subst (AreExact s) (sym (c.deref-watch-items.ensures.value ∙ c.self.view_is)) exact) c.loop-watch-test.true c.watch-item.is
    (sym c.is_at_or_under.ensures ∙ c.if-is_at_or_under.true) (sym c.is_at_or_under-then-is_at_or_under.ensures ∙ c.if-is_at_or_under-2.true)
