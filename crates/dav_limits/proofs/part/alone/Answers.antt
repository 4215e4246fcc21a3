use Rattle.std.proofs.Common.{sym, ◌∙◌}
use Rattle.dav_core.specs.Path.{names}
use Rattle.dav_limits.proofs.PartLemmas.{amount_elsewhere, amount_single}
use Rattle.dav_limits.proofs.part.alone.Goals as goal

pub returns-then-is_at_or_under : goal.returns-then-is_at_or_under
returns-then-is_at_or_under c =
    let ns = c.args.handler.now.server.state.store.world.nodes in
    let p = names c.args.path.now in
    c.amount_alone.ensures ∙ sym (amount_single (names c.args.top.now) p ns c.see_world.ensures.tree.sorted (sym c.is_at_or_under.ensures ∙ c.if-is_at_or_under.true))

pub returns-else-is_at_or_under : goal.returns-else-is_at_or_under
returns-else-is_at_or_under c =
    c.nothing.ensures
    ∙ sym (amount_elsewhere (names c.args.top.now) (names c.args.path.now) c.args.handler.now.server.state.store.world.nodes (sym c.is_at_or_under.ensures ∙ c.if-is_at_or_under.false))
