use Rattle.std.proofs.Common.{ap, sym, ◌∙◌}
use Rattle.dav_core.specs.Path.{names}
use Rattle.dav_store.specs.Used.{amount_of}
use Rattle.dav_limits.proofs.PartLemmas.{lower, nowhere, upper}
use Rattle.dav_limits.proofs.part.common.Goals as goal

pub returns-then-is_at_or_under : goal.returns-then-is_at_or_under
returns-then-is_at_or_under c =
    c.in_ok-amount_at.ensures
    ∙ ap amount_of (sym (lower (names c.args.top.now) (names c.args.path.now) c.args.handler.now.server.state.store.world.nodes (sym c.is_at_or_under.ensures ∙ c.if-is_at_or_under.true)))

pub returns-then-is_at_or_under-2 : goal.returns-then-is_at_or_under-2
returns-then-is_at_or_under-2 c =
    c.in_ok-amount_at-2.ensures
    ∙ ap amount_of (sym (upper (names c.args.top.now) (names c.args.path.now) c.args.handler.now.server.state.store.world.nodes (sym c.is_at_or_under-2.ensures ∙ c.if-is_at_or_under-2.true)))

pub returns : goal.returns
returns c =
    c.nothing.ensures
    ∙ ap amount_of (sym (nowhere (names c.args.top.now) (names c.args.path.now) c.args.handler.now.server.state.store.world.nodes
    (sym c.is_at_or_under.ensures ∙ c.if-is_at_or_under.false) (sym c.is_at_or_under-2.ensures ∙ c.if-is_at_or_under-2.false)))
