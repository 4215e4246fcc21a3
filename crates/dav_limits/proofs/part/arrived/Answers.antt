use Rattle.std.proofs.Common.{ap, ◌∙◌}
use Rattle.dav_core.specs.Path.{names}
use Rattle.dav_confined.specs.Reached.{is_at_or_under_any}
use Rattle.dav_limits.proofs.PartLemmas.{amount_none}
use Rattle.dav_limits.proofs.part.arrived.Goals as goal

pub returns-in-None : goal.returns-in-None
returns-in-None c =
    c.nothing.ensures
    ∙ amount_none (names c.args.top.now) (λ q. is_at_or_under_any q c.args.destination.now) c.args.handler.now.server.state.store.world.nodes (λ q. ap (is_at_or_under_any q) c.in-None.is)
