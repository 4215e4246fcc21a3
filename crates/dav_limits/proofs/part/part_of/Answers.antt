use Rattle.std.proofs.Common.{Option, ap, sym, ◌∙◌}
use Rattle.dav_core.specs.Path.{names}
use Rattle.dav_confined.specs.Asked.{AskedView}
use Rattle.dav_store.specs.Used.{amount_of}
use Rattle.dav_limits.specs.Parts.{part_of}
use Rattle.dav_limits.proofs.ReachLemmas.{unread_part}
use Rattle.dav_limits.proofs.part.part_of.Goals as goal

pub returns-in-None : goal.returns-in-None
returns-in-None c =
    let top = names c.args.top.now in
    let ns = c.args.handler.now.server.state.store.world.nodes in
    c.nothing.ensures ∙ unread_part top ns ∙ ap (λ (o : Option AskedView). amount_of (part_of top o ns)) (sym c.in-None.is)
