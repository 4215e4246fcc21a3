-- A copy over a file that is there.
use Rattle.std.proofs.Common.{◌≡◌, ℕ, ◌+◌, Option, Some, sym, ap, ◌∙◌}
use Rattle.dav_core.specs.Path.{Path}
use Rattle.dav_core.specs.World.{Node, Nodes, adjust, node_at}
use Rattle.dav_core.specs.Calls.{with_copy, copied_over}
use Rattle.dav_store.specs.Store.{Store}

-- the store after the copy
pub copied_in : (old new : Store) (to : Path) (now : ℕ) (source n : Node) (nodes : Nodes)
    → node_at old.world to ≡ Some n → nodes ≡ adjust to (copied_over source old.world.next now) old.world.nodes
    → new ≡ record { world = record { nodes = nodes; next = old.world.next + 1 }; short = old.short }
    → new ≡ record old { world = with_copy old.world to source (node_at old.world to) now }
copied_in old new to now source n nodes found changed is =
    is ∙ ap (λ (ns : Nodes). record { world = record { nodes = ns; next = old.world.next + 1 }; short = old.short }) changed
    ∙ ap (λ (o : Option Node). record old { world = with_copy old.world to source o now }) (sym found)
