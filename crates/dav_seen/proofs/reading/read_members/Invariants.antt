use Rattle.std.proofs.Common.{◌≡◌, map, take}
use Rattle.dav_core.specs.ElementView.{node_tree}
use Rattle.dav_seen.specs.Ways.{AreTold}
use Rattle.dav_seen.proofs.reading.read_members.Given as goal

abbrev pub invariant-loop-name : goal.invariant-loop-name
invariant-loop-name l =
    AreTold l.rules l.fn.handler.server l.body l.caller l.path (map (λ n. n.now) (take l.name-index l.members)) (map node_tree l.told.items)
    × (l.handler.server ≡ l.fn.handler.server)
