use Rattle.std.proofs.Common.{◌≡◌, ◌-◌, length}
use Rattle.dav_store.specs.Tree.{is_within}
use Rattle.dav_store.proofs.tree.nodes.Nodes.is_at_or_below.Given as goal

-- what is left to climb decides
abbrev pub invariant-loop : goal.invariant-loop
invariant-loop g l =
    (is_within (l.end - l.counter) l.self l.top l.at ≡ is_within (length l.self.nodes) l.self l.top l.id)
