use Rattle.std.proofs.Common.{◌≡◌, true, false, suc}
use Rattle.std.specs.Option.{IsSome}
use Rattle.dav_store.specs.Tree.{node, is_within}
use Rattle.dav_store.proofs.tree.nodes.Nodes.lowest.Given as goal

-- as many steps to the parent as there were rounds lead to the top, and no fewer do
abbrev pub invariant-loop : goal.invariant-loop
invariant-loop g l = record {
  there : IsSome (node l.self l.at);
  reaches : is_within (suc l.counter) l.self l.top l.at ≡ true;
  not_before : is_within l.counter l.self l.top l.at ≡ false;
}
