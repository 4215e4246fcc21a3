use Rattle.std.proofs.Common.{arith, ap}
use Rattle.dav_core.specs.Path.{names}
use Rattle.dav_core.specs.World.{Node}
use Rattle.dav_store.proofs.MadeBefore.{before_added}
use Rattle.dav_store.proofs.EntryLemmas.{nodes_of, last_of}
use Rattle.dav_store.proofs.memfs.MemFs.open_missing.Goals as goal

pub invariant_of-self-2 : goal.invariant_of-self-2
invariant_of-self-2 c = record {
  made = before_added c.self.inside.next (names c.args.path.now) c.new_file-node.result c.args.now c.self.inside.entries.nodes c.add_node.new.entries.nodes (ap (λ (n : Node). n.made) c.new_file-node.ensures) (nodes_of c.in_default.ensures.ok) c.self.invariant.made;
  tree = omega (arith, last_of c.in_default.ensures.ok, c.self.invariant.tree);
}
