use Rattle.std.proofs.Common.{arith}
use Rattle.dav_core.specs.Path.{names}
use Rattle.dav_store.proofs.MadeBefore.{before_emptied}
use Rattle.dav_store.proofs.EntryLemmas.{nodes_of, last_of}
use Rattle.dav_store.proofs.memfs.MemFs.open_found.Goals as goal

pub invariant_of-self : goal.invariant_of-self
invariant_of-self c = record {
  made = before_emptied c.self.inside.next (names c.args.path.now) c.self.inside.next c.args.now c.self.inside.entries.nodes c.empty_at.new.entries.nodes (nodes_of c.empty_at.ensures) c.self.invariant.made;
  tree = omega (arith, last_of c.empty_at.ensures, c.self.invariant.tree);
}
