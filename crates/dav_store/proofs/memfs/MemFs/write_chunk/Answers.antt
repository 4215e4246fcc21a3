use Rattle.std.proofs.Common.{arith}
use Rattle.dav_store.proofs.MadeBefore.{before_written}
use Rattle.dav_store.proofs.EntryLemmas.{nodes_of, last_of}
use Rattle.dav_store.proofs.memfs.MemFs.write_chunk.Goals as goal

pub invariant_of-self-2 : goal.invariant_of-self-2
invariant_of-self-2 c = record {
  made = before_written c.self.inside.next c.file.inside.made c.write_place-place.result c.args.chunk.now c.self.inside.next c.args.now c.self.inside.entries.nodes c.write_file_made_with.new.entries.nodes (nodes_of c.in_default-write_file_made_with.ensures.ok) c.self.invariant.made;
  tree = omega (arith, last_of c.in_default-write_file_made_with.ensures.ok, c.self.invariant.tree);
}
