use Rattle.std.proofs.Common.{ap, arith}
use Rattle.std.proofs.lemmas.Grind.{common_steps}
use Rattle.dav_core.specs.Path.{names}
use Rattle.dav_store.proofs.AskingLemmas.{asks_create_dir}
use Rattle.dav_core.specs.World.{Node}
use Rattle.dav_store.proofs.MadeBefore.{before_added}
use Rattle.dav_store.proofs.EntryLemmas.{nodes_of, last_of}
use Rattle.dav_store.proofs.memfs.filesystem.MemFsDavFileSystem.create_dir.Goals as goal

pub returns-then-is_some : goal.returns-then-is_some
returns-then-is_some c = asks_create_dir (names c.args.path.now) c.args.now c.args.self.now _ _ (grind (arith, common_steps))

pub returns-then-not-has_folder : goal.returns-then-not-has_folder
returns-then-not-has_folder c = asks_create_dir (names c.args.path.now) c.args.now c.args.self.now _ _ (grind (arith, common_steps))

pub returns-then-self : goal.returns-then-self
returns-then-self c = asks_create_dir (names c.args.path.now) c.args.now c.args.self.now _ _ (grind (arith, common_steps))

pub returns-in-Err : goal.returns-in-Err
returns-in-Err c = asks_create_dir (names c.args.path.now) c.args.now c.args.self.now _ _ (grind (arith, common_steps))

pub returns : goal.returns
returns c = asks_create_dir (names c.args.path.now) c.args.now c.args.self.now _ _ (grind (arith, common_steps))

pub invariant_of-self-2 : goal.invariant_of-self-2
invariant_of-self-2 c = record {
  made = before_added c.self.inside.next (names c.args.path.now) c.new_folder-node.result c.args.now c.self.inside.entries.nodes c.add_node.new.entries.nodes (ap (λ (n : Node). n.made) c.new_folder-node.ensures) (nodes_of c.in_default.ensures.ok) c.self.invariant.made;
  tree = omega (arith, last_of c.in_default.ensures.ok, c.self.invariant.tree);
}
