use Rattle.std.proofs.Common.{sym, subst, arith}
use Rattle.std.proofs.lemmas.Grind.{common_steps}
use Rattle.dav_core.specs.Path.{names}
use Rattle.dav_store.proofs.AskingLemmas.{asks_remove_dir}
use Rattle.dav_store.specs.Makings.{AreMadeBefore}
use Rattle.dav_store.proofs.MadeBefore.{before_pruned, before_touched}
use Rattle.dav_store.proofs.EntryLemmas.{nodes_of, last_of}
use Rattle.dav_store.proofs.memfs.filesystem.MemFsDavFileSystem.remove_dir.Goals as goal

pub returns-then-is_root : goal.returns-then-is_root
returns-then-is_root c = asks_remove_dir (names c.args.path.now) c.args.now c.args.self.now _ _ (grind (arith, common_steps))

pub returns-then-is_none : goal.returns-then-is_none
returns-then-is_none c = asks_remove_dir (names c.args.path.now) c.args.now c.args.self.now _ _ (grind (arith, common_steps))

pub returns-then-is_file : goal.returns-then-is_file
returns-then-is_file c = asks_remove_dir (names c.args.path.now) c.args.now c.args.self.now _ _ (grind (arith, common_steps))

pub returns-then-has_members : goal.returns-then-has_members
returns-then-has_members c = asks_remove_dir (names c.args.path.now) c.args.now c.args.self.now _ _ (grind (arith, common_steps))

pub returns : goal.returns
returns c = asks_remove_dir (names c.args.path.now) c.args.now c.args.self.now _ _ (grind (arith, common_steps))

pub invariant_of-self : goal.invariant_of-self
invariant_of-self c =
    record {
      made = before_touched c.self.inside.next (names c.args.path.now) c.args.now c.prune.new.entries.nodes c.touch_folder.new.entries.nodes (nodes_of c.touch_folder.ensures)
          (subst (AreMadeBefore c.self.inside.next) (sym (nodes_of c.prune.ensures)) (before_pruned c.self.inside.next (names c.args.path.now) c.self.inside.entries.nodes c.self.invariant.made));
      tree = omega (arith, last_of c.touch_folder.ensures, last_of c.prune.ensures, c.self.invariant.tree);
    }
