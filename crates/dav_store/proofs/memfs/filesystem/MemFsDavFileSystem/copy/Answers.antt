use Rattle.std.proofs.Common.{arith}
use Rattle.std.proofs.lemmas.Grind.{common_steps}
use Rattle.dav_core.specs.Path.{names}
use Rattle.dav_store.proofs.AskingLemmas.{asks_copy}
use Rattle.dav_store.proofs.memfs.filesystem.MemFsDavFileSystem.copy.Goals as goal

pub returns-in_default : goal.returns-in_default
returns-in_default c = asks_copy (names c.args.from.now) (names c.args.to.now) c.args.now c.args.self.now _ _ (grind (arith, common_steps))

pub returns-then-is_folder : goal.returns-then-is_folder
returns-then-is_folder c = asks_copy (names c.args.from.now) (names c.args.to.now) c.args.now c.args.self.now _ _ (grind (arith, common_steps))

pub returns-then-is_folder-2 : goal.returns-then-is_folder-2
returns-then-is_folder-2 c = asks_copy (names c.args.from.now) (names c.args.to.now) c.args.now c.args.self.now _ _ (grind (arith, common_steps))

pub returns-then-not-has_folder : goal.returns-then-not-has_folder
returns-then-not-has_folder c = asks_copy (names c.args.from.now) (names c.args.to.now) c.args.now c.args.self.now _ _ (grind (arith, common_steps))

pub returns-then-self : goal.returns-then-self
returns-then-self c = asks_copy (names c.args.from.now) (names c.args.to.now) c.args.now c.args.self.now _ _ (grind (arith, common_steps))

pub returns-in_default-copy : goal.returns-in_default-copy
returns-in_default-copy c = asks_copy (names c.args.from.now) (names c.args.to.now) c.args.now c.args.self.now _ _ (grind (arith, common_steps))

pub returns : goal.returns
returns c = asks_copy (names c.args.from.now) (names c.args.to.now) c.args.now c.args.self.now _ _ (grind (arith, common_steps))
