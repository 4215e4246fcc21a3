use Rattle.std.proofs.Common.{arith}
use Rattle.std.proofs.lemmas.Grind.{common_steps}
use Rattle.dav_core.specs.Path.{names}
use Rattle.dav_store.proofs.AskingLemmas.{asks_get_props}
use Rattle.dav_store.proofs.memfs.filesystem.MemFsDavFileSystem.get_props.Goals as goal

pub returns-in_default : goal.returns-in_default
returns-in_default c = asks_get_props (names c.args.path.now) c.args.content c.args.self.now _ _ (grind (arith, common_steps))

pub returns-in_default-list : goal.returns-in_default-list
returns-in_default-list c = asks_get_props (names c.args.path.now) c.args.content c.args.self.now _ _ (grind (arith, common_steps))

pub returns : goal.returns
returns c = asks_get_props (names c.args.path.now) c.args.content c.args.self.now _ _ (grind (arith, common_steps))
