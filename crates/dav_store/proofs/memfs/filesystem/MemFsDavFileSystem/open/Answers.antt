use Rattle.std.proofs.Common.{arith}
use Rattle.std.proofs.lemmas.Grind.{common_steps}
use Rattle.dav_core.specs.Path.{names}
use Rattle.dav_core.specs.Metadata.{opening_of}
use Rattle.dav_store.proofs.AskingLemmas.{asks_open}
use Rattle.dav_store.proofs.memfs.filesystem.MemFsDavFileSystem.open.Goals as goal

pub returns-then-is_some : goal.returns-then-is_some
returns-then-is_some c = asks_open (names c.args.path.now) (opening_of c.args.options.now) c.args.now c.args.self.now _ _ (grind (arith, common_steps))

pub returns-else-is_some : goal.returns-else-is_some
returns-else-is_some c = asks_open (names c.args.path.now) (opening_of c.args.options.now) c.args.now c.args.self.now _ _ (grind (arith, common_steps))
