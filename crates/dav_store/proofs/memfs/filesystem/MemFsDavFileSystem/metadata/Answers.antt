use Rattle.std.proofs.Common.{arith}
use Rattle.std.proofs.lemmas.Grind.{common_steps}
use Rattle.dav_core.specs.Path.{names}
use Rattle.dav_store.proofs.AskingLemmas.{asks_metadata}
use Rattle.dav_store.proofs.memfs.filesystem.MemFsDavFileSystem.metadata.Goals as goal

pub returns-clause-asks : goal.returns-clause-asks
returns-clause-asks c = asks_metadata (names c.args.path.now) c.args.self.now _ _ (grind (arith, common_steps))
