use Rattle.std.proofs.Common.{arith}
use Rattle.std.proofs.lemmas.Grind.{common_steps}
use Rattle.dav_store.proofs.AskingLemmas.{asks_flush}
use Rattle.dav_store.proofs.memfs.filesystem.MemFsDavFileSystem.flush.Goals as goal

pub returns-clause-asks : goal.returns-clause-asks
returns-clause-asks c = asks_flush c.args.file.now c.args.self.now _ _ (grind (arith, common_steps))
