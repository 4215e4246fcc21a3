use Rattle.std.proofs.Common.{arith}
use Rattle.std.proofs.lemmas.Grind.{common_steps}
use Rattle.dav_store.proofs.AskingLemmas.{asks_seek}
use Rattle.dav_store.proofs.memfs.filesystem.MemFsDavFileSystem.seek.Goals as goal

pub returns-in_default-clause-asks : goal.returns-in_default-clause-asks
returns-in_default-clause-asks c = asks_seek c.args.file.now c.args.to c.args.self.now _ _ (grind (arith, common_steps))

pub returns-clause-asks : goal.returns-clause-asks
returns-clause-asks c = asks_seek c.args.file.now c.args.to c.args.self.now _ _ (grind (arith, common_steps))
