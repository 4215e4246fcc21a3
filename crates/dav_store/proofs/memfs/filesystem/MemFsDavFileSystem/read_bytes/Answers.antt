use Rattle.std.proofs.Common.{arith}
use Rattle.std.proofs.lemmas.Grind.{common_steps}
use Rattle.dav_store.proofs.AskingLemmas.{asks_read_bytes}
use Rattle.dav_store.proofs.memfs.filesystem.MemFsDavFileSystem.read_bytes.Goals as goal

pub returns-in_default-clause-asks : goal.returns-in_default-clause-asks
returns-in_default-clause-asks c = asks_read_bytes c.args.file.now c.args.count c.args.self.now _ _ (grind (arith, common_steps))

pub returns-then-not-file-clause-asks : goal.returns-then-not-file-clause-asks
returns-then-not-file-clause-asks c = asks_read_bytes c.args.file.now c.args.count c.args.self.now _ _ (grind (arith, common_steps))

pub returns-in_default-read-clause-asks : goal.returns-in_default-read-clause-asks
returns-in_default-read-clause-asks c = asks_read_bytes c.args.file.now c.args.count c.args.self.now _ _ (grind (arith, common_steps))

pub returns-clause-asks : goal.returns-clause-asks
returns-clause-asks c = asks_read_bytes c.args.file.now c.args.count c.args.self.now _ _ (grind (arith, common_steps))
