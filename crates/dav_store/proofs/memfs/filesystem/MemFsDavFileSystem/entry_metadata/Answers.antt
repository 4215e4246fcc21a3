use Rattle.std.proofs.Common.{◌++◌, ◌∷◌, [], arith}
use Rattle.std.proofs.lemmas.Grind.{common_steps}
use Rattle.dav_store.proofs.AskingLemmas.{asks_entry_metadata}
use Rattle.dav_store.proofs.memfs.filesystem.MemFsDavFileSystem.entry_metadata.Goals as goal

pub returns-clause-asks : goal.returns-clause-asks
returns-clause-asks c = asks_entry_metadata (c.args.entry.now.folder ++ c.args.entry.now.name ∷ []) c.args.self.now _ _ (grind (arith, common_steps))
