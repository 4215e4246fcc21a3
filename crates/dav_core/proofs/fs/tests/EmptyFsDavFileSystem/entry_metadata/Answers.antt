use Rattle.dav_core.proofs.EmptyStore.{gone_entry_is_missing}
use Rattle.dav_core.proofs.fs.tests.EmptyFsDavFileSystem.entry_metadata.Goals as goal

pub returns-clause-asks : goal.returns-clause-asks
returns-clause-asks c = gone_entry_is_missing c.args.self.now.short
