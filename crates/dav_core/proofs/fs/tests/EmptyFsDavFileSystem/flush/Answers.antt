use Rattle.dav_core.proofs.EmptyStore.{gone_file_is_not_flushed}
use Rattle.dav_core.proofs.fs.tests.EmptyFsDavFileSystem.flush.Goals as goal

pub returns-clause-asks : goal.returns-clause-asks
returns-clause-asks c = gone_file_is_not_flushed c.args.self.now.short
