use Rattle.dav_core.proofs.EmptyStore.{gone_file_is_not_told_of}
use Rattle.dav_core.proofs.fs.tests.EmptyFsDavFileSystem.file_metadata.Goals as goal

pub returns-clause-asks : goal.returns-clause-asks
returns-clause-asks c = gone_file_is_not_told_of c.args.self.now.short
