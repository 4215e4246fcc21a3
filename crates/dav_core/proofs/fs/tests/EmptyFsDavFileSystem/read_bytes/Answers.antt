use Rattle.dav_core.proofs.EmptyStore.{gone_file_is_not_read}
use Rattle.dav_core.proofs.fs.tests.EmptyFsDavFileSystem.read_bytes.Goals as goal

pub returns-clause-asks : goal.returns-clause-asks
returns-clause-asks c = gone_file_is_not_read c.args._count c.args.self.now.short
