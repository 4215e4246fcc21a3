use Rattle.dav_core.proofs.EmptyStore.{gone_file_is_not_written}
use Rattle.dav_core.proofs.fs.tests.EmptyFsDavFileSystem.write_bytes.Goals as goal

pub returns-clause-asks : goal.returns-clause-asks
returns-clause-asks c = gone_file_is_not_written c.args._bytes c.args._now c.args.self.now.short
