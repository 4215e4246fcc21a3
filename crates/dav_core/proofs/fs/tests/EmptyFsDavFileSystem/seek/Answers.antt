use Rattle.dav_core.proofs.EmptyStore.{gone_file_is_not_sought}
use Rattle.dav_core.proofs.fs.tests.EmptyFsDavFileSystem.seek.Goals as goal

pub returns-clause-asks : goal.returns-clause-asks
returns-clause-asks c = gone_file_is_not_sought c.args._to c.args.self.now.short
