use Rattle.dav_core.proofs.EmptyStore.{gone_file_is_not_written}
use Rattle.dav_core.proofs.fs.tests.EmptyFsDavFileSystem.write_buf.Goals as goal

pub returns-clause-asks : goal.returns-clause-asks
returns-clause-asks g c = gone_file_is_not_written (g.B.Buf.unread c.args._buf) c.args._now c.args.self.now.short
