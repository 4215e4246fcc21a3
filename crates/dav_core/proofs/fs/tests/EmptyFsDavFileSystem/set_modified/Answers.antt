use Rattle.dav_core.proofs.EmptyStore.{sets_no_times}
use Rattle.dav_core.proofs.fs.tests.EmptyFsDavFileSystem.set_modified.Goals as goal

pub returns : goal.returns
returns c = (sets_no_times _ _ c.args.self.now.short).1
