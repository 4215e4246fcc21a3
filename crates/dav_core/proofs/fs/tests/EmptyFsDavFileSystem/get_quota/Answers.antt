use Rattle.dav_core.proofs.EmptyStore.{has_no_quota}
use Rattle.dav_core.proofs.fs.tests.EmptyFsDavFileSystem.get_quota.Goals as goal

pub returns : goal.returns
returns c = has_no_quota c.args.self.now.short
