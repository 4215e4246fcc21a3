use Rattle.dav_store.proofs.AskingLemmas.{asks_get_quota}
use Rattle.dav_store.proofs.memfs.filesystem.MemFsDavFileSystem.get_quota.Goals as goal

pub returns : goal.returns
returns c = asks_get_quota c.args.self.now
