use Rattle.dav_core.specs.Path.{names}
use Rattle.dav_store.proofs.AskingLemmas.{asks_set_modified}
use Rattle.dav_store.proofs.memfs.filesystem.MemFsDavFileSystem.set_modified.Goals as goal

pub returns : goal.returns
returns c = asks_set_modified (names c.args._path.now) c.args._time c.args.self.now
