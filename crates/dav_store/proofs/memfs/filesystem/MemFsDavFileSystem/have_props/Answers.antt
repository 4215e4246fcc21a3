use Rattle.std.proofs.Common.{true, Ok, refl}
use Rattle.dav_core.specs.Path.{names}
use Rattle.dav_store.proofs.AskingLemmas.{asks_have_props}
use Rattle.dav_store.proofs.memfs.filesystem.MemFsDavFileSystem.have_props.Goals as goal

pub returns : goal.returns
returns c = (Ok true, asks_have_props (names c.args._path.now) c.args.self.now, refl)
