use Rattle.dav_core.proofs.EmptyStore.{nothing_has_a_property}
use Rattle.dav_core.proofs.fs.tests.EmptyFsDavFileSystem.get_prop.Goals as goal

pub returns : goal.returns
returns c = nothing_has_a_property _ _ c.args.self.now.short
