use Rattle.std.proofs.Common.{true, Ok, refl}
use Rattle.dav_core.proofs.EmptyStore.{has_properties}
use Rattle.dav_core.proofs.fs.tests.EmptyFsDavFileSystem.have_props.Goals as goal

pub returns : goal.returns
returns c = (Ok true, has_properties _ c.args.self.now.short, refl)
