use Rattle.std.proofs.Common.{◌∙◌, sym}
use Rattle.dav_core.specs.Path.{names}
use Rattle.dav_core.proofs.LockLemmas.{none_is_discovered}
use Rattle.dav_core.proofs.ls.tests.NoLocksDavLockSystem.discover.Goals as goal

pub returns : goal.returns
returns c = c.new.ensures.items ∙ sym (none_is_discovered (names c.args._path.now))
