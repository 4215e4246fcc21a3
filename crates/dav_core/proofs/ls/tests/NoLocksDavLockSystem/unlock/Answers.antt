use Rattle.std.proofs.Common.{refl}
use Rattle.dav_core.specs.Path.{names}
use Rattle.dav_core.proofs.LockLemmas.{none_is_named}
use Rattle.dav_core.proofs.ls.tests.NoLocksDavLockSystem.unlock.Goals as goal

pub returns-clause-err : goal.returns-clause-err
returns-clause-err c = (none_is_named c.args._token.now (names c.args._path.now), refl)
