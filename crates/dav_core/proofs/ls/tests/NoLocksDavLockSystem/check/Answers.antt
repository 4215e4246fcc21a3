use Rattle.std.proofs.Common.{map, string_bytes}
use Rattle.std.specs.Option.{option_copied}
use Rattle.dav_core.specs.Path.{names}
use Rattle.dav_core.specs.Locks.{requester_of, free}
use Rattle.dav_core.proofs.LockLemmas.{all_is_free}
use Rattle.dav_core.proofs.ls.tests.NoLocksDavLockSystem.check.Goals as goal

pub returns : goal.returns
returns c =
    free (all_is_free c.args._deep (requester_of (map string_bytes c.args._tokens.now) c.args._ignore_principal (option_copied c.args._principal)) (names c.args._path.now))
