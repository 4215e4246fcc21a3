use Rattle.std.proofs.Common.{sym}
use Rattle.dav_core.proofs.EmptyStore.{root_stays, other_is_not_removed}
use Rattle.dav_core.proofs.fs.tests.EmptyFsDavFileSystem.remove_dir.Goals as goal

pub returns-then-is_root : goal.returns-then-is_root
returns-then-is_root c = (root_stays _ c.args._now c.args.self.now.short (sym c.if-is_root.ensures)).0

pub returns-else-is_root : goal.returns-else-is_root
returns-else-is_root c = (other_is_not_removed _ c.args._now c.args.self.now.short (sym c.if-is_root.ensures)).0
