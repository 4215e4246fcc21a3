use Rattle.std.proofs.Common.{sym}
use Rattle.dav_core.proofs.EmptyStore.{root_is_not_copied, other_is_not_copied}
use Rattle.dav_core.proofs.fs.tests.EmptyFsDavFileSystem.copy.Goals as goal

pub returns-then-is_root : goal.returns-then-is_root
returns-then-is_root c = root_is_not_copied _ _ c.args._now c.args.self.now.short (sym c.if-is_root.ensures)

pub returns-else-is_root : goal.returns-else-is_root
returns-else-is_root c = other_is_not_copied _ _ c.args._now c.args.self.now.short (sym c.if-is_root.ensures)
