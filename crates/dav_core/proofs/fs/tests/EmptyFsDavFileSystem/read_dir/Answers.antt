use Rattle.std.proofs.Common.{sym}
use Rattle.dav_core.proofs.EmptyStore.{root_has_no_members, other_is_not_listed}
use Rattle.dav_core.proofs.fs.tests.EmptyFsDavFileSystem.read_dir.Goals as goal

pub returns-then-is_root-clause-asks : goal.returns-then-is_root-clause-asks
returns-then-is_root-clause-asks c = rw c.new.ensures.items (root_has_no_members _ c.args.self.now.short (sym c.if-is_root.ensures))

pub returns-else-is_root-clause-asks : goal.returns-else-is_root-clause-asks
returns-else-is_root-clause-asks c = other_is_not_listed _ c.args.self.now.short (sym c.if-is_root.ensures)
