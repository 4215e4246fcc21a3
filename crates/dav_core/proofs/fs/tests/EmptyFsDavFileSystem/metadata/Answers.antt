use Rattle.std.proofs.Common.{sym}
use Rattle.dav_core.proofs.EmptyStore.{root_is_told, other_is_missing}
use Rattle.dav_core.proofs.fs.tests.EmptyFsDavFileSystem.metadata.Goals as goal

pub returns-then-is_root-clause-asks : goal.returns-then-is_root-clause-asks
returns-then-is_root-clause-asks c = root_is_told _ c.args.self.now.short (sym c.if-is_root.ensures)

pub returns-else-is_root-clause-asks : goal.returns-else-is_root-clause-asks
returns-else-is_root-clause-asks c = other_is_missing _ c.args.self.now.short (sym c.if-is_root.ensures)
