use Rattle.std.proofs.Common.{sym, refl}
use Rattle.dav_core.proofs.EmptyStore.{root_is_there, folder_has_no_parent, folder_needs_memory}
use Rattle.dav_core.proofs.fs.tests.EmptyFsDavFileSystem.create_dir.Goals as goal

pub returns-then-is_root : goal.returns-then-is_root
returns-then-is_root c = root_is_there _ c.args._now c.args.self.now.short (sym c.if-is_root.ensures)

pub returns-then-not-is_in_root : goal.returns-then-not-is_in_root
returns-then-not-is_in_root c = folder_has_no_parent _ c.args._now c.args.self.now.short (sym c.if-not-is_in_root.ensures)

pub returns : goal.returns
returns c = folder_needs_memory _ c.args._now c.args.self.now.short _ (sym c.if-is_root.ensures) (sym c.if-not-is_in_root.ensures) refl
