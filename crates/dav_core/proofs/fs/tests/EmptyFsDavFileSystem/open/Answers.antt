use Rattle.std.proofs.Common.{sym, refl}
use Rattle.dav_core.proofs.EmptyStore.{root_is_no_file, file_has_no_parent, file_is_not_made, file_needs_memory}
use Rattle.dav_core.proofs.fs.tests.EmptyFsDavFileSystem.open.Goals as goal

pub returns-then-is_root : goal.returns-then-is_root
returns-then-is_root c = root_is_no_file _ _ c.args._now c.args.self.now.short (sym c.if-is_root.ensures)

pub returns-then-not-is_in_root : goal.returns-then-not-is_in_root
returns-then-not-is_in_root c = file_has_no_parent _ _ c.args._now c.args.self.now.short (sym c.if-not-is_in_root.ensures)

pub returns-then-not-makes : goal.returns-then-not-makes
returns-then-not-makes c = file_is_not_made _ _ c.args._now c.args.self.now.short (sym c.if-is_root.ensures) (sym c.if-not-makes.ensures)

pub returns : goal.returns
returns c = file_needs_memory _ _ c.args._now c.args.self.now.short _ (sym c.if-is_root.ensures) (sym c.if-not-is_in_root.ensures) (sym c.if-not-makes.ensures) refl
