use Rattle.std.proofs.Common.{sym}
use Rattle.dav_core.proofs.EmptyStore.{root_is_not_renamed, nothing_becomes_the_root, other_is_not_renamed}
use Rattle.dav_core.proofs.fs.tests.EmptyFsDavFileSystem.rename.Goals as goal

pub returns-then-is_root : goal.returns-then-is_root
returns-then-is_root c = root_is_not_renamed _ _ c.args._now c.args.self.now.short (sym c.if-is_root.ensures)

pub returns-then-is_root-2 : goal.returns-then-is_root-2
returns-then-is_root-2 c = nothing_becomes_the_root _ _ c.args._now c.args.self.now.short (sym c.if-is_root-2.ensures)

pub returns : goal.returns
returns c = other_is_not_renamed _ _ c.args._now c.args.self.now.short (sym c.if-is_root.ensures) (sym c.if-is_root-2.ensures)
