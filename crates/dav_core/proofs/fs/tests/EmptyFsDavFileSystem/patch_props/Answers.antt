use Rattle.std.proofs.Common.{true, sym, refl}
use Rattle.dav_core.proofs.EmptyStore.{other_has_no_properties, properties_need_memory}
use Rattle.dav_core.proofs.fs.tests.EmptyFsDavFileSystem.patch_props.Goals as goal

pub returns-then-not-is_root : goal.returns-then-not-is_root
returns-then-not-is_root c = (other_has_no_properties _ _ true c.args.self.now.short (sym c.if-not-is_root.ensures)).0

pub returns : goal.returns
returns c = (properties_need_memory _ _ true c.args.self.now.short _ (sym c.if-not-is_root.ensures) refl).0
