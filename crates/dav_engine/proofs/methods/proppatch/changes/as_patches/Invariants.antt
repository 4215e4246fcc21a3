use Rattle.std.proofs.Common.{◌≡◌, map, take}
use Rattle.dav_core.specs.Property.{patch_of}
use Rattle.dav_engine.specs.Proppatch.{as_patch}
use Rattle.dav_engine.proofs.methods.proppatch.changes.as_patches.Given as goal

abbrev pub invariant-loop-change : goal.invariant-loop-change
invariant-loop-change l = map patch_of l.patches.items ≡ map as_patch (take l.change-index l.changes)
