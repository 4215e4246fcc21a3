use Rattle.std.proofs.Common.{◌≡◌, take}
use Rattle.dav_core.specs.Path.{joined}
use Rattle.dav_store.proofs.memfs.loaded.path_of.Given as goal

-- the names so far are joined
abbrev pub invariant-loop-name : goal.invariant-loop-name
invariant-loop-name l = l.bytes.items ≡ joined (take l.name-index l.name-items)
