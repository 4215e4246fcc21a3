use Rattle.std.proofs.Common.{◌≡◌, take}
use Rattle.dav_store.specs.Placed.{found, bare}
use Rattle.dav_store.proofs.entries.walk.find_names.Given as goal

-- the names so far lead to the node
abbrev pub invariant-loop-name : goal.invariant-loop-name
invariant-loop-name l = l.at ≡ found (bare l.tree) (take l.name-index l.fn.path)
