use Rattle.std.proofs.Common.{◌≡◌, ◌++◌}
use Rattle.dav_core.specs.Path.{Path, names, parent_of}
use Rattle.dav_core.specs.PathRef.{names_left}
use Rattle.dav_store.specs.Placed.{found, bare}
use Rattle.dav_store.proofs.entries.finding.find.Given as goal

-- the names so far lead to the node, and all but the last of them to the one above it
abbrev pub invariant-loop-name : goal.invariant-loop-name
invariant-loop-name l = (p : Path) × (p ++ names_left l.name-iterator ≡ names l.fn.path) × (l.at ≡ found (bare l.tree) p) × (l.above ≡ found (bare l.tree) (parent_of p))
