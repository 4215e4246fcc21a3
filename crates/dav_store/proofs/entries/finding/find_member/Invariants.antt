use Rattle.std.proofs.Common.{◌≡◌, take}
use Rattle.dav_store.specs.Placed.{found, bare}
use Rattle.dav_store.proofs.entries.finding.find_member.Given as goal

-- the names so far lead to the node
abbrev pub invariant-loop-above : goal.invariant-loop-above
invariant-loop-above l = l.at ≡ found (bare l.tree) (take l.above-index l.fn.folder)
