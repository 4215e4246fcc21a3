use Rattle.std.proofs.Common.{◌≡◌, take}
use Rattle.dav_store.proofs.names.Names.copy.Given as goal

-- the names so far
abbrev pub invariant-loop-name : goal.invariant-loop-name
invariant-loop-name l = l.names.items ≡ take l.name-index l.name-items
