use Rattle.std.proofs.Common.{◌≡◌}
use Rattle.dav_store.proofs.properties.tree.listed.Given as goal

-- the properties so far are listed
abbrev pub invariant-loop-entry : goal.invariant-loop-entry
invariant-loop-entry l = l.list.items ≡ l.yielded
