use Rattle.dav_core.specs.Property.{key_cmp}
use Rattle.dav_store.proofs.LoadedOrder.{Rises}
use Rattle.dav_store.proofs.properties.saved.are_rising.Given as goal

-- the keys so far rise
abbrev pub invariant-loop-i : goal.invariant-loop-i
invariant-loop-i l = Rises key_cmp l.entries l.i
