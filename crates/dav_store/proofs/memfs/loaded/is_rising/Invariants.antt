use Rattle.dav_core.specs.Path.{path_cmp}
use Rattle.dav_store.proofs.LoadedOrder.{Rises}
use Rattle.dav_store.proofs.memfs.loaded.is_rising.Given as goal

-- the keys so far rise
abbrev pub invariant-loop-i : goal.invariant-loop-i
invariant-loop-i l = Rises path_cmp l.list l.i
