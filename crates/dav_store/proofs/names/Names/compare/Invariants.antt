use Rattle.std.proofs.Common.{◌≡◌, drop}
use Rattle.dav_core.specs.Path.{path_cmp}
use Rattle.dav_store.proofs.names.Names.compare.Given as goal

-- the names so far are the same
abbrev pub invariant-loop-i : goal.invariant-loop-i
invariant-loop-i l = path_cmp (drop l.i l.self) (drop l.i l.other) ≡ path_cmp l.self l.other
