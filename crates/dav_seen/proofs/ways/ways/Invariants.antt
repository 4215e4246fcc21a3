use Rattle.std.proofs.Common.{◌≡◌, ◌∷◌, true}
use Rattle.dav_engine.specs.Folder.{closed}
use Rattle.dav_seen.proofs.ways.ways.Given as goal

abbrev pub invariant-loop-member : goal.invariant-loop-member
invariant-loop-member l = l.paths.items ≡ closed true l.path ∷ l.yielded
