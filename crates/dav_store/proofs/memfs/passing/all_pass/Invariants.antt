use Rattle.std.proofs.Common.{take}
use Rattle.dav_store.specs.Passing.{ElementsPass}
use Rattle.dav_store.proofs.memfs.passing.all_pass.Given as goal

-- the elements of the nodes so far pass
abbrev pub invariant-loop-path : goal.invariant-loop-path
invariant-loop-path g l = ElementsPass (g.T.ElementTest.passes l.test) (take l.path-index l.entries.nodes)
