use Rattle.std.proofs.Common.{take}
use Rattle.dav_store.specs.Passing.{PropertiesPass}
use Rattle.dav_store.proofs.properties.passing.all_pass.Given as goal

-- the elements so far pass
abbrev pub invariant-loop-entry : goal.invariant-loop-entry
invariant-loop-entry g l = PropertiesPass (g.T.ElementTest.passes l.test) (take l.entry-index l.entries)
