use Rattle.std.proofs.Common.{take}
use Rattle.std.specs.List.{AllZip}
use Rattle.dav_store.specs.Tree.{IsListedAs}
use Rattle.dav_store.proofs.tree.node.Node.list.Given as goal

-- the first children are listed
abbrev pub invariant-loop-i : goal.invariant-loop-i
invariant-loop-i g l = AllZip (IsListedAs g.K.Clone.is_clone) (take l.i l.self.children) l.list.items
