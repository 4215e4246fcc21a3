use Rattle.std.proofs.Common.{sym, subst}
use Rattle.dav_store.specs.Tree.{IsRooted}
use Rattle.dav_store.proofs.TreeKept.{rooted_single}
use Rattle.dav_store.proofs.tree.Tree.new.Goals as goal

-- src/tree.rt
pub invariant_of-result : goal.invariant_of-result
invariant_of-result g c = subst IsRooted (sym c.in_ok-new.ensures) (rooted_single c.args.value)
