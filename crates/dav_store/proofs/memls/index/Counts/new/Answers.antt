use Rattle.std.proofs.Common.{sym, ap, subst, ◌∙◌}
use Rattle.dav_store.specs.LockIndex.{IsSeatTree}
use Rattle.dav_store.specs.Placed.{bare}
use Rattle.dav_store.specs.LockIndex.{count_of}
use Rattle.dav_store.proofs.SeatLemmas.{tree_single, counts_single}
use Rattle.dav_store.proofs.memls.index.Counts.new.Goals as goal

pub invariant_of-result : goal.invariant_of-result
invariant_of-result c = subst (λ t. IsSeatTree (bare t)) (sym c.in_ok-new.ensures) (tree_single c.bare.result)

pub returns : goal.returns
returns c k = ap (λ t. count_of (bare t) k) c.in_ok-new.ensures ∙ counts_single c.bare.result c.bare.ensures k
