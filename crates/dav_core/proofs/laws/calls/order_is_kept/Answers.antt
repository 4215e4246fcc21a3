use Rattle.dav_core.proofs.NodesAfter.{sorted-prune, adjust_keeps_order, sorted-union, sorted-graft, sorted-moved}
use Rattle.dav_core.proofs.laws.calls.order_is_kept.Goals as goal

pub returns : goal.returns
returns c = record { prune = sorted-prune; adjust = adjust_keeps_order; union = sorted-union; graft = sorted-graft; moved = sorted-moved }
