use Rattle.dav_core.proofs.NodesAfter.{find-prune, adjust_changes, find-union, find-graft, find-moved, touched_is_modified, put_stands}
use Rattle.dav_core.proofs.laws.calls.nodes_after.Goals as goal

pub returns : goal.returns
returns c = record {
  prune = find-prune;
  adjust = adjust_changes;
  union = find-union;
  graft = find-graft;
  moved = find-moved;
  touched = touched_is_modified;
  put = put_stands;
}
