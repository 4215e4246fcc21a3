use Rattle.dav_store.specs.Placed.{bare}
use Rattle.dav_store.proofs.EntryLemmas.{nodes_of}
use Rattle.dav_store.proofs.SubtreesKept.{sorted_kept}
use Rattle.dav_store.proofs.entries.walk.see_sorted.Goals as goal

pub returns : goal.returns
returns c = sorted_kept (bare c.entries.inside.tree) c.args.entries.now.nodes c.entries.invariant.grown (nodes_of c.entries.view_is)
