use Rattle.std.proofs.Common.{sym, ◌∙◌}
use Rattle.dav_store.proofs.EntryLemmas.{value_at}
use Rattle.dav_store.proofs.EntryLemmas.{nodes_of}
use Rattle.dav_store.proofs.entries.walk.node_at.Goals as goal

pub returns : goal.returns
returns c = c.value.ensures ∙ sym (value_at c.entries.inside.tree c.entries.invariant.grown c.args.entries.now.nodes (nodes_of c.entries.view_is) c.args.path.now c.find_names.result c.find_names.ensures)
