use Rattle.std.proofs.Common.{sym, ap, ◌∙◌}
use Rattle.dav_core.specs.Path.{names, parent_of}
use Rattle.dav_core.specs.World.{is_folder_node}
use Rattle.dav_store.proofs.EntryLemmas.{value_at}
use Rattle.dav_store.proofs.EntryLemmas.{nodes_of}
use Rattle.dav_store.proofs.entries.has_folder.Goals as goal

pub returns-in-Some : goal.returns-in-Some
returns-in-Some c =
    c.is_folder.ensures
    ∙ ap is_folder_node (c.in-Some.ensures ∙ sym (value_at c.entries.inside.tree c.entries.invariant.grown c.args.entries.now.nodes (nodes_of c.entries.view_is) (parent_of (names c.args.path.now)) c.find.result.above c.find.ensures.above))

pub returns-in-None : goal.returns-in-None
returns-in-None c =
    ap is_folder_node (c.in-None.ensures ∙ sym (value_at c.entries.inside.tree c.entries.invariant.grown c.args.entries.now.nodes (nodes_of c.entries.view_is) (parent_of (names c.args.path.now)) c.find.result.above c.find.ensures.above))
