use Rattle.std.proofs.Common.{sym, ◌∙◌}
use Rattle.dav_core.specs.Path.{names}
use Rattle.dav_store.proofs.EntryLemmas.{members_below, no_members}
use Rattle.dav_store.proofs.EntryLemmas.{nodes_of}
use Rattle.dav_store.proofs.entries.has_members.Goals as goal

pub returns-in-Some : goal.returns-in-Some
returns-in-Some c =
    c.has_children.ensures ∙ sym (members_below c.entries.inside.tree c.entries.invariant.grown c.args.entries.now.nodes (nodes_of c.entries.view_is) (names c.args.path.now) c.find.result.at c.find.ensures.at c.in-Some.id c.in-Some.is)

pub returns-in-None : goal.returns-in-None
returns-in-None c = sym (no_members c.entries.inside.tree c.entries.invariant.grown c.args.entries.now.nodes (nodes_of c.entries.view_is) (names c.args.path.now) c.find.result.at c.find.ensures.at c.in-None.is)
