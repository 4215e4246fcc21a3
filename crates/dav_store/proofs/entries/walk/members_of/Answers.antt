use Rattle.std.proofs.Common.{sym, ◌∙◌}
use Rattle.dav_store.proofs.ListedMembers.{none_listed, segments_listed, members_listed, then_listed}
use Rattle.dav_store.proofs.EntryLemmas.{nodes_of}
use Rattle.dav_store.proofs.KeptCalls.{node_found}
use Rattle.dav_store.proofs.entries.walk.members_of.Goals as goal

pub members_among-requires : goal.members_among-requires
members_among-requires c = segments_listed c.entries.inside.tree c.entries.invariant.grown c.args.entries.now.nodes (nodes_of c.entries.view_is) c.args.path.now c.find_names.result c.find_names.ensures c.in-Some.id c.in-Some.is c.in_ok-children.children.items c.in_ok-children.ensures.children

pub returns-in_default : goal.returns-in_default
returns-in_default c = c.new.ensures.items ∙ none_listed c.entries.inside.tree c.entries.invariant.grown c.args.entries.now.nodes (nodes_of c.entries.view_is) c.args.path.now c.find_names.result c.find_names.ensures c.in_default.is

pub returns : goal.returns
returns c = then_listed c.members_among.result _ _ c.members_among.ensures (members_listed c.entries.inside.tree c.entries.invariant.grown c.args.entries.now.nodes (nodes_of c.entries.view_is) c.args.path.now c.find_names.result c.find_names.ensures c.in-Some.id c.in-Some.is c.in_ok-children.children.items c.in_ok-children.ensures.children c.in_ok-children.ensures.sorted)

pub sorted_children-requires : goal.sorted_children-requires
sorted_children-requires c = node_found c.entries.inside.tree c.entries.invariant.grown c.args.path.now c.in-Some.id (sym c.find_names.ensures ∙ c.in-Some.is)
