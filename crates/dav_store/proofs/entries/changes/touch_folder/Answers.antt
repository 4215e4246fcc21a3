use Rattle.std.proofs.Common.{refl, ap, ◌∙◌}
use Rattle.dav_core.specs.Path.{names, parent_of}
use Rattle.dav_core.specs.World.{Node as Seen, modified_at, is_folder_kind}
use Rattle.dav_store.proofs.EntryLemmas.{kept_valued, view_valued, unchanged_none, unchanged_lacking}
use Rattle.dav_store.proofs.EntryLemmas.{nodes_of, last_of, held, last_with_value}
use Rattle.dav_store.proofs.entries.changes.touch_folder.Goals as goal

pub invariant_of-entries : goal.invariant_of-entries
invariant_of-entries c =
    kept_valued c.entries.inside.tree c.entries.inside.made c.entries.invariant (parent_of (names c.args.path.now)) c.find.result.above c.find.ensures.above c.in-Some.id c.in-Some.is c.in-Ok.node.now c.touch.new.self c.in-Ok.ensures.value
    (ap (λ (n : Seen). is_folder_kind n.kind) c.touch.ensures) (ap (λ (n : Seen). n.made) c.touch.ensures)

pub returns-in-Ok : goal.returns-in-Ok
returns-in-Ok c =
    held
    (view_valued c.entries.inside.tree c.entries.inside.made c.entries.invariant (parent_of (names c.args.path.now)) c.find.result.above c.find.ensures.above c.in-Some.id c.in-Some.is c.in-Ok.node.now c.touch.new.self c.in-Ok.ensures.value
    (ap (λ (n : Seen). is_folder_kind n.kind) c.touch.ensures) c.args.entries.now.nodes (nodes_of c.entries.view_is) (modified_at c.args.now) (c.touch.ensures))
    (last_with_value c.entries.inside.tree c.in-Some.id c.touch.new.self ∙ last_of c.entries.view_is)

pub returns-in_default-get_node_mut : goal.returns-in_default-get_node_mut
returns-in_default-get_node_mut c =
    held
    ((nodes_of c.entries.view_is) ∙ unchanged_lacking c.entries.inside.tree c.entries.inside.made c.entries.invariant (parent_of (names c.args.path.now)) c.find.result.above c.find.ensures.above c.args.entries.now.nodes (nodes_of c.entries.view_is) (modified_at c.args.now) c.in-Some.id c.in-Some.is c.in_default-get_node_mut.ensures.value)
    (last_of c.entries.view_is)

pub returns-in_default : goal.returns-in_default
returns-in_default c =
    held
    (unchanged_none c.entries.inside.tree c.entries.inside.made c.entries.invariant (parent_of (names c.args.path.now)) c.find.result.above c.find.ensures.above c.args.entries.now.nodes (nodes_of c.entries.view_is) (modified_at c.args.now) c.in_default.is)
    refl
