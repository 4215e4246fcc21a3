use Rattle.std.proofs.Common.{refl, sym, ap, ◌∙◌}
use Rattle.dav_core.specs.Path.{names}
use Rattle.dav_core.specs.World.{Node as Seen, is_folder_kind}
use Rattle.dav_core.specs.Calls.{repatched}
use Rattle.dav_core.specs.Property.{Properties, patched}
use Rattle.dav_store.proofs.Walks.{inner}
use Rattle.dav_store.proofs.EntryLemmas.{kept_valued, view_valued, unchanged_none, unchanged_lacking, value_some}
use Rattle.dav_store.proofs.EntryLemmas.{nodes_of, last_of, held, last_with_value}
use Rattle.dav_store.proofs.entries.changes.set_properties_at.Goals as goal

pub invariant_of-entries : goal.invariant_of-entries
invariant_of-entries c =
    kept_valued c.entries.inside.tree c.entries.inside.made c.entries.invariant (names c.args.path.now) c.find.result.at c.find.ensures.at c.in-Some.id c.in-Some.is c.in-Ok.node.now c.set_properties.new.self c.in-Ok.ensures.value
    (ap (λ (n : Seen). is_folder_kind n.kind) c.set_properties.ensures) (ap (λ (n : Seen). n.made) c.set_properties.ensures)

pub returns-in-Ok : goal.returns-in-Ok
returns-in-Ok c n patches found is =
    held
    (view_valued c.entries.inside.tree c.entries.inside.made c.entries.invariant (names c.args.path.now) c.find.result.at c.find.ensures.at c.in-Some.id c.in-Some.is c.in-Ok.node.now c.set_properties.new.self c.in-Ok.ensures.value
    (ap (λ (n : Seen). is_folder_kind n.kind) c.set_properties.ensures) c.args.entries.now.nodes (nodes_of c.entries.view_is) (repatched patches) (c.set_properties.ensures ∙ ap (λ (qs : Properties). record c.in-Ok.node.now { properties = qs }) (is ∙ ap (λ (x : Seen). patched patches x.properties) (inner n c.in-Ok.node.now
    (sym found ∙ value_some c.entries.inside.tree c.entries.invariant.grown c.args.entries.now.nodes (nodes_of c.entries.view_is) (names c.args.path.now) c.find.result.at c.find.ensures.at c.in-Some.id c.in-Some.is ∙ sym c.in-Ok.ensures.value)))))
    (last_with_value c.entries.inside.tree c.in-Some.id c.set_properties.new.self ∙ last_of c.entries.view_is)

pub returns-in_default-get_node_mut : goal.returns-in_default-get_node_mut
returns-in_default-get_node_mut c n patches found is =
    held
    ((nodes_of c.entries.view_is) ∙ unchanged_lacking c.entries.inside.tree c.entries.inside.made c.entries.invariant (names c.args.path.now) c.find.result.at c.find.ensures.at c.args.entries.now.nodes (nodes_of c.entries.view_is) (repatched patches) c.in-Some.id c.in-Some.is c.in_default-get_node_mut.ensures.value)
    (last_of c.entries.view_is)

pub returns-in_default : goal.returns-in_default
returns-in_default c n patches found is =
    held
    (unchanged_none c.entries.inside.tree c.entries.inside.made c.entries.invariant (names c.args.path.now) c.find.result.at c.find.ensures.at c.args.entries.now.nodes (nodes_of c.entries.view_is) (repatched patches) c.in_default.is)
    refl
