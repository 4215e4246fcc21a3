use Rattle.std.proofs.Common.{refl, sym, ap, ◌∙◌}
use Rattle.dav_core.specs.Path.{names}
use Rattle.dav_core.specs.World.{Node as Seen, is_folder_kind}
use Rattle.dav_store.proofs.EntryLemmas.{kept_valued, view_valued, unchanged_none, unchanged_lacking, file_there}
use Rattle.dav_store.proofs.EntryLemmas.{nodes_of, last_of, held, last_with_value}
use Rattle.dav_store.proofs.entries.changes.copy_over.Goals as goal

pub invariant_of-entries : goal.invariant_of-entries
invariant_of-entries c =
    kept_valued c.entries.inside.tree c.entries.inside.made c.entries.invariant (names c.args.path.now) c.find.result.at c.find.ensures.at c.in-Some.id c.in-Some.is c.in-Ok.node.now c.become_like.new.self c.in-Ok.ensures.value
    (ap (λ (n : Seen). is_folder_kind n.kind) c.become_like.ensures ∙ c.requires.copied ∙ sym (file_there c.entries.inside.tree c.entries.invariant.grown c.args.entries.now.nodes (nodes_of c.entries.view_is) (names c.args.path.now) c.find.result.at c.find.ensures.at c.in-Some.id c.in-Some.is c.in-Ok.node.now c.in-Ok.ensures.value c.requires.file)) (ap (λ (n : Seen). n.made) c.become_like.ensures)

pub returns-in-Ok : goal.returns-in-Ok
returns-in-Ok c =
    held
    (view_valued c.entries.inside.tree c.entries.inside.made c.entries.invariant (names c.args.path.now) c.find.result.at c.find.ensures.at c.in-Some.id c.in-Some.is c.in-Ok.node.now c.become_like.new.self c.in-Ok.ensures.value
    (ap (λ (n : Seen). is_folder_kind n.kind) c.become_like.ensures ∙ c.requires.copied ∙ sym (file_there c.entries.inside.tree c.entries.invariant.grown c.args.entries.now.nodes (nodes_of c.entries.view_is) (names c.args.path.now) c.find.result.at c.find.ensures.at c.in-Some.id c.in-Some.is c.in-Ok.node.now c.in-Ok.ensures.value c.requires.file)) c.args.entries.now.nodes (nodes_of c.entries.view_is) (λ n. record c.args.copy { made = n.made }) c.become_like.ensures)
    (last_with_value c.entries.inside.tree c.in-Some.id c.become_like.new.self ∙ last_of c.entries.view_is)

pub returns-in_default-get_node_mut : goal.returns-in_default-get_node_mut
returns-in_default-get_node_mut c =
    held
    ((nodes_of c.entries.view_is) ∙ unchanged_lacking c.entries.inside.tree c.entries.inside.made c.entries.invariant (names c.args.path.now) c.find.result.at c.find.ensures.at c.args.entries.now.nodes (nodes_of c.entries.view_is) (λ n. record c.args.copy { made = n.made }) c.in-Some.id c.in-Some.is c.in_default-get_node_mut.ensures.value)
    (last_of c.entries.view_is)

pub returns-in_default : goal.returns-in_default
returns-in_default c =
    held
    (unchanged_none c.entries.inside.tree c.entries.inside.made c.entries.invariant (names c.args.path.now) c.find.result.at c.find.ensures.at c.args.entries.now.nodes (nodes_of c.entries.view_is) (λ n. record c.args.copy { made = n.made }) c.in_default.is)
    refl
