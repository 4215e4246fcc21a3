use Rattle.std.proofs.Common.{refl, sym, ◌∙◌}
use Rattle.dav_core.specs.Calls.{written}
use Rattle.dav_store.proofs.MadeWrites.{unwritten_none, unwritten_lacking, unwritten_folder, kept_same, view_same, kept_after, view_after, view_short}
use Rattle.dav_store.proofs.EntryLemmas.{nodes_of, last_of, held, on_ok_held, on_err_held, last_with_value}
use Rattle.dav_store.proofs.entries.changes.write_file_made_with.Goals as goal

pub returns-in_default-clause-ok : goal.returns-in_default-clause-ok
returns-in_default-clause-ok c =
    held
    (unwritten_none c.entries.inside.tree c.entries.inside.made c.entries.invariant c.args.entries.now.nodes (nodes_of c.entries.view_is) c.args.made c.copied.result (c.copied.ensures ∙ c.get.ensures.value) (written c.args.place c.args.chunk.now c.args.number c.args.now) c.in_default.is)
    refl

pub returns-in_default-get_node_mut-clause-ok : goal.returns-in_default-get_node_mut-clause-ok
returns-in_default-get_node_mut-clause-ok c =
    held
    ((nodes_of c.entries.view_is) ∙ unwritten_lacking c.entries.inside.tree c.entries.inside.made c.entries.invariant c.args.entries.now.nodes (nodes_of c.entries.view_is) c.args.made c.copied.result (c.copied.ensures ∙ c.get.ensures.value) (written c.args.place c.args.chunk.now c.args.number c.args.now) c.in-Some.id c.in-Some.is c.in_default-get_node_mut.ensures.value)
    (last_of c.entries.view_is)

pub invariant_of-entries-then-is_folder : goal.invariant_of-entries-then-is_folder
invariant_of-entries-then-is_folder c = kept_same c.entries.inside.tree c.entries.inside.made c.entries.invariant c.args.entries.now.nodes (nodes_of c.entries.view_is) c.args.made c.copied.result (c.copied.ensures ∙ c.get.ensures.value) (written c.args.place c.args.chunk.now c.args.number c.args.now) c.in-Some.id c.in-Some.is c.in-Ok.node.now c.in-Ok.ensures.value

pub returns-then-is_folder-clause-ok : goal.returns-then-is_folder-clause-ok
returns-then-is_folder-clause-ok c =
    held
    (view_same c.entries.inside.tree c.entries.inside.made c.entries.invariant c.args.entries.now.nodes (nodes_of c.entries.view_is) c.args.made c.copied.result (c.copied.ensures ∙ c.get.ensures.value) (written c.args.place c.args.chunk.now c.args.number c.args.now) c.in-Some.id c.in-Some.is c.in-Ok.node.now c.in-Ok.ensures.value
    ∙ unwritten_folder c.entries.inside.tree c.entries.inside.made c.entries.invariant c.args.entries.now.nodes (nodes_of c.entries.view_is) c.args.made c.copied.result (c.copied.ensures ∙ c.get.ensures.value) (written c.args.place c.args.chunk.now c.args.number c.args.now) c.in-Some.id c.in-Some.is c.in-Ok.node.now c.in-Ok.ensures.value (sym c.is_folder.ensures ∙ c.if-is_folder.true))
    (last_with_value c.entries.inside.tree c.in-Some.id c.in-Ok.node.now ∙ last_of c.entries.view_is)

pub invariant_of-entries-2 : goal.invariant_of-entries-2
invariant_of-entries-2 c = kept_after c.entries.inside.tree c.entries.inside.made c.entries.invariant c.args.entries.now.nodes (nodes_of c.entries.view_is) c.args.made c.copied.result (c.copied.ensures ∙ c.get.ensures.value) (written c.args.place c.args.chunk.now c.args.number c.args.now) c.in-Some.id c.in-Some.is c.in-Ok.node.now c.in-Ok.ensures.value (sym c.is_folder.ensures ∙ c.if-is_folder.false) c.write.new.self c.write.result refl refl c.write.ensures.ok c.write.ensures.err

pub returns-clause-ok : goal.returns-clause-ok
returns-clause-ok c =
    on_ok_held c.write.result _ _
    (view_after c.entries.inside.tree c.entries.inside.made c.entries.invariant c.args.entries.now.nodes (nodes_of c.entries.view_is) c.args.made c.copied.result (c.copied.ensures ∙ c.get.ensures.value) (written c.args.place c.args.chunk.now c.args.number c.args.now) c.in-Some.id c.in-Some.is c.in-Ok.node.now c.in-Ok.ensures.value (sym c.is_folder.ensures ∙ c.if-is_folder.false) c.write.new.self c.write.result refl refl c.write.ensures.ok)
    (last_with_value c.entries.inside.tree c.in-Some.id c.write.new.self ∙ last_of c.entries.view_is)

pub returns-clause-err : goal.returns-clause-err
returns-clause-err c =
    on_err_held c.write.result _ _
    (view_short c.entries.inside.tree c.entries.inside.made c.entries.invariant c.args.entries.now.nodes (nodes_of c.entries.view_is) c.args.made c.copied.result (c.copied.ensures ∙ c.get.ensures.value) (written c.args.place c.args.chunk.now c.args.number c.args.now) c.in-Some.id c.in-Some.is c.in-Ok.node.now c.in-Ok.ensures.value (sym c.is_folder.ensures ∙ c.if-is_folder.false) c.write.new.self c.write.result c.write.ensures.err)
    (last_with_value c.entries.inside.tree c.in-Some.id c.write.new.self ∙ last_of c.entries.view_is)
