use Rattle.std.proofs.Common.{cond, None, Some, sym, ap, ◌∙◌}
use Rattle.dav_store.proofs.KeptCalls.{file_of_map}
use Rattle.dav_store.proofs.MadeMaps.{if_file}
use Rattle.dav_store.proofs.EntryLemmas.{nodes_of}
use Rattle.dav_store.proofs.entries.file_made_with.Goals as goal

pub returns-then-is_folder : goal.returns-then-is_folder
returns-then-is_folder c =
    sym (file_of_map c.entries.inside.tree c.entries.inside.made c.entries.invariant c.args.made c.args.entries.now.nodes (nodes_of c.entries.view_is) c.copied.result (c.copied.ensures ∙ c.get.ensures.value)
    ∙ ap if_file (sym c.in-Some.ensures) ∙ ap (λ b. cond b None (Some c.in-Some.node.now)) (sym c.if-is_folder.ensures))

pub returns-else-is_folder : goal.returns-else-is_folder
returns-else-is_folder c =
    sym (file_of_map c.entries.inside.tree c.entries.inside.made c.entries.invariant c.args.made c.args.entries.now.nodes (nodes_of c.entries.view_is) c.copied.result (c.copied.ensures ∙ c.get.ensures.value)
    ∙ ap if_file (sym c.in-Some.ensures) ∙ ap (λ b. cond b None (Some c.in-Some.node.now)) (sym c.if-is_folder.ensures))

pub returns-in-None : goal.returns-in-None
returns-in-None c =
    sym (file_of_map c.entries.inside.tree c.entries.inside.made c.entries.invariant c.args.made c.args.entries.now.nodes (nodes_of c.entries.view_is) c.copied.result (c.copied.ensures ∙ c.get.ensures.value)
    ∙ ap if_file (sym c.in-None.ensures))
