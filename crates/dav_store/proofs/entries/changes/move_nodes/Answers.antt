use Rattle.std.proofs.Common.{◌≡◌, true, false, ℕ, nat_eq, cond, None, Ok, refl, sym, ap, subst, ◌∙◌}
use Rattle.std.specs.HashMap.{get}
use Rattle.std.specs.Option.{is_some}
use Rattle.dav_core.specs.Path.{names, parent_of}
use Rattle.dav_store.specs.Entries.{IsKept, held_in}
use Rattle.dav_store.specs.Placed.{placed, bare}
use Rattle.dav_store.proofs.NameLemmas.{named_last}
use Rattle.dav_store.proofs.KeptCalls.{stands_found, folder_there, lacks_memory, lacking_new, answered_new}
use Rattle.dav_store.proofs.KeptMoves.{move_free, view_moved, kept_moved_new, kept_moved_over, made_none, made_some}
use Rattle.dav_store.proofs.BareTrees.{same_bytes}
use Rattle.dav_store.proofs.TreeNumbers.{hands_out_none_moved}
use Rattle.dav_store.proofs.EntryLemmas.{nodes_of, last_of, held}
use Rattle.dav_store.proofs.entries.changes.move_nodes.Goals as goal

pub invariant_of-entries : goal.invariant_of-entries
invariant_of-entries c = subst (λ u. IsKept u c.entries.inside.made) (sym (lacking_new _ _ _ _ c.entries.inside.tree c.move_node.new.self c.move_node.result c.in-Err.e c.in-Err.is c.move_node.ensures)) c.entries.invariant

pub returns-in-Err-clause-err : goal.returns-in-Err-clause-err
returns-in-Err-clause-err c = ap held_in (lacking_new _ _ _ _ c.entries.inside.tree c.move_node.new.self c.move_node.result c.in-Err.e c.in-Err.is c.move_node.ensures) ∙ c.entries.view_is

pub invariant_of-entries-in_default-old : goal.invariant_of-entries-in_default-old
invariant_of-entries-in_default-old c =
    let done = answered_new _ _ _ c.in-Ok.field-0 _ c.entries.inside.tree c.move_node.new.self (Ok c.in-Ok.field-0) refl c.in-Ok.ensures in
    let named = named_last c.args.to.now.bytes c.in_ok-name.name.items c.requires.below (c.in_ok-name.ensures.items ∙ c.file_name_bytes.ensures) in
    let none = made_none c.entries.inside.tree c.entries.invariant.grown c.args.entries.now.nodes (nodes_of c.entries.view_is) (names c.args.to.now) c.in_default-old.ensures in
    subst (λ u. IsKept u c.entries.inside.made) (sym done.0)
    (kept_moved_new c.entries.inside.tree c.entries.inside.made c.entries.invariant c.args.entries.now.nodes (nodes_of c.entries.view_is) (names c.args.from.now) (names c.args.to.now) c.in-Some.id c.in-Some-above.folder (sym c.find.ensures.at ∙ c.in-Some.is)
    (sym c.find-2.ensures.above ∙ c.in-Some-above.is) c.requires.folder c.requires.apart c.in_ok-name.name named.0 named.1 done.2 c.entries.inside.made none (λ q. refl))

pub returns-in_default-old-clause-ok : goal.returns-in_default-old-clause-ok
returns-in_default-old-clause-ok c =
    let done = answered_new _ _ _ c.in-Ok.field-0 _ c.entries.inside.tree c.move_node.new.self (Ok c.in-Ok.field-0) refl c.in-Ok.ensures in
    let named = named_last c.args.to.now.bytes c.in_ok-name.name.items c.requires.below (c.in_ok-name.ensures.items ∙ c.file_name_bytes.ensures) in
    held
    (ap (λ u. placed (bare u)) done.0
    ∙ view_moved c.entries.inside.tree c.entries.inside.made c.entries.invariant c.args.entries.now.nodes (nodes_of c.entries.view_is) (names c.args.from.now) (names c.args.to.now) c.in-Some.id c.in-Some-above.folder (sym c.find.ensures.at ∙ c.in-Some.is)
    (sym c.find-2.ensures.above ∙ c.in-Some-above.is) c.requires.folder c.requires.apart c.in_ok-name.name named.0 named.1 done.2)
    (ap (λ u. u.last) done.0 ∙ (hands_out_none_moved same_bytes c.entries.inside.tree c.in-Some.id c.in-Some-above.folder c.in_ok-name.name).0 ∙ last_of c.entries.view_is)

pub invariant_of-entries-in-Some-old : goal.invariant_of-entries-in-Some-old
invariant_of-entries-in-Some-old c =
    let done = answered_new _ _ _ c.in-Ok.field-0 _ c.entries.inside.tree c.move_node.new.self (Ok c.in-Ok.field-0) refl c.in-Ok.ensures in
    let named = named_last c.args.to.now.bytes c.in_ok-name.name.items c.requires.below (c.in_ok-name.ensures.items ∙ c.file_name_bytes.ensures) in
    let was = made_some c.entries.inside.tree c.entries.invariant.grown c.args.entries.now.nodes (nodes_of c.entries.view_is) (names c.args.to.now) c.in-Some-old.made c.in-Some-old.ensures in
    subst (λ u. IsKept u c.remove.new.self) (sym done.0)
    (kept_moved_over c.entries.inside.tree c.entries.inside.made c.entries.invariant c.args.entries.now.nodes (nodes_of c.entries.view_is) (names c.args.from.now) (names c.args.to.now) c.in-Some.id c.in-Some-above.folder (sym c.find.ensures.at ∙ c.in-Some.is)
    (sym c.find-2.ensures.above ∙ c.in-Some-above.is) c.requires.folder c.requires.apart c.in_ok-name.name named.0 named.1 done.2 was.0 was.1 c.remove.new.self was.2 was.3
    (λ q. c.remove.ensures.updates.0 q ∙ ap (λ (k : ℕ). cond (nat_eq k q) None (get nat_eq c.entries.inside.made q)) (sym was.4)))

pub returns-in-Some-old-clause-ok : goal.returns-in-Some-old-clause-ok
returns-in-Some-old-clause-ok c =
    let done = answered_new _ _ _ c.in-Ok.field-0 _ c.entries.inside.tree c.move_node.new.self (Ok c.in-Ok.field-0) refl c.in-Ok.ensures in
    let named = named_last c.args.to.now.bytes c.in_ok-name.name.items c.requires.below (c.in_ok-name.ensures.items ∙ c.file_name_bytes.ensures) in
    held
    (ap (λ u. placed (bare u)) done.0
    ∙ view_moved c.entries.inside.tree c.entries.inside.made c.entries.invariant c.args.entries.now.nodes (nodes_of c.entries.view_is) (names c.args.from.now) (names c.args.to.now) c.in-Some.id c.in-Some-above.folder (sym c.find.ensures.at ∙ c.in-Some.is)
    (sym c.find-2.ensures.above ∙ c.in-Some-above.is) c.requires.folder c.requires.apart c.in_ok-name.name named.0 named.1 done.2)
    (ap (λ u. u.last) done.0 ∙ (hands_out_none_moved same_bytes c.entries.inside.tree c.in-Some.id c.in-Some-above.folder c.in_ok-name.name).0 ∙ last_of c.entries.view_is)

pub want_of_memory-requires : goal.want_of_memory-requires
want_of_memory-requires c =
    let named = named_last c.args.to.now.bytes c.in_ok-name.name.items c.requires.below (c.in_ok-name.ensures.items ∙ c.file_name_bytes.ensures) in
    lacks_memory _ _ _ _ c.entries.inside.tree c.move_node.new.self c.move_node.result c.in-Err.e
    (move_free c.entries.inside.tree c.entries.inside.made c.entries.invariant c.args.entries.now.nodes (nodes_of c.entries.view_is) (names c.args.from.now) (names c.args.to.now) c.in-Some.id c.in-Some-above.folder (sym c.find.ensures.at ∙ c.in-Some.is)
    (sym c.find-2.ensures.above ∙ c.in-Some-above.is) c.requires.folder c.requires.apart c.see_rooted.ensures c.in_ok-name.name named.0 c.requires.below c.requires.bare)
    c.in-Err.is c.move_node.ensures

pub unreachable-requires : goal.unreachable-requires
unreachable-requires c =
    let some = stands_found c.entries.inside.tree c.entries.invariant.grown c.args.entries.now.nodes (nodes_of c.entries.view_is) (names c.args.from.now) c.requires.there in
    let no : false ≡ true = sym (ap is_some (sym c.find.ensures.at ∙ c.in_default.is)) ∙ some in cc

pub unreachable-requires-in_default-above : goal.unreachable-requires-in_default-above
unreachable-requires-in_default-above c =
    let some = stands_found c.entries.inside.tree c.entries.invariant.grown c.args.entries.now.nodes (nodes_of c.entries.view_is) (parent_of (names c.args.to.now)) (folder_there _ c.requires.folder) in
    let no : false ≡ true = sym (ap is_some (sym c.find-2.ensures.above ∙ c.in_default-above.is)) ∙ some in cc
