use Rattle.std.proofs.Common.{◌+◌, ◌<◌, nat_eq, cond, Some, Ok, refl, sym, ap, subst, ◌∙◌}
use Rattle.dav_core.specs.Path.{names, parent_of}
use Rattle.dav_store.proofs.NameLemmas.{named_last}
use Rattle.dav_store.specs.Entries.{IsKept, held_in}
use Rattle.dav_store.specs.Placed.{placed, bare}
use Rattle.dav_store.proofs.KeptCalls.{stands_found, folder_there, kept_reordered, lacks_memory, put_not_refused, lacking_new, answered_new, kept_put, view_put, below_the_root, on_ok, unmade}
use Rattle.dav_store.proofs.BareTrees.{same_bytes}
use Rattle.dav_store.proofs.TreeNumbers.{next_added}
use Rattle.dav_store.proofs.EntryLemmas.{nodes_of, last_of, held}
use Rattle.dav_core.specs.Numbers.{max_u64}
use Rattle.dav_store.proofs.entries.changes.put_new.Goals as goal

pub invariant_of-entries : goal.invariant_of-entries
invariant_of-entries c = kept_reordered c.entries.inside.tree c.entries.inside.made c.room_for.new.made c.entries.invariant c.room_for.ensures.made

pub invariant_of-entries-in-Err : goal.invariant_of-entries-in-Err
invariant_of-entries-in-Err c =
    subst (λ u. IsKept u c.room_for.new.made) (sym (lacking_new _ _ _ _ c.entries.inside.tree c.add_child.new.self c.add_child.result c.in-Err.e c.in-Err.is c.add_child.ensures))
    (kept_reordered c.entries.inside.tree c.entries.inside.made c.room_for.new.made c.entries.invariant c.room_for.ensures.made)

pub returns-in-Err-clause-err : goal.returns-in-Err-clause-err
returns-in-Err-clause-err c =
    ap held_in (lacking_new _ _ _ _ c.entries.inside.tree c.add_child.new.self c.add_child.result c.in-Err.e c.in-Err.is c.add_child.ensures) ∙ c.entries.view_is

pub invariant_of-entries-2 : goal.invariant_of-entries-2
invariant_of-entries-2 c =
    let done = answered_new _ _ _ c.in-Ok.id _ c.entries.inside.tree c.add_child.new.self (Ok c.in-Ok.id) refl c.in-Ok.ensures in
    let above = sym c.in_ok-folder.ensures.folder in
    let below = below_the_root c.entries.inside.tree c.entries.inside.made c.entries.invariant c.args.entries.now.nodes (nodes_of c.entries.view_is) (names c.args.path.now) (Some c.in_ok-folder.folder) above c.in_ok-folder.folder refl c.requires.free c.requires.folder in
    let named = named_last c.args.path.now.bytes c.in_ok-folder.name.items below c.in_ok-folder.ensures.name in
    let updates = on_ok c.insert.result _ (c.insert.ensures.succeeds c.in_ok-folder.ensures.room) c.insert.ensures.updates in
    subst (λ u. IsKept u c.insert.new.self) (sym done.0)
    (kept_put c.entries.inside.tree c.entries.inside.made c.entries.invariant c.args.entries.now.nodes (nodes_of c.entries.view_is) (names c.args.path.now) (Some c.in_ok-folder.folder) above c.in_ok-folder.folder refl c.requires.free c.requires.folder c.in_ok-folder.name c.args.node named.0 named.1 c.insert.new.self
    (unmade c.entries.inside.tree c.entries.inside.made c.entries.invariant c.args.entries.now.nodes (nodes_of c.entries.view_is) c.args.node.made c.requires.new)
    (λ n. updates.0 n ∙ (λ i. cond (nat_eq (c.creation_number-made.ensures i) n) (Some (done.1 i)) (c.room_for.ensures.made n i))))

pub returns-clause-ok : goal.returns-clause-ok
returns-clause-ok c =
    let done = answered_new _ _ _ c.in-Ok.id _ c.entries.inside.tree c.add_child.new.self (Ok c.in-Ok.id) refl c.in-Ok.ensures in
    let above = sym c.in_ok-folder.ensures.folder in
    let below = below_the_root c.entries.inside.tree c.entries.inside.made c.entries.invariant c.args.entries.now.nodes (nodes_of c.entries.view_is) (names c.args.path.now) (Some c.in_ok-folder.folder) above c.in_ok-folder.folder refl c.requires.free c.requires.folder in
    let named = named_last c.args.path.now.bytes c.in_ok-folder.name.items below c.in_ok-folder.ensures.name in
    held
    (ap (λ u. placed (bare u)) done.0
    ∙ view_put c.entries.inside.tree c.entries.inside.made c.entries.invariant c.args.entries.now.nodes (nodes_of c.entries.view_is) (names c.args.path.now) (Some c.in_ok-folder.folder) above c.in_ok-folder.folder refl c.requires.free c.requires.folder c.in_ok-folder.name c.args.node named.0 named.1)
    (ap (λ u. u.last) done.0 ∙ (next_added same_bytes c.entries.inside.tree c.in_ok-folder.folder c.in_ok-folder.name c.args.node).0 ∙ ap (λ n. n + 1) (last_of c.entries.view_is))

pub want_of_memory-requires : goal.want_of_memory-requires
want_of_memory-requires c =
    let above = sym c.in_ok-folder.ensures.folder in
    let below = below_the_root c.entries.inside.tree c.entries.inside.made c.entries.invariant c.args.entries.now.nodes (nodes_of c.entries.view_is) (names c.args.path.now) (Some c.in_ok-folder.folder) above c.in_ok-folder.folder refl c.requires.free c.requires.folder in
    let named = named_last c.args.path.now.bytes c.in_ok-folder.name.items below c.in_ok-folder.ensures.name in
    let more : c.entries.inside.tree.last < max_u64 = subst (λ n. n < max_u64) (sym (last_of c.entries.view_is)) c.requires.numbers in
    lacks_memory _ _ _ _ c.entries.inside.tree c.add_child.new.self c.add_child.result c.in-Err.e
    (put_not_refused c.entries.inside.tree c.entries.inside.made c.entries.invariant c.args.entries.now.nodes (nodes_of c.entries.view_is) (names c.args.path.now) (Some c.in_ok-folder.folder) above c.in_ok-folder.folder refl c.requires.free c.requires.folder c.in_ok-folder.name c.args.node named.0 named.1 more)
    c.in-Err.is c.add_child.ensures

pub room_for-requires : goal.room_for-requires
room_for-requires c =
    stands_found c.entries.inside.tree c.entries.invariant.grown c.args.entries.now.nodes (nodes_of c.entries.view_is) (parent_of (names c.args.path.now)) (folder_there _ c.requires.folder)
