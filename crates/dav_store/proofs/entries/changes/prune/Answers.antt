use Rattle.std.proofs.Common.{ℕ, nat_eq, ◌≡◌, true, false, cond, None, refl, sym, ap, subst, ◌∙◌}
use Rattle.std.specs.HashMap.{get}
use Rattle.std.specs.Option.{is_some}
use Rattle.dav_core.specs.Path.{names}
use Rattle.dav_store.specs.Tree.{delete_refusal, deleted}
use Rattle.dav_store.specs.Placed.{placed, bare}
use Rattle.dav_store.specs.Entries.{IsKept}
use Rattle.dav_store.proofs.EntryLemmas.{value_none, value_some}
use Rattle.dav_store.proofs.KeptCalls.{below_root, does_new, not_refused, kept_pruned, view_pruned}
use Rattle.dav_store.proofs.TreeNumbers.{hands_out_none_deleted}
use Rattle.dav_store.proofs.EntryLemmas.{nodes_of, last_of, held}
use Rattle.dav_store.proofs.entries.changes.prune.Goals as goal

pub same-entries : goal.same-entries
same-entries c = refl

pub returns-in_default : goal.returns-in_default
returns-in_default c =
    let no : false ≡ true = sym (ap is_some (value_none c.entries.inside.tree c.entries.invariant.grown c.args.entries.now.nodes (nodes_of c.entries.view_is) (names c.args.path.now) c.find.result.at c.find.ensures.at c.in_default.is)) ∙ c.requires.there in cc

pub same-entries-in_default-get_node : goal.same-entries-in_default-get_node
same-entries-in_default-get_node c = refl

pub returns-in_default-get_node : goal.returns-in_default-get_node
returns-in_default-get_node c =
    let no : false ≡ true = ap is_some (c.in_default-get_node.ensures.value ∙ sym (value_some c.entries.inside.tree c.entries.invariant.grown c.args.entries.now.nodes (nodes_of c.entries.view_is) (names c.args.path.now) c.find.result.at c.find.ensures.at c.in-Some.id c.in-Some.is)) ∙ c.requires.there in cc

pub invariant_of-entries : goal.invariant_of-entries
invariant_of-entries c =
    subst (λ u. IsKept u c.remove.new.self) (sym (does_new (delete_refusal c.entries.inside.tree c.in-Some.id) _ (deleted c.entries.inside.tree c.in-Some.id) c.entries.inside.tree c.delete_node.new.self c.delete_node.result (not_refused c.entries.inside.tree c.entries.inside.made c.entries.invariant c.args.entries.now.nodes (nodes_of c.entries.view_is) (names c.args.path.now) c.find.result.at c.find.ensures.at c.in-Some.id c.in-Some.is (below_root c.entries.inside.tree c.entries.inside.made c.entries.invariant c.args.entries.now.nodes (nodes_of c.entries.view_is) (names c.args.path.now) c.requires.below) c.requires.bare) c.delete_node.ensures))
    (kept_pruned c.entries.inside.tree c.entries.inside.made c.entries.invariant c.args.entries.now.nodes (nodes_of c.entries.view_is) (names c.args.path.now) c.find.result.at c.find.ensures.at c.in-Some.id c.in-Some.is (below_root c.entries.inside.tree c.entries.inside.made c.entries.invariant c.args.entries.now.nodes (nodes_of c.entries.view_is) (names c.args.path.now) c.requires.below) c.requires.bare c.in-Ok.node.now c.remove.new.self c.in-Ok.ensures.value
    (λ q. c.remove.ensures.updates.0 q ∙ ap (λ (k : ℕ). cond (nat_eq k q) None (get nat_eq c.entries.inside.made q)) c.creation_number-made.ensures))

pub returns : goal.returns
returns c =
    held
    (ap (λ u. placed (bare u)) (does_new (delete_refusal c.entries.inside.tree c.in-Some.id) _ (deleted c.entries.inside.tree c.in-Some.id) c.entries.inside.tree c.delete_node.new.self c.delete_node.result (not_refused c.entries.inside.tree c.entries.inside.made c.entries.invariant c.args.entries.now.nodes (nodes_of c.entries.view_is) (names c.args.path.now) c.find.result.at c.find.ensures.at c.in-Some.id c.in-Some.is (below_root c.entries.inside.tree c.entries.inside.made c.entries.invariant c.args.entries.now.nodes (nodes_of c.entries.view_is) (names c.args.path.now) c.requires.below) c.requires.bare) c.delete_node.ensures)
    ∙ view_pruned c.entries.inside.tree c.entries.inside.made c.entries.invariant c.args.entries.now.nodes (nodes_of c.entries.view_is) (names c.args.path.now) c.find.result.at c.find.ensures.at c.in-Some.id c.in-Some.is (below_root c.entries.inside.tree c.entries.inside.made c.entries.invariant c.args.entries.now.nodes (nodes_of c.entries.view_is) (names c.args.path.now) c.requires.below) c.requires.bare)
    (ap (λ u. u.last) (does_new (delete_refusal c.entries.inside.tree c.in-Some.id) _ (deleted c.entries.inside.tree c.in-Some.id) c.entries.inside.tree c.delete_node.new.self c.delete_node.result (not_refused c.entries.inside.tree c.entries.inside.made c.entries.invariant c.args.entries.now.nodes (nodes_of c.entries.view_is) (names c.args.path.now) c.find.result.at c.find.ensures.at c.in-Some.id c.in-Some.is (below_root c.entries.inside.tree c.entries.inside.made c.entries.invariant c.args.entries.now.nodes (nodes_of c.entries.view_is) (names c.args.path.now) c.requires.below) c.requires.bare) c.delete_node.ensures) ∙ (hands_out_none_deleted c.entries.inside.tree c.in-Some.id).0 ∙ last_of c.entries.view_is)
