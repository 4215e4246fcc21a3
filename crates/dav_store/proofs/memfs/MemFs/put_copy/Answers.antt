use Rattle.std.proofs.Common.{◌≡◌, Some, inl, refl, sym, ap, subst, ◌∙◌, arith}
use Rattle.std.proofs.lemmas.Grind.{common_steps}
use Rattle.dav_core.specs.Path.{names}
use Rattle.dav_core.specs.World.{Node, adjust, node_at}
use Rattle.dav_core.specs.Calls.{copied_over}
use Rattle.dav_store.specs.Store.{Store}
use Rattle.dav_store.specs.Makings.{AreMadeBefore}
use Rattle.dav_store.proofs.CopyLemmas.{copied_in}
use Rattle.dav_store.proofs.MadeBefore.{before_copied, before_added}
use Rattle.dav_store.proofs.EntryLemmas.{nodes_of, last_of}
use Rattle.dav_store.proofs.memfs.MemFs.put_copy.Goals as goal

pub returns-in-Some : goal.returns-in-Some
returns-in-Some c source is =
    let found : node_at c.args.self.now.world (names c.args.to.now) ≡ Some c.in-Some.field-0.now = grind (arith, common_steps) in
    let over = nodes_of c.copy_over.ensures ∙ ap (λ (x : Node). adjust (names c.args.to.now) (λ n. record x { made = n.made }) c.self.inside.entries.nodes) is in
    let changed : c.copy_over.new.entries.nodes ≡ adjust (names c.args.to.now) (copied_over source c.args.self.now.world.next c.args.now) c.args.self.now.world.nodes = over ∙ ap (λ (s : Store). adjust (names c.args.to.now) (copied_over source c.args.self.now.world.next c.args.now) s.world.nodes) c.self.view_is in
    inl (refl, copied_in c.args.self.now _ (names c.args.to.now) c.args.now source c.in-Some.field-0.now c.copy_over.new.entries.nodes found changed (grind (arith, common_steps)))

pub invariant_of-self : goal.invariant_of-self
invariant_of-self c = record {
  made = before_copied c.self.inside.next (names c.args.to.now) c.args.copy c.self.inside.entries.nodes c.copy_over.new.entries.nodes (nodes_of c.copy_over.ensures) c.self.invariant.made;
  tree = omega (arith, last_of c.copy_over.ensures, c.self.invariant.tree);
}

pub add_node-requires-clause-new : goal.add_node-requires-clause-new
add_node-requires-clause-new c = subst (λ m. AreMadeBefore m c.self.inside.entries.nodes) (ap (λ (s : Store). s.world.next) c.self.view_is ∙ sym c.requires.made) c.self.invariant.made

pub invariant_of-self-in-None : goal.invariant_of-self-in-None
invariant_of-self-in-None c = record {
  made = before_added c.self.inside.next (names c.args.to.now) c.args.copy c.args.now c.self.inside.entries.nodes c.add_node.new.entries.nodes (c.requires.made ∙ sym (ap (λ (s : Store). s.world.next) c.self.view_is)) (nodes_of c.in_default.ensures.ok) c.self.invariant.made;
  tree = omega (arith, last_of c.in_default.ensures.ok, c.self.invariant.tree);
}
