use Rattle.std.proofs.Common.{refl, ◌≡◌, Some, ap, ◌∙◌, arith, map}
use Rattle.std.proofs.lemmas.Grind.{common_steps}
use Rattle.dav_core.specs.Path.{names, path_cmp}
use Rattle.dav_core.specs.Property.{patch_of, patched}
use Rattle.dav_store.proofs.AskingLemmas.{asks_patch_props}
use Rattle.std.specs.FinMap.{find}
use Rattle.dav_core.specs.Calls.{repatched}
use Rattle.dav_store.proofs.MadeBefore.{before_adjusted}
use Rattle.dav_store.proofs.EntryLemmas.{nodes_of, last_of}
use Rattle.dav_store.proofs.memfs.filesystem.MemFsDavFileSystem.patch_props.Goals as goal

pub returns-in_default : goal.returns-in_default
returns-in_default c = asks_patch_props (names c.args.path.now) (map patch_of c.args.patches.items) c.args.self.now _ _ (grind (arith, common_steps))

pub returns-in_default-properties_after : goal.returns-in_default-properties_after
returns-in_default-properties_after c = asks_patch_props (names c.args.path.now) (map patch_of c.args.patches.items) c.args.self.now _ _ (grind (arith, common_steps))

pub returns : goal.returns
returns c = asks_patch_props (names c.args.path.now) (map patch_of c.args.patches.items) c.args.self.now _ _ (grind (arith, common_steps))

pub invariant_of-self-2 : goal.invariant_of-self-2
invariant_of-self-2 c =
    let there : find path_cmp (names c.args.path.now) c.self.inside.entries.nodes ≡ Some c.in-Some.node.now = grind (arith, common_steps) in
    let patched_is = c.in-Ok.ensures.0 ∙ ap (patched (map patch_of c.args.patches.items)) c.properties.ensures in
    let set = c.set_properties_at.ensures c.in-Some.node.now (map patch_of c.args.patches.items) there patched_is in
    record {
      made = before_adjusted c.self.inside.next (names c.args.path.now) (repatched (map patch_of c.args.patches.items)) c.self.inside.entries.nodes c.set_properties_at.new.entries.nodes (λ v. refl)
          (nodes_of set) c.self.invariant.made;
      tree = omega (arith, last_of set, c.self.invariant.tree);
    }
