use Rattle.std.proofs.Common.{subst, ◌≡◌, true, false, [], ◌∷◌, Option, None, Some, refl, sym, ap, ◌∙◌, append-nil, arith}
use Rattle.std.specs.Option.{is_some}
use Rattle.std.proofs.lemmas.Grind.{common_steps}
use Rattle.dav_core.specs.Path.{Path, names, rest_after, is_same_path, has_names}
use Rattle.dav_core.proofs.Theorems.{from_rest, path-itself}
use Rattle.dav_store.proofs.AskingLemmas.{asks_rename}
use Rattle.dav_store.specs.Makings.{AreMadeBefore}
use Rattle.dav_store.proofs.MadeBefore.{before_moved, before_touched}
use Rattle.dav_store.proofs.EntryLemmas.{nodes_of, last_of}
use Rattle.dav_store.proofs.memfs.filesystem.MemFsDavFileSystem.rename.Goals as goal

-- a path that isn't another, nor under it, isn't at or under it
apart : (p q : Path) (o : Option Path) → rest_after p q ≡ o → is_same_path p q ≡ false → has_names o ≡ false → is_some o ≡ false
apart p q None is same under = refl
apart p q (Some []) is same under = let yes : is_same_path p q ≡ true = ap (is_same_path p) (from_rest p q [] is ∙ append-nil p) ∙ path-itself p in let clash : true ≡ false = sym yes ∙ same in cc
apart p q (Some (x ∷ r)) is same under = cc

pub move_nodes-requires-clause-apart : goal.move_nodes-requires-clause-apart
move_nodes-requires-clause-apart c = apart (names c.args.from.now) (names c.args.to.now) (rest_after (names c.args.from.now) (names c.args.to.now)) refl (sym c.is_same.ensures ∙ c.if-is_same.false) (sym c.is_under.ensures ∙ c.if-is_under.false)

pub returns-then-is_root : goal.returns-then-is_root
returns-then-is_root c = asks_rename (names c.args.from.now) (names c.args.to.now) c.args.now c.args.self.now _ _ (grind (arith, common_steps))

pub returns-then-is_none : goal.returns-then-is_none
returns-then-is_none c = asks_rename (names c.args.from.now) (names c.args.to.now) c.args.now c.args.self.now _ _ (grind (arith, common_steps))

pub returns-then-is_same : goal.returns-then-is_same
returns-then-is_same c = asks_rename (names c.args.from.now) (names c.args.to.now) c.args.now c.args.self.now _ _ (grind (arith, common_steps))

pub returns-then-is_under : goal.returns-then-is_under
returns-then-is_under c = asks_rename (names c.args.from.now) (names c.args.to.now) c.args.now c.args.self.now _ _ (grind (arith, common_steps))

pub returns-then-not-has_folder : goal.returns-then-not-has_folder
returns-then-not-has_folder c = asks_rename (names c.args.from.now) (names c.args.to.now) c.args.now c.args.self.now _ _ (grind (arith, common_steps))

pub returns-then-has_members : goal.returns-then-has_members
returns-then-has_members c = asks_rename (names c.args.from.now) (names c.args.to.now) c.args.now c.args.self.now _ _ (grind (arith, common_steps))

pub returns-in-Err : goal.returns-in-Err
returns-in-Err c = asks_rename (names c.args.from.now) (names c.args.to.now) c.args.now c.args.self.now _ _ (grind (arith, common_steps))

pub returns : goal.returns
returns c = asks_rename (names c.args.from.now) (names c.args.to.now) c.args.now c.args.self.now _ _ (grind (arith, common_steps))

pub invariant_of-self-2 : goal.invariant_of-self-2
invariant_of-self-2 c =
    let moved = subst (AreMadeBefore c.self.inside.next) (sym (nodes_of c.in_default.ensures.ok)) (before_moved c.self.inside.next (names c.args.from.now) (names c.args.to.now) c.self.inside.entries.nodes c.self.invariant.made) in
    let changed = before_touched c.self.inside.next (names c.args.to.now) c.args.now c.move_nodes.new.entries.nodes c.touch_folder.new.entries.nodes (nodes_of c.touch_folder.ensures) moved in
    record {
      made = before_touched c.self.inside.next (names c.args.from.now) c.args.now c.touch_folder.new.entries.nodes c.touch_folder-2.new.entries.nodes (nodes_of c.touch_folder-2.ensures) changed;
      tree = omega (arith, last_of c.touch_folder-2.ensures, last_of c.touch_folder.ensures, last_of c.in_default.ensures.ok, c.self.invariant.tree);
    }
