use Rattle.std.proofs.Common.{◌≡◌, ◌++◌, Some, subst, sym, ap, ◌∙◌, append_assoc}
use Rattle.std.specs.Option.{option_copied}
use Rattle.dav_core.specs.World.{Node as Seen}
use Rattle.dav_saved.specs.Worlds.{path, node, AreWithin, IsSaveableNode}
use Rattle.dav_store.proofs.memfs.saved.put_entry.Goals as goal

some_same : (a b : Seen) → (Some a) ≡ Some b → a ≡ b
some_same a b e = cc

pub returns-clause-added : goal.returns-clause-added
returns-clause-added c = λ n there.
    let same : c.in-Some.node.now ≡ n = some_same c.in-Some.node.now n (ap option_copied (sym c.in-Some.is) ∙ c.node_at.ensures ∙ there) in
    let p = path c.args.path.now in
    c.in_ok-save.ensures.added ∙ (λ i. c.in_ok-put_path.ensures.added i ++ node (same i)) ∙ append_assoc c.args.out.now.items p (node n)

pub returns-clause-saveable : goal.returns-clause-saveable
returns-clause-saveable c = λ n there levels within.
    let same : c.in-Some.node.now ≡ n = some_same c.in-Some.node.now n (ap option_copied (sym c.in-Some.is) ∙ c.node_at.ensures ∙ there) in
    let fits : IsSaveableNode levels c.in-Some.node.now = c.in_ok-save.ensures.saveable levels (subst (λ (m : Seen). AreWithin levels m.properties) (sym same) within) in
    (c.in_ok-put_path.ensures.saveable, subst (IsSaveableNode levels) same fits)
