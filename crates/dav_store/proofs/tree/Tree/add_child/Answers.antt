use Rattle.std.proofs.Common.{sym, subst, ap, ◌∙◌}
use Rattle.dav_store.specs.Tree.{IsRooted, add_refusal}
use Rattle.dav_store.proofs.TreeKept.{rooted_add}
use Rattle.dav_store.proofs.tree.Tree.add_child.Goals as goal
use Rattle.dav_store.proofs.tree.Tree.add_child.Goals.{in-Ok, in-Err}

-- src/tree.rt
pub invariant_of-self : goal.invariant_of-self
invariant_of-self g c =
    let eq = g.K.PartialEq.eq in
    elim c.match-add.branch [
      | in-Ok w ↦ subst IsRooted (sym w.in-Ok.ensures.added) (rooted_add eq c.self.inside.nodes c.args.parent c.args.key c.args.value c.args.overwrite c.self.invariant w.in-Ok.ensures.fresh
          (ap (λ t. add_refusal eq t c.args.parent c.args.key c.args.overwrite) c.self.view_is ∙ sym c.add_refusal.ensures.refusal ∙ c.in_default.is))
      | in-Err w ↦ subst IsRooted (sym w.in-Err.ensures.err) c.self.invariant
    ]
