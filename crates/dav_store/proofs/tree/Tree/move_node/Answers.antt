use Rattle.std.proofs.Common.{◌≡◌, ◌∙◌, None, is_none, ap, sym, subst}
use Rattle.dav_store.specs.Tree.{IsRooted, move_refusal, moved, child}
use Rattle.dav_store.proofs.TreeSteps.{is_done, is_lacking}
use Rattle.dav_store.proofs.TreeKept.{rooted_move}
use Rattle.dav_store.proofs.tree.Tree.move_node.Goals as goal
use Rattle.dav_store.proofs.tree.Tree.move_node.Goals.{in-Ok, in-Err}

-- src/tree.rt
pub returns : goal.returns
returns g c =
    let eq = g.K.PartialEq.eq in
    let old = c.args.self.now in
    let free : move_refusal eq old c.args.id c.args.parent c.args.key c.args.overwrite ≡ None = sym c.move_refusal.ensures ∙ c.in_default.is in
    let made = moved eq old c.args.id c.args.parent c.args.key in
    let takes = is_none (child eq old c.args.parent c.args.key) in
    elim c.match-move_to.branch [
      | in-Ok w ↦ is_done takes _ tt made old _ _ free w.result-is (w.in-Ok.ensures.ok ∙ ap (λ t. moved eq t c.args.id c.args.parent c.args.key) c.self.view_is)
      | in-Err w ↦ is_lacking takes _ tt made old _ _ free (ap (λ t. is_none (child eq t c.args.parent c.args.key)) (sym c.self.view_is) ∙ w.in-Err.ensures.new) w.result-is (w.in-Err.ensures.err ∙ c.self.view_is)
    ]

pub invariant_of-self : goal.invariant_of-self
invariant_of-self g c =
    let eq = g.K.PartialEq.eq in
    elim c.match-move_to.branch [
      | in-Ok w ↦ subst IsRooted (sym w.in-Ok.ensures.ok) (rooted_move eq c.self.inside.nodes c.args.id c.args.parent c.args.key c.args.overwrite c.self.invariant
          (ap (λ t. move_refusal eq t c.args.id c.args.parent c.args.key c.args.overwrite) c.self.view_is ∙ sym c.move_refusal.ensures ∙ c.in_default.is))
      | in-Err w ↦ subst IsRooted (sym w.in-Err.ensures.err) c.self.invariant
    ]
