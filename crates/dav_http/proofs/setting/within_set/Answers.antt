use Rattle.std.proofs.Common.{ℕ, ap, length, map, min, ◌∙◌}
use Rattle.std.specs.List.{sum_by}
use Rattle.dav_core.specs.Element.{children_of, tree_list, trees}
use Rattle.dav_core.specs.ElementView.{node_tree}
use Rattle.dav_core.specs.Numbers.{max_u64}
use Rattle.dav_http.proofs.SettingLemmas.{sum_end, sum_turn_whole}
use Rattle.dav_http.proofs.setting.within_set.Goals as goal

pub loop-child-preserved : goal.loop-child-preserved
loop-child-preserved c =
    c.saturating_add-total.ensures
    ∙ sum_turn_whole (λ t. length (children_of t)) c.deref-child-items.result.now c.loop-child.child-index c.child-item.result c.loop-child.total c.children_in.result c.loop-child-test.true c.child-item.is
    c.loop-child.invariant c.children_in.ensures

pub returns : goal.returns
returns c =
    c.loop-child.invariant
    ∙ ap (λ (n : ℕ). min n max_u64) (
    sum_end (λ t. length (children_of t)) c.deref-child-items.result.now c.loop-child.child-index c.loop-child-test.false
    ∙ ap (λ xs. sum_by (λ t. length (children_of t)) (tree_list (trees (map node_tree xs)))) c.deref-child-items.ensures.value
    ∙ ap (λ e. sum_by (λ t. length (children_of t)) (children_of e)) c.set.view_is
    )
