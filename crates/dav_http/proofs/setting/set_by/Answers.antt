use Rattle.std.proofs.Common.{◌≡◌, ℕ, ◌*◌, ap, cond, map, min, ◌∙◌}
use Rattle.std.specs.List.{sum_by}
use Rattle.dav_core.specs.Element.{ElementTree, children_of, tree_list, trees}
use Rattle.dav_core.specs.ElementView.{node_tree}
use Rattle.dav_core.specs.Numbers.{max_u64}
use Rattle.dav_store.specs.Sizes.{tree_len}
use Rattle.dav_http.specs.Setting.{is_set, set_bytes, set_count, within_set}
use Rattle.dav_http.proofs.SettingLemmas.{sum_end, sum_turn, twice}
use Rattle.dav_http.proofs.setting.set_by.Goals as goal

abbrev counted : ElementTree → ℕ
counted t = cond (is_set t) (within_set t) 0

abbrev sized : ElementTree → ℕ
sized t = cond (is_set t) (tree_len t) 0

pub loop-child-preserved : goal.loop-child-preserved
loop-child-preserved c =
    let nodes = c.deref-child-items.result.now in
    let i = c.loop-child.child-index in
    let x = c.child-item.result in (
      c.saturating_add-count.ensures ∙ sum_turn counted nodes i x c.loop-child.count c.count_in.result c.loop-child-test.true c.child-item.is c.loop-child.invariant.0 c.count_in.ensures,
      c.saturating_add-bytes.ensures ∙ sum_turn sized nodes i x c.loop-child.bytes c.bytes_in.result c.loop-child-test.true c.child-item.is c.loop-child.invariant.1 c.bytes_in.ensures,
    )

pub returns : goal.returns
returns c =
    let all : (f : ElementTree → ℕ) → _ ≡ _ = λ f.
    sum_end f c.deref-child-items.result.now c.loop-child.child-index c.loop-child-test.false
    ∙ ap (λ xs. sum_by f (tree_list (trees (map node_tree xs)))) c.deref-child-items.ensures.value
    ∙ ap (λ e. sum_by f (children_of e)) c.tree.view_is in
    let count : c.loop-child.count ≡ min (set_count c.args.tree.now) max_u64 = c.loop-child.invariant.0 ∙ ap (λ (n : ℕ). min n max_u64) (all counted) in
    let bytes : c.saturating_mul.result ≡ min (set_bytes c.args.tree.now) max_u64 =
    c.saturating_mul.ensures ∙ twice (sum_by sized (children_of c.args.tree.now)) c.loop-child.bytes max_u64 (c.loop-child.invariant.1 ∙ ap (λ (n : ℕ). min n max_u64) (all sized)) in
    λ i. record { count = count i; bytes = bytes i }
