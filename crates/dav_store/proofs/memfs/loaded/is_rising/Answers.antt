use Rattle.std.proofs.Common.{◌≡◌, ◌-◌, get_or, sym, ap, ◌∙◌}
use Rattle.std.specs.Ordering.{is_lt}
use Rattle.dav_core.specs.Path.{path_cmp}
use Rattle.dav_store.proofs.LoadedOrder.{rises_more, rises_not, rises_all, test_less, test_other}
use Rattle.dav_core.proofs.NodesLemmas.{path_total}
use Rattle.dav_store.proofs.memfs.loaded.is_rising.Goals as goal

pub returns-then-not-is_lt : goal.returns-then-not-is_lt
returns-then-not-is_lt c =
    let read : path_cmp c.index-list-i.result.0 c.index-list-i-in-loop-i.result.0 ≡ path_cmp (get_or c.args.list.now (c.loop-i.i - 1) c.index-list-i.result).0 (get_or c.args.list.now c.loop-i.i c.index-list-i-in-loop-i.result).0 =
    λ t. path_cmp (c.index-list-i.is t).0 (c.index-list-i-in-loop-i.is t).0 in (
      λ t. cc,
      λ s. absurd (rises_not path_cmp c.args.list.now c.loop-i.i c.index-list-i.result c.index-list-i-in-loop-i.result c.loop-i.auto.i c.loop-i-test.true c.index-list-i.is c.index-list-i-in-loop-i.is
          (test_other (path_cmp c.index-list-i.result.0 c.index-list-i-in-loop-i.result.0) (ap is_lt read ∙ sym (c.if-not-is_lt.ensures ∙ ap is_lt c.compare.ensures))) s),
    )

pub loop-i-preserved : goal.loop-i-preserved
loop-i-preserved c =
    let read : path_cmp c.index-list-i.result.0 c.index-list-i-in-loop-i.result.0 ≡ path_cmp (get_or c.args.list.now (c.loop-i.i - 1) c.index-list-i.result).0 (get_or c.args.list.now c.loop-i.i c.index-list-i-in-loop-i.result).0 =
    λ t. path_cmp (c.index-list-i.is t).0 (c.index-list-i-in-loop-i.is t).0 in
    rises_more path_cmp c.args.list.now c.loop-i.i c.index-list-i.result c.index-list-i-in-loop-i.result c.loop-i.invariant c.loop-i.auto.i c.loop-i-test.true c.index-list-i.is c.index-list-i-in-loop-i.is
    (test_less (path_cmp c.index-list-i.result.0 c.index-list-i-in-loop-i.result.0) (ap is_lt read ∙ sym (c.if-not-is_lt.ensures ∙ ap is_lt c.compare.ensures)))

pub returns : goal.returns
returns c = (λ t. rises_all path_cmp path_total c.args.list.now c.loop-i.i c.loop-i-test.false c.loop-i.invariant, λ s. cc)
