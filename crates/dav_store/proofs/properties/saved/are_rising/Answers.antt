use Rattle.std.proofs.Common.{◌≡◌, ◌-◌, get_or, sym, ap, ◌∙◌}
use Rattle.std.specs.Ordering.{is_lt}
use Rattle.dav_core.specs.Property.{key_cmp}
use Rattle.dav_store.proofs.LoadedOrder.{rises_more, rises_not, rises_all, test_less, test_other}
use Rattle.dav_store.specs.KeyOrder.{key_total}
use Rattle.dav_store.proofs.properties.saved.are_rising.Goals as goal

pub returns-then-not-is_lt : goal.returns-then-not-is_lt
returns-then-not-is_lt c =
    let read : key_cmp c.index-entries-i.result.0 c.index-entries-i-in-loop-i.result.0 ≡ key_cmp (get_or c.args.entries.now (c.loop-i.i - 1) c.index-entries-i.result).0 (get_or c.args.entries.now c.loop-i.i c.index-entries-i-in-loop-i.result).0 =
    λ t. key_cmp (c.index-entries-i.is t).0 (c.index-entries-i-in-loop-i.is t).0 in (
      λ t. cc,
      λ s. absurd (rises_not key_cmp c.args.entries.now c.loop-i.i c.index-entries-i.result c.index-entries-i-in-loop-i.result c.loop-i.auto.i c.loop-i-test.true c.index-entries-i.is c.index-entries-i-in-loop-i.is
          (test_other (key_cmp c.index-entries-i.result.0 c.index-entries-i-in-loop-i.result.0) (ap is_lt read ∙ sym (c.if-not-is_lt.ensures ∙ ap is_lt c.compare.ensures))) s),
    )

pub loop-i-preserved : goal.loop-i-preserved
loop-i-preserved c =
    let read : key_cmp c.index-entries-i.result.0 c.index-entries-i-in-loop-i.result.0 ≡ key_cmp (get_or c.args.entries.now (c.loop-i.i - 1) c.index-entries-i.result).0 (get_or c.args.entries.now c.loop-i.i c.index-entries-i-in-loop-i.result).0 =
    λ t. key_cmp (c.index-entries-i.is t).0 (c.index-entries-i-in-loop-i.is t).0 in
    rises_more key_cmp c.args.entries.now c.loop-i.i c.index-entries-i.result c.index-entries-i-in-loop-i.result c.loop-i.invariant c.loop-i.auto.i c.loop-i-test.true c.index-entries-i.is c.index-entries-i-in-loop-i.is
    (test_less (key_cmp c.index-entries-i.result.0 c.index-entries-i-in-loop-i.result.0) (ap is_lt read ∙ sym (c.if-not-is_lt.ensures ∙ ap is_lt c.compare.ensures)))

pub returns : goal.returns
returns c = (λ t. rises_all key_cmp key_total c.args.entries.now c.loop-i.i c.loop-i-test.false c.loop-i.invariant, λ s. cc)
