use Rattle.std.proofs.Common.{◌+◌, ℕ, min, ap, ◌∙◌}
use Rattle.dav_core.specs.ElementView.{attribute_bytes}
use Rattle.dav_core.specs.Numbers.{max_u64}
use Rattle.dav_store.specs.Sizes.{pair_len}
use Rattle.dav_store.proofs.SizeLemmas.{sum_turn, sum_all}
use Rattle.dav_store.proofs.properties.size.and_attributes.Goals as goal

pub loop-attribute-preserved : goal.loop-attribute-preserved
loop-attribute-preserved c =
    c.and_attribute-total.ensures
    ∙ sum_turn (λ a. pair_len (attribute_bytes a)) c.args.attributes.now c.loop-attribute.attribute-index c.attribute-item.result c.args.sum c.loop-attribute.total c.loop-attribute-test.true c.attribute-item.is c.loop-attribute.invariant

pub returns : goal.returns
returns c =
    c.loop-attribute.invariant
    ∙ ap (λ (n : ℕ). min (c.args.sum + n) max_u64) (sum_all attribute_bytes pair_len c.args.attributes.now c.loop-attribute.attribute-index c.loop-attribute-test.false)
