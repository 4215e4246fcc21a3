use Rattle.std.proofs.Common.{◌++◌, length, refl, map}
use Rattle.dav_core.specs.ElementView.{attribute_bytes}
use Rattle.dav_saved.specs.Spelling.{pair, many}
use Rattle.dav_saved.proofs.Puts.{pairs_turn, all_pairs, attributes_begin, attribute_turn, attributes_end}
use Rattle.dav_saved.proofs.elements.put_attributes.Goals as goal

pub loop-attribute-init : goal.loop-attribute-init
loop-attribute-init c = (attributes_begin c.args.out.now.items c.put_number.new.out.items c.args.attributes.now (length c.args.attributes.now) c.in_ok-put_number.ensures refl, λ h. h)

pub loop-attribute-preserved : goal.loop-attribute-preserved
loop-attribute-preserved c =
    let i = c.loop-attribute.attribute-index in
    let x = c.attribute-item.result in (
      attribute_turn c.loop-attribute.out.items c.put_attribute.new.out.items (c.args.out.now.items ++ many pair (map attribute_bytes c.args.attributes.now)) c.args.attributes.now i x c.loop-attribute-test.true c.attribute-item.is c.in_ok-put_attribute.ensures.added c.loop-attribute.invariant.0,
      pairs_turn c.args.attributes.now i x c.loop-attribute-test.true c.attribute-item.is c.in_ok-put_attribute.ensures.saveable c.loop-attribute.invariant.1,
    )

pub returns-clause-added : goal.returns-clause-added
returns-clause-added c = attributes_end c.loop-attribute.out.items (c.args.out.now.items ++ many pair (map attribute_bytes c.args.attributes.now)) c.args.attributes.now c.loop-attribute.attribute-index c.loop-attribute-test.false c.loop-attribute.invariant.0

pub returns-clause-saveable : goal.returns-clause-saveable
returns-clause-saveable c = all_pairs c.args.attributes.now c.loop-attribute.attribute-index c.loop-attribute-test.false c.loop-attribute.invariant.1
