use Rattle.std.proofs.Common.{map, ◌≡◌, ◌++◌, ◌∷◌, [], Ok, ap, length}
use Rattle.std.proofs.lemmas.List.{map_push}
use Rattle.dav_core.specs.ElementView.{attribute_bytes}
use Rattle.dav_xml.specs.Markup.{many, attribute_at}
use Rattle.dav_xml.proofs.Many.{goes_on, stops, is_done, failed}
use Rattle.dav_xml.proofs.markup.attributes_at.Goals as goal

pub returns-in-Err-Fault : goal.returns-in-Err-Fault
returns-in-Err-Fault c =
    ap (λ t. Ok t) (stops attribute_at (map attribute_bytes c.loop.attributes.items) (length c.args.bytes.now) c.loop.counter c.loop.rest.now c.in-Err-Fault.field-0-0 (many attribute_at (length c.args.bytes.now) c.args.bytes.now) c.loop-test.true (failed c.in-Err-Fault.field-0 c.in-Err-Fault.field-0-0 (attribute_at c.loop.rest.now) c.in-Err-Fault.field-0-is c.in-Err-Fault.ensures) c.loop.invariant)

pub loop-preserved : goal.loop-preserved
loop-preserved c =
    let x = c.in-Ok.attribute in
    let e : map attribute_bytes c.push.new.self.items ≡ map attribute_bytes c.loop.attributes.items ++ attribute_bytes x ∷ [] = rw c.in_ok-push-in-Ok.ensures.items (map_push _ c.loop.attributes.items x) in
    rw e (goes_on attribute_at (map attribute_bytes c.loop.attributes.items) (length c.args.bytes.now) c.loop.counter c.loop.rest.now (attribute_bytes x) c.in-Ok.after.now (many attribute_at (length c.args.bytes.now) c.args.bytes.now) c.loop-test.true c.in-Ok.ensures c.loop.invariant)

pub returns : goal.returns
returns c = ap (λ t. Ok t) (is_done attribute_at (map attribute_bytes c.loop.attributes.items) (length c.args.bytes.now) c.loop.counter c.loop.rest.now (many attribute_at (length c.args.bytes.now) c.args.bytes.now) c.loop-test.false c.loop.invariant)
