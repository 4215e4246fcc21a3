use Rattle.std.proofs.Common.{◌≡◌, ◌++◌, ◌∷◌, [], map}
use Rattle.std.proofs.lemmas.Result.{err_from_is_err_and}
use Rattle.std.proofs.lemmas.List.{map_push}
use Rattle.dav_core.specs.ElementView.{attribute_bytes}
use Rattle.dav_saved.specs.Reading.{pair_at, many_at}
use Rattle.dav_saved.proofs.Loop.{goes_on, ends, is_done}
use Rattle.dav_saved.proofs.trees.attributes_at.Goals as goal

pub returns-in_err-attribute : goal.returns-in_err-attribute
returns-in_err-attribute c =
    let p = err_from_is_err_and c.from_residual.result c.from_residual.ensures.1 in
    rw (p.1, p.2) (ends pair_at c.in_err-attribute.field-0.0 (map attribute_bytes c.loop.attributes.items) c.args.count c.loop.counter c.loop.rest.now (many_at pair_at c.args.count c.args.bytes.now) c.loop-test.true c.in_err-attribute.ensures c.loop.invariant)

pub loop-preserved : goal.loop-preserved
loop-preserved c =
    let n = c.in_ok-attribute.attribute in
    let e : map attribute_bytes c.push.new.self.items ≡ map attribute_bytes c.loop.attributes.items ++ attribute_bytes n ∷ [] = rw c.in_ok-push.ensures.items (map_push _ c.loop.attributes.items n) in
    rw e (goes_on pair_at (map attribute_bytes c.loop.attributes.items) c.args.count c.loop.counter c.loop.rest.now (attribute_bytes n) c.in_ok-attribute.after.now (many_at pair_at c.args.count c.args.bytes.now) c.loop-test.true c.in_ok-attribute.ensures c.loop.invariant)

pub returns : goal.returns
returns c = is_done pair_at (map attribute_bytes c.loop.attributes.items) c.args.count c.loop.counter c.loop.rest.now (many_at pair_at c.args.count c.args.bytes.now) c.loop-test.false c.loop.invariant
