use Rattle.std.proofs.Common.{map}
use Rattle.dav_core.specs.ElementView.{attribute_bytes}
use Rattle.dav_run.specs.TreeData.{attribute_data, tokens_of}
use Rattle.dav_run.proofs.TreeLemmas.{adds_all, adds_attributes, adds_one, ends}
use Rattle.dav_run.proofs.tree.write_attributes.Goals as goal

pub returns : goal.returns
returns c =
    let all = adds_all (λ a. tokens_of (attribute_data a)) attribute_bytes c.args.attributes.now c.loop-name.name-index c.loop-name-test.false c.loop-name.invariant in
    ends c.end_array.result c.end_array.ensures (λ last. adds_attributes (map attribute_bytes c.args.attributes.now) (adds_one c.in_ok-begin_array.ensures) all last)
