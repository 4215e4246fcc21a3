use Rattle.std.proofs.Common.{codes, ap, ◌∙◌}
use Rattle.http_header.specs.HeaderMap.{get_all}
use Rattle.dav_engine.proofs.PutHeaderLemmas.{expected_first}
use Rattle.dav_engine.proofs.methods.put.headers.expected_length.Goals as goal

pub returns-in-len1-up : goal.returns-in-len1-up
returns-in-len1-up c =
    let values = c.as_slice.ensures.value ∙ c.in_ok-values.ensures ∙ ap (get_all c.args.headers.now) c.from_static.ensures in
    expected_first (get_all c.args.headers.now (codes "x-expected-entity-length")) c.as_slice.result.now c.from_ref.result.now c.first-item.result c.decoded.result
    values c.in-len1-up.len_at_least c.first-item.is c.from_ref.ensures.value c.decoded.ensures
