use Rattle.dav_headers.proofs.RangeLemmas.{parts_of_range}
use Rattle.dav_headers.proofs.range.ContentRange.decode.Goals as goal

pub returns-in_default-bounds-clause-reads : goal.returns-in_default-bounds-clause-reads
returns-in_default-bounds-clause-reads c = λ r h.
    let cut = c.in-Some-slash_parts.ensures.found in
    let parts = parts_of_range c.args.values.now c.in-Some.text.now cut.0 _ _ c.in-Some.ensures cut.1 cut.2 r h in
    c.in_default-bounds.ensures r.bounds parts.0

pub returns-in_default-length-clause-reads : goal.returns-in_default-length-clause-reads
returns-in_default-length-clause-reads c = λ r h.
    let cut = c.in-Some-slash_parts.ensures.found in
    let parts = parts_of_range c.args.values.now c.in-Some.text.now cut.0 _ _ c.in-Some.ensures cut.1 cut.2 r h in
    c.in_default-length.ensures r.length parts.1
