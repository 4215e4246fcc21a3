use Rattle.dav_headers.proofs.RangeLemmas.{no_update_range}
use Rattle.dav_headers.proofs.range.XUpdateRange.decode.Goals as goal

pub returns-in-None-clause-reads : goal.returns-in-None-clause-reads
returns-in-None-clause-reads c =
    let cut = c.in-Some-dash_parts.ensures.found in
    no_update_range c.args.values.now c.in-Some.text.now cut.0 _ _ c.in-Some.ensures cut.1 cut.2 c.in-None.ensures
