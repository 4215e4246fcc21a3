use Rattle.std.proofs.Common.{subst}
use Rattle.dav_headers.specs.ContentRange.{IsContentRange}
use Rattle.dav_headers.specs.Value.{Decodes}
use Rattle.dav_http.proofs.PlacedLemmas.{bounded, unbounded}
use Rattle.dav_http.proofs.placed.ranged_from.Goals as goal

pub returns-in-Some-bounds : goal.returns-in-Some-bounds
returns-in-Some-bounds c values is =
    bounded values c.in-Some.range c.in-Some-bounds.first c.in-Some-bounds.field-0-1 (subst (Decodes IsContentRange values) c.in-Some.is is) c.in-Some-bounds.is

pub returns-in-None-bounds : goal.returns-in-None-bounds
returns-in-None-bounds c values is = unbounded values c.in-Some.range (subst (Decodes IsContentRange values) c.in-Some.is is) c.in-None-bounds.is
