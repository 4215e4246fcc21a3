use Rattle.dav_http.proofs.PlacedLemmas.{decides_unplaced}
use Rattle.dav_http.proofs.placed.names_none.Goals as goal

pub returns-in-Some : goal.returns-in-Some
returns-in-Some c values there decodes = decides_unplaced values c.args.range c.in-Some.range c.names_bytes.result c.in-Some.is there decodes c.names_bytes.ensures
