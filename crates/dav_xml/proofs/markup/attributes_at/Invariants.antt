use Rattle.std.proofs.Common.{map, ◌≡◌, ◌-◌, length}
use Rattle.dav_core.specs.ElementView.{attribute_bytes}
use Rattle.dav_xml.specs.Markup.{many, attribute_at}
use Rattle.dav_xml.proofs.Many.{joined}
use Rattle.dav_xml.proofs.markup.attributes_at.Given as goal

abbrev pub invariant-loop : goal.invariant-loop
invariant-loop l = joined (map attribute_bytes l.attributes.items) (many attribute_at (length l.bytes - l.counter) l.rest) ≡ many attribute_at (length l.bytes) l.bytes
