use Rattle.std.proofs.Common.{sym, ◌∙◌}
use Rattle.dav_xml.proofs.NestedRaw.{nested_raw}
use Rattle.dav_xml.proofs.Nested.{nested_again}
use Rattle.dav_xml.proofs.laws.nested_is_flat.Goals as goal

pub returns : goal.returns
returns c = λ ts t e. nested_again t (nested_raw ts t e) ∙ sym e
