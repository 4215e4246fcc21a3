use Rattle.dav_xml.proofs.NestedRaw.{nested_raw}
use Rattle.dav_xml.proofs.laws.nested_is_raw.Goals as goal

pub returns : goal.returns
returns c = λ ts t e. nested_raw ts t e
