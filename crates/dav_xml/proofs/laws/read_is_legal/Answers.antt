use Rattle.dav_xml.proofs.ReadLegal.{read_legal}
use Rattle.dav_xml.proofs.laws.read_is_legal.Goals as goal

pub returns : goal.returns
returns c = λ bytes t e. read_legal bytes t e
