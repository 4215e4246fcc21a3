use Rattle.dav_xml.proofs.ReadAgain.{read_is_expanded}
use Rattle.dav_xml.proofs.laws.read_is_expanded.Goals as goal

pub returns : goal.returns
returns c = λ bytes t e. read_is_expanded bytes t e
