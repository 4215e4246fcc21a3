use Rattle.dav_xml.proofs.ReadAgain.{read_again}
use Rattle.dav_xml.proofs.laws.read_is_read_again.Goals as goal

pub returns : goal.returns
returns c = λ bytes t e le short. read_again bytes t e le short
