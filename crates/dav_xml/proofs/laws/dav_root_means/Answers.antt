use Rattle.dav_xml.proofs.SentElements.{root_means}
use Rattle.dav_xml.proofs.laws.dav_root_means.Goals as goal

pub returns : goal.returns
returns c = λ n name children meant h inner. root_means n name children meant h inner
