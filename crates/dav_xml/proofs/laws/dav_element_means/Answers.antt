use Rattle.dav_xml.proofs.SentElements.{element_means}
use Rattle.dav_xml.proofs.laws.dav_element_means.Goals as goal

pub returns : goal.returns
returns c = λ n scope name children meant h d inner. element_means n scope name children meant h d inner
