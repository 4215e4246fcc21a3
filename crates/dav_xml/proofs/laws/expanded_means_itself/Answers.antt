use Rattle.dav_xml.proofs.RoundTrip.{means_itself}
use Rattle.dav_xml.proofs.laws.expanded_means_itself.Goals as goal

pub returns : goal.returns
returns c = λ n scope t h. means_itself n scope t h
