use Rattle.dav_xml.proofs.RoundTrip.{document_again}
use Rattle.dav_xml.proofs.laws.written_is_read.Goals as goal

pub returns : goal.returns
returns c = λ t u h le short. document_again t u h le short
