use Rattle.dav_xml.proofs.Documents.{raw_again}
use Rattle.dav_xml.proofs.laws.written_is_read_raw.Goals as goal

pub returns : goal.returns
returns c = λ t h k le. raw_again t h k le
