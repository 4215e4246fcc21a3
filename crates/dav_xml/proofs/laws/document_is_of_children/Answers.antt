use Rattle.dav_xml.proofs.ByChild.{document_is_of_children}
use Rattle.dav_xml.proofs.laws.document_is_of_children.Goals as goal

pub returns : goal.returns
returns c = λ root t ts e. document_is_of_children root t ts e
