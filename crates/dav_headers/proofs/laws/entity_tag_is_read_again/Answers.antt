use Rattle.dav_headers.proofs.Theorems.{read_tag_is_text, etag_again}
use Rattle.dav_headers.proofs.laws.entity_tag_is_read_again.Goals as goal

pub returns : goal.returns
returns c = record { text = read_tag_is_text; again = etag_again }
