use Rattle.dav_headers.proofs.Theorems.{entity_tag_one, one_etag}
use Rattle.dav_headers.proofs.laws.entity_tags_have_one_reading.Goals as goal

pub returns : goal.returns
returns c = record { text = entity_tag_one; value = one_etag }
