use Rattle.dav_server.proofs.TagLemmas.{tags_tell_bytes}
use Rattle.dav_server.proofs.laws.tags_tell_bytes.Goals as goal

pub returns : goal.returns
returns c = tags_tell_bytes
