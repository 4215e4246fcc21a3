use Rattle.dav_headers.proofs.IfLawLemmas.{asked_for}
use Rattle.dav_headers.proofs.if_header.laws.if_asks_for_a_token.Goals as goal

pub returns : goal.returns
returns c = asked_for
