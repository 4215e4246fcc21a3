use Rattle.dav_live.proofs.TokenLemmas.{tokens_differ}
use Rattle.dav_live.proofs.laws.tokens_differ.Goals as goal

pub returns : goal.returns
returns c = tokens_differ
