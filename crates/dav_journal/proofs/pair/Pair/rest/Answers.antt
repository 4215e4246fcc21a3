use Rattle.std.proofs.lemmas.Result.{IfOk-weaker}
use Rattle.dav_journal.proofs.pair.Pair.rest.Goals as goal

pub returns-clause-rest : goal.returns-clause-rest
returns-clause-rest g c = IfOk-weaker c.rest.result _ _ (λ n rest clean. rest (clean.0)) c.rest.ensures.rest
