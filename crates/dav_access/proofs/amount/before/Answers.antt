use Rattle.dav_access.proofs.AmountLemmas.{either}
use Rattle.dav_access.proofs.amount.before.Goals as goal

pub returns-in-None : goal.returns-in-None
returns-in-None c = either c.args.letter.now c.args.capital.now c.args.word.now _ c.in-None.ensures c.before_back-in-None.ensures
