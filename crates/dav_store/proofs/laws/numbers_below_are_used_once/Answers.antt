use Rattle.dav_store.proofs.TreeOnce.{keeps_numbers_below}
use Rattle.dav_store.proofs.laws.numbers_below_are_used_once.Goals as goal

-- src/laws.rt
pub returns : goal.returns
returns g c = keeps_numbers_below _ _
