use Rattle.dav_presented.proofs.TypeLemmas.{suffix_in_lower_case}
use Rattle.dav_presented.proofs.types.suffix.Goals as goal

pub returns : goal.returns
returns c = suffix_in_lower_case _ c.args.essence.now c.saturating_sub-start.ensures
