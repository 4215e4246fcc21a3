use Rattle.std.proofs.Common.{refl}
use Rattle.dav_core.proofs.NamedLemmas.{named_once}
use Rattle.dav_core.proofs.SetLemmas.{members_are_had, same_set}
use Rattle.dav_core.proofs.laws.sets_are_their_methods.Goals as goal

pub returns : goal.returns
returns c = record { name = λ m. refl; one_method = named_once; members = members_are_had; one_set = same_set }
