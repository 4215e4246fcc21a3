use Rattle.std.proofs.Common.{refl}
use Rattle.dav_core.proofs.TargetLemmas.{names_kept, Reads-names}
use Rattle.dav_core.proofs.UrlLemmas.{Reads-bytes}
use Rattle.dav_core.proofs.AddedLemmas.{names_are_segments, name_is_segment}
use Rattle.dav_core.proofs.laws.names_are_kept.Goals as goal

pub returns : goal.returns
returns c = record { kept = names_kept; read = λ src a h. (Reads-names src a h, Reads-bytes src a h); star = refl; segments = names_are_segments; name = name_is_segment }
