use Rattle.dav_core.proofs.KeptLemmas.{calls_keep_worlds, numbers_rise, times_are_shown}
use Rattle.dav_core.proofs.laws.calls.calls_keep_worlds.Goals as goal

pub returns : goal.returns
returns c = record { kept = calls_keep_worlds; next = numbers_rise; times = times_are_shown }
