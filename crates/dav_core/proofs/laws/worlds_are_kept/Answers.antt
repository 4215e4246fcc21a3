use Rattle.dav_core.proofs.WorldLemmas.{empty_is_world, new_keeps_world, change_keeps_world}
use Rattle.dav_core.proofs.laws.worlds_are_kept.Goals as goal

pub returns : goal.returns
returns c = record { empty = empty_is_world; made = new_keeps_world; changed = change_keeps_world }
