use Rattle.dav_core.proofs.FollowLemmas.{nodes_follow_renames, nodes_stay, others_are_unchanged, nodes_were_there, numbers_tell_bytes, numbers_look_back}
use Rattle.dav_core.proofs.GoneLemmas.{taken_is_gone}
use Rattle.dav_core.proofs.laws.calls.nodes_follow.Goals as goal

pub returns : goal.returns
returns c = record {
  renamed = nodes_follow_renames;
  stay = nodes_stay;
  others = others_are_unchanged;
  were_there = nodes_were_there;
  gone = taken_is_gone;
  numbers = numbers_tell_bytes;
  back = numbers_look_back;
}
