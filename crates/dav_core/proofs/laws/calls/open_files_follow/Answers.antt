use Rattle.dav_core.proofs.FollowLemmas.{made_stands_there, opened_stands, open_files_stay, opened_is_open_file, taken_never_return}
use Rattle.dav_core.proofs.GoneLemmas.{taken_files_are_gone}
use Rattle.dav_core.proofs.laws.calls.open_files_follow.Goals as goal

pub returns : goal.returns
returns c = record {
  made = made_stands_there;
  opened = opened_stands;
  stays = open_files_stay;
  is_open = opened_is_open_file;
  gone = taken_files_are_gone;
  never = taken_never_return;
}
