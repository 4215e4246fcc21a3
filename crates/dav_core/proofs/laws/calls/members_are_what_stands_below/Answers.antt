use Rattle.dav_core.proofs.MemberLemmas.{members_stand_below, members_rise, lists_what_stands}
use Rattle.dav_core.proofs.laws.calls.members_are_what_stands_below.Goals as goal

pub returns : goal.returns
returns c = record { below = members_stand_below; rise = members_rise; listed = lists_what_stands }
