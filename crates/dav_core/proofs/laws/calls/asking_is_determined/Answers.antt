use Rattle.dav_core.proofs.AskingLemmas.{asking_is_determined, errors_leave_worlds, rules_come_first, refusals_are_used_up, refusal_is_answered, can_be_asked}
use Rattle.dav_core.proofs.laws.calls.asking_is_determined.Goals as goal

pub returns : goal.returns
returns c = record {
  determined = asking_is_determined;
  error = errors_leave_worlds;
  rule = rules_come_first;
  used_up = refusals_are_used_up;
  refused = refusal_is_answered;
  can_be = can_be_asked;
}
