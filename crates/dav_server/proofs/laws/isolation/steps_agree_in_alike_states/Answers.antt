use Rattle.dav_server.proofs.HolderLemmas.{get_goes_along}
use Rattle.dav_server.proofs.IsolationLemmas.{strangers_leave_alike, holders_answer_alike}
use Rattle.dav_server.proofs.laws.isolation.steps_agree_in_alike_states.Goals as goal

pub returns-clause-stranger : goal.returns-clause-stranger
returns-clause-stranger c = strangers_leave_alike

pub returns-clause-holder : goal.returns-clause-holder
returns-clause-holder c = holders_answer_alike

pub returns-clause-get : goal.returns-clause-get
returns-clause-get c = get_goes_along
