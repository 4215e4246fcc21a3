use Rattle.dav_server.proofs.AloneLemmas.{known_have_alone, turns_have_alone, one_alone}
use Rattle.dav_server.proofs.laws.isolation.holders_turns_are_known.Goals as goal

pub returns-clause-known : goal.returns-clause-known
returns-clause-known c = known_have_alone

pub returns-clause-all : goal.returns-clause-all
returns-clause-all c = turns_have_alone

pub returns-clause-one : goal.returns-clause-one
returns-clause-one c = one_alone
