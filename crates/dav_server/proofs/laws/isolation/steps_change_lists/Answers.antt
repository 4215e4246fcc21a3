use Rattle.dav_server.proofs.ListLemmas.{steps_change_lists, steps_change_lists_cut, tokens_are_handed_in}
use Rattle.dav_server.proofs.laws.isolation.steps_change_lists.Goals as goal

pub returns-clause-step : goal.returns-clause-step
returns-clause-step c = steps_change_lists

pub returns-clause-cut : goal.returns-clause-cut
returns-clause-cut c = steps_change_lists_cut

pub returns-clause-tokens : goal.returns-clause-tokens
returns-clause-tokens c = tokens_are_handed_in
