use Rattle.dav_confined.proofs.ReachedLemmas.{keeps_off_unreached, unread_keeps_off}
use Rattle.dav_confined.proofs.laws.confined.requests_keep_off_what_they_do_not_reach.Goals as goal

pub returns-clause-asked : goal.returns-clause-asked
returns-clause-asked c = keeps_off_unreached

pub returns-clause-unread : goal.returns-clause-unread
returns-clause-unread c = unread_keeps_off
