use Rattle.dav_engine.proofs.AlongsideCopy.{copymove_goes_along}
use Rattle.dav_engine.proofs.AlongsideDelete.{delete_goes_along}
use Rattle.dav_engine.proofs.AlongsideLaw.{alongside_agree}
use Rattle.dav_engine.proofs.AlongsideLock.{lock_goes_along}
use Rattle.dav_engine.proofs.IsolatedPlans.{put_goes_along, mkcol_goes_along}
use Rattle.dav_engine.proofs.AlongsideProperties.{propfind_goes_along, proppatch_goes_along}
use Rattle.dav_engine.proofs.OptionsLemmas.{options_goes_along}
use Rattle.dav_engine.proofs.UnlockPlans.{unlock_goes_along}
use Rattle.dav_engine.proofs.laws.isolation.plans_agree_in_alike_worlds.Goals as goal

pub returns-clause-agree : goal.returns-clause-agree
returns-clause-agree c = alongside_agree

pub returns-clause-put : goal.returns-clause-put
returns-clause-put c = put_goes_along

pub returns-clause-mkcol : goal.returns-clause-mkcol
returns-clause-mkcol c = mkcol_goes_along

pub returns-clause-delete : goal.returns-clause-delete
returns-clause-delete c = delete_goes_along

pub returns-clause-unlock : goal.returns-clause-unlock
returns-clause-unlock c = unlock_goes_along

pub returns-clause-options : goal.returns-clause-options
returns-clause-options c = options_goes_along

pub returns-clause-lock : goal.returns-clause-lock
returns-clause-lock c = lock_goes_along

pub returns-clause-copy_move : goal.returns-clause-copy_move
returns-clause-copy_move c = copymove_goes_along

pub returns-clause-propfind : goal.returns-clause-propfind
returns-clause-propfind c = propfind_goes_along

pub returns-clause-proppatch : goal.returns-clause-proppatch
returns-clause-proppatch c = proppatch_goes_along
