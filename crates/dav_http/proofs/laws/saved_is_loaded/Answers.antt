use Rattle.dav_http.proofs.SavedLaws as laws
use Rattle.dav_http.proofs.laws.saved_is_loaded.Goals as goal

pub returns-clause-saved : goal.returns-clause-saved
returns-clause-saved c = laws.saved_is_loaded

pub returns-clause-one : goal.returns-clause-one
returns-clause-one c = laws.loads_one_server
