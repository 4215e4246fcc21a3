use Rattle.dav_access.proofs.BasicLemmas.{basic_once}
use Rattle.dav_access.proofs.laws.credentials_are_read_once.Goals as goal

pub returns : goal.returns
returns c = basic_once
