use Rattle.dav_presented.proofs.PartLemmas.{parts_join, parts_are_whole}
use Rattle.dav_presented.proofs.laws.parts_join.Goals as goal

pub returns : goal.returns
returns c = record { joined = parts_join; whole = parts_are_whole }
