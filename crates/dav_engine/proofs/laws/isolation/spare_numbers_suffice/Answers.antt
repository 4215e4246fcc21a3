use Rattle.dav_engine.proofs.NumberLemmas as numbers
use Rattle.dav_engine.proofs.laws.isolation.spare_numbers_suffice.Goals as goal

pub returns : goal.returns
returns c = numbers.spare_numbers_suffice
