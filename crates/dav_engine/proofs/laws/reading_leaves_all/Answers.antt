use Rattle.dav_engine.proofs.OptionsLemmas.{options_only_reads}
use Rattle.dav_engine.proofs.PropertyPlans.{propfind_only_reads}
use Rattle.dav_engine.proofs.WorldAnswers.{reading_leaves_all}
use Rattle.dav_engine.proofs.laws.reading_leaves_all.Goals as goal

pub returns-clause-leaves : goal.returns-clause-leaves
returns-clause-leaves c = reading_leaves_all

pub returns-clause-options : goal.returns-clause-options
returns-clause-options c = options_only_reads

pub returns-clause-propfind : goal.returns-clause-propfind
returns-clause-propfind c = propfind_only_reads
