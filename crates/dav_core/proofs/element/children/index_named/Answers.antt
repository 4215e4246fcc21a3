use Rattle.std.proofs.Common.{rules}
use Rattle.std.proofs.lemmas.List.{take_all}
use Rattle.dav_core.proofs.ElementLemmas.{none_more}
use Rattle.dav_core.proofs.element.children.index_named.Goals as goal

pub loop-index-preserved : goal.loop-index-preserved
loop-index-preserved c = search (rules, none_more)

pub returns : goal.returns
returns c = search (rules, take_all)
