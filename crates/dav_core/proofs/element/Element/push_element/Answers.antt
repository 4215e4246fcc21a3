use Rattle.std.proofs.Common.{rules}
use Rattle.std.proofs.lemmas.List.{map-append}
use Rattle.dav_core.proofs.ElementLemmas.{tree_list_trees}
use Rattle.dav_core.proofs.element.Element.push_element.Goals as goal

pub returns-clause-ok : goal.returns-clause-ok
returns-clause-ok c = search (rules, map-append, tree_list_trees)
