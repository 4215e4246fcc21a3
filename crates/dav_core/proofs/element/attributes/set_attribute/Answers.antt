use Rattle.std.proofs.Common.{rules}
use Rattle.std.proofs.lemmas.List.{map-append}
use Rattle.dav_core.proofs.NodeLemmas.{attribute_set, attribute_added}
use Rattle.dav_core.proofs.element.attributes.set_attribute.Goals as goal

pub returns-in-Some-clause-ok : goal.returns-in-Some-clause-ok
returns-in-Some-clause-ok c = search (rules, attribute_set)

pub returns-in_ok-push-in-None-clause-ok : goal.returns-in_ok-push-in-None-clause-ok
returns-in_ok-push-in-None-clause-ok c = search (rules, attribute_added, map-append)
