use Rattle.std.proofs.Common.{rules}
use Rattle.dav_core.proofs.ElementLemmas.{list_any_past}
use Rattle.dav_core.proofs.element.Element.new2.Goals as goal

pub returns-in_default : goal.returns-in_default
returns-in_default c = search (rules, list_any_past)
