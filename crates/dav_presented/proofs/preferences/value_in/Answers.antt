use Rattle.std.proofs.Common.{ap, ◌∙◌}
use Rattle.dav_headers.specs.Elements.{trimmed}
use Rattle.dav_presented.specs.Preferences as spec
use Rattle.dav_presented.proofs.preferences.value_in.Goals as goal

pub returns : goal.returns
returns c = c.trimmed.ensures ∙ ap trimmed (c.after.ensures ∙ ap (spec.after 61) c.before-2.ensures)
