use Rattle.std.proofs.Common.{◌≡◌, drop}
use Rattle.std.specs.List.{find, flat_map}
use Rattle.dav_presented.specs.Preferences.{is_return, preferences_in}
use Rattle.dav_presented.proofs.preferences.first_return.Given as goal

abbrev pub invariant-loop-value : goal.invariant-loop-value
invariant-loop-value l = find is_return (flat_map preferences_in (drop l.value-index l.values)) ≡ find is_return (flat_map preferences_in l.values)
