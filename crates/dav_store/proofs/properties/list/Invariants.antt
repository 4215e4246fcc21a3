use Rattle.std.proofs.Common.{◌≡◌, ◌++◌, map, drop}
use Rattle.dav_core.specs.Property.{shown_property}
use Rattle.dav_store.proofs.properties.list.Given as goal

-- what was listed and what is left are all
abbrev pub invariant-loop-entry : goal.invariant-loop-entry
invariant-loop-entry l = l.list.items ++ map (shown_property l.content) (drop l.entry-index l.entries) ≡ map (shown_property l.content) l.entries
