-- How much of what is at a path and below it a request may change.
use Rattle.std.specs.Prelude.{◌&&◌, Bool, false, Option, None, Some}
use Rattle.std.specs.List.{filter}
use Rattle.dav_core.specs.Path.{Path, is_at_or_under}
use Rattle.dav_core.specs.World.{Nodes}
use Rattle.dav_confined.specs.Asked.{AskedView}
use Rattle.dav_confined.specs.Reached.{reaches}

-- whether what is asked may change something at a path; nothing where a head isn't read
abbrev pub may_change : Option AskedView → Path → Bool
may_change None q = false
may_change (Some a) q = reaches a q

-- the nodes at a path and below it that pass a test of their paths
abbrev pub under_where : Path → (Path → Bool) → Nodes → Nodes
under_where top test ns = filter (λ e. is_at_or_under e.0 top && test e.0) ns

-- the nodes at a path and below it at which what is asked may change something
abbrev pub part_of : Path → Option AskedView → Nodes → Nodes
part_of top asked ns = under_where top (may_change asked) ns
