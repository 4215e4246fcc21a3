-- Properties and their writer, as contracts see them.
use Rattle.std.specs.Prelude.{ℕ, List, map, string_bytes, option_map}
use Rattle.std.specs.BTreeMap.{BTreeMap}
use Rattle.std.specs.declared.alloc.Global.{Global}
use Rattle.std.specs.declared.vec.Vec.{Vec}
use Rattle.dav_core.specs.Element.{ElementTree}
use Rattle.dav_engine.specs.declared.properties.writer.Writer.TheInside as writing
use Rattle.dav_engine.specs.Properties.{Group, Writer}

-- The properties under one status, as contracts see them.
abbrev pub group_of : ℕ × Vec ElementTree Global → Group
group_of entry = (entry.0, entry.1.items)

-- The properties of a map under their statuses, which rise.
abbrev pub groups_in : BTreeMap ℕ (Vec ElementTree Global) → List Group
groups_in m = map group_of m.entries

-- How properties are reported, as contracts see it.
abbrev pub writer_of : writing.Inside → Writer
writer_of w = record { telling = w.telling; agent = string_bytes w.agent; principal = option_map string_bytes w.principal; properties = w.properties.items }
