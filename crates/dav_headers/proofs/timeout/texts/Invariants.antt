use Rattle.std.proofs.Common.{◌≡◌, ◌++◌, map, drop, string_bytes}
use Rattle.dav_headers.specs.Timeout.{time_type_text}
use Rattle.dav_headers.proofs.timeout.texts.Given as goal

abbrev pub invariant-loop-time_type : goal.invariant-loop-time_type
invariant-loop-time_type l =
    map string_bytes l.texts.items ++ map time_type_text (drop l.time_type-index l.time_types) ≡ map time_type_text l.time_types
