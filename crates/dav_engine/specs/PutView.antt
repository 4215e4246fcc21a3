-- What contracts see of the headers of a PUT or PATCH.
use Rattle.std.specs.Prelude.{string_bytes}
use Rattle.std.specs.Option.{option_map}
use Rattle.dav_engine.specs.declared.methods.put.headers.PutHeaders.TheInside.{Inside}
use Rattle.dav_engine.specs.Put.{PutHeaders}

-- The headers of a PUT or PATCH as contracts see them.
abbrev pub put_headers_of : Inside → PutHeaders
put_headers_of h = record {
  conditions = h.conditions;
  announced = h.announced;
  range = h.range;
  is_partial = h.is_partial;
  update = h.update;
  checksum = option_map string_bytes h.checksum;
}
