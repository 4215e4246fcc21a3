-- The headers that were passed over are in the map.
use Rattle.std.proofs.Common.{◌≡◌, map, take}
use Rattle.httparse.specs.Spans.{header_bytes}
use Rattle.dav_server.specs.Headers.{headers_of}
use Rattle.dav_server.proofs.head.headers.collect.Given as goal

abbrev pub invariant-loop-span : goal.invariant-loop-span
invariant-loop-span l = l.headers ≡ headers_of (map (header_bytes l.head) (take l.span-index l.spans))
