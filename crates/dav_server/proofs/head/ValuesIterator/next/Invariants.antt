-- The headers that were passed over do not have the name.
use Rattle.std.proofs.Common.{◌≡◌, length, map, All}
use Rattle.httparse.specs.Spans.{IsHeaderWithin, header_bytes}
use Rattle.dav_server.specs.Head.{values_of}
use Rattle.dav_server.proofs.head.ValuesIterator.next.Given as goal

abbrev pub invariant-loop-header : goal.invariant-loop-header
invariant-loop-header l =
    let s = l.self-inside in
    All (IsHeaderWithin (length s.head.now)) s.rest.now
    × (values_of s.name.now (map (header_bytes s.head.now) s.rest.now) ≡ l.fn.self)

abbrev pub decreases-loop-header : goal.decreases-loop-header
decreases-loop-header l = length l.self-inside.rest.now
