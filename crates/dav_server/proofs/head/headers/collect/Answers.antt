use Rattle.std.proofs.Common.{arith, map, take, length-take}
use Rattle.std.proofs.lemmas.List.{length-map}
use Rattle.httparse.specs.Spans.{header_bytes}
use Rattle.dav_server.proofs.HeaderLemmas.{field_at, has_room}
use Rattle.dav_server.proofs.head.headers.collect.Goals as goal

pub name_of-requires : goal.name_of-requires
name_of-requires c = rw c.of.ensures (field_at c.args.head.now c.args.spans.now c.loop-span.span-index _ c.requires.headers c.loop-span-test.true).0

pub value_of-requires : goal.value_of-requires
value_of-requires c = rw c.of-in-loop-span.ensures (field_at c.args.head.now c.args.spans.now c.loop-span.span-index _ c.requires.headers c.loop-span-test.true).1

pub append-requires : goal.append-requires
append-requires c = rw c.loop-span.invariant (has_room (map (header_bytes c.args.head.now) (take c.loop-span.span-index c.args.spans.now)) c.in_ok-name.name
    (omega (arith, length-map (take c.loop-span.span-index c.args.spans.now) (header_bytes c.args.head.now), length-take c.loop-span.span-index c.args.spans.now)))
