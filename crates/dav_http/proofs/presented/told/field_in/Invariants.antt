-- None of the fields that were looked at has the name.
use Rattle.std.proofs.Common.{◌≡◌}
use Rattle.http_header.specs.HeaderMap.{pairs}
use Rattle.dav_engine.specs.Reply.{header_pairs}
use Rattle.dav_http.specs.Presented.{field_in}
use Rattle.dav_http.proofs.presented.told.field_in.Given as goal

abbrev pub invariant-loop-known : goal.invariant-loop-known
invariant-loop-known l = field_in l.fn.name (header_pairs l.known-iterator) ≡ field_in l.fn.name (header_pairs (pairs l.fn.headers))
