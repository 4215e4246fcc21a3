use Rattle.std.proofs.Common.{◌≡◌, ◌++◌}
use Rattle.http_header.specs.HeaderMap.{get_all}
use Rattle.dav_engine.proofs.headers.values_of.Given as goal

abbrev pub invariant-loop-value : goal.invariant-loop-value
invariant-loop-value l = l.values.items ++ l.value-iterator ≡ get_all l.headers l.fn.name
