use Rattle.std.proofs.Common.{List, drop}
use Rattle.dav_headers.specs.ETag.{EntityTag}
use Rattle.dav_headers.proofs.ETagListLemmas.{Sofar}
use Rattle.dav_headers.proofs.etag_list.can_be_read.Given as goal

abbrev pub invariant-loop-value : goal.invariant-loop-value
invariant-loop-value l = (ts : List EntityTag) × Sofar l.values (drop l.value-index l.values) ts
