use Rattle.std.proofs.Common.{drop}
use Rattle.dav_headers.proofs.ETagListLemmas.{Sofar}
use Rattle.dav_headers.proofs.etag_list.ETagList.decode.Given as goal

abbrev pub invariant-loop-value : goal.invariant-loop-value
invariant-loop-value l = Sofar l.values (drop l.value-index l.values) l.tags.items
