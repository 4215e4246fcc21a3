use Rattle.dav_core.specs.PathRef.{names_left}
use Rattle.dav_store.proofs.NameLemmas.{first_is_segment}
use Rattle.dav_store.proofs.names.Names.of.Goals as goal

pub from_slice-requires : goal.from_slice-requires
from_slice-requires c = first_is_segment c.loop-segment.segment-iterator.rest.now c.in-Some.segment.now (names_left c.next.new.self) c.in-Some.ensures.steps
