use Rattle.dav_engine.specs.CopyMove.{is_copy_move}
use Rattle.dav_engine.specs.Follows.{served}
use Rattle.dav_engine.proofs.CopyMoveLemmas.{headers_other}
use Rattle.dav_engine.proofs.davinner.DavInner.handle_copymove.Goals as goal

pub returns-clause-serves : goal.returns-clause-serves
returns-clause-serves g c = served _ (is_copy_move c.in_ok-headers.headers c.in_ok-headers.ensures) (rw c.at-caller.ensures at c.copy_or_move.ensures)

pub copy_or_move-requires-clause-destination : goal.copy_or_move-requires-clause-destination
copy_or_move-requires-clause-destination g c = headers_other c.in_ok-headers.headers c.in_ok-headers.ensures
