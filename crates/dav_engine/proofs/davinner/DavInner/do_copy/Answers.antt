use Rattle.dav_engine.proofs.davinner.DavInner.do_copy.Goals as goal

pub returns-clause-copies : goal.returns-clause-copies
returns-clause-copies g c = rw c.reach_at.ensures at c.copy_items.ensures
