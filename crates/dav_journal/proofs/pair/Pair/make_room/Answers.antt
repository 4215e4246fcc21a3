use Rattle.dav_journal.proofs.pair.Pair.make_room.Goals as goal

pub returns : goal.returns
returns g c = record { clean = λ is. (c.room.ensures.clean is.0, is.1); kept = λ contents kept. record { small = kept.small; kept = c.room.ensures.kept _ kept.kept; spare = kept.spare } }
