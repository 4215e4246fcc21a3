use Rattle.dav_journal.proofs.pair.Pair.make_room_to_renew.Goals as goal

pub returns : goal.returns
returns g c = record { clean = λ is. (is.0, c.room.ensures.clean is.1); kept = λ contents kept. record { small = kept.small; kept = kept.kept; spare = c.room.ensures.kept _ kept.spare } }
