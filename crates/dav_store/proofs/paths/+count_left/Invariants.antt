use Rattle.dav_store.proofs.paths.+count_left.Given as goal

-- the room that is left
abbrev pub decreases-count_left : goal.decreases-count_left
decreases-count_left l = l.at_most
