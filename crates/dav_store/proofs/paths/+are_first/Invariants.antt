use Rattle.dav_store.proofs.paths.+are_first.Given as goal

-- the names that are left
abbrev pub decreases-are_first : goal.decreases-are_first
decreases-are_first l = l.len
