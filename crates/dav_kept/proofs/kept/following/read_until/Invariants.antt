use Rattle.std.proofs.Common.{List, ℕ, ◌++◌}
use Rattle.dav_kept.proofs.kept.following.read_until.Given as goal

abbrev pub invariant-loop : goal.invariant-loop
invariant-loop g l =
    ((blocks : List (List ℕ)) × (g.K.Keeps.is_clean l.journal → (before : List (List ℕ)) → g.K.Keeps.has_so_far l.fn.journal before
    → g.K.Keeps.has_so_far l.journal (before ++ blocks)))
    × (g.K.Keeps.is_clean l.journal → g.K.Keeps.is_clean l.fn.journal)
