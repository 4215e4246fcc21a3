use Rattle.std.proofs.Common.{ℕ, List, ◌++◌}
use Rattle.std.specs.List.{concat}
use Rattle.dav_kept.specs.Kept.{PlaysRecords, StaysAsKept, held_by, journal_of, answer_step}
use Rattle.dav_kept.proofs.kept.Kept.follow.Given as goal

abbrev pub invariant-loop : goal.invariant-loop
invariant-loop g l =
    (blocks : List (List ℕ)) × PlaysRecords (answer_step g.H.Handles.answers) (concat blocks) (held_by l.fn.self) (held_by l.self)
    × (g.J.Keeps.is_clean (journal_of l.self) → (before : List (List ℕ)) → g.J.Keeps.has_so_far (journal_of l.fn.self) before
    → g.J.Keeps.has_so_far (journal_of l.self) (before ++ blocks))
    × StaysAsKept l.fn.self l.self × (g.J.Keeps.is_clean (journal_of l.self) → g.J.Keeps.is_clean (journal_of l.fn.self))
