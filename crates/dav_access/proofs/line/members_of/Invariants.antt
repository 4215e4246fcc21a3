use Rattle.std.proofs.Common.{◌≡◌, ◌<◌, ℕ, List, get_or}
use Rattle.dav_access.specs.RulesText.{SaysGroup}
use Rattle.dav_access.proofs.line.members_of.Given as goal

abbrev pub invariant-loop-line : goal.invariant-loop-line
invariant-loop-line l = (k : ℕ) → k < l.line-index → (d : List (List ℕ)) (members : List (List ℕ)) → ¬ SaysGroup (get_or l.lines k d) l.group members
