use Rattle.std.proofs.Common.{◌≤◌, ◌+◌, ◌++◌, ℕ, List, length, map}
use Rattle.std.specs.Str.{IsUtf8}
use Rattle.dav_access.specs.Users.{IsFirstFault, ListsUsers}
use Rattle.dav_access.proofs.users.users_in.Given as goal

abbrev pub invariant-loop-rest : goal.invariant-loop-rest
invariant-loop-rest l =
    ((more : List (List ℕ × List ℕ)) → ListsUsers l.rest more → ListsUsers l.text (map (λ u. (u.name, u.check)) l.users.items ++ more))
    × ((n : ℕ) → IsFirstFault l.rest n → IsFirstFault l.text (l.count + n)) × (l.count + length l.rest ≤ length l.text) × IsUtf8 l.rest

abbrev pub decreases-loop-rest : goal.decreases-loop-rest
decreases-loop-rest l = length l.rest
