-- The members of a folder that lead to what a principal may read.
use Rattle.std.specs.Prelude.{ℕ, ◌++◌, Bool, if◌then◌else◌, bytes_eq, List, [], ◌∷◌, Option, Some, None}
use Rattle.std.specs.List.{list_any}
use Rattle.dav_core.specs.Path.{Path, names, rest_after}
use Rattle.dav_access.specs.declared.grant.Grant.{Grant}
use Rattle.dav_access.specs.Rules.{Rules, is_for}

-- the first of the names that follow, if any do
abbrev pub first_of : Option Path → Option (List ℕ)
first_of None = None
first_of (Some []) = None
first_of (Some (x ∷ rest)) = Some x

-- the name of the member of a folder that a grant is for, or leads to, if it is one for this principal, and of a path below the folder
abbrev pub next_name : Option (List ℕ) → Path → Grant → Option (List ℕ)
next_name who p g = if is_for g.whom who then first_of (rest_after p (names g.path)) else None

-- whether a name is among these
abbrev pub is_among : List (List ℕ) → List ℕ → Bool
is_among found name = list_any (λ n. bytes_eq n name) found

-- names, and one more, if there is one and it isn't among them
abbrev pub with_next : List (List ℕ) → Option (List ℕ) → List (List ℕ)
with_next found None = found
with_next found (Some name) = if is_among found name then found else found ++ name ∷ []

-- names, and those to which grants lead, in the order of the grants, each once
abbrev pub names_after : Option (List ℕ) → Path → List (List ℕ) → List Grant → List (List ℕ)
names_after who p found [] = found
names_after who p found (g ∷ gs) = names_after who p (with_next found (next_name who p g)) gs

-- the names of the members of a folder to which rules lead a principal
abbrev pub names_seen : Rules → Option (List ℕ) → Path → List (List ℕ)
names_seen rules who p = names_after who p [] rules
