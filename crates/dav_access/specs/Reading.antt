-- Why a text is no list of users.
use Rattle.std.specs.Prelude.{ℕ, List, []}
use Rattle.dav_access.specs.declared.error.UsersError.{UsersError}
use Rattle.dav_access.specs.declared.error.UsersError.TheVariants.{Line, Nobody, Memory}
use Rattle.dav_access.specs.Users.{IsFirstFault, ListsUsers}

-- the error's line is the first that a list may not have, unless memory ran out
abbrev pub IsLineFault : List ℕ → UsersError → Type 0
IsLineFault text (Line number) = IsFirstFault text number
IsLineFault text Nobody = ⊥
IsLineFault text Memory = Unit {0}

-- the same, or each line is skipped
abbrev pub IsReadFault : List ℕ → UsersError → Type 0
IsReadFault text (Line number) = IsFirstFault text number
IsReadFault text Nobody = ListsUsers text []
IsReadFault text Memory = Unit {0}
