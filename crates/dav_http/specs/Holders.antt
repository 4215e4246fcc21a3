-- Whose the locks are that an UNLOCK may end (RFC 4918, sections 6.4 and 9.11).
use Rattle.std.specs.Prelude.{◌≡◌, ◌⊎◌, ⊤, List, ℕ, Some, None}
use Rattle.std.specs.List.{AllByRecursion}
use Rattle.std.specs.Str.Iter.{HasSubslice}
use Rattle.dav_core.specs.Locks.{Lock}
use Rattle.dav_engine.specs.Plan.{Locks}

-- a lock is this user's, or its token doesn't stand in this text
abbrev pub IsOwnOrUnnamed : List ℕ → List ℕ → Lock → Type 0
IsOwnOrUnnamed user text l = (l.principal ≡ Some user) ⊎ (¬ HasSubslice text l.token)

-- a text names no lock of a list but this user's
abbrev pub NamesOwn : Locks → List ℕ → List ℕ → Type 0
NamesOwn None user text = ⊤
NamesOwn (Some ls) user text = AllByRecursion (IsOwnOrUnnamed user text) ls
