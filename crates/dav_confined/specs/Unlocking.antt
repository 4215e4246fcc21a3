-- Which locks an UNLOCK names, and which of them its principal may end (RFC 4918, section 9.11).
use Rattle.std.specs.Prelude.{◌≡◌, ℕ, true, List, Option}
use Rattle.dav_core.specs.Locks.{Lock}
use Rattle.dav_core.specs.Path.{PathText, is_at_or_under, names}
use Rattle.dav_engine.specs.Guard.{folder_of}
use Rattle.dav_access.specs.Rules.{Rules}
use Rattle.dav_confined.specs.Leave.{MayEnd}

-- what an UNLOCK names locks by: the path that its target names, and the token in Lock-Token
pub record UnlockView : Type 0 where
  pub path : PathText
  pub token : List ℕ

-- a lock is named: it has the token, and the path is the lock's or below it
abbrev pub Names : UnlockView → Lock → Type 0
Names u l = (l.token ≡ u.token) × (is_at_or_under (names u.path) (folder_of l) ≡ true)

-- a principal may end a lock, where it is named
abbrev pub MayEndNamed : Rules → Option (List ℕ) → UnlockView → Lock → Type 0
MayEndNamed rules who u l = Names u l → MayEnd rules who l
