-- The buffer into which the names of a path are read, one decoded segment after another.
use Rattle.std.specs.Prelude.{◌≡◌, ◌≢◌, ℕ, ◌++◌, ⊤, List, [], ◌∷◌, length, All, Option, Some, None, Result, Ok, Err}
use Rattle.dav_core.specs.declared.errors.ParseError.{ParseError}
use Rattle.dav_core.specs.declared.errors.ParseError.TheVariants.{InvalidPath, PrefixMismatch, ForbiddenPath, Memory}
use Rattle.dav_core.specs.declared.davpath.reading.Kind.{Kind}
use Rattle.dav_core.specs.declared.davpath.reading.Kind.TheVariants.{Name, Blank, Parent, Bad}
use Rattle.dav_core.specs.Path.{Path, parent_piece, IsBlank, IsBad, IsName, joined}
use Rattle.dav_core.specs.Target.{Cancels, Leaves, Climbs, HasBadPiece}

-- The buffer holds the names that these decoded segments leave once each `..` has removed the name before it, each after a slash.
abbrev pub Kept : List (List ℕ) → List ℕ → Type 0
Kept ps buf = (names : Path) × Leaves ps names × (buf ≡ joined names)

-- Why the decoded segment p is refused after the segments ps: it holds a zero byte or a slash (InvalidPath); it is a `..`, and
-- ps leave no name that it could remove (ForbiddenPath); or memory ran out.
abbrev pub Refuses : List (List ℕ) → List ℕ → ParseError → Type 0
Refuses ps p InvalidPath = IsBad p
Refuses ps p PrefixMismatch = ⊥
Refuses ps p ForbiddenPath = Cancels ps × (p ≡ parent_piece)
Refuses ps p Memory = ⊤

-- What reading one more decoded segment does to a buffer that holds the names of ps: it then holds those that all of them
-- leave, or the segment is refused for the reason that `Refuses` gives.
abbrev pub AddsPiece : List (List ℕ) → List ℕ → Result (Unit {0}) ParseError → List ℕ → Type 0
AddsPiece ps p (Ok _) new = Kept (ps ++ p ∷ []) new
AddsPiece ps p (Err e) new = Refuses ps p e

-- Why decoded segments are refused. The first fault decides: a segment that holds a zero byte or a slash (InvalidPath), or a
-- `..` above the root (ForbiddenPath). Or memory ran out.
abbrev pub IsRefusedBy : List (List ℕ) → ParseError → Type 0
IsRefusedBy ps InvalidPath = HasBadPiece ps
IsRefusedBy ps PrefixMismatch = ⊥
IsRefusedBy ps ForbiddenPath = Climbs ps
IsRefusedBy ps Memory = ⊤

-- The kind of a decoded segment: a name; blank, which is empty or `.`; the parent, `..`; or bad, with a zero byte or a slash.
abbrev pub IsKind : List ℕ → Kind → Type 0
IsKind p Name = IsName p
IsKind p Blank = IsBlank p
IsKind p Parent = p ≡ parent_piece
IsKind p Bad = IsBad p

-- The place of the last slash in the buffer; an empty buffer has none.
pub record IsLastSlash (buf : List ℕ) (place : Option ℕ) : Type 0 where
  pub last : (front back : List ℕ) → buf ≡ front ++ 47 ∷ back → All (λ b. b ≢ 47) back → place ≡ Some (length front)
  pub none : buf ≡ [] → place ≡ None
