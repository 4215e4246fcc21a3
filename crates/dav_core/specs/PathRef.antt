-- What contracts see of a lent path, and of the names that an iterator has left.
use Rattle.std.specs.Prelude.{◌≡◌, ◌≢◌, ℕ, ◌≤◌, ◌++◌, Bool, true, not, List, [], length, take, drop, Option, Some, None}
use Rattle.std.specs.Str.{IsUtf8}
use denote.Ref.{Bor}
use Rattle.dav_core.specs.declared.errors.ParseError.{ParseError}
use Rattle.dav_core.specs.declared.errors.ParseError.TheVariants.{InvalidPath, PrefixMismatch, ForbiddenPath, Memory}
use Rattle.dav_core.specs.declared.davpath.DavPathRef.{DavPathRef}
use Rattle.dav_core.specs.declared.davpath.Segments.{Segments}
use Rattle.dav_core.specs.Path.{Path, names_in, end_for, IsCut, HasNoCut}

-- The bytes of a lent path.
abbrev pub ref_bytes : DavPathRef → List ℕ
ref_bytes r = r.bytes.now

-- The names that the iterator has still to give.
abbrev pub names_left : Segments → Path
names_left s = names_in s.rest.now

-- The text of these bytes is given exactly where it is wanted and they are UTF-8; else none.
abbrev pub GivesText : Type 0 → List ℕ → Option (Bor (List ℕ)) → Type 0
GivesText Wanted bytes None = ¬ (Wanted × IsUtf8 bytes)
GivesText Wanted bytes (Some s) = Wanted × (s.now ≡ bytes)

-- Why a path isn't cut after a prefix: it can't be; or memory ran out for the slash that is added where the prefix is all of the path.
abbrev pub IsCutRefused : List ℕ → List ℕ → ParseError → Type 0
IsCutRefused prefix bytes InvalidPath = ⊥
IsCutRefused prefix bytes PrefixMismatch = HasNoCut prefix bytes
IsCutRefused prefix bytes ForbiddenPath = ⊥
IsCutRefused prefix bytes Memory = (prefix ≢ []) × (bytes ≡ prefix)

-- whether a path can be cut after the prefix p, and if so whether a slash is added there
abbrev pub CutsAt : List ℕ → List ℕ → Option Bool → Type 0
CutsAt p bytes None = HasNoCut p bytes
CutsAt p bytes (Some lacks_slash) =
    (length p ≤ length bytes)
    × IsCut p bytes (record { prefix = take (length p) bytes; bytes = drop (length p) bytes ++ end_for (not lacks_slash) })
    × (lacks_slash ≡ true → (p ≢ []) × (bytes ≡ p))
