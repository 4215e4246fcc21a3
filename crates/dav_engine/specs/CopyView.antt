-- What contracts see of the headers of a COPY or MOVE, and of the parts of a copy.
use Rattle.std.specs.Prelude.{◌≡◌, ◌≢◌, ◌⊎◌, ℕ, ◌-◌, true, List, Option, Some, None, Result, Ok, Err}
use Rattle.dav_core.specs.declared.errors.ParseError.{ParseError}
use Rattle.dav_core.specs.declared.errors.ParseError.TheVariants as parse
use Rattle.dav_core.specs.declared.errors.FsError.{FsError}
use Rattle.dav_core.specs.declared.errors.DavError.{DavError}
use Rattle.dav_core.specs.declared.errors.DavError.TheVariants as dav
use Rattle.dav_core.specs.Path.{PathText, IsCut, HasNoCut, without_slash}
use Rattle.dav_core.specs.Target.{Reads, IsRefused}
use Rattle.dav_engine.specs.declared.methods.copy_move.headers.CopyHeaders.TheInside.{Inside}
use Rattle.dav_engine.specs.CopyMove.{CopyHeaders}
use Rattle.dav_engine.specs.Copying.{CopyWalk, copy}
use Rattle.dav_engine.specs.Folder.{room_at}

-- The headers of a COPY or MOVE as contracts see them.
abbrev pub copy_headers_of : Inside → CopyHeaders
copy_headers_of h = record {
  conditions = h.conditions;
  depth = h.depth;
  overwrite = h.overwrite;
  destination = h.destination;
}

-- the text names this path below the prefix
abbrev pub NamesBelow : List ℕ → List ℕ → PathText → Type 0
NamesBelow prefix text d = (bytes : List ℕ) × Reads text bytes × IsCut (without_slash prefix) bytes d

-- Why a text names no path below the prefix: it isn't read as a path, or its path isn't at or below the prefix; or memory ran out.
abbrev pub NamesNoneBelow : List ℕ → List ℕ → ParseError → Type 0
NamesNoneBelow prefix text e =
    (e ≡ parse.Memory) ⊎ ((IsRefused text e × (e ≢ parse.Memory))
    ⊎ ((e ≡ parse.PrefixMismatch) × (bytes : List ℕ) × Reads text bytes × HasNoCut (without_slash prefix) bytes))

-- What a copy or a move by itself returns: why the last of the paths wasn't copied, if one wasn't.
abbrev pub result_of : Option FsError → Result (Unit {0}) DavError
result_of None = Ok tt
result_of (Some e) = Err (dav.FsError e)

-- The copy of what is below s, as part of the copy to `top`.
abbrev pub copy_below : ℕ → PathText → PathText → CopyWalk
copy_below now top s = λ a b. copy (room_at s - 1) true now top a b
