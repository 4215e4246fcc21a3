-- What is left of a list of refusals that was loaded.
use Rattle.std.specs.Prelude.{ℕ, List, [], drop, Option, Some, None}
use Rattle.std.specs.declared.vec.Vec.{Vec}
use Rattle.std.specs.declared.alloc.Global.{Global}
use Rattle.dav_core.specs.declared.errors.FsError.{FsError}

-- what is left of a list of refusals from a place on; nothing where no list was loaded
abbrev pub left : Option (Vec (Option FsError) Global) → ℕ → List (Option FsError)
left None at = []
left (Some list) at = drop at list.items
