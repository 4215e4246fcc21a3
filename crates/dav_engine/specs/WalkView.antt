-- What contracts see of the parts of a walk.
use Rattle.std.specs.Prelude.{ℕ, ◌-◌, Bool, List}
use Rattle.dav_core.specs.Path.{PathText}
use Rattle.dav_engine.specs.Folder.{room_at}
use Rattle.dav_engine.specs.Removal.{Walk, remove}

-- An entry of a listing as contracts see it: its name, and whether it is a folder.
abbrev pub entry_view : {E : Type 0} → (E → List ℕ) → (E → Bool) → E → List ℕ × Bool
entry_view name dir e = (name e, dir e)

-- The removal of what is below p, down to as many levels as there is room for below p.
abbrev pub below : ℕ → PathText → Walk
below now p = λ q dir. remove (room_at p - 1) now q dir
