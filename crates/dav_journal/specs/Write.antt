-- What a write of a block may leave.
use Rattle.std.specs.Prelude.{◌≡◌, ◌≢◌, ◌⊎◌, ℕ, ◌<◌, ◌≤◌, List, length, slice_index}
use Rattle.sqlite_disk.specs.Disk.{Holds}

-- the new file has the first n bytes of the old one
pub record KeepsFront (n : ℕ) (old new : List ℕ) : Type 0 where
  pub within : n ≤ length new
  pub each : (i : ℕ) → i < n → slice_index new i ≡ slice_index old i

-- Over a gate that is in the file and shut: what is before it stays, the file doesn't get shorter, and either the gate is shut or all of
-- these bytes are there.
abbrev pub AllOrShut : ℕ → List ℕ → List ℕ → List ℕ → Type 0
AllOrShut at bytes old new = at < length old → slice_index old at ≢ 1
    → KeepsFront at old new × (length old ≤ length new) × ((slice_index new at ≢ 1) ⊎ Holds new at bytes)

-- a file that has n bytes keeps these
abbrev pub KeepsBelow : ℕ → List ℕ → List ℕ → Type 0
KeepsBelow n old new = n ≤ length old → KeepsFront n old new

-- the file reaches this place, and has zeros up to it
abbrev pub HasZeros : List ℕ → ℕ → ℕ → Type 0
HasZeros file from to = (to ≤ length file) × ((i : ℕ) → from ≤ i → i < to → slice_index file i ≡ 0)
