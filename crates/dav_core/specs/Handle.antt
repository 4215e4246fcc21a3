-- What contracts see of an open file: the change number under which its file was created, which finds the file wherever
-- a rename moved it; the position where the next read or write begins; and what it was opened for.
use Rattle.std.specs.Prelude.{ℕ, ℤ, pos, ◌+ℤ◌, ◌||◌, int_lt, nat_lt, nat_abs, Bool, if◌then◌else◌, List, length, Option, Some, None}
use Rattle.std.specs.declared.io.traits.SeekFrom.{SeekFrom}
use Rattle.std.specs.declared.io.traits.SeekFrom.TheVariants.{Start, End, Current}
use Rattle.dav_core.specs.Numbers.{max_u64}

-- An open file: the change number under which its file was created; the position at which the next read begins, and the next
-- write unless the file was opened to append; and whether it was opened to read, to write and to append.
pub record Handle : Type 0 where
  pub made : ℕ
  pub position : ℕ
  pub reads : Bool
  pub writes : Bool
  pub appends : Bool

-- How a file is opened. `size`, the length that the client announces, and `checksum` are hints, which change nothing here.
pub record Opening : Type 0 where
  pub read : Bool
  pub write : Bool
  pub append : Bool
  pub truncate : Bool
  pub create : Bool
  pub create_new : Bool
  pub size : Option ℕ
  pub checksum : Option (List ℕ)

-- A file that was just opened, at position 0; to append is to write, too.
abbrev pub opened : ℕ → Opening → Handle
opened made how = record { made = made; position = 0; reads = how.read; writes = how.write || how.append; appends = how.append }

-- Where the next write begins in a file of these bytes: at their end if it was opened to append, else at its position.
abbrev pub write_place : Handle → List ℕ → ℕ
write_place file bytes = if file.appends then length bytes else file.position

-- The position that a number is; none where it is below 0 or above 2^64 - 1.
abbrev pub place_within : ℤ → Option ℕ
place_within z = if int_lt z (pos 0) then None else if nat_lt max_u64 (nat_abs z) then None else Some (nat_abs z)

-- The position to which a seek moves, from this position in a file of this length; none where it is below 0 or above 2^64 - 1.
abbrev pub place_for : SeekFrom → ℕ → ℕ → Option ℕ
place_for (Start k) position len = Some k
place_for (End offset) position len = place_within (pos len +ℤ offset)
place_for (Current offset) position len = place_within (pos position +ℤ offset)
