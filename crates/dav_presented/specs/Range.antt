-- Byte ranges (RFC 9110, sections 14.1.2, 14.2 and 14.4).
use Rattle.std.specs.Prelude.{⊤, ℕ, ◌+◌, ◌-◌, ◌<◌, ◌≤◌, List, take, drop, min, nat_lt, nat_eq, if◌then◌else◌}
use Rattle.dav_presented.specs.declared.parts.range.Part.{Part}
use Rattle.dav_presented.specs.declared.parts.range.Part.TheVariants.{Whole, Bytes, Unsatisfiable}
use Rattle.dav_presented.specs.declared.parts.range.Spec.{Spec}
use Rattle.dav_presented.specs.declared.parts.range.Spec.TheVariants.{From, Between, Suffix}

-- What one range asks of a representation of so many bytes: `5-` and `5-9` those from the first place on, as far as there are any; `-5`
-- the last ones, all where there are fewer. A range that begins behind the end is unsatisfiable, and so is `-0` (RFC 9110, section
-- 14.1.2). Of no bytes the last ones can't be told by a Content-Range, so all of them are given (RFC 9110, section 14.2 leaves that to
-- the server).
abbrev pub part_of : Spec → ℕ → Part
part_of (From first) len = if nat_lt first len then Bytes first (len - 1) else Unsatisfiable
part_of (Between first last) len = if nat_lt first len then Bytes first (min last (len - 1)) else Unsatisfiable
part_of (Suffix count) len =
    if nat_eq count 0 then Unsatisfiable else if nat_eq len 0 then Whole else Bytes (len - min count len) (len - 1)

-- The bytes from one place to another, both among them (RFC 9110, section 14.1.2).
abbrev pub bytes_between : ℕ → ℕ → List ℕ → List ℕ
bytes_between first last bytes = take (last + 1 - first) (drop first bytes)

-- What a range is: its first place isn't behind its last one (RFC 9110, section 14.1.1).
abbrev pub IsSpec : Spec → Type 0
IsSpec (From first) = ⊤
IsSpec (Between first last) = first ≤ last
IsSpec (Suffix count) = ⊤

-- A part lies within so many bytes, and isn't empty (RFC 9110, section 14.4).
abbrev pub IsWithin : ℕ → Part → Type 0
IsWithin len Whole = ⊤
IsWithin len (Bytes first last) = (first ≤ last) × (last < len)
IsWithin len Unsatisfiable = ⊤
