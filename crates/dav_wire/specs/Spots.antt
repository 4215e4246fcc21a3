-- A reader's place in the chunks of a body, beside the states of `http1`'s machine of chunks (RFC 9112, section 7.1).
use Rattle.std.specs.Prelude.{ℕ, ◌+◌, ◌*◌, ◌-◌, ◌^◌, ◌&&◌, ◌==◌, nat_lt, List, [], ◌∷◌, if◌then◌else◌}
use Rattle.std.specs.Char.{digit_value}
use Rattle.http1.specs.declared.chunked.State.{State}
use Rattle.http1.specs.declared.chunked.State.TheVariants as state
use Rattle.http1.specs.declared.conn.BodySize.{BodySize}
use Rattle.http1.specs.declared.conn.BodySize.TheVariants.{Empty, Known, Unknown}
use Rattle.dav_wire.specs.declared.spot.Spot.{Spot}
use Rattle.dav_wire.specs.declared.spot.Spot.TheVariants.{Size, Line, Data}

-- how many bytes of a chunk's data are to come, once the line of its size came
abbrev pub to_come : Spot → ℕ
to_come (Size size) = 0
to_come (Line size) = 0
to_come (Data left) = left

-- the place after the line of a size, or, where it is 0, after a chunk
abbrev pub after_line : ℕ → Spot
after_line size = if size == 0 then Size 0 else Data size

-- the place after one byte
abbrev pub next_spot : Spot → ℕ → Spot
next_spot (Size size) byte =
    if nat_lt (digit_value byte) 16 && nat_lt size (2 ^ 60) then Size (size * 16 + digit_value byte) else Line size
next_spot (Line size) byte = if byte == 10 then after_line size else Line size
next_spot (Data left) byte = if left == 0 then Line 0 else Data (left - 1)

-- the place after these bytes
abbrev pub spot_after : Spot → List ℕ → Spot
spot_after spot [] = spot
spot_after spot (byte ∷ bytes) = spot_after (next_spot spot byte) bytes

-- the place where the machine of chunks is in this state
abbrev pub spot_of : State → Spot
spot_of state.Start = Size 0
spot_of (state.Size size) = Size size
spot_of (state.Blank size) = Line size
spot_of (state.Extension size) = Line size
spot_of (state.SizeLf size) = Line size
spot_of (state.Data left) = Data (left + 1)
spot_of state.DataCr = Data 0
spot_of state.DataLf = Line 0
spot_of state.Done = Size 0
spot_of (state.Failed e) = Size 0

-- what is to come of a chunk, of a body that is in chunks, as one is whose size isn't known
abbrev pub chunk_left : BodySize → Spot → ℕ
chunk_left Empty spot = 0
chunk_left (Known len) spot = 0
chunk_left Unknown spot = to_come spot

-- the place in such a body after these bytes
abbrev pub followed : BodySize → Spot → List ℕ → Spot
followed Empty spot bytes = spot
followed (Known len) spot bytes = spot
followed Unknown spot bytes = spot_after spot bytes

-- how many bytes are stated of such a body: those that came and those to come; of another as many as were
abbrev pub tallied : BodySize → ℕ → ℕ → ℕ
tallied Empty stated total = stated
tallied (Known len) stated total = stated
tallied Unknown stated total = total
