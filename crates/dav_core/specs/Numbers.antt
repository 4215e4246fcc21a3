-- Bounds of numbers.
use Rattle.std.specs.Prelude.{ℕ}

-- the greatest number of 64 bits, 2^64 - 1
abbrev pub max_u64 : ℕ
max_u64 = 18446744073709551615
