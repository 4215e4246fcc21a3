-- The moment of a report.
use Rattle.std.proofs.Common.{arith}
use Rattle.dav_live.specs.Clock.{ClocksDontJump}

pub clocks_dont_jump : ClocksDontJump
clocks_dont_jump moment before seconds date = (omega arith, omega arith, omega arith)
