-- What contracts see of a caller.
use Rattle.std.specs.Option.{option_copied}
use Rattle.dav_engine.specs.declared.davinner.Caller.TheInside.{Inside}
use Rattle.dav_engine.specs.Caller.{Caller}

-- The caller as contracts see it.
abbrev pub caller_of : Inside → Caller
caller_of c = record { principal = option_copied c.principal; moment = c.moment; token = option_copied c.token }
