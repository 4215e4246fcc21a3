-- What contracts see of an exchange.
use Rattle.std.specs.Option.{option_copied}
use Rattle.dav_server.specs.declared.exchange.Exchange.TheInside.{Inside}
use Rattle.dav_server.specs.Machine.{Exchange}

-- what contracts see of an exchange: the request that the machine gets
abbrev pub asked : Inside → Exchange
asked x = record { head = x.head.now; body = x.body; principal = option_copied x.principal; moment = x.moment.seconds; token = x.token }
