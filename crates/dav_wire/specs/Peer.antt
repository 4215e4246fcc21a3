-- What contracts read of a connection.
use Rattle.dav_wire.specs.declared.state.Config.{Config}
use Rattle.dav_wire.specs.declared.peer.Peer.{Peer}
use Rattle.dav_wire.specs.History.{History}
use Rattle.dav_wire.specs.Place.{history_of}

-- its limits
abbrev pub config_of : Peer → Config
config_of p = p.line.intake.config

-- what it has done
abbrev pub history : Peer → History
history p = history_of p.line
