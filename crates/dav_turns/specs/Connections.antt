-- The connections of a server, as contracts see them.
use Rattle.std.specs.Prelude.{ℕ, List, Option}
use Rattle.dav_wire.specs.declared.state.Config.{Config}
use Rattle.dav_wire.specs.History.{History}
use Rattle.dav_turns.specs.declared.config.TurnsConfig.{TurnsConfig}

-- a connection: its limits, the address that it came from, and what it has done
pub record ConnectionView : Type 0 where
  pub config : Config
  pub address : List ℕ
  pub history : History

-- the connections, by their slots
abbrev pub Slots : Type 0
Slots = List (Option ConnectionView)

-- the limits of the connections, and the connections
pub record TurnsView : Type 0 where
  pub config : TurnsConfig
  pub slots : Slots
