-- What turns do with a stream of reports, in whatever pieces it comes.
use Rattle.std.specs.Prelude.{◌≡◌, ℕ, List, [], ◌++◌, drop}
use Rattle.std.specs.List.{flat_map}
use Rattle.dav_turns.specs.declared.config.TurnsConfig.{TurnsConfig}
use Rattle.dav_turns.specs.Connections.{TurnsView}
use Rattle.dav_turns.specs.Frames.{Order, ReportView, ReadsReports}
use Rattle.dav_turns.specs.Turns.{Keeping, Server, server, Turn}
use Rattle.dav_turns.specs.Laws.{Happens, turn_events}

-- These bytes came, and the rest of them isn't heard: what stands before it are reports, each of
-- which was heard once, in that order, in one turn after another. The orders are those of all turns.
pub record TakesTurns {S : Type 0} (k : Keeping S) (config : TurnsConfig) (came rest : List ℕ)
    (old new : Server S) (orders : List Order) : Type 0 where
  pub turns : List (List ReportView)
  pub reads : ReadsReports came (flat_map (λ (ts : List ReportView). ts) turns) rest
  pub happens : Happens k config (flat_map turn_events turns) old new orders

-- Before anything came no turn was taken. And where a turn is taken of what was left with what came
-- since, and what it used is dropped, turns were taken of all that came.
pub record StreamsAreTurns {S : Type 0} (k : Keeping S) : Type 0 where
  pub first : (config : TurnsConfig) (s : Server S) → TakesTurns k config [] [] s s []
  pub next : (came rest more : List ℕ) (used : ℕ) (old : Server S) (mid : TurnsView) (was : S)
      (new : TurnsView) (now : S) (orders later : List Order)
      → TakesTurns k mid.config came rest old (server mid.slots was) orders
      → Turn k (rest ++ more) used mid was new now later
      → TakesTurns k mid.config (came ++ more) (drop used (rest ++ more)) old
      (server new.slots now) (orders ++ later)
