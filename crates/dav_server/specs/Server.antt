-- Servers as contracts see them, and what they answer.
use Rattle.std.specs.Prelude.{◌≡◌, ◌++◌, List, Option, [], ◌∷◌, map, None}
use Rattle.dav_engine.specs.Plan.{ServerState}
use Rattle.dav_core.specs.Element.{ElementTree}
use Rattle.dav_engine.specs.Reply.{Reply}
use Rattle.dav_engine.specs.Taking.{IsHandedOn}
use Rattle.dav_server.specs.Leaving.{SafeLeaves, GrantsNothing}
use Rattle.dav_server.specs.Machine.{Exchange, Settings, Steps, StepCut}
use Rattle.dav_server.specs.Run.{Turn, begun, Runs}

-- a server: its settings, and its state
pub record Server : Type 0 where
  pub settings : Settings
  pub state : ServerState

-- what contracts see of a handler: its store and, where it has one, its list of locks, and the server that these are with its settings
pub record HandlerView (F L : Type 0) : Type 0 where
  pub fs : F
  pub ls : Option L
  pub server : Server

-- the reply to a request and the server that is left are those of a step of the machine
abbrev pub Answers : Server → Exchange → Reply → Server → Type 0
Answers old x reply new = Steps old.settings x old.state.store old.state.locks reply new.state.store new.state.locks

-- The whole reply to a request and the server that is left are those of a step of the machine, and the reply is told so: as it is, or
-- without its multistatus, which was handed on to `to` in parts (RFC 4918, section 13).
pub record AnswersInParts {T : Type 0} (opened taken : T → ElementTree → T) (to : T) (old : Server) (x : Exchange) (told : Reply) (after : Option T) (new : Server) : Type 0 where
  pub whole : Reply
  pub answers : Answers old x whole new
  pub handed : IsHandedOn opened taken to whole told after

-- What a request leaves in which memory ran out: each call of the store that was made is whole. A request of a safe method has changed
-- nothing; nor has a LOCK that asks for a new lock, where no lock has the token that it hands in (RFC 9110, section 9.2.1; RFC 4918,
-- section 9.10).
pub record StopsIn (old : Server) (x : Exchange) (new : Server) : Type 0 where
  pub cut : StepCut old.settings x old.state.store old.state.locks new.state.store new.state.locks
  pub reading : SafeLeaves x old.state new.state
  pub ungranted : GrantsNothing x old.state new.state

-- the replies to these turns and the server that is left are those of a run of the machine
abbrev pub AnswersAll : Server → List Turn → List Reply → Server → Type 0
AnswersAll old ts replies new = Runs old.settings ts old.state.store old.state.locks replies new.state.store new.state.locks

-- a request as a turn, without refusals of its own
abbrev pub turn_of : Exchange → Turn
turn_of x = record { asked = x; refusals = None }

-- requests as turns, without refusals of their own
abbrev pub turns : List Exchange → List Turn
turns xs = map turn_of xs

-- the server when a turn begins: with the refusals that the turn brings, where it brings any
abbrev pub at_turn : Turn → Server → Server
at_turn t s = record s { state = record s.state { store = begun t.refusals s.state.store } }

-- What a run leaves in which memory ran out, with these replies, perhaps none: they are those of a run of the first turns, and memory ran
-- out in the next turn.
pub record AnswersSome (old : Server) (ts : List Turn) (replies : List Reply) (new : Server) : Type 0 where
  pub front : List Turn
  pub turn : Turn
  pub back : List Turn
  pub was : ServerState
  pub turns_are : ts ≡ front ++ turn ∷ back
  pub earlier : Runs old.settings front old.state.store old.state.locks replies was.store was.locks
  pub stopped : StopsIn (at_turn turn (record { settings = old.settings; state = was })) turn.asked new

-- the list of replies has one more, that of a step from one server to the other
abbrev pub AddsReply : Server → Exchange → List Reply → List Reply → Server → Type 0
AddsReply old x before after new = (reply : Reply) × (after ≡ before ++ reply ∷ []) × Answers old x reply new
