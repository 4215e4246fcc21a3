-- What the contracts of turns mean for the client of a slot, over any number of turns.
use Rattle.std.specs.Prelude.{◌≡◌, ℕ, ◌<◌, ◌≤◌, ◌⊎◌, ◌&&◌, ◌==◌, Bool, List, [], ◌∷◌, ◌++◌, map, length, Option, Some, None, IsFalse}
use Rattle.std.specs.List.{All, before_first, filter, filter_map, flat_map}
use Rattle.dav_wire.specs.declared.state.Config.{Config}
use Rattle.dav_wire.specs.Exchange.{Call, Judgement}
use Rattle.dav_wire.specs.declared.state.State.TheVariants.{Open}
use Rattle.dav_wire.specs.History.{History, IsServed, AreAllCalled}
use Rattle.dav_turns.specs.declared.config.TurnsConfig.{TurnsConfig}
use Rattle.dav_turns.specs.declared.frames.TheConstants.{OPENED, GOT, READ, READ_HEAD, READ_BODY}
use Rattle.dav_turns.specs.Connections.{ConnectionView, Slots, TurnsView}
use Rattle.dav_turns.specs.Frames.{Order, ReportView, BeginsWith, IsPart, IsTooLong, ReadsReports}
use Rattle.dav_turns.specs.Turns.{Keeping, Server, server, Heard, GoesOn, IsIn, IsLeft, Turn, held_by, new_turns}

-- what happens to a server: a report is heard, or a turn ends, and what was answered is kept
pub data Event : Type 0 where
  report : ReportView → Event
  commit : Event

-- the report of an event
abbrev pub report_in : Event → Option ReportView
report_in (report t) = Some t
report_in commit = None

-- events, one after another, and the orders for them in the same order
abbrev pub Happens : {S : Type 0} → Keeping S → TurnsConfig → List Event → Server S → Server S
    → List Order → Type 0
Happens k config [] old new orders = (new ≡ old) × (orders ≡ [])
Happens {S} k config (report t ∷ events) old new orders =
    (mid : Server S) × (first : List Order) × (later : List Order) × Heard k config t old mid first
    × Happens k config events mid new later × (orders ≡ first ++ later)
Happens {S} k config (commit ∷ events) old new orders =
    (kept : S) × k.kept old.keeper kept × Happens k config events (server old.slots kept) new orders

-- the events of a turn: its reports, and then the one commit
abbrev pub turn_events : List ReportView → List Event
turn_events reports = map report reports ++ commit ∷ []

-- Turns are such events, and events go on from events: so all turns of a server are. A turn hears
-- some, where the bytes begin with a report: so turns hear each whole report that came.
pub record TurnsHappen {S : Type 0} (k : Keeping S) : Type 0 where
  pub turns : (input : List ℕ) (used : ℕ) (old : TurnsView) (was : S) (new : TurnsView) (now : S)
      (orders : List Order) → Turn k input used old was new now orders
      → (long : List ReportView) × (short : List ReportView) × (rest : List ℕ)
      × ReadsReports input (long ++ short) rest × IsLeft short rest
      × Happens k old.config (turn_events (long ++ short)) (server old.slots was)
      (server new.slots now) orders
  pub join : (config : TurnsConfig) (xs ys : List Event) (old mid new : Server S)
      (first later : List Order) → Happens k config xs old mid first
      → Happens k config ys mid new later → Happens k config (xs ++ ys) old new (first ++ later)
  pub goes_on : (input : List ℕ) (t : ReportView) (used : ℕ) (old : TurnsView) (was : S)
      (new : TurnsView) (now : S) (orders : List Order) → BeginsWith input t
      → Turn k input used old was new now orders → 0 < used

-- ---- one slot

-- whether a report says that bytes, or the end, came on the slot
abbrev pub came_on : ℕ → ReportView → Bool
came_on slot t = t.kind == GOT && t.slot == slot

-- whether a report says that a connection came to the slot
abbrev pub opens : ℕ → ReportView → Bool
opens slot t = t.kind == OPENED && t.slot == slot

-- what came on the slot, piece by piece
abbrev pub pieces : ℕ → List Event → List (List ℕ)
pieces slot events =
    map (λ (t : ReportView). t.bytes) (filter (came_on slot) (filter_map report_in events))

-- these pieces, joined up to the first one without bytes, which is the end
abbrev pub stream_of : List (List ℕ) → List ℕ
stream_of ps = flat_map (λ p. p) (before_first (λ p. length p == 0) ps)

-- all the bytes that these orders say to send on the slot
abbrev pub bytes_for : ℕ → List Order → List ℕ
bytes_for slot orders = flat_map (λ (o : Order). o.bytes) (filter (λ o. o.slot == slot) orders)

-- the response is what the keeper answered to the request
abbrev pub IsGiven : {S : Type 0} → Keeping S → Call → Type 0
IsGiven {S} k call = (before : S) × (after : S) × k.answers before call.0 call.1 after

-- each response is
abbrev pub AreGiven : {S : Type 0} → Keeping S → List Call → Type 0
AreGiven k calls = All (IsGiven k) calls

-- the verdict is what the keeper judged of the head
abbrev pub IsVerdict : {S : Type 0} → Keeping S → Judgement → Type 0
IsVerdict {S} k judgement =
    (before : S) × (after : S) × k.judges before judgement.0 judgement.1 after

-- each verdict is
abbrev pub AreVerdicts : {S : Type 0} → Keeping S → List Judgement → Type 0
AreVerdicts k judgements = All (IsVerdict k) judgements

-- These bytes were sent on a connection on which those came, as `dav_wire` promises it of each:
-- they are a front of the answers to the requests that the grammar reads in what came, in that
-- order, and of what the state of the connection says to follow. The responses, and
-- the verdicts on heads, are the keeper's.
pub record AreAnswersTo {S : Type 0} (k : Keeping S) (config : Config) (came out : List ℕ)
    : Type 0 where
  pub history : History
  pub received : history.received ≡ came
  pub sent : history.sent ≡ out
  pub served : ∥ IsServed config history ∥₁
  pub given : AreGiven k history.calls
  pub judged : AreVerdicts k history.judgements

-- From the report that a connection came to a slot on, until one comes to it anew: all that is
-- ordered to be sent on the slot are answers to what came on it, whatever else happens, and in
-- whatever turns.
abbrev pub OrdersAnswerWhatCame : {S : Type 0} → Keeping S → Type 0
OrdersAnswerWhatCame {S} k =
    (config : TurnsConfig) (opening : ReportView) (events : List Event) (old new : Server S)
    (orders : List Order) → opening.kind ≡ OPENED
    → All (λ t. IsFalse (opens opening.slot t)) (filter_map report_in events)
    → Happens k config (report opening ∷ events) old new orders
    → AreAnswersTo k config.connection (stream_of (pieces opening.slot events))
    (bytes_for opening.slot orders)

-- an open connection that has nothing to send, has handed over each whole request that came, and
-- waits for input that goes on
pub record IsAtRest (connection : ConnectionView) : Type 0 where
  pub is_open : connection.history.state ≡ Open
  pub goes_on : IsFalse connection.history.ended
  pub sent : connection.history.pending ≡ []
  pub called : AreAllCalled connection.config.limits connection.history

-- the front is to read on, for whatever
abbrev pub IsRead : ℕ → Type 0
IsRead next = (next ≡ READ) ⊎ ((next ≡ READ_HEAD) ⊎ (next ≡ READ_BODY))

-- The front is to read on a slot only where the connection in it is at rest: so no client waits for
-- an answer that no report will bring.
abbrev pub ReadsOnlyAtRest : {S : Type 0} → Keeping S → Type 0
ReadsOnlyAtRest {S} k =
    (room slot : ℕ) (bytes : Option (List ℕ)) (old new : Server S) (order : Order)
    → GoesOn k room slot bytes old new order → IsRead order.next
    → (connection : ConnectionView) × IsIn new.slots slot connection × IsAtRest connection

-- ---- bodies

-- the bodies that are being read take no more room together than the most
abbrev pub FitTogether : TurnsConfig → Slots → Type 0
FitTogether config slots = held_by slots ≤ config.max_waiting

-- Of new turns nothing takes room. And whatever happens, in whatever turns, to connections whose
-- bodies take no more room together than the most: what they take after that is no more either.
pub record BodiesFit {S : Type 0} (k : Keeping S) : Type 0 where
  pub first : (config : TurnsConfig) → held_by (new_turns config).slots ≡ 0
  pub always : (config : TurnsConfig) (events : List Event) (old new : Server S)
      (orders : List Order) → FitTogether config old.slots
      → Happens k config events old new orders → FitTogether config new.slots

-- ---- reports

-- Bytes are read as reports in one way: which reports they are, what is left, and whether that is a
-- part of one or too long.
pub record ReportsHaveOneReading : Type 0 where
  pub one : (bytes : List ℕ) (ts us : List ReportView) (x y : List ℕ) → ReadsReports bytes ts x
      → ReadsReports bytes us y → IsPart x → IsPart y → (ts ≡ us) × (x ≡ y)
  pub whole : (bytes : List ℕ) (t : ReportView) → BeginsWith bytes t → IsPart bytes → ⊥
  pub few : (bytes : List ℕ) (t : ReportView) → BeginsWith bytes t → IsTooLong bytes → ⊥
  pub part : (bytes : List ℕ) → IsPart bytes → IsTooLong bytes → ⊥
