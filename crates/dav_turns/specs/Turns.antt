-- What a report does to the connections and to what answers their requests, and what a turn does.
use Rattle.std.specs.Prelude.{◌≡◌, ◌≢◌, ℕ, ◌+◌, ◌-◌, ◌<◌, ◌≤◌, ◌⊎◌, ◌||◌, ◌&&◌, nat_lt, Bool, IsTrue, IsFalse, List, [], ◌∷◌, ◌++◌, All, length, take, set, get_or, replicate, codes, Option, Some, None, if◌then◌else◌, ◌==◌}
use Rattle.std.specs.List.{flat_map, starts_with, sum_by}
use Rattle.http_server.specs.declared.response.Response.{Response}
use Rattle.dav_wire.specs.declared.answer.Asked.{Asked}
use Rattle.dav_wire.specs.declared.answer.Rejection.{Rejection}
use Rattle.dav_wire.specs.declared.state.Config.{Config}
use Rattle.dav_wire.specs.declared.state.State.{State}
use Rattle.dav_wire.specs.declared.state.State.TheVariants.{Open, Closing, Aborted}
use Rattle.dav_wire.specs.declared.state.Reason.TheVariants.{Refused}
use Rattle.dav_wire.specs.declared.state.Refusal.TheVariants.{NoRoom}
use Rattle.dav_wire.specs.History.{Acts, History, IsServed, IsQuiet, Rests, held, new_history, after_taken, after_sent}
use Rattle.dav_turns.specs.declared.config.TurnsConfig.{TurnsConfig}
use Rattle.dav_turns.specs.declared.frames.TheConstants.{HELLO, OPENED, GOT, SENT, GONE, TICK, USERS, ROOM, TELL, READ, CLOSE, READ_HEAD, READ_BODY}
use Rattle.dav_turns.specs.Connections.{ConnectionView, Slots, TurnsView}
use Rattle.dav_turns.specs.Frames.{Order, ReportView, BeginsWith, IsPart, IsTooLong, ReadsReports, order_bytes}

-- what a keeper does, as relations between its states: it judges and answers, it hears the
-- front, and it keeps what it answered
pub record Keeping (S : Type 0) : Type 1 where
  pub judges : S → List ℕ → Option Rejection → S → Type 0
  pub answers : S → Asked → Response → S → Type 0
  pub greeted : S → List ℕ → S → Type 0
  pub listed : S → List ℕ → S → Type 0
  pub placed : S → List ℕ → S → Type 0
  pub passed : S → ℕ → ℕ → S → Type 0
  pub marked : S → S → Type 0
  pub kept : S → S → Type 0

-- what a keeper does, of these relations of its trait
abbrev pub keeping : {S : Type 0} → (S → List ℕ → Option Rejection → S → Type 0) → (S → Asked → Response → S → Type 0) → (S → List ℕ → S → Type 0)
    → (S → List ℕ → S → Type 0) → (S → List ℕ → S → Type 0) → (S → ℕ → ℕ → S → Type 0)
    → (S → S → Type 0) → (S → S → Type 0) → Keeping S
keeping judges answers greeted listed placed passed marked kept = record {
  judges = judges;
  answers = answers;
  greeted = greeted;
  listed = listed;
  placed = placed;
  passed = passed;
  marked = marked;
  kept = kept;
}

-- ---- one connection

-- a connection after it heard that these bytes came (none: its end), or that it can go on
abbrev pub after_hearing : Option (List ℕ) → History → History
after_hearing None h = h
after_hearing (Some bytes) h = after_taken h bytes

-- The keeper takes the address of the connection, and then judges the heads and answers the
-- requests that came whole, each once and in order. The connection takes what was heard and no
-- more, sends nothing, and leaves no work. There is room for so many bytes of a body: it holds no
-- more than that, and a request that is refused for want of room is refused for that room.
pub record Advances {S : Type 0} (k : Keeping S) (room : ℕ) (bytes : Option (List ℕ))
    (old : ConnectionView) (was : S) (new : ConnectionView) (now : S) : Type 0 where
  pub ready : S
  pub placed : k.placed was old.address ready
  pub stays : new ≡ record old { history = new.history }
  pub quiet : IsQuiet (after_hearing bytes old.history) new.history
  pub acts : Acts k.judges k.answers ready now (after_hearing bytes old.history) new.history
  pub rests : Rests new.config new.history
  pub settled : (after_hearing bytes old.history).state ≢ Open
      → new.history ≡ after_hearing bytes old.history
  pub alive : new.history.state ≢ Aborted
  pub fits : held old.history ≤ room → held new.history ≤ room
  pub told : (told : ℕ) → (after_hearing bytes old.history).state ≡ Open
      → new.history.state ≡ Closing (Refused (NoRoom told)) → told ≡ room

-- What an open connection is read for: the rest of a body, where the head of a request was judged
-- that isn't handed over; the rest of a head, where bytes came that aren't read; and else a request.
abbrev pub reading : History → ℕ
reading h =
    if nat_lt (length h.calls) (length h.judgements) then READ_BODY
    else if nat_lt 0 (length h.unread) then READ_HEAD else READ

-- whether to read on, or to close
abbrev pub next_in : History → State → ℕ
next_in h Open = reading h
next_in h (Closing why) = CLOSE
next_in h Aborted = CLOSE

-- What is to be done after the front of what waits is sent: to tell, where more waits, or where so
-- much waited that requests may have been left unread for it; and else to read or to close.
abbrev pub next_after : Config → History → History → ℕ
next_after config mid new =
    if nat_lt config.max_pending (length mid.pending) || nat_lt 0 (length new.pending)
    then TELL else next_in new new.state

-- The text is the front of what waits, and is dropped there; some of it, where some waits.
pub record HandsOut (mid new : ConnectionView) (next : ℕ) (text : List ℕ) : Type 0 where
  pub front : text ≡ take (length text) mid.history.pending
  pub some : mid.history.pending ≢ [] → text ≢ []
  pub dropped : new ≡ record mid { history = after_sent mid.history (length text) }
  pub next_is : next ≡ next_after mid.config mid.history new.history
  pub served : ∥ IsServed new.config new.history ∥₁

-- ---- the slots

-- this connection is in the slot
pub record IsIn (slots : Slots) (slot : ℕ) (connection : ConnectionView) : Type 0 where
  pub within : slot < length slots
  pub is : get_or slots slot None ≡ Some connection

-- no connection is in the slot
abbrev pub IsEmpty : Slots → ℕ → Type 0
IsEmpty slots slot = (connection : ConnectionView) → IsIn slots slot connection → ⊥

-- there is such a slot, and no connection is in it
pub record IsFree (slots : Slots) (slot : ℕ) : Type 0 where
  pub within : slot < length slots
  pub is : get_or slots slot None ≡ None

-- how much room the connection in a slot takes for the body that is being read there
abbrev pub held_in : Option ConnectionView → ℕ
held_in None = 0
held_in (Some connection) = held connection.history

-- how much room all take together
abbrev pub held_by : Slots → ℕ
held_by slots = sum_by held_in slots

-- the room for a body on the connection in this slot: what the others leave of the most
abbrev pub room_for : TurnsConfig → ℕ → Slots → ℕ
room_for config slot slots = config.max_waiting - held_by (set slots slot None)

-- the count is how much room all take together, and that is no more than the most
pub record Counts (config : TurnsConfig) (count : ℕ) (slots : Slots) : Type 0 where
  pub counted : count ≡ held_by slots
  pub fits : count ≤ config.max_waiting

-- a connection on which nothing came yet
abbrev pub new_connection : Config → List ℕ → ConnectionView
new_connection config address = record { config = config; address = address; history = new_history }

-- a connection that is to be closed leaves its slot
abbrev pub slot_after : ℕ → ConnectionView → Option ConnectionView
slot_after next connection = if next == CLOSE then None else Some connection

-- the slots, and the state of the keeper
pub record Server (S : Type 0) : Type 0 where
  pub slots : Slots
  pub keeper : S

-- a server of these slots, whose keeper is in this state
abbrev pub server : {S : Type 0} → Slots → S → Server S
server slots keeper = record { slots = slots; keeper = keeper }

-- A connection came to a free slot, from this address. The order is to read from it.
pub record Opens (config : TurnsConfig) (slot : ℕ) (address : List ℕ) (old new : Slots)
    : Type 0 where
  pub free : IsFree old slot
  pub slots : new ≡ set old slot (Some (new_connection config.connection address))

-- the connection in the slot is gone
pub record Ends (slot : ℕ) (old new : Slots) : Type 0 where
  pub gone : ConnectionView
  pub is_in : IsIn old slot gone
  pub slots : new ≡ set old slot None

-- The connection in the slot goes on, and what is ordered for that slot is the front of its own
-- answers.
pub record GoesOn {S : Type 0} (k : Keeping S) (room slot : ℕ) (bytes : Option (List ℕ))
    (old new : Server S) (order : Order) : Type 0 where
  pub was : ConnectionView
  pub is_in : IsIn old.slots slot was
  pub mid : ConnectionView
  pub advances : Advances k room bytes was old.keeper mid new.keeper
  pub after : ConnectionView
  pub hands : HandsOut mid after order.next order.bytes
  pub slot_is : order.slot ≡ slot
  pub slots : new.slots ≡ set old.slots slot (slot_after order.next after)

-- ---- reports

-- no connection changed, and nothing is ordered
abbrev pub IsStill : {S : Type 0} → Server S → Server S → List Order → Type 0
IsStill old new orders = (new.slots ≡ old.slots) × (orders ≡ [])

-- what a report does, after its clocks were heard
pub data Does {S : Type 0} (k : Keeping S) (config : TurnsConfig) (t : ReportView)
    (old new : Server S) (orders : List Order) : Type 0 where
  hello : t.kind ≡ HELLO → k.greeted old.keeper t.bytes new.keeper → IsStill old new orders
      → Does k config t old new orders
  opened : t.kind ≡ OPENED → Opens config t.slot t.bytes old.slots new.slots
      → new.keeper ≡ old.keeper → orders ≡ record { slot = t.slot; next = READ; bytes = [] } ∷ []
      → Does k config t old new orders
  got : t.kind ≡ GOT → (order : Order)
      → GoesOn k (room_for config t.slot old.slots) t.slot (Some t.bytes) old new order
      → orders ≡ order ∷ [] → Does k config t old new orders
  sent : t.kind ≡ SENT → (order : Order)
      → GoesOn k (room_for config t.slot old.slots) t.slot None old new order
      → orders ≡ order ∷ [] → Does k config t old new orders
  gone : t.kind ≡ GONE → Ends t.slot old.slots new.slots → new.keeper ≡ old.keeper → orders ≡ []
      → Does k config t old new orders
  ticked : t.kind ≡ TICK → k.marked old.keeper new.keeper → IsStill old new orders
      → Does k config t old new orders
  listed : t.kind ≡ USERS → k.listed old.keeper t.bytes new.keeper → IsStill old new orders
      → Does k config t old new orders
  measured : t.kind ≡ ROOM → new.keeper ≡ old.keeper → IsStill old new orders
      → Does k config t old new orders

-- a report: its clocks are heard, and then it does what its kind says
pub record Heard {S : Type 0} (k : Keeping S) (config : TurnsConfig) (t : ReportView)
    (old new : Server S) (orders : List Order) : Type 0 where
  pub ready : S
  pub passes : k.passed old.keeper t.seconds t.date ready
  pub does : Does k config t (server old.slots ready) new orders

-- reports, one after another, each once, and the orders for them in the same order
abbrev pub HeardAll : {S : Type 0} → Keeping S → TurnsConfig → List ReportView → Server S → Server S
    → List Order → Type 0
HeardAll k config [] old new orders = (new ≡ old) × (orders ≡ [])
HeardAll {S} k config (t ∷ ts) old new orders =
    (mid : Server S) × (first : List Order) × (later : List Order) × Heard k config t old mid first
    × HeardAll k config ts mid new later × (orders ≡ first ++ later)

-- the slot of the report isn't as its kind needs it, or there is no such kind
pub data IsMisplaced (slots : Slots) (t : ReportView) : Type 0 where
  unknown : ROOM < t.kind → IsMisplaced slots t
  taken : t.kind ≡ OPENED → (IsFree slots t.slot → ⊥) → IsMisplaced slots t
  empty : (t.kind ≡ GOT) ⊎ ((t.kind ≡ SENT) ⊎ (t.kind ≡ GONE)) → IsEmpty slots t.slot
      → IsMisplaced slots t

-- ---- a turn

-- whether bytes begin a request that may take long, by its method: a listing, a copy, a move or a
-- removal; or the element tree of a listing, whose head came before it
abbrev pub begins_long : List ℕ → Bool
begins_long bytes =
    starts_with (λ a b. a == b) bytes (codes "PROPFIND ") || (starts_with (λ a b. a == b) bytes (codes "COPY ")
    || (starts_with (λ a b. a == b) bytes (codes "MOVE ") || (starts_with (λ a b. a == b) bytes (codes "DELETE ")
    || starts_with (λ a b. a == b) bytes (codes "<"))))

-- whether a report may take long
abbrev pub may_take_long : ReportView → Bool
may_take_long t = (t.kind == GOT) && begins_long t.bytes

-- What is left where a turn ends, after these reports that don't take long: at most a part of
-- another report; or, where there were some, one that may take long.
abbrev pub IsLeft : List ReportView → List ℕ → Type 0
IsLeft short rest = IsPart rest
    ⊎ ((short ≢ []) × ((next : ReportView) × BeginsWith rest next × IsTrue (may_take_long next)))

-- The first bytes, so many, are reports that were heard one after another: first those that may
-- take long, and then those that don't, as many of them as there are.
pub record HearsSome {S : Type 0} (k : Keeping S) (config : TurnsConfig) (input : List ℕ) (used : ℕ)
    (old new : Server S) (orders : List Order) : Type 0 where
  pub long : List ReportView
  pub short : List ReportView
  pub are_long : All (λ t. IsTrue (may_take_long t)) long
  pub are_short : All (λ t. IsFalse (may_take_long t)) short
  pub rest : List ℕ
  pub reads : ReadsReports input (long ++ short) rest
  pub left : IsLeft short rest
  pub used_is : used + length rest ≡ length input
  pub heard : HeardAll k config (long ++ short) old new orders

-- The first bytes are reports that were heard one after another; after them there is no report, or
-- one that doesn't fit.
pub record IsBroken {S : Type 0} (k : Keeping S) (config : TurnsConfig) (input : List ℕ)
    (old : Server S) : Type 0 where
  pub reports : List ReportView
  pub rest : List ℕ
  pub reads : ReadsReports input reports rest
  pub new : Server S
  pub orders : List Order
  pub heard : HeardAll k config reports old new orders
  pub broken : IsTooLong rest
      ⊎ ((next : ReportView) × BeginsWith rest next × IsMisplaced new.slots next)

-- A turn: reports were heard, and then all that was answered was kept. So what was answered
-- doesn't wait for what may take long, and comes after it.
pub record Turn {S : Type 0} (k : Keeping S) (input : List ℕ) (used : ℕ) (old : TurnsView)
    (was : S) (new : TurnsView) (now : S) (orders : List Order) : Type 0 where
  pub last : S
  pub hears :
      HearsSome k old.config input used (server old.slots was) (server new.slots last) orders
  pub keeps : k.kept last now

-- these orders were written after the bytes
abbrev pub orders_after : List ℕ → List Order → List ℕ
orders_after before orders = before ++ flat_map order_bytes orders

-- 4,096 free slots
abbrev pub new_turns : TurnsConfig → TurnsView
new_turns config = record { config = config; slots = replicate 4096 None }
