-- The writer of a multistatus with properties, and what each of its calls adds.
use Rattle.std.specs.Prelude.{◌≡◌, ◌++◌, List, [], ◌∷◌, codes, Option, None, Some, Result, Ok, Err}
use Rattle.std.specs.Option.{unwrap_or}
use Rattle.http_header.specs.FieldValue.{FieldValue, plain_value}
use Rattle.http_header.specs.HeaderMap.{Entries, insert}
use Rattle.dav_core.specs.Asking.{StoreState, Asks}
use Rattle.dav_core.specs.Element.{ElementTree}
use Rattle.dav_engine.specs.Method.{MethodPlan}
use Rattle.dav_engine.specs.Multistatus.{xml_type}
use Rattle.dav_engine.specs.Plan.{Locks, Ran, Cut}
use Rattle.dav_engine.specs.Properties.{Writer, QuotaKnown, WithQuota}
use Rattle.dav_engine.specs.Reply.{Reply, headers_in}

-- The state of a writer of properties: how they are reported, what is known of the quota, what its sender has, where it has one, and
-- the responses that weren't moved there yet.
pub record PropWriter : Type 0 where
  pub writer : Writer
  pub quota : QuotaKnown
  pub sent : Option (List ElementTree)
  pub waiting : List ElementTree

-- A writer that has no response yet, and no sender.
abbrev pub unwritten : Writer → PropWriter
unwritten w = record { writer = w; quota = None; sent = None; waiting = [] }

-- More responses wait.
abbrev pub waits : PropWriter → List ElementTree → PropWriter
waits w more = record w { waiting = w.waiting ++ more }

-- It sends to another sender, which has these responses already, and behind them what was sent before.
abbrev pub sends_to : PropWriter → List ElementTree → PropWriter
sends_to w has = record w { sent = Some (has ++ unwrap_or w.sent []) }

-- The responses that waited were moved behind those that the sender had, and none waits. Where there is no sender they wait on.
abbrev pub sent_by : Option (List ElementTree) → PropWriter → PropWriter
sent_by None w = w
sent_by (Some has) w = record w { sent = Some (has ++ w.waiting); waiting = [] }

-- What waited was moved to the sender of the writer, if it has one.
abbrev pub flushed : PropWriter → PropWriter
flushed w = sent_by w.sent w

-- All responses that were written, in order: what the sender has, and then what waits.
abbrev pub all_written : PropWriter → List ElementTree
all_written w = unwrap_or w.sent [] ++ w.waiting

-- The reply gets the status 207 and the Content-Type of XML (RFC 4918, sections 8.2 and 11.1).
pub record BeginsReply (old new : Reply) : Type 0 where
  pub entries : Entries FieldValue
  pub before : old.headers ≡ headers_in entries
  pub after : new ≡ record { status = 207; headers = headers_in (insert entries (codes "content-type") (plain_value xml_type.1)); body = old.body }

-- A part of a plan that makes one response, which begins with what is known of the quota, was carried out with this list of locks,
-- which stays: the response waits. Or, where an error is returned, memory ran out in the part.
abbrev pub Writes : {X E : Type 0} → Locks → (QuotaKnown → MethodPlan (WithQuota ElementTree)) → PropWriter → PropWriter → StoreState → Result X E → StoreState → Type 0
Writes locks part old new s (Ok _) t =
    (response : ElementTree) × Ran Asks (part old.quota) s locks (Ok (response, new.quota)) t locks
    × (new ≡ waits (record old { quota = new.quota }) (response ∷ []))
Writes locks part old new s (Err _) t = Cut Asks locks (part old.quota) s locks t locks
