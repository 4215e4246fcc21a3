-- A live server: its connections, and the service that answers them.
use Rattle.std.specs.Prelude.{ℕ, List, Option}
use Rattle.std.specs.List.{flat_map}
use Rattle.std.specs.Io.KnownBytes.{Appends, Consumes, IsAtEnd}
use Rattle.http_server.specs.declared.response.Response.{Response}
use Rattle.sqlite_disk.specs.declared.Disk.{Ghosts}
use Rattle.dav_journal.specs.Pair.{IsCleanPair, IsKeptPair}
use Rattle.dav_journal.specs.declared.pair.Pair.{Pair}
use Rattle.dav_http.specs.Saved.{IsSaveable, saved_bytes}
use Rattle.dav_kept.specs.declared.kept.Kept.{Kept}
use Rattle.dav_server.specs.Server.{Server}
use Rattle.dav_turns.specs.Connections.{TurnsView}
use Rattle.dav_turns.specs.Frames.{BeginsWith, Order, ReportView, order_bytes}
use Rattle.dav_turns.specs.Streams.{TakesTurns}
use Rattle.dav_turns.specs.Turns.{Keeping, keeping, server}
use Rattle.dav_turns.specs.Turns as turns
use Rattle.dav_turns.specs.declared.config.TurnsConfig.{TurnsConfig}
use Rattle.dav_wire.specs.declared.answer.Asked.{Asked}
use Rattle.dav_wire.specs.declared.answer.Rejection.{Rejection}
use Rattle.dav_live.specs.Answers.{IsAnswer, IsLook, IsNextEnd, IsNotRun}
use Rattle.dav_live.specs.Serving.{IsCommitted, IsGreeted, IsListed, IsJudged, IsMarked, IsPassed, IsPlaced, Serves, kept_of}
use Rattle.dav_live.specs.declared.live.Live.{Live}
use Rattle.dav_live.specs.declared.service.Service.{Service}

-- its connections, by their slots
abbrev pub turns_of : {D : Type 0} → Live D → TurnsView
turns_of l = l.turns

-- what answers their requests: the machine, with its journal
abbrev pub service_of : {D : Type 0} → Live D → Service Server (Pair D)
service_of l = l.service

-- its server, with the journal
abbrev pub kept_in : {D : Type 0} → Live D → Kept Server (Pair D)
kept_in l = kept_of (service_of l)

-- what it does as a keeper: it answers as the machine does, and keeps that in its journal
abbrev pub doing : {D : Type 0} → Ghosts D → Keeping (Service Server (Pair D))
doing {D} g =
    keeping (λ (old : Service Server (Pair D)) (head : List ℕ) (verdict : Option Rejection) (new : Service Server (Pair D)). IsJudged old head verdict new)
    (λ (old : Service Server (Pair D)) (asked : Asked) (sent : Response) (new : Service Server (Pair D)). Serves IsAnswer IsNotRun IsLook (λ j. IsCleanPair g j) (λ j blocks. IsKeptPair g j blocks) old asked sent new)
    (λ (old : Service Server (Pair D)) (bytes : List ℕ) (new : Service Server (Pair D)). IsGreeted old bytes new)
    (λ (old : Service Server (Pair D)) (bytes : List ℕ) (new : Service Server (Pair D)). IsListed old bytes new)
    (λ (old : Service Server (Pair D)) (address : List ℕ) (new : Service Server (Pair D)). IsPlaced old address new)
    (λ (old : Service Server (Pair D)) (seconds date : ℕ) (new : Service Server (Pair D)). IsPassed IsAnswer (λ j. IsCleanPair g j) (λ j blocks. IsKeptPair g j blocks) (λ (s : Server) (now : ℕ) (head : Option (List ℕ)). IsNextEnd s.state.locks now head) old seconds date new)
    (λ (old new : Service Server (Pair D)). IsMarked saved_bytes IsSaveable (λ j. IsCleanPair g j) (λ j blocks. IsKeptPair g j blocks) old new)
    (λ (old new : Service Server (Pair D)). IsCommitted (λ j. IsCleanPair g j) (λ j blocks. IsKeptPair g j blocks) old new)

-- its connections by their slots, and what answers their requests
abbrev pub server_of : {D : Type 0} → Live D → turns.Server (Service Server (Pair D))
server_of l = server (turns_of l).slots (service_of l)

-- ---- the streams of reports and of orders

-- bytes don't begin with a whole report
abbrev pub HasNoReport : List ℕ → Type 0
HasNoReport bytes = (t : ReportView) → BeginsWith bytes t → ⊥

-- So far turns were taken of what was read, but for a rest, and their orders were written, and no others: of the bytes that there were to
-- read these are left, and what was written has become this.
pub record ServesTo {S : Type 0} (k : Keeping S) (config : TurnsConfig) (reports left written all : Option (List ℕ))
    (old new : turns.Server S) (rest : List ℕ) : Type 0 where
  pub came : List ℕ
  pub reads : Consumes reports left came
  pub orders : List Order
  pub takes : TakesTurns k config came rest old new orders
  pub writes : Appends written all (flat_map order_bytes orders)

-- whatever was served before, turns were taken of more of what there is to read
abbrev pub ServesOn : {S : Type 0} → Keeping S → TurnsConfig → Option (List ℕ) → Option (List ℕ) → Option (List ℕ) → Option (List ℕ)
    → turns.Server S → turns.Server S → List ℕ → List ℕ → Type 0
ServesOn {S} k config unread left written all mid new rest after =
    (reports before : Option (List ℕ)) (old : turns.Server S) → ServesTo k config reports unread before written old mid rest
    → ServesTo k config reports left before all old new after

-- All that there was to read was served: nothing is left to read, and of what was read no whole report.
pub record HasServed {S : Type 0} (k : Keeping S) (config : TurnsConfig) (reports left written all : Option (List ℕ))
    (old new : turns.Server S) : Type 0 where
  pub rest : List ℕ
  pub serves : ServesTo k config reports left written all old new rest
  pub ends : IsAtEnd left
  pub none : HasNoReport rest

-- Whatever was served before, but for this rest of what was read, all that there was to read is served.
abbrev pub GoesOnToServe : {S : Type 0} → Keeping S → TurnsConfig → Option (List ℕ) → Option (List ℕ) → Option (List ℕ) → Option (List ℕ)
    → turns.Server S → turns.Server S → List ℕ → Type 0
GoesOnToServe {S} k config unread left written all mid new rest =
    (reports before : Option (List ℕ)) (old : turns.Server S) → ServesTo k config reports unread before written old mid rest
    → HasServed k config reports left before all old new
