-- How much is at some paths and below them, known at each time.
use Rattle.std.specs.Prelude.{◌≡◌, ℕ, List, All, MatchOption, Option, Some}
use Rattle.dav_core.specs.Locks.{Lock}
use Rattle.dav_core.specs.Path.{names}
use Rattle.dav_core.specs.World.{IsWorld}
use Rattle.dav_server.specs.Machine.{Exchange, Settings}
use Rattle.dav_server.specs.Server.{Server}
use Rattle.dav_store.specs.Used.{amount_at, amount_of}
use Rattle.dav_confined.specs.Asked.{AskedView, IsAsked, IsUnread}
use Rattle.dav_limits.specs.Parts.{part_of}
use Rattle.dav_limits.specs.declared.watches.Part.{Part}
use Rattle.dav_limits.specs.declared.watches.Watch.{Watch}

-- each tells how much is at its path and below it
abbrev pub AreExact : Server → List Watch → Type 0
AreExact s ws = All (λ w. w.amount ≡ amount_at (names w.path) s.state.store.world.nodes) ws

-- what a head asks for below the prefix of a server, or that it isn't read
abbrev pub IsReading : Server → List ℕ → Option AskedView → Type 0
IsReading s head asked =
    (t : Settings) (x : Exchange) → t.prefix ≡ s.settings.prefix → x.head ≡ head → MatchOption asked (IsUnread t x) (IsAsked t x)

-- how much is at a path and below it before a server runs a request with this head, and how much of that the request may change, by what
-- is asked
pub record IsPart (s : Server) (head : List ℕ) (asked : Option AskedView) (p : Part) : Type 0 where
  pub reading : IsReading s head asked
  pub world : IsWorld s.state.store.world
  pub amount : p.amount ≡ amount_at (names p.path) s.state.store.world.nodes
  pub part : p.part ≡ amount_of (part_of (names p.path) asked s.state.store.world.nodes)
  pub locks : List Lock
  pub locked : s.state.locks ≡ Some locks

-- what is noted before a request with this head is run
pub record NotedView : Type 0 where
  pub asked : Option AskedView
  pub parts : List Part

-- this is noted before a server runs a request with this head
abbrev pub IsNoted : Server → List ℕ → NotedView → Type 0
IsNoted s head n = All (IsPart s head n.asked) n.parts
