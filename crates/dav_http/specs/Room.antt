-- The room of a server for files (RFC 4331).
use Rattle.std.specs.Prelude.{ℕ, Option, None, Some, option_map}
use Rattle.dav_core.specs.Path.{Path, names}
use Rattle.dav_server.specs.Server.{Server}
use Rattle.dav_store.specs.Used.{amount_at, used_bytes}
use Rattle.dav_presented.specs.declared.quota.Room.{Room}
use Rattle.dav_http.specs.declared.presented.Store.{Store}

-- how many bytes the files have that count for a quota: those at a path and below it, or all (RFC 4331, section 4)
abbrev pub used_at : Server → Option Path → ℕ
used_at s None = used_bytes s.state.store.world.nodes
used_at s (Some p) = (amount_at p s.state.store.world.nodes).bytes

-- the room of a server for files at a path and below it, or everywhere, that can store so many more bytes there (RFC 4331, sections 3 and 4)
abbrev pub room_of : Server → Option Path → ℕ → Room
room_of s place available = record { used = used_at s place; available = available }

-- that of a server with where its quota is told of, and the bytes that it can still store there
abbrev pub room_in : Store → Room
room_in store = room_of store.server.now.server (option_map (λ p. names p.now) store.place) store.available
