-- What is saved of a server, and the server that is loaded.
use Rattle.std.specs.Prelude.{◌≡◌, ◌≤◌, ◌++◌, ℕ, true, false, List, [], Some, None, Ok, IfSome}
use Rattle.std.specs.List.{AllByRecursion}
use Rattle.dav_core.specs.Element.{ElementTree, depth_of}
use Rattle.dav_core.specs.Locks.{Lock}
use Rattle.dav_core.specs.Path.{is_nonempty}
use Rattle.dav_core.specs.World.{World, IsWorld}
use Rattle.dav_engine.specs.Plan.{Locks}
use Rattle.dav_saved.specs.Locks.{locks, locks_at, AreSaveableLocks}
use Rattle.dav_saved.specs.Worlds.{world, world_at, IsSaveableWorld}
use Rattle.dav_server.specs.Server.{Server}
use Rattle.dav_store.specs.Passing.{ElementsPass}
use Rattle.dav_xml.specs.Namespaces.{document}
use Rattle.dav_xml.specs.Written.{document_of}
use Rattle.dav_http.specs.Sent.{IsSendableText}

-- the most levels of elements that are saved and loaded; what is read of a request has at most 64
abbrev pub most_levels : ℕ
most_levels = 256

-- the locks of a list; none where there is no list
abbrev pub listed : Locks → List Lock
listed None = []
listed (Some ls) = ls

-- A server is saved as the world of its store and then its list of locks.
abbrev pub saved_bytes : Server → List ℕ
saved_bytes s = world s.state.store.world ++ locks (listed s.state.locks)

-- An element that can be saved and loaded: it has at most so many levels, and what is written of it is read as that very element.
abbrev pub IsKeepable : ElementTree → Type 0
IsKeepable t = (depth_of t ≤ most_levels) × (document (document_of t) ≡ Ok t)

-- A lock that can be saved and loaded: its token may be sent, its path has bytes, and its owner is such an element, if there is one.
pub record IsKeepableLock (l : Lock) : Type 0 where
  pub token : IsSendableText l.token
  pub path : is_nonempty l.path.bytes ≡ true
  pub owner : IfSome l.owner IsKeepable

-- each element that is kept as a property, and each lock, can be saved and loaded
pub record AreKeepable (w : World) (ls : List Lock) : Type 0 where
  pub elements : ElementsPass IsKeepable w.nodes
  pub locks : AllByRecursion IsKeepableLock ls

-- Which servers can be saved: those with a list of locks, whose store holds a world, of elements and locks that can be saved and loaded;
-- no call of the store will be refused, and no allocation in it has failed.
pub record IsSaveable (s : Server) : Type 0 where
  pub list : List Lock
  pub is_list : s.state.locks ≡ Some list
  pub unrefused : s.state.store.refusals ≡ []
  pub ample : s.state.store.short ≡ false
  pub is_world : IsWorld s.state.store.world
  pub keepable : AreKeepable s.state.store.world list
  pub world : IsSaveableWorld most_levels s.state.store.world
  pub locks : AreSaveableLocks most_levels list

-- The server that is loaded from these bytes, by a server: it has the settings of that, and the world and the locks that are read; no
-- bytes are left. No call of its store will be refused, and no allocation in it has failed.
pub record Loads (first : Server) (bytes : List ℕ) (loaded : Server) : Type 0 where
  pub world : World
  pub locks : List Lock
  pub rest : List ℕ
  pub reads : world_at most_levels bytes ≡ Some (world, rest)
  pub reads_locks : locks_at most_levels rest ≡ Some (locks, [])
  pub is : loaded ≡ record {
    settings = first.settings;
    state = record { store = record { world = world; refusals = []; short = false }; locks = Some locks };
  }

-- A server that was saved is loaded as the same server, where it has the settings of the one that loads it.
abbrev pub SavedIsLoaded : Type 0
SavedIsLoaded =
    (first state loaded : Server) → state.settings ≡ first.settings → IsSaveable state → Loads first (saved_bytes state) loaded → loaded ≡ state

-- bytes are loaded as one server
abbrev pub LoadsOneServer : Type 0
LoadsOneServer = (first one other : Server) (bytes : List ℕ) → Loads first bytes one → Loads first bytes other → one ≡ other
