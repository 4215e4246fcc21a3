-- The headline: what a server promises that begins empty, in one piece (RFC 4918, sections 6 and 7; RFC 9110, section 8.8.1).
use Rattle.std.specs.Prelude.{◌≡◌, ◌++◌, false, true, List, [], Some}
use Rattle.dav_core.specs.Asking.{StoreState}
use Rattle.dav_core.specs.Locks.{Lock, covers}
use Rattle.dav_core.specs.World.{empty_from, is_folder}
use Rattle.dav_engine.specs.Alongside.{AsksWithNumbers}
use Rattle.dav_engine.specs.Guard.{folder_of, IsGuard, Stands}
use Rattle.dav_engine.specs.Plan.{ServerState}
use Rattle.dav_engine.specs.Reply.{Reply}
use Rattle.dav_engine.specs.Sparing.{Spared}
use Rattle.dav_server.specs.EachRequest.{RunStep}
use Rattle.dav_server.specs.Isolation.{AreLoaded, RunsUnder, HolderTurns, MatchesSoloRun, TokensDiffer, Grants}
use Rattle.dav_server.specs.Machine.{Settings}
use Rattle.dav_server.specs.Naming.{NamesLock, NamesToken}
use Rattle.dav_server.specs.Run.{Turn}
use Rattle.dav_server.specs.Server.{Server, AnswersAll}
use Rattle.dav_server.specs.TagLaws.{MomentsAreDates, EqualTagsShowEqualBytes}

-- the state of a new store in memory: the root alone, no call to be refused, and no allocation that failed
abbrev pub empty_store : StoreState
empty_store = record { world = empty_from 1; refusals = []; short = false }

-- a server of these settings with an empty store and an empty list of locks
abbrev pub empty_server : Settings → Server
empty_server s = record { settings = s; state = record { store = empty_store; locks = Some [] } }

-- A request's step granted an exclusive lock of infinite depth on a folder, with the token that the request handed in (RFC 4918, sections
-- 6.2 and 9.10).
pub record GrantsFolder (t : Turn) (was now : ServerState) (h : Lock) : Type 0 where
  pub guard : IsGuard h
  pub before : List Lock
  pub after : List Lock
  pub were : was.locks ≡ Some before
  pub are : now.locks ≡ Some after
  pub grants : Grants t h before after
  pub folder : is_folder now.store.world (folder_of h) ≡ true

-- What is true of a run of these turns from an empty server, with these replies.
pub record Headline (s : Settings) (ts : List Turn) (replies : List Reply) (new : Server) : Type 0 where
  -- Isolation: from the grant of an exclusive lock of infinite depth on a folder, as long as the lock is in the list and every request
  -- that names its token as its principal is a holder's request, the folder and the answers to the holder are those of the holder's
  -- requests run alone; where no call found the change numbers used up, and the store hadn't run out of memory (RFC 4918, section 7).
  pub isolated : (g : RunStep (empty_server s) ts replies) (h : Lock) (later back us : List Turn) (given after : List Reply) (end : ServerState)
      → GrantsFolder g.turn g.was g.now h → g.back ≡ later ++ back → g.after ≡ given ++ after
      → RunsUnder AsksWithNumbers s h later g.now.store g.now.locks given end.store end.locks → end.store.short ≡ false
      → HolderTurns h later us → MatchesSoloRun s h later us g.now.store g.now.locks given end.store
  -- The replies and the server that is left are those of a run of the machine.
  pub machine : AnswersAll (empty_server s) ts replies new
  -- Equal entity tags were answered with equal bytes (RFC 9110, section 8.8.1).
  pub tags : EqualTagsShowEqualBytes ts replies
  -- What an exclusive lock covers is changed by no request but one that names the lock's token as its principal (RFC 4918, section 7).
  pub passed : (u : RunStep (empty_server s) ts replies) (h : Lock) → h.shared ≡ false → Stands h u.was.locks → ¬ NamesLock h u.turn.asked → Spared (covers h) u.was.store.world u.now.store.world
  -- A lock leaves the list by no request but one that names its token (RFC 4918, sections 7 and 9.11).
  pub standing : (u : RunStep (empty_server s) ts replies) (h : Lock) → Stands h u.was.locks → ¬ NamesToken u.turn.asked h.token → Stands h u.now.locks

-- The headline holds of every run from an empty server whose requests are made at moments that HTTP can write, each bring a list of
-- refusals of their own, whatever is in it, and hand in different tokens.
abbrev pub HeadlineHolds : Type 0
HeadlineHolds =
    (s : Settings) (ts : List Turn) (replies : List Reply) (new : Server)
    → MomentsAreDates ts → AreLoaded ts → TokensDiffer ts → AnswersAll (empty_server s) ts replies new → Headline s ts replies new

-- the headline holds of this run, where the server began empty and no two requests hand in one token
abbrev pub FromAnEmptyServer : Server → List Turn → List Reply → Server → Type 0
FromAnEmptyServer old ts replies new = old ≡ empty_server old.settings → TokensDiffer ts → Headline old.settings ts replies new
