-- What a run promises of each of its requests, each promise under its name, and of locked folders and locks.
use Rattle.std.specs.Prelude.{◌≡◌, ◌≢◌, ◌++◌, ⊤, true, false, List, [], ◌∷◌, All, Some}
use Rattle.dav_core.specs.LockLaws.{CoveringAreShared}
use Rattle.dav_core.specs.Locks.{Lock, covers}
use Rattle.dav_core.specs.World.{IsWorld, is_folder}
use Rattle.dav_engine.specs.Guard.{folder_of, Stands}
use Rattle.dav_engine.specs.Members.{SameMembers}
use Rattle.dav_engine.specs.Plan.{ServerState}
use Rattle.dav_engine.specs.PropfindLaws.{responses_in}
use Rattle.dav_engine.specs.Reply.{Reply}
use Rattle.dav_engine.specs.Sparing.{Spared}
use Rattle.dav_server.specs.EachRequest.{RunStep, Every304IsTrue, UpdateFinds}
use Rattle.dav_server.specs.HrefLaws.{HasConcernedHref}
use Rattle.dav_server.specs.Isolation.{AreLoaded, IsIsolated, IsIsolatedFromGrants, TokensDiffer}
use Rattle.dav_server.specs.Leaving.{SafeLeaves, CreateOnlyLeaves, RefusedStatusLeaves}
use Rattle.dav_server.specs.Machine.{Settings}
use Rattle.dav_server.specs.Naming.{NamesLock, NamesToken}
use Rattle.dav_server.specs.Run.{Turn, begun, Runs}
use Rattle.dav_server.specs.Server.{Server, AnswersAll}
use Rattle.dav_server.specs.Setup.{IsPrefix}
use Rattle.dav_server.specs.TagLaws.{MomentsAreDates, EqualTagsShowEqualBytes}

-- One request of a run: the server's settings, the turns and the replies before it, its own and those after it, and the state before it,
-- without the refusals that its turn brings (`was`), and after it (`now`).
pub record OneStep : Type 0 where
  pub settings : Settings
  pub front : List Turn
  pub turn : Turn
  pub back : List Turn
  pub before : List Reply
  pub reply : Reply
  pub after : List Reply
  pub was : ServerState
  pub now : ServerState

-- all turns of the run that the request is of
abbrev pub all_turns : OneStep → List Turn
all_turns s = s.front ++ s.turn ∷ s.back

-- all replies of the run that the request is of
abbrev pub all_replies : OneStep → List Reply
all_replies s = s.before ++ s.reply ∷ s.after

-- the names of the promises that each request of a run keeps
pub data Promise : Type 0 where
  -- a GET, HEAD, OPTIONS or PROPFIND leaves the world and the list of locks as they were (RFC 9110, section 9.2.1)
  reading : Promise
  -- A PUT or PATCH with If-None-Match `*`, where something is at its path, leaves the world and the list of locks as they were, and isn't
  -- answered with success (RFC 9110, section 13.1.2).
  created : Promise
  -- A request that is answered 412, 416 or 423 leaves the world as it was, and the list of locks; unless a PUT or PATCH is answered 416 as
  -- the store refuses to seek; and of the list, unless a LOCK with If-None-Match `*` is answered 412 as the store refuses its empty file, and
  -- hands in a token that a lock has (RFC 9110, sections 13.2.1 and 15.5.17; RFC 4918, section 11.3).
  refused : Promise
  -- A 304 is true: where If-None-Match named one tag, the file has the bytes that any GET of the run, before it or after it, was answered
  -- with under that tag (RFC 9110, sections 13.1.2 and 15.4.5).
  unmodified : Promise
  -- No update is lost: an update on condition of one entity tag that is answered with success found at its path a file with the bytes
  -- that an earlier reply reported under that tag (RFC 9110, section 13.1.1; RFC 4918, section 10.4).
  updated : Promise
  -- What an exclusive lock covers keeps its content, unless the request names the lock's token as its principal (RFC 4918, section 7).
  passed : Promise
  -- a lock stays in the list, unless the request names its token, or hands it in for a new lock (RFC 4918, sections 7 and 9.11)
  kept : Promise
  -- if any two locks that covered one path were both shared before the request, so are any two after it (RFC 4918, section 6.2)
  shared : Promise
  -- in all replies of the run equal entity tags come with equal bytes (RFC 9110, section 8.8.1)
  tags : Promise
  -- each response of a multistatus is about a path that the request concerns, by an href that leads to it (RFC 4918, section 8.3)
  hrefs : Promise
  -- While an exclusive lock of either depth is on a folder, the folder stays with the same members, unless the request names the lock's
  -- token as its principal (RFC 4918, section 7.4).
  members : Promise

-- the state with the refusals that the turn brings, where it brings any
abbrev pub at_begin : Turn → ServerState → ServerState
at_begin t was = record { store = begun t.refusals was.store; locks = was.locks }

-- What a promise says of one request of a run.
abbrev pub Keeps : Promise → OneStep → Type 0
Keeps reading s = SafeLeaves s.turn.asked s.was s.now
Keeps created s = CreateOnlyLeaves s.settings s.turn.asked s.reply s.was s.now
Keeps refused s = RefusedStatusLeaves s.settings s.turn.asked s.reply (at_begin s.turn s.was) s.now
Keeps unmodified s =
    (end : ServerState) → Runs s.settings s.back s.now.store s.now.locks s.after end.store end.locks
    → Every304IsTrue s.settings (all_turns s) (all_replies s) s.turn.asked s.reply s.was
Keeps updated s = UpdateFinds s.settings s.front s.before s.turn.asked s.reply s.was
Keeps passed s =
    (h : Lock) → h.shared ≡ false → Stands h s.was.locks → ¬ NamesLock h s.turn.asked → Spared (covers h) s.was.store.world s.now.store.world
Keeps kept s = (h : Lock) → Stands h s.was.locks → ¬ NamesToken s.turn.asked h.token → s.turn.asked.token ≢ Some h.token → Stands h s.now.locks
Keeps shared s = (ls ms : List Lock) → s.was.locks ≡ Some ls → s.now.locks ≡ Some ms → CoveringAreShared ls → CoveringAreShared ms
Keeps tags s = EqualTagsShowEqualBytes (all_turns s) (all_replies s)
Keeps hrefs s = All (HasConcernedHref s.settings s.turn.asked) (responses_in s.reply.body)
Keeps members s =
    (h : Lock) → h.shared ≡ false → Stands h s.was.locks → ¬ NamesLock h s.turn.asked → is_folder s.was.store.world (folder_of h) ≡ true
    → SameMembers (folder_of h) s.was.store.world s.now.store.world

-- What a promise needs of the server with which the run begins: for `hrefs` that its prefix is a prefix and its store holds a world; for
-- `unmodified`, `updated`, `passed`, `tags` and `members` that its store holds a world; for all others nothing.
abbrev pub From : Promise → Server → Type 0
From unmodified old = IsWorld old.state.store.world
From updated old = IsWorld old.state.store.world
From passed old = IsWorld old.state.store.world
From tags old = IsWorld old.state.store.world
From members old = IsWorld old.state.store.world
From hrefs old = IsPrefix old.settings.prefix × IsWorld old.state.store.world
From _ old = ⊤

-- a request of a run as a `OneStep`
abbrev pub step_of : {old : Server} {ts : List Turn} {replies : List Reply} → RunStep old ts replies → OneStep
step_of {old} u = record {
  settings = old.settings;
  front = u.front;
  turn = u.turn;
  back = u.back;
  before = u.before;
  reply = u.reply;
  after = u.after;
  was = u.was;
  now = u.now;
}

-- What a run of these turns with these replies promises.
pub record Promises (old : Server) (ts : List Turn) (replies : List Reply) : Type 0 where
  -- each request keeps each promise
  pub each : (p : Promise) → From p old → (u : RunStep old ts replies) → Keeps p (step_of u)
  -- Where each turn brings a list of refusals: while a lock guards a folder, and no request hands in its token, the folder and the
  -- answers to its holder are those of the holder's requests run alone (RFC 4918, section 7).
  pub isolated : AreLoaded ts → IsIsolated old ts replies
  -- Where each turn brings a list of refusals, in a run from a world and no locks in which no two requests hand in one token: each holder
  -- is isolated from the grant of the lock on (RFC 4918, section 7).
  pub granted : AreLoaded ts → IsIsolatedFromGrants old ts replies
  -- In a run from no locks in which no two requests hand in one token, a lock stays in the list unless the request names its token (RFC
  -- 4918, sections 7 and 9.11).
  pub standing : TokensDiffer ts → old.state.locks ≡ Some [] → (u : RunStep old ts replies) (h : Lock) → Stands h u.was.locks → ¬ NamesToken u.turn.asked h.token → Stands h u.now.locks

-- Each run of requests that are made at moments that HTTP can write keeps the promises, whatever the store refuses.
abbrev pub RunsPromise : Type 0
RunsPromise = (old new : Server) (ts : List Turn) (replies : List Reply) → MomentsAreDates ts → AnswersAll old ts replies new → Promises old ts replies
