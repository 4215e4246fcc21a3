-- What is written when a script is played.
use Rattle.std.specs.Prelude.{◌≡◌, ◌≤◌, ◌+◌, ◌⊎◌, ◌++◌, ℕ, max, List, [], map, take, drop, slice_get, if◌then◌else◌, Option, Some, None, IsSomeAnd, true, false}
use Rattle.dav_core.specs.Asking.{StoreState}
use Rattle.dav_core.specs.Locks.{Lock}
use Rattle.dav_core.specs.World.{empty_from}
use Rattle.dav_engine.specs.Plan.{Locks, ServerState}
use Rattle.dav_engine.specs.Reply.{Reply}
use Rattle.dav_server.specs.Headline.{Headline}
use Rattle.dav_server.specs.Isolation.{HolderTurns, TokensDiffer}
use Rattle.dav_server.specs.Machine.{Settings}
use Rattle.dav_server.specs.Promises.{Promises}
use Rattle.dav_server.specs.Run.{Turn}
use Rattle.dav_server.specs.Server.{Server, AnswersAll}
use Rattle.dav_server.specs.Setup.{IsPrefix}
use Rattle.dav_run.specs.Script.{ScriptRequest, ScriptContent, IsShort, IsScript}
use Rattle.dav_run.specs.Print.{lines_of, place_line}
use Rattle.dav_run.specs.declared.play.Fault.{Fault}
use Rattle.dav_run.specs.declared.play.Fault.TheVariants.{NotScript, Io, Memory}

-- a request of a script as a turn of a run: it always brings a list of refusals, perhaps an empty one
abbrev pub turn_for : ScriptRequest → Turn
turn_for r = record {
  asked = record { head = r.head; body = r.body; principal = r.principal; moment = r.moment; token = r.token };
  refusals = Some r.refusals;
}

-- the requests of a script as turns of a run, in order
abbrev pub turns_for : ScriptContent → List Turn
turns_for s = map turn_for s.requests

-- the settings of a script's server
abbrev pub settings_for : ScriptContent → Settings
settings_for s = record { prefix = s.prefix; allowed = s.methods }

-- the state of the store that a script begins with: an empty one, with the change number that comes next, where 0 counts as 1
abbrev pub new_store : ScriptContent → StoreState
new_store s = record { world = empty_from (max s.next 1); refusals = []; short = false }

-- the list of locks that a script begins with: an empty one, or none where the script has no locks
abbrev pub new_locks : ScriptContent → Locks
new_locks s = if s.locks then Some [] else None

-- the state that a script begins with: its store and its locks
abbrev pub new_state : ScriptContent → ServerState
new_state s = record { store = new_store s; locks = new_locks s }

-- the server that a script sets up
abbrev pub new_server : ScriptContent → Server
new_server s = record { settings = settings_for s; state = new_state s }

-- bytes that can be played: a script that is short enough, whose prefix a server takes
abbrev pub IsPlayable : List ℕ → Type 0
IsPlayable text = (s : ScriptContent) × IsShort text × IsScript text s × IsPrefix s.prefix

-- ---- the run of all requests

-- The lines are the replies of the machine's run of all requests of the script, from the server that it sets up.
abbrev pub AreRunReplies : ScriptContent → List ℕ → Type 0
AreRunReplies s lines =
    (replies : List Reply) × (left : Server)
    × AnswersAll (new_server s) (turns_for s) replies left × (lines ≡ lines_of replies)

-- The replies are those of a run of the first of these turns, perhaps of none, from this server.
abbrev pub RunsSome : Server → List Turn → List Reply → Type 0
RunsSome old ts replies =
    (first : List Turn) × (rest : List Turn) × (left : Server) × (ts ≡ first ++ rest) × AnswersAll old first replies left

-- The lines are the replies to the first requests of the script, perhaps to none.
abbrev pub AreSomeRunReplies : ScriptContent → List ℕ → Type 0
AreSomeRunReplies s lines =
    (replies : List Reply) × RunsSome (new_server s) (turns_for s) replies × (lines ≡ lines_of replies)

-- The lines are the replies of the machine's run of these turns, from the server that the script sets up. The run keeps its promises; and
-- the headline, where the server has locks and begins empty, and no two requests hand in one token.
pub record AreRepliesTo (s : ScriptContent) (ts : List Turn) (lines : List ℕ) : Type 0 where
  pub replies : List Reply
  pub left : Server
  pub run : AnswersAll (new_server s) ts replies left
  pub promises : Promises (new_server s) ts replies
  pub headline : s.locks ≡ true → s.next ≤ 1 → TokensDiffer ts → Headline (settings_for s) ts replies left
  pub lines_are : lines ≡ lines_of replies

-- the lines are the replies to all requests of the script, with the promises and the headline (`AreRepliesTo`)
abbrev pub AreReplies : ScriptContent → List ℕ → Type 0
AreReplies s lines = AreRepliesTo s (turns_for s) lines

-- the lines are the replies to the first requests of the script, perhaps to none, with the promises and the headline (`AreRepliesTo`)
abbrev pub AreFirstReplies : ScriptContent → List ℕ → Type 0
AreFirstReplies s lines = (first : List Turn) × (rest : List Turn) × (turns_for s ≡ first ++ rest) × AreRepliesTo s first lines

-- ---- the run alone

-- a lock as this turn's request may be granted it: with the token that it hands in, and with its principal (RFC 4918, sections 6.4 and
-- 6.5)
abbrev pub MayBeGranted : Turn → Lock → Type 0
MayBeGranted t h = (t.asked.token ≡ Some h.token) × (t.asked.principal ≡ h.principal)

-- `us` are the turns after this place whose request names, as the same principal, the token that the request at the place hands in
abbrev pub AloneAfter : ℕ → List Turn → List Turn → Type 0
AloneAfter place ts us =
    IsSomeAnd (slice_get ts place) (λ t. (h : Lock) → MayBeGranted t h → HolderTurns h (drop (place + 1) ts) us)

-- the server is what a run of the requests up to and with that at this place left, from the server that the script sets up
abbrev pub IsServerAfter : ScriptContent → ℕ → Server → Type 0
IsServerAfter s place there =
    (replies : List Reply) × AnswersAll (new_server s) (take (place + 1) (turns_for s)) replies there

-- The lines are the place, and the replies to the requests after it that name the token of the request at the place as its principal, run
-- alone from what the requests up to the place left.
abbrev pub AreAloneReplies : ScriptContent → ℕ → List ℕ → Type 0
AreAloneReplies s place lines =
    (us : List Turn) × (there : Server) × (replies : List Reply) × (left : Server)
    × AloneAfter place (turns_for s) us × IsServerAfter s place there
    × AnswersAll there us replies left × (lines ≡ place_line place ++ lines_of replies)

-- The lines are the place of the request from which on its holder is run alone, and the replies to the first of the holder's requests,
-- perhaps to none.
abbrev pub AreFirstAloneReplies : ScriptContent → ℕ → List ℕ → Type 0
AreFirstAloneReplies s place lines =
    (us : List Turn) × (there : Server) × (replies : List Reply)
    × AloneAfter place (turns_for s) us × IsServerAfter s place there
    × RunsSome there us replies × (lines ≡ place_line place ++ lines_of replies)

-- what is written after the replies to all requests: nothing, or the run alone from this place on
abbrev pub Follows : ScriptContent → Option ℕ → List ℕ → Type 0
Follows s None lines = lines ≡ []
Follows s (Some place) lines = AreAloneReplies s place lines

-- ---- what is written

-- What is written where nothing fails: the text is a script, and the lines are the replies to all its requests and, where it asks for
-- that, those of a run alone.
abbrev pub Plays : List ℕ → List ℕ → Type 0
Plays text lines =
    (s : ScriptContent) × (all : List ℕ) × (alone : List ℕ)
    × IsShort text × IsScript text s × IsPrefix s.prefix
    × AreReplies s all × Follows s s.alone alone × (lines ≡ all ++ alone)

-- What was written when playing ended with a fault: nothing; or the replies to the first requests of the script, perhaps to none; or the
-- replies to all of them, and the first lines of the run alone.
abbrev pub PlaysSome : List ℕ → List ℕ → Type 0
PlaysSome text lines =
    (lines ≡ [])
    ⊎ ((s : ScriptContent) × IsShort text × IsScript text s × IsPrefix s.prefix
    × (AreFirstReplies s lines
    ⊎ ((place : ℕ) × (all : List ℕ) × (alone : List ℕ) × (s.alone ≡ Some place)
    × AreReplies s all × AreFirstAloneReplies s place alone × (lines ≡ all ++ alone))))

-- the exit status of the program after a fault: 1 where the input is no script, 2 where reading or writing failed, 3 where memory ran out
abbrev pub fault_status : Fault → ℕ
fault_status NotScript = 1
fault_status Io = 2
fault_status Memory = 3
