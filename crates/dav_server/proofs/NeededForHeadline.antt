-- Premises of the headline that are needed: runs that break one of them, and of which it isn't true.
use Rattle.std.proofs.Common.{◌≡◌, true, false, List, [], ◌∷◌, Some, None, Ok, Err, refl, ap, ◌∙◌, arith}
use Rattle.std.proofs.lemmas.List.Elements.{All-nil, All-cons}
use Rattle.std.specs.Option.{option_map}
use Rattle.dav_core.specs.declared.errors.FsError.TheVariants.{NotFound}
use Rattle.dav_core.specs.Asking.{StoreState, asked, Metadata, CreateDir}
use Rattle.dav_core.specs.Locks.{Lock, covers}
use Rattle.dav_core.specs.World.{node_at}
use Rattle.dav_engine.specs.Alongside.{AsksWithNumbers}
use Rattle.dav_engine.specs.Folder.{location_found}
use Rattle.dav_engine.specs.Guard.{folder_of, Guarded, Stands, guards_here, no_others, listed_here, listed_later}
use Rattle.dav_engine.specs.Inside.{content_of, inside}
use Rattle.dav_engine.specs.Mkcol.{made}
use Rattle.dav_engine.specs.Plan.{Locks, ServerState, Ran, ran_done, ran_ask, ran_look, ran_keep}
use Rattle.dav_engine.specs.Reply.{Reply}
use Rattle.dav_engine.specs.Sparing.{Spared}
use Rattle.dav_engine.specs.Unlock.{unlocked_reply}
use Rattle.dav_engine.proofs.Theorems.{ran_plain}
use Rattle.dav_server.specs.EachRequest.{RunStep}
use Rattle.dav_server.specs.Headline.{empty_server, GrantsFolder, Headline}
use Rattle.dav_server.specs.Isolation.{AreLoaded, RunsUnder, under_none, under_more, HolderTurns, alone_none, alone_other, alone_own, MatchesSoloRun}
use Rattle.dav_server.specs.Machine.{Settings, Steps, steps}
use Rattle.dav_server.specs.Naming.{NamesLock, NamesToken}
use Rattle.dav_server.specs.Run.{Turn, Runs, no_more, one_more}
use Rattle.dav_server.specs.Server.{Server, AnswersAll}
use Rattle.dav_server.specs.TagLaws.{MomentsAreDates}
use Rattle.dav_server.proofs.MeansLemmas.{runs_are_determined}
use Rattle.dav_server.proofs.NeededTokens as tokens
use Rattle.dav_server.proofs.NeededTokens.{second, unlocker, unlock_plan, unlock_means, unlock_names, ended, ends_guard, twice, own, tokens_are_needed}
use Rattle.dav_server.proofs.WorkedGrant.{locker, locking, locker_means, granted_lock, none, one, makes_first, lock_reply, grants}
use Rattle.dav_server.proofs.WorkedRun.{a, at_a, lock, stranger, holder, turn_with, settings, no_conditions, own_conditions, plan_with, stranger_means, holder_means, holder_ran, other_names, own_names, some_number, before, after, holding, one_lock, missing, makes_a, Showable, Loaded}

-- a run while a lock stands is a run
under_plain : {s : Settings} {h : Lock} {ts : List Turn} {old new : StoreState} {ls ms : Locks} {replies : List Reply} → RunsUnder AsksWithNumbers s h ts old ls replies new ms → Runs s ts old ls replies new ms
under_plain under_none = no_more
under_plain (under_more stands holds (steps plan outcome means ran) more) = one_more (steps plan outcome means (ran_plain ran)) (under_plain more)

-- ---- MKCOL /a and LOCK /a, on an empty server

abbrev pub begun_with : List Turn → List Turn
begun_with later = turn_with stranger ∷ turn_with locker ∷ later

abbrev pub answered_with : List Reply → List Reply
answered_with given = made at_a ∷ lock_reply ∷ given

pub made_first : Runs settings (turn_with stranger ∷ []) (holding before) none (made at_a ∷ []) (holding after) none
made_first = one_more (steps (plan_with no_conditions) (Ok (made at_a)) stranger_means makes_first) no_more

after_the_grant : {later : List Turn} {given : List Reply} {new : StoreState} {ms : Locks} → Runs settings later (holding after) one given new ms → Runs settings (begun_with later) (holding before) none (answered_with given) new ms
after_the_grant ran = one_more (steps (plan_with no_conditions) (Ok (made at_a)) stranger_means makes_first) (one_more (steps locking (Ok lock_reply) locker_means grants) ran)

abbrev pub state : StoreState → Locks → ServerState
state store locks = record { store = store; locks = locks }

abbrev pub the_grant : (later : List Turn) (given : List Reply) → RunStep (empty_server settings) (begun_with later) (answered_with given)
the_grant later given = record {
  front = turn_with stranger ∷ [];
  turn = turn_with locker;
  back = later;
  before = made at_a ∷ [];
  reply = lock_reply;
  after = given;
  was = state (holding after) none;
  now = state (holding after) one;
  turns_are = refl;
  replies_are = refl;
  earlier = made_first;
  stepped = steps locking (Ok lock_reply) locker_means grants;
}

pub granted : GrantsFolder (turn_with locker) (state (holding after) none) (state (holding after) one) granted_lock
granted = record {
  guard = record { exclusive = refl; deep = refl };
  before = [];
  after = granted_lock ∷ [];
  were = refl;
  are = refl;
  grants = record { token_is = refl; listed = refl };
  folder = refl;
}

-- ---- one token is handed in twice

abbrev left : Server
left = record { settings = settings; state = state (holding after) (Some []) }

twice_showable : MomentsAreDates twice
twice_showable =
    All-cons Showable (turn_with second) own (omega arith) (All-cons Showable (turn_with unlocker) (turn_with unlocker ∷ []) (omega arith)
    (All-cons Showable (turn_with unlocker) [] (omega arith) (All-nil Showable)))

twice_loaded : AreLoaded twice
twice_loaded = All-cons Loaded (turn_with second) own refl (All-cons Loaded (turn_with unlocker) (turn_with unlocker ∷ []) refl (All-cons Loaded (turn_with unlocker) [] refl (All-nil Loaded)))

-- Where another client hands in the token of the granted lock, the headline isn't true of the run: all its other premises hold.
pub different_tokens_are_needed :
    MomentsAreDates (begun_with twice) × AreLoaded (begun_with twice) × AnswersAll (empty_server settings) (begun_with twice) (answered_with tokens.replies) left
    × ¬ Headline settings (begun_with twice) (answered_with tokens.replies) left
different_tokens_are_needed = (
  All-cons Showable (turn_with stranger) (turn_with locker ∷ twice) (omega arith) (All-cons Showable (turn_with locker) twice (omega arith) twice_showable),
  All-cons Loaded (turn_with stranger) (turn_with locker ∷ twice) refl (All-cons Loaded (turn_with locker) twice refl twice_loaded),
  after_the_grant (under_plain tokens_are_needed.0),
  λ headline. tokens_are_needed.3 (headline.isolated (the_grant twice tokens.replies) granted_lock twice [] own tokens.replies [] (state (holding after) (Some [])) granted refl refl tokens_are_needed.0 refl tokens_are_needed.2),
)

-- ---- a request names the token

gone : ¬ Stands granted_lock (Some [])
gone is = elim is [ ]

abbrev unlocked_at : RunStep (empty_server settings) (begun_with (turn_with unlocker ∷ [])) (answered_with (ended ∷ []))
unlocked_at = record {
  front = begun_with [];
  turn = turn_with unlocker;
  back = [];
  before = answered_with [];
  reply = ended;
  after = [];
  was = state (holding after) one;
  now = state (holding after) (Some []);
  turns_are = refl;
  replies_are = refl;
  earlier = after_the_grant no_more;
  stepped = steps unlock_plan (Ok ended) unlock_means (ran_plain ends_guard);
}

-- A request that names its token ends a lock.
pub unnamed_token_is_needed : (u : RunStep (empty_server settings) (begun_with (turn_with unlocker ∷ [])) (answered_with (ended ∷ []))) × Stands granted_lock u.was.locks × NamesToken u.turn.asked granted_lock.token × ¬ Stands granted_lock u.now.locks
unnamed_token_is_needed = (unlocked_at, listed_here refl, unlock_names.token, gone)

-- ---- the lock doesn't stand

abbrev ended_early : Reply
ended_early = unlocked_reply (location_found None at_a)

ends_lock : Ran AsksWithNumbers unlock_plan (holding before) one_lock (Ok ended_early) (holding before) (Some [])
ends_lock = ran_look (ran_ask {c = Metadata (a ∷ [])} {answer = Err NotFound} (asked missing, λ ready finds. finds.0) (ran_look (ran_keep ran_done)))

abbrev early : List Turn
early = turn_with unlocker ∷ turn_with stranger ∷ []

names_lock : NamesLock lock unlocker
names_lock = record { token = unlock_names.token; principal = refl }

alone_early : Runs settings (turn_with unlocker ∷ []) (holding before) one_lock (ended_early ∷ []) (holding before) (Some [])
alone_early = one_more (steps unlock_plan (Ok ended_early) unlock_means (ran_plain ends_lock)) no_more

-- Where the lock was ended before another client's request, the folder changes, and wouldn't alone.
pub standing_is_needed :
    Runs settings early (holding before) one_lock (ended_early ∷ made at_a ∷ []) (holding after) (Some [])
    × Guarded lock one_lock × HolderTurns lock early (turn_with unlocker ∷ [])
    × ¬ MatchesSoloRun settings lock early (turn_with unlocker ∷ []) (holding before) one_lock (ended_early ∷ made at_a ∷ []) (holding after)
standing_is_needed = (
  one_more (steps unlock_plan (Ok ended_early) unlock_means (ran_plain ends_lock)) made_first,
  guards_here refl no_others,
  alone_own names_lock (alone_other other_names alone_none),
  λ alone.
      let same = runs_are_determined settings (turn_with unlocker ∷ []) (holding before) alone.end (holding before) one_lock alone.locks (Some []) alone.alone (ended_early ∷ []) alone.runs alone.ample alone_early refl in
      let e : inside after (folder_of lock) [] ≡ inside before (folder_of lock) [] = alone.inside [] ∙ ap (λ (s : StoreState). inside s.world (folder_of lock) []) same.1 in cc,
)

-- ---- what an exclusive lock covers

-- the folder is made, in the world before it
pub covered_changes : (h : Lock) → covers h (a ∷ []) ≡ true → ¬ Spared (covers h) before after
covered_changes h within spared = let e : option_map content_of (node_at before (a ∷ [])) ≡ option_map content_of (node_at after (a ∷ [])) = spared.same (a ∷ []) within in cc

-- A request that names the lock as its principal changes what the lock covers.
pub unnamed_lock_is_needed : Steps settings holder (holding before) one_lock (made at_a) (holding after) one_lock × (lock.shared ≡ false) × Stands lock one_lock × NamesLock lock holder × ¬ Spared (covers lock) before after
unnamed_lock_is_needed = (steps (plan_with (own_conditions (a ∷ []))) (Ok (made at_a)) holder_means (ran_plain holder_ran), refl, listed_here refl, own_names, covered_changes lock refl)

-- So does another client's, where the lock isn't in the list.
pub listed_lock_is_needed : Steps settings stranger (holding before) none (made at_a) (holding after) none × (lock.shared ≡ false) × ¬ NamesLock lock stranger × ¬ Spared (covers lock) before after
listed_lock_is_needed = (steps (plan_with no_conditions) (Ok (made at_a)) stranger_means makes_first, refl, other_names, covered_changes lock refl)

-- two shared locks on the folder, of two clients
abbrev own_shared : Lock
own_shared = record lock { shared = true }

abbrev other_shared : Lock
other_shared = record lock { shared = true; token = 117 ∷ []; principal = Some (98 ∷ []) }

abbrev two_shared : Locks
two_shared = Some (own_shared ∷ other_shared ∷ [])

passes_shared : Ran AsksWithNumbers (plan_with (own_conditions (a ∷ []))) (holding before) two_shared (Ok (made at_a)) (holding after) two_shared
passes_shared =
    ran_ask {c = Metadata (a ∷ [])} {answer = Err NotFound} (asked missing, λ ready finds. finds.0)
    (ran_look (ran_look (ran_look (ran_ask {c = CreateDir (a ∷ []) 1} {answer = Ok tt} (asked makes_a, λ ready finds. some_number finds.1) ran_done))))

-- And so does that of who holds another lock, where both are shared.
pub exclusive_lock_is_needed : Steps settings holder (holding before) two_shared (made at_a) (holding after) two_shared × Stands other_shared two_shared × ¬ NamesLock other_shared holder × ¬ Spared (covers other_shared) before after
exclusive_lock_is_needed = (
  steps (plan_with (own_conditions (a ∷ []))) (Ok (made at_a)) holder_means (ran_plain passes_shared),
  listed_later (listed_here refl),
  λ named. let e : None ≡ Some (98 ∷ []) = named.principal in cc,
  covered_changes other_shared refl,
)
