-- Premises of the headline from the grant on that are needed: runs from an empty server that break one of them, and of which
-- isolation isn't true.
use Rattle.std.proofs.Common.{◌≡◌, ◌≤◌, true, false, List, [], ◌∷◌, length, codes, append-nil, Some, None, Ok, Err, refl, sym, arith}
use Rattle.std.proofs.lemmas.List.Elements.{All-nil}
use Rattle.httparse.specs.Grammar.{IsField, is_token_byte, print_request}
use Rattle.dav_core.specs.declared.errors.FsError.TheVariants.{NotFound, Exists, GeneralFailure, InsufficientStorage}
use Rattle.dav_core.specs.declared.fs.DavMetaData.{DavMetaData}
use Rattle.dav_core.specs.declared.method.DavMethod.TheVariants.{MkCol, Lock as LockMethod}
use Rattle.dav_core.specs.Asking.{meaning, Asks, Answered, RanShort, asked, ran_short, Metadata, CreateDir}
use Rattle.dav_core.specs.Locks.{Lock}
use Rattle.dav_core.specs.World.{World, Folder, is_folder, with_new}
use Rattle.dav_engine.specs.declared.request.Body.TheVariants as body
use Rattle.dav_engine.specs.Alongside.{AsksWithNumbers}
use Rattle.dav_engine.specs.Folder.{location_found}
use Rattle.dav_engine.specs.Guard.{folder_of, Stands, listed_here, a_list, no_list}
use Rattle.dav_engine.specs.Lock.{granted_reply, is_lock, lock as lock_plan}
use Rattle.dav_engine.specs.LockHeaders.{AreLockHeaders}
use Rattle.dav_engine.specs.Method.{MethodPlan}
use Rattle.dav_engine.specs.Mkcol.{create_error, made}
use Rattle.dav_engine.specs.Plan.{Locks, Ran, ran_done, ran_ask, ran_look, ran_keep}
use Rattle.dav_engine.specs.Reply.{Reply, reply_to}
use Rattle.dav_server.specs.EachRequest.{RunStep}
use Rattle.dav_server.specs.Head.{IsHead, request_of_head}
use Rattle.dav_server.specs.Headers.{headers_of}
use Rattle.dav_server.specs.Headline.{empty_server, GrantsFolder}
use Rattle.dav_server.specs.Holder.{IsHolderRequest, acts}
use Rattle.dav_server.specs.Isolation.{RunsUnder, under_none, under_more, HolderTurns, alone_none, alone_other, alone_own, AnswerAlike, alike_other, alike_own, MatchesSoloRun, Grants}
use Rattle.dav_server.specs.Machine.{Exchange, caller, Means, known, method, locks, steps}
use Rattle.dav_server.specs.Naming.{NamesLock}
use Rattle.dav_server.specs.Run.{Turn, RunsBy, no_more, one_more}
use Rattle.dav_server.proofs.NeededForHeadline.{begun_with, answered_with, made_first, state, the_grant, granted}
use Rattle.dav_server.proofs.NeededPremises.{refuted, apart, shorted, no_room, shallow, shallow_alone, other_turn, depth_is_needed, at_b, other_b, named_b, plan_b, other_b_means, other_b_names, named_b_means, named_b_names}
use Rattle.dav_server.proofs.NeededTokens.{slash, at_root, second, second_plan, second_means, second_reply, root_lock, found_root, root_there, text_root, target_root}
use Rattle.dav_server.proofs.WorkedGrant.{info, lock_headers, no_depth, no_timeout, granted_lock, none, one}
use Rattle.dav_server.proofs.WorkedRun.{a, b, at_a, at_below, token, stranger, head_of, head_with_method, holder, holder_request, own_head, own_list, own_says, own_names, turn_with, settings, no_conditions, own_conditions, plan_with, stranger_says, target_a, holder_means, before, after, filled, holding, missing, makes_a, some_number}

-- what is at the root of an empty store
abbrev pub new_root : DavMetaData
new_root = record { len = 0; dir = true; created = 0; modified = 0; number = Some 0 }

pub finds_root : Answered (Metadata []) (holding before) (Ok new_root) (holding before)
unfolding meaning
finds_root = record { as_asked = refl; refusals = refl; short = refl }

-- ---- a lock of Depth 0

abbrev zero_turns : List Turn
zero_turns = turn_with stranger ∷ turn_with second ∷ other_turn

abbrev zero_replies : List Reply
zero_replies = made at_a ∷ second_reply ∷ made at_below ∷ []

grants_zero : Ran Asks second_plan (holding after) none (Ok second_reply) (holding after) shallow_alone
grants_zero = ran_look (ran_ask {c = Metadata []} {answer = Ok found_root} (asked root_there) (ran_look (ran_keep ran_done)))

abbrev zero_grant : RunStep (empty_server settings) zero_turns zero_replies
zero_grant = record {
  front = turn_with stranger ∷ [];
  turn = turn_with second;
  back = other_turn;
  before = made at_a ∷ [];
  reply = second_reply;
  after = made at_below ∷ [];
  was = state (holding after) none;
  now = state (holding after) shallow_alone;
  turns_are = refl;
  replies_are = refl;
  earlier = made_first;
  stepped = steps second_plan (Ok second_reply) second_means grants_zero;
}

-- An exclusive lock of Depth 0 on the root was granted: another client's request makes a folder in /a, and there is none alone.
pub deep_lock_is_needed :
    (g : RunStep (empty_server settings) zero_turns zero_replies) × (shallow.shared ≡ false)
    × Grants g.turn shallow [] (shallow ∷ []) × (is_folder g.now.store.world (folder_of shallow) ≡ true)
    × RunsUnder AsksWithNumbers settings shallow other_turn g.now.store g.now.locks (made at_below ∷ []) (holding filled) shallow_alone
    × HolderTurns shallow other_turn [] × ¬ MatchesSoloRun settings shallow other_turn [] g.now.store g.now.locks (made at_below ∷ []) (holding filled)
deep_lock_is_needed = (zero_grant, refl, record { token_is = refl; listed = refl }, refl, depth_is_needed.0, depth_is_needed.2, depth_is_needed.3)

-- ---- LOCK / of infinite depth

abbrev pub root_locker : Exchange
root_locker = record { head = print_request (head_of (codes "LOCK") slash []); body = body.Tree info; principal = None; moment = 1; token = Some token }

root_short : length root_locker.head ≤ 65536
unfolding print_request
root_short = omega arith

pub root_head : IsHead root_locker.head (request_of_head (head_of (codes "LOCK") slash []))
unfolding is_token_byte
root_head = (root_short, head_of (codes "LOCK") slash [], (head_with_method (codes "LOCK") slash [] (omega arith) refl (omega arith) refl text_root (All-nil IsField), sym (append-nil _)), omega arith, refl)

pub says_root : AreLockHeaders (headers_of []) at_root lock_headers
says_root = record { conditions = stranger_says []; depth = no_depth; timeout = no_timeout }

abbrev root_plan : MethodPlan Reply
root_plan = lock_plan lock_headers at_root (body.Tree info) (caller root_locker)

root_means : Means settings root_locker root_plan
root_means = known (request_of_head (head_of (codes "LOCK") slash [])) LockMethod root_head (tt, refl) (method at_root (body.Tree info) refl target_root refl (locks (is_lock lock_headers says_root)))

abbrev deep_root : Lock
deep_root = record root_lock { deep = true }

abbrev root_alone : Locks
root_alone = Some (deep_root ∷ [])

abbrev root_reply : Reply
root_reply = granted_reply true (location_found (Some new_root) at_root) deep_root

grants_root : Ran Asks root_plan (holding before) none (Ok root_reply) (holding before) root_alone
grants_root = ran_look (ran_ask {c = Metadata []} {answer = Ok new_root} (asked finds_root) (ran_look (ran_keep ran_done)))

-- MKCOL /a with the lock's token
abbrev made_turn : List Turn
made_turn = turn_with holder ∷ []

abbrev root_grant : RunStep (empty_server settings) (turn_with root_locker ∷ made_turn) (root_reply ∷ no_room ∷ [])
root_grant = record {
  front = [];
  turn = turn_with root_locker;
  back = made_turn;
  before = [];
  reply = root_reply;
  after = no_room ∷ [];
  was = state (holding before) none;
  now = state (holding before) root_alone;
  turns_are = refl;
  replies_are = refl;
  earlier = no_more;
  stepped = steps root_plan (Ok root_reply) root_means grants_root;
}

root_granted : GrantsFolder (turn_with root_locker) (state (holding before) none) (state (holding before) root_alone) deep_root
root_granted = record {
  guard = record { exclusive = refl; deep = refl };
  before = [];
  after = deep_root ∷ [];
  were = refl;
  are = refl;
  grants = record { token_is = refl; listed = refl };
  folder = refl;
}

-- ---- the store runs out of memory

holds_root : IsHolderRequest settings deep_root holder
holds_root =
    acts holder_request MkCol at_a refl (record { head = own_head; method = (tt, refl); target = target_a }) refl refl
    (record { lists = own_list (a ∷ []) ∷ []; only = a_list (a ∷ []) no_list; says = own_says (a ∷ []); match = refl; none_match = refl }) refl

names_root : NamesLock deep_root holder
names_root = record { token = own_names.token; principal = refl }

runs_short : RanShort (CreateDir (a ∷ []) 1) (holding before) (Err InsufficientStorage) (shorted before)
unfolding meaning
runs_short = record { takes_memory = tt; not_refused = refl; allowed = tt; answer_is = refl; world = refl; refusals = refl; short = refl }

short_of_room : Ran AsksWithNumbers (plan_with (own_conditions (a ∷ []))) (holding before) root_alone (Err (create_error InsufficientStorage)) (shorted before) root_alone
short_of_room =
    ran_ask {c = Metadata (a ∷ [])} {answer = Err NotFound} (asked missing, λ ready finds. finds.0)
    (ran_look (ran_look (ran_look (ran_ask {c = CreateDir (a ∷ []) 1} {answer = Err InsufficientStorage} (ran_short runs_short, λ ready finds. some_number finds.1) ran_done))))

makes_alone : Ran Asks (plan_with (own_conditions (a ∷ []))) (holding before) root_alone (Ok (made at_a)) (holding after) root_alone
makes_alone =
    ran_ask {c = Metadata (a ∷ [])} {answer = Err NotFound} (asked missing)
    (ran_look (ran_look (ran_look (ran_ask {c = CreateDir (a ∷ []) 1} {answer = Ok tt} (asked makes_a) ran_done))))

room_unlike : ¬ AnswerAlike deep_root made_turn (no_room ∷ []) (made at_a ∷ [])
room_unlike (alike_other other more) = other names_root
room_unlike (alike_own named same more) = apart no_room (made at_a) (λ e. omega (arith, e)) same

-- The store runs out of memory in the holder's request: the answer is another than alone. All else is as the headline asks.
pub memory_in_the_headline_is_needed :
    (g : RunStep (empty_server settings) (turn_with root_locker ∷ made_turn) (root_reply ∷ no_room ∷ [])) × GrantsFolder g.turn g.was g.now deep_root
    × RunsUnder AsksWithNumbers settings deep_root made_turn g.now.store g.now.locks (no_room ∷ []) (shorted before) root_alone
    × HolderTurns deep_root made_turn made_turn × ¬ MatchesSoloRun settings deep_root made_turn made_turn g.now.store g.now.locks (no_room ∷ []) (shorted before)
memory_in_the_headline_is_needed = (
  root_grant,
  root_granted,
  under_more (listed_here refl) (λ named. holds_root) (steps (plan_with (own_conditions (a ∷ []))) (Err (create_error InsufficientStorage)) holder_means short_of_room) under_none,
  alone_own names_root alone_none,
  refuted (one_more (steps (plan_with (own_conditions (a ∷ []))) (Ok (made at_a)) holder_means makes_alone) no_more) refl room_unlike,
)

-- ---- a request that names the lock, but isn't at its folder

abbrev with_both : World
with_both = with_new after (b ∷ []) Folder [] 1

abbrev found_second : DavMetaData
found_second = record { len = 0; dir = true; created = 1; modified = 1; number = Some 2 }

no_b : Answered (Metadata (b ∷ [])) (holding after) (Err NotFound) (holding after)
unfolding meaning
no_b = record { as_asked = refl; refusals = refl; short = refl }

makes_second : Answered (CreateDir (b ∷ []) 1) (holding after) (Ok tt) (holding with_both)
unfolding meaning
makes_second = record { as_asked = refl; refusals = refl; short = refl }

second_number : meaning (CreateDir (b ∷ []) 1) after ≡ Err GeneralFailure → ⊥
unfolding meaning
second_number e = cc

there_second : Answered (Metadata (b ∷ [])) (holding with_both) (Ok found_second) (holding with_both)
unfolding meaning
there_second = record { as_asked = refl; refusals = refl; short = refl }

exists_second : Answered (CreateDir (b ∷ []) 1) (holding with_both) (Err Exists) (holding with_both)
unfolding meaning
exists_second = record { as_asked = refl; refusals = refl; short = refl }

number_second : meaning (CreateDir (b ∷ []) 1) with_both ≡ Err GeneralFailure → ⊥
unfolding meaning
number_second e = cc

other_makes : Ran AsksWithNumbers (plan_b no_conditions) (holding after) one (Ok (made at_b)) (holding with_both) one
other_makes =
    ran_ask {c = Metadata (b ∷ [])} {answer = Err NotFound} (asked no_b, λ ready finds. finds.0)
    (ran_look (ran_look (ran_ask {c = CreateDir (b ∷ []) 1} {answer = Ok tt} (asked makes_second, λ ready finds. second_number finds.1) ran_done)))

named_finds : Ran AsksWithNumbers (plan_b (own_conditions (b ∷ []))) (holding with_both) one (Err (create_error Exists)) (holding with_both) one
named_finds =
    ran_ask {c = Metadata (b ∷ [])} {answer = Ok found_second} (asked there_second, λ ready finds. finds.0)
    (ran_look (ran_look (ran_ask {c = CreateDir (b ∷ []) 1} {answer = Err Exists} (asked exists_second, λ ready finds. number_second finds.1) ran_done)))

named_makes : Ran Asks (plan_b (own_conditions (b ∷ []))) (holding after) one (Ok (made at_b)) (holding with_both) one
named_makes =
    ran_ask {c = Metadata (b ∷ [])} {answer = Err NotFound} (asked no_b)
    (ran_look (ran_look (ran_look (ran_ask {c = CreateDir (b ∷ []) 1} {answer = Ok tt} (asked makes_second) ran_done))))

abbrev elsewhere : List Turn
elsewhere = turn_with other_b ∷ turn_with named_b ∷ []

abbrev elsewhere_replies : List Reply
elsewhere_replies = made at_b ∷ reply_to (Err (create_error Exists)) ∷ []

names_b : NamesLock granted_lock named_b
names_b = record { token = named_b_names.token; principal = refl }

unnamed_b : ¬ NamesLock granted_lock other_b
unnamed_b named = other_b_names (record { token = named.token; principal = named.principal })

last_unlike : ¬ AnswerAlike granted_lock (turn_with named_b ∷ []) (reply_to (Err (create_error Exists)) ∷ []) (made at_b ∷ [])
last_unlike (alike_other other more) = other names_b
last_unlike (alike_own named same more) = apart (reply_to (Err (create_error Exists))) (made at_b) (λ e. omega (arith, e)) same

elsewhere_unlike : ¬ AnswerAlike granted_lock elsewhere elsewhere_replies (made at_b ∷ [])
elsewhere_unlike (alike_other other more) = last_unlike more
elsewhere_unlike (alike_own named same more) = unnamed_b named

-- A request names the granted lock at a path that isn't in its folder: its answer depends on what another client did there. The
-- lock stands all along.
pub holders_in_the_headline_are_needed :
    (g : RunStep (empty_server settings) (begun_with elsewhere) (answered_with elsewhere_replies)) × GrantsFolder g.turn g.was g.now granted_lock
    × RunsBy AsksWithNumbers settings elsewhere g.now.store g.now.locks elsewhere_replies (holding with_both) one × Stands granted_lock one
    × HolderTurns granted_lock elsewhere (turn_with named_b ∷ [])
    × ¬ MatchesSoloRun settings granted_lock elsewhere (turn_with named_b ∷ []) g.now.store g.now.locks elsewhere_replies (holding with_both)
holders_in_the_headline_are_needed = (
  the_grant elsewhere elsewhere_replies,
  granted,
  one_more (steps (plan_b no_conditions) (Ok (made at_b)) other_b_means other_makes) (one_more (steps (plan_b (own_conditions (b ∷ []))) (Err (create_error Exists)) named_b_means named_finds) no_more),
  listed_here refl,
  alone_other unnamed_b (alone_own names_b alone_none),
  refuted (one_more (steps (plan_b (own_conditions (b ∷ []))) (Ok (made at_b)) named_b_means named_makes) no_more) refl elsewhere_unlike,
)
