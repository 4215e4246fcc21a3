-- A worked run from no locks: a folder is made and locked, another client is refused in it, and its holder is answered as if alone.
use Rattle.std.proofs.Common.{◌≡◌, ◌≢◌, ◌≤◌, ℕ, true, false, List, [], ◌∷◌, length, codes, Some, None, Ok, Err, All, refl, sym, ◌∙◌, append-nil, arith}
use Rattle.std.proofs.lemmas.List.Elements.{All-nil, All-cons}
use Rattle.std.proofs.lemmas.List.Kept.{AllPairs-cons}
use Rattle.httparse.specs.Grammar.{IsField, is_token_byte, print_request}
use Rattle.dav_core.specs.declared.errors.FsError.TheVariants.{NotFound}
use Rattle.dav_core.specs.declared.errors.DavError.TheVariants as dav
use Rattle.dav_core.specs.declared.fs.DavMetaData.{DavMetaData}
use Rattle.dav_core.specs.declared.method.DavMethod.TheVariants.{MkCol, Lock as LockMethod}
use Rattle.dav_core.specs.Asking.{meaning, Asks, Answered, asked, Metadata, CreateDir}
use Rattle.dav_core.specs.Element.{ElementTree, element, trees}
use Rattle.dav_core.specs.Locks.{Lock}
use Rattle.dav_core.proofs.Theorems.{empty_is_world}
use Rattle.dav_headers.specs.Depth.{IsDepth}
use Rattle.dav_headers.specs.Timeout.{IsTimeout}
use Rattle.dav_headers.specs.declared.depth.Depth.{Depth}
use Rattle.dav_headers.specs.declared.timeout.DavTimeout.{DavTimeout}
use Rattle.dav_engine.specs.declared.request.Body.TheVariants as body
use Rattle.dav_engine.specs.Alongside.{AsksWithNumbers}
use Rattle.dav_engine.specs.IsolatedPlans.{SubmitsAlone}
use Rattle.dav_engine.specs.Folder.{location_found}
use Rattle.dav_engine.specs.Guard.{Stands, listed_here, a_list, no_list}
use Rattle.dav_engine.specs.Lock.{granted_reply, is_lock, lock as lock_plan}
use Rattle.dav_engine.specs.LockHeaders.{LockHeaders, AreLockHeaders}
use Rattle.dav_engine.specs.Method.{MethodPlan}
use Rattle.dav_engine.specs.Mkcol.{made}
use Rattle.dav_engine.specs.Plan.{Locks, Ran, ran_done, ran_ask, ran_look, ran_keep}
use Rattle.dav_engine.specs.Reply.{Reply, error_reply}
use Rattle.dav_server.specs.Head.{IsHead, request_of_head}
use Rattle.dav_server.specs.Headers.{headers_of}
use Rattle.dav_server.specs.Holder.{IsHolderRequest, acts}
use Rattle.dav_server.specs.Isolation.{AreLoaded, RunsUnder, under_none, under_more, HolderTurns, alone_none, alone_other, alone_own, MatchesSoloRun, TokensDiffer}
use Rattle.dav_server.specs.Machine.{Exchange, caller, Means, known, method, locks, steps}
use Rattle.dav_server.specs.Naming.{NamesLock}
use Rattle.dav_server.specs.Run.{Turn, no_more, one_more}
use Rattle.dav_server.specs.Server.{Server}
use Rattle.dav_server.specs.TagLaws.{MomentsAreDates}
use Rattle.dav_server.proofs.GrantedRuns.{is_isolated_from_grants}
use Rattle.dav_server.proofs.WorkedRun.{a, b, token, slash_a, at_a, below, at_below, head_of, head_with_method, text_a, target_at_a, target_below, stranger, stranger_below, holder_below, turn_with, settings, no_conditions, own_conditions, own_list, stranger_says, holder_fields, below_request, own_below_head, own_says, below_unnamed, own_below_names, plan_with, plan_below, stranger_means, below_means, holder_below_means, before, after, filled, holding, missing, makes_a, missing_below, makes_below, number_below, own_turn, Showable, Loaded}

-- ---- LOCK /a with a body, of infinite depth, by a client that isn't known, and with a token

abbrev pub named : List ℕ → ElementTree
named name = element name None None [] (trees [])

abbrev pub holds : List ℕ → ElementTree → ElementTree
holds name inner = element name None None [] (trees (inner ∷ []))

abbrev pub info : ElementTree
info = element (codes "lockinfo") None None [] (trees (holds (codes "lockscope") (named (codes "exclusive")) ∷ holds (codes "locktype") (named (codes "write")) ∷ []))

abbrev pub locker : Exchange
locker = record { head = print_request (head_of (codes "LOCK") slash_a []); body = body.Tree info; principal = None; moment = 1; token = Some token }

short : length locker.head ≤ 65536
unfolding print_request
short = omega arith

pub lock_head : IsHead locker.head (request_of_head (head_of (codes "LOCK") slash_a []))
unfolding is_token_byte
lock_head = (short, head_of (codes "LOCK") slash_a [], (head_with_method (codes "LOCK") slash_a [] (omega arith) refl (omega arith) refl text_a (All-nil IsField), sym (append-nil _)), omega arith, refl)

abbrev pub lock_headers : LockHeaders
lock_headers = record { conditions = no_conditions; depth = None; timeout = None }

pub no_depth : (d : Depth) → ¬ IsDepth [] d
no_depth d is = absurd is

pub no_timeout : (times : List DavTimeout) → ¬ IsTimeout [] times
no_timeout times is = absurd is

says_lock : AreLockHeaders (headers_of []) at_a lock_headers
says_lock = record { conditions = stranger_says (a ∷ []); depth = no_depth; timeout = no_timeout }

abbrev pub locking : MethodPlan Reply
locking = lock_plan lock_headers at_a (body.Tree info) (caller locker)

pub locker_means : Means settings locker locking
locker_means = known (request_of_head (head_of (codes "LOCK") slash_a [])) LockMethod lock_head (tt, refl) (method at_a (body.Tree info) refl (target_at_a LockMethod) refl (locks (is_lock lock_headers says_lock)))

-- the lock that is granted
abbrev pub granted_lock : Lock
granted_lock = record { token = token; path = record { prefix = []; bytes = 47 ∷ 97 ∷ 47 ∷ [] }; principal = None; owner = None; timeout_at = None; timeout = None; shared = false; deep = true }

abbrev pub none : Locks
none = Some []

abbrev pub one : Locks
one = Some (granted_lock ∷ [])

-- ---- the run

abbrev pub found_a : DavMetaData
found_a = record { len = 0; dir = true; created = 1; modified = 1; number = Some 1 }

pub there : Answered (Metadata (a ∷ [])) (holding after) (Ok found_a) (holding after)
unfolding meaning
there = record { as_asked = refl; refusals = refl; short = refl }

pub makes_first : Ran Asks (plan_with no_conditions) (holding before) none (Ok (made at_a)) (holding after) none
makes_first =
    ran_ask {c = Metadata (a ∷ [])} {answer = Err NotFound} (asked missing)
    (ran_look (ran_look (ran_ask {c = CreateDir (a ∷ []) 1} {answer = Ok tt} (asked makes_a) ran_done)))

abbrev pub lock_reply : Reply
lock_reply = granted_reply true (location_found (Some found_a) at_a) granted_lock

pub grants : Ran Asks locking (holding after) none (Ok lock_reply) (holding after) one
grants = ran_look (ran_ask {c = Metadata (a ∷ [])} {answer = Ok found_a} (asked there) (ran_look (ran_keep ran_done)))

refused : Ran AsksWithNumbers (plan_below no_conditions) (holding after) one (Err (dav.Status 423)) (holding after) one
refused = ran_ask {c = Metadata below} {answer = Err NotFound} (asked missing_below, λ ready finds. finds.0) (ran_look ran_done)

answered : Ran AsksWithNumbers (plan_below (own_conditions below)) (holding after) one (Ok (made at_below)) (holding filled) one
answered =
    ran_ask {c = Metadata below} {answer = Err NotFound} (asked missing_below, λ ready finds. finds.0)
    (ran_look (ran_look (ran_look (ran_ask {c = CreateDir below 1} {answer = Ok tt} (asked makes_below, λ ready finds. number_below finds.1) ran_done))))

-- MKCOL /a, LOCK /a, and then MKCOL /a/b of another client and of the holder
abbrev pub later : List Turn
later = turn_with stranger_below ∷ own_turn

abbrev pub turns : List Turn
turns = turn_with stranger ∷ turn_with locker ∷ later

abbrev pub given : List Reply
given = error_reply (dav.Status 423) ∷ made at_below ∷ []

abbrev pub replies : List Reply
replies = made at_a ∷ lock_reply ∷ given

abbrev pub begins : Server
begins = record { settings = settings; state = record { store = holding before; locks = none } }

other_names : ¬ NamesLock granted_lock stranger_below
other_names named = below_unnamed named.token

own_names : NamesLock granted_lock holder_below
own_names = record { token = own_below_names.token; principal = refl }

submits : SubmitsAlone (headers_of holder_fields) at_below granted_lock
submits = record { lists = own_list below ∷ []; only = a_list (b ∷ []) no_list; says = own_says below; match = refl; none_match = refl }

is_holder : IsHolderRequest settings granted_lock holder_below
is_holder = acts below_request MkCol at_below refl (record { head = own_below_head; method = (tt, refl); target = target_below MkCol }) refl refl submits refl

listed : Stands granted_lock one
listed = listed_here refl

under : RunsUnder AsksWithNumbers settings granted_lock later (holding after) one given (holding filled) one
under =
    under_more listed (λ named. absurd (other_names named)) (steps (plan_below no_conditions) (Err (dav.Status 423)) below_means refused)
    (under_more listed (λ named. is_holder) (steps (plan_below (own_conditions below)) (Ok (made at_below)) holder_below_means answered) under_none)

among : HolderTurns granted_lock later own_turn
among = alone_other other_names (alone_own own_names alone_none)

abbrev pub Others : Turn → Turn → Type 0
Others t u = (token : List ℕ) → t.asked.token ≡ Some token → u.asked.token ≢ Some token

all_showable : MomentsAreDates turns
all_showable =
    All-cons Showable (turn_with stranger) (turn_with locker ∷ later) (omega arith) (All-cons Showable (turn_with locker) later (omega arith)
    (All-cons Showable (turn_with stranger_below) own_turn (omega arith) (All-cons Showable (turn_with holder_below) [] (omega arith) (All-nil Showable))))

all_loaded : AreLoaded turns
all_loaded =
    All-cons Loaded (turn_with stranger) (turn_with locker ∷ later) refl (All-cons Loaded (turn_with locker) later refl
    (All-cons Loaded (turn_with stranger_below) own_turn refl (All-cons Loaded (turn_with holder_below) [] refl (All-nil Loaded))))

-- one of the requests hands in a token
pub quiet : (t : Turn) → t.asked.token ≡ None → (us : List Turn) → All (Others t) us
quiet t none us = λ k d small token own. absurd (let e : None ≡ Some token = sym none ∙ own in cc)

alone_hands_in : All (Others (turn_with locker)) later
alone_hands_in =
    All-cons (Others (turn_with locker)) (turn_with stranger_below) own_turn (λ token own same. cc)
    (All-cons (Others (turn_with locker)) (turn_with holder_below) [] (λ token own same. cc) (All-nil (Others (turn_with locker))))

tokens_differ : TokensDiffer turns
tokens_differ =
    AllPairs-cons Others (turn_with stranger) (turn_with locker ∷ later) (quiet (turn_with stranger) refl (turn_with locker ∷ later))
    (AllPairs-cons Others (turn_with locker) later alone_hands_in
    (AllPairs-cons Others (turn_with stranger_below) own_turn (quiet (turn_with stranger_below) refl own_turn)
    (AllPairs-cons Others (turn_with holder_below) [] (quiet (turn_with holder_below) refl []) (λ i j d less small. absurd (omega (arith, small))))))

-- From the grant on the holder is answered as if alone, and the folder is the same.
pub from_the_grant : MatchesSoloRun settings granted_lock later own_turn (holding after) one given (holding filled)
from_the_grant =
    is_isolated_from_grants begins turns replies all_showable all_loaded (turn_with stranger ∷ []) later [] own_turn (turn_with locker) granted_lock (holding after) (holding after) (holding filled)
    [] (granted_lock ∷ []) one (made at_a ∷ []) given [] lock_reply refl refl tokens_differ (empty_is_world 1 (omega arith) (omega arith)) refl
    (one_more (steps (plan_with no_conditions) (Ok (made at_a)) stranger_means makes_first) no_more)
    (steps locking (Ok lock_reply) locker_means grants) (record { exclusive = refl; deep = refl }) (record { token_is = refl; listed = refl }) refl under refl among
