-- That a server begins without locks is needed: a run of one that begins with a lock, which a request ends without naming its token.
use Rattle.std.proofs.Common.{◌≤◌, true≢false, [], ◌∷◌, length, codes, append-nil, Some, None, Err, refl, sym, ap, arith}
use Rattle.std.proofs.lemmas.List.Elements.{All-nil}
use Rattle.std.proofs.lemmas.List.Kept.{AllPairs-cons}
use Rattle.httparse.specs.Grammar.{IsField, is_token_byte, print_request}
use Rattle.dav_core.specs.declared.errors.FsError.TheVariants.{NotFound, Forbidden}
use Rattle.dav_core.specs.declared.errors.DavError.TheVariants as dav
use Rattle.dav_core.specs.declared.method.DavMethod.TheVariants.{Lock as LockMethod}
use Rattle.dav_core.specs.Asking.{Asks, Answered, asked, Metadata, Open}
use Rattle.dav_core.specs.Locks.{Lock}
use Rattle.dav_engine.specs.declared.request.Body.TheVariants as body
use Rattle.dav_engine.specs.Guard.{Stands, listed_here, listed_later}
use Rattle.dav_engine.specs.Lock.{empty_opening, is_lock, lock as lock_plan}
use Rattle.dav_engine.specs.LockHeaders.{AreLockHeaders}
use Rattle.dav_engine.specs.Method.{MethodPlan}
use Rattle.dav_engine.specs.Plan.{Locks, Ran, ran_done, ran_ask, ran_look, ran_keep}
use Rattle.dav_engine.specs.Reply.{Reply, error_reply}
use Rattle.dav_server.specs.EachRequest.{RunStep}
use Rattle.dav_server.specs.Head.{IsHead, request_of_head}
use Rattle.dav_server.specs.Headers.{headers_of}
use Rattle.dav_server.specs.Isolation.{TokensDiffer}
use Rattle.dav_server.specs.Machine.{Exchange, caller, Means, known, method, locks, steps}
use Rattle.dav_server.specs.Naming.{NamesToken}
use Rattle.dav_server.specs.Run.{Turn, no_more}
use Rattle.dav_server.specs.Server.{Server}
use Rattle.dav_server.proofs.NeededForHeadline.{state}
use Rattle.dav_server.proofs.NeededPremises.{shallow, shallow_alone, refusing, two_refusals, asks_first}
use Rattle.dav_server.proofs.WorkedGrant.{info, lock_headers, no_depth, no_timeout, Others}
use Rattle.dav_server.proofs.WorkedRun.{token, below, slash_below, at_below, lock, head_of, head_with_method, text_below, target_below, settings, no_conditions, stranger_says, after, holding, unnamed_by}

-- ---- LOCK /a/b with a body, of infinite depth, by a client that isn't known, and with a token

abbrev pub taker : Exchange
taker = record { head = print_request (head_of (codes "LOCK") slash_below []); body = body.Tree info; principal = None; moment = 1; token = Some token }

short : length taker.head ≤ 65536
unfolding print_request
short = omega arith

pub taker_head : IsHead taker.head (request_of_head (head_of (codes "LOCK") slash_below []))
unfolding is_token_byte
taker_head = (short, head_of (codes "LOCK") slash_below [], (head_with_method (codes "LOCK") slash_below [] (omega arith) refl (omega arith) refl text_below (All-nil IsField), sym (append-nil _)), omega arith, refl)

abbrev pub taker_plan : MethodPlan Reply
taker_plan = lock_plan lock_headers at_below (body.Tree info) (caller taker)

taker_says : AreLockHeaders (headers_of []) at_below lock_headers
taker_says = record { conditions = stranger_says below; depth = no_depth; timeout = no_timeout }

pub taker_means : Means settings taker taker_plan
taker_means = known (request_of_head (head_of (codes "LOCK") slash_below [])) LockMethod taker_head (tt, refl) (method at_below (body.Tree info) refl (target_below LockMethod) refl (locks (is_lock lock_headers taker_says)))

-- ---- the run

-- a server whose store has the folder /a, and with a lock of Depth 0 on the root
abbrev pub begins_locked : Server
begins_locked = record { settings = settings; state = state (holding after) shallow_alone }

-- the LOCK, with the token of that lock, where the store refuses to make a file
abbrev pub taking : Turn
taking = record { asked = taker; refusals = Some two_refusals }

opens_nothing : Answered (Open below (empty_opening no_conditions) 1) (refusing (Some Forbidden ∷ [])) (Err Forbidden) (holding after)
opens_nothing = record { as_asked = refl; refusals = refl; short = refl }

-- the lock on /a/b
abbrev pub taken_lock : Lock
taken_lock = record lock { path = at_below }

abbrev pub one_taken : Locks
one_taken = Some (taken_lock ∷ [])

-- the lock that was granted stays, and the one with which the server began is taken back in its place
pub takes_back : Ran Asks taker_plan (refusing two_refusals) shallow_alone (Err (dav.FsError Forbidden)) (holding after) one_taken
takes_back =
    ran_look (ran_ask {c = Metadata below} {answer = Err NotFound} (asked asks_first)
    (ran_look (ran_look (ran_keep (ran_ask {c = Open below (empty_opening no_conditions) 1} {answer = Err Forbidden} (asked opens_nothing) (ran_look (ran_keep ran_done)))))))

abbrev pub taken_reply : Reply
taken_reply = error_reply (dav.FsError Forbidden)

abbrev pub takes_step : RunStep begins_locked (taking ∷ []) (taken_reply ∷ [])
takes_step = record {
  front = [];
  turn = taking;
  back = [];
  before = [];
  reply = taken_reply;
  after = [];
  was = state (holding after) shallow_alone;
  now = state (holding after) one_taken;
  turns_are = refl;
  replies_are = refl;
  earlier = no_more;
  stepped = steps taker_plan (Err (dav.FsError Forbidden)) taker_means takes_back;
}

taken : ¬ Stands shallow one_taken
taken (listed_here same) = true≢false (ap (λ (l : Lock). l.deep) same)
taken (listed_later is) = elim is [ ]

one_differs : TokensDiffer (taking ∷ [])
one_differs = AllPairs-cons Others taking [] (λ k d small token own. absurd (omega (arith, small))) (λ i j d less small. absurd (omega (arith, small)))

-- A LOCK that hands in the token of a lock that was there from the beginning ends it, without naming its token.
pub no_locks_at_first_are_needed :
    (u : RunStep begins_locked (taking ∷ []) (taken_reply ∷ [])) × TokensDiffer (taking ∷ [])
    × Stands shallow u.was.locks × ¬ NamesToken u.turn.asked shallow.token × ¬ Stands shallow u.now.locks
no_locks_at_first_are_needed = (takes_step, one_differs, listed_here refl, unnamed_by taker (request_of_head (head_of (codes "LOCK") slash_below [])) taker_head refl, taken)
