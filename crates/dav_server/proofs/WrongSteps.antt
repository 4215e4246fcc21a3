-- Steps that aren't the machine's: plans that do what a promise of a run rules out, and that the promise is false of what they leave.
use Rattle.std.proofs.Common.{◌≡◌, ◌≢◌, ◌++◌, ◌<◌, ◌≤◌, ℕ, true, false, true≢false, not, List, [], ◌∷◌, length, get_or, codes, append-nil, length-append, Some, None, Result, Ok, Err, inl, inr, refl, sym, ap, subst, ◌∙◌, arith}
use Rattle.std.proofs.lemmas.List.Elements.{All-nil, All-cons}
use Rattle.std.proofs.lemmas.List.Sums.{AllPass-from_list_all}
use Rattle.std.specs.Option.{is_some, unwrap_or}
use Rattle.std.specs.Result.{result_ok}
use Rattle.http_header.specs.HeaderMap.{get_all}
use Rattle.http_header.specs.Token.{is_visible_or_blank}
use Rattle.httparse.specs.Grammar.{Field, IsField, RequestHead, IsRequestHead, crlf, is_token_byte, is_value_byte, print_request, trim_ows}
use Rattle.dav_core.specs.declared.errors.FsError.TheVariants.{Forbidden}
use Rattle.dav_core.specs.declared.errors.DavError.{DavError}
use Rattle.dav_core.specs.declared.errors.DavError.TheVariants as dav
use Rattle.dav_core.specs.declared.method.DavMethod.TheVariants.{Get, Put, MkCol, Delete}
use Rattle.dav_core.specs.Asking.{meaning, StoreState, Asks, Answered, asked, Metadata, CreateDir, Open}
use Rattle.dav_core.specs.Calls.{emptied}
use Rattle.dav_core.specs.Handle.{Opening, opened}
use Rattle.dav_core.specs.LockLaws.{CoveringAreShared}
use Rattle.dav_core.specs.Locks.{Lock, covers, requester_of}
use Rattle.dav_core.specs.Metadata.{no_opening}
use Rattle.dav_core.specs.Path.{Path}
use Rattle.dav_core.specs.World.{World, Node, File, with_new, adjust}
use Rattle.dav_headers.specs.ETagList.{IsTagList, star}
use Rattle.dav_engine.specs.declared.reply.ReplyBody.TheVariants as reply
use Rattle.dav_engine.specs.declared.request.Body.TheVariants as body
use Rattle.dav_engine.specs.Alongside.{Alongside, side_ok, side_look, SameAnswers}
use Rattle.dav_engine.specs.IsolatedPlans.{IsIsolatedPlan}
use Rattle.dav_engine.specs.AnswerParts.{AnswerParts, answers_of}
use Rattle.dav_engine.specs.Ending.{KeepsLock, keeps_look, keeps_list}
use Rattle.dav_engine.specs.Guard.{Stands, Guarded, listed_here, listed_later, guards_here, no_others, another, IsElsewhere}
use Rattle.dav_engine.specs.Method.{MethodPlan, ◌>>=◌, answer_of, ask_or, ask_for, drop_locks, fails, gives, look, require, require_free}
use Rattle.dav_engine.specs.Mkcol.{create_error, made}
use Rattle.dav_engine.specs.Plan.{Keep, Locks, Ran, ran_done, ran_ask, ran_look, ran_keep}
use Rattle.dav_engine.specs.Reply.{Reply, error_reply, reply_to}
use Rattle.dav_engine.specs.Unlock.{unlocked_reply}
use Rattle.dav_engine.specs.WorldLaws.{IsReading, reads_ask}
use Rattle.dav_server.specs.Head.{Request, IsHead, request_of_head}
use Rattle.dav_server.specs.Headers.{headers_of}
use Rattle.dav_server.specs.Machine.{Exchange, Means, no_head, no_method, known, Steps, steps}
use Rattle.dav_server.specs.Promises.{OneStep, Promise, reading, created, refused, unmodified, updated, passed, kept, shared, tags, hrefs, members, Keeps}
use Rattle.dav_server.specs.TagLaws.{HasMethod, Shows}
use Rattle.dav_server.specs.WriteLaws.{IsCreateOnly}
use Rattle.dav_server.proofs.NeededForHeadline.{state}
use Rattle.dav_server.proofs.OneStep.{same_list, none_on, KeepsAll, BreaksOnly, same_world, stand, some_list, as_shared, none_passed, unsafe, no_creation, answered, no_304, no_hrefs, no_update, first_step, untold, no_tag}
use Rattle.dav_server.proofs.WorkedGrant.{none}
use Rattle.dav_server.proofs.WorkedRun.{a, slash_a, at_a, lock, head_of, head_with_method, head_with, text_a, target_at_a, stranger, stranger_head, holder, holder_request, own_head, unnamed_by, turn_with, settings, before, after, holding, one_lock, makes_a}

-- ---- locks end without being asked

-- a DELETE that drops the locks of its path, whoever holds them
abbrev pub drops_unasked : MethodPlan Reply
drops_unasked = do
  _ ← drop_locks (a ∷ [])
  gives (unlocked_reply [])

not_kept : (r : Reply) → ¬ KeepsLock lock (Keep [] (gives r))
not_kept r (keeps_list is more) = elim is [ ]

pub dropped_lock_is_not_kept : ¬ KeepsLock lock drops_unasked
dropped_lock_is_not_kept (keeps_look next) = not_kept (unlocked_reply []) (next (lock ∷ []) (listed_here refl))

-- DELETE /a
abbrev pub remover : Exchange
remover = record { head = print_request (head_of (codes "DELETE") slash_a []); body = body.None; principal = None; moment = 1; token = None }

remove_short : length remover.head ≤ 65536
unfolding print_request
remove_short = omega arith

abbrev pub remove_request : Request
remove_request = request_of_head (head_of (codes "DELETE") slash_a [])

pub remove_head : IsHead remover.head remove_request
unfolding is_token_byte
remove_head = (remove_short, head_of (codes "DELETE") slash_a [], (head_with_method (codes "DELETE") slash_a [] (omega arith) refl (omega arith) refl text_a (All-nil IsField), sym (append-nil _)), omega arith, refl)

-- the lock stands before it and not after it, and its request doesn't name the token
abbrev pub dropping : OneStep
dropping = first_step remover (unlocked_reply []) (state (holding before) one_lock) (state (holding before) (Some []))

gone : ¬ Stands lock (Some [])
gone is = elim is [ ]

no_locks_shared : CoveringAreShared []
no_locks_shared i j d less small = absurd (omega (arith, less, small))

all_but_kept : (d : Promise) → d ≢ kept → Keeps d dropping
all_but_kept reading other = unsafe dropping remove_request Delete remove_head (tt, refl) refl
all_but_kept created other = no_creation dropping remove_request Delete remove_head (tt, refl) (λ e. cc) (λ e. cc)
all_but_kept refused other = answered dropping (λ e. omega (arith, e)) (λ e. omega (arith, e)) (λ e. omega (arith, e))
all_but_kept unmodified other = no_304 dropping (λ e. omega (arith, e))
all_but_kept updated other = untold remover (unlocked_reply []) dropping.was dropping.now
all_but_kept passed other = λ h alone is unnamed. same_world h before
all_but_kept kept other = absurd (other refl)
all_but_kept shared other = λ ls ms were are shares. subst CoveringAreShared (some_list are) no_locks_shared
all_but_kept tags other = no_tag remover (unlocked_reply []) dropping.was dropping.now (λ e. omega (arith, e))
all_but_kept hrefs other = no_hrefs dropping refl
all_but_kept members other = same_list dropping refl

pub dropped_lock_is_gone : Ran Asks drops_unasked (holding before) one_lock (Ok (unlocked_reply [])) (holding before) (Some []) × BreaksOnly kept dropping
dropped_lock_is_gone = (
  ran_look (ran_keep ran_done),
  record { broken = λ keeps. gone (keeps lock (listed_here refl) (unnamed_by remover remove_request remove_head refl) (λ e. cc)); others = all_but_kept },
)

-- ---- a request that reads writes

abbrev pub getter : Exchange
getter = record { head = print_request (head_of (codes "GET") slash_a []); body = body.None; principal = None; moment = 1; token = None }

get_short : length getter.head ≤ 65536
unfolding print_request
get_short = omega arith

get_head : IsHead getter.head (request_of_head (head_of (codes "GET") slash_a []))
unfolding is_token_byte
get_head = (get_short, head_of (codes "GET") slash_a [], (head_with_method (codes "GET") slash_a [] (omega arith) refl (omega arith) refl text_a (All-nil IsField), sym (append-nil _)), omega arith, refl)

pub is_get : HasMethod Get getter
is_get = (request_of_head (head_of (codes "GET") slash_a []), get_head, (tt, refl))

-- a GET that makes what it doesn't find
abbrev pub gets_by_making : MethodPlan Reply
gets_by_making = do
  _ ← ask_or create_error (CreateDir (a ∷ []) 1)
  gives (made at_a)

pub making_is_no_reading : ¬ IsReading gets_by_making
making_is_no_reading (reads_ask only more) = only

other_world : after ≡ before → ⊥
other_world same = let e : ◌≡◌ {A = ℕ} 2 1 = ap (λ (w : World). w.next) same in omega (arith, e)

abbrev pub making : OneStep
making = first_step getter (made at_a) (state (holding before) none) (state (holding after) none)

abbrev pub get_request : Request
get_request = request_of_head (head_of (codes "GET") slash_a [])

all_but_reading : (d : Promise) → d ≢ reading → Keeps d making
all_but_reading reading other = absurd (other refl)
all_but_reading created other = no_creation making get_request Get get_head (tt, refl) (λ e. cc) (λ e. cc)
all_but_reading refused other = answered making (λ e. omega (arith, e)) (λ e. omega (arith, e)) (λ e. omega (arith, e))
all_but_reading unmodified other = no_304 making (λ e. omega (arith, e))
all_but_reading updated other = untold getter (made at_a) making.was making.now
all_but_reading passed other = none_passed making refl
all_but_reading kept other = stand making refl
all_but_reading shared other = as_shared making refl
all_but_reading tags other = no_tag getter (made at_a) making.was making.now (λ e. omega (arith, e))
all_but_reading hrefs other = no_hrefs making refl
all_but_reading members other = none_on making refl

pub get_that_makes_leaves_another_world : Ran Asks gets_by_making (holding before) none (Ok (made at_a)) (holding after) none × BreaksOnly reading making
get_that_makes_leaves_another_world = (
  ran_ask {c = CreateDir (a ∷ []) 1} {answer = Ok tt} (asked makes_a) ran_done,
  record { broken = λ leaves. other_world (leaves (Get, is_get, refl)).0; others = all_but_reading },
)

-- ---- a refusal after a write

-- a shared lock on the path
abbrev pub shared_lock : Lock
shared_lock = record lock { shared = true }

abbrev pub one_shared : Locks
one_shared = Some (shared_lock ∷ [])

none_exclusive : (h : Lock) → h.shared ≡ false → ¬ Stands h one_shared
none_exclusive h alone (listed_here same) = true≢false (ap (λ (l : Lock). l.shared) same ∙ alone)
none_exclusive h alone (listed_later out) = elim out [ ]

-- a MKCOL that looks at the locks once its folder is made
abbrev pub refuses_late : MethodPlan Reply
refuses_late = do
  _ ← ask_or create_error (CreateDir (a ∷ []) 1)
  _ ← require_free false (requester_of [] false None) (a ∷ []) (dav.Status 423)
  gives (made at_a)

abbrev pub late : OneStep
late = first_step stranger (error_reply (dav.Status 423)) (state (holding before) one_shared) (state (holding after) one_shared)

abbrev pub stranger_request : Request
stranger_request = request_of_head (head_with [])

all_but_refused : (d : Promise) → d ≢ refused → Keeps d late
all_but_refused reading other = unsafe late stranger_request MkCol stranger_head (tt, refl) refl
all_but_refused created other = no_creation late stranger_request MkCol stranger_head (tt, refl) (λ e. cc) (λ e. cc)
all_but_refused refused other = absurd (other refl)
all_but_refused unmodified other = no_304 late (λ e. omega (arith, e))
all_but_refused updated other = untold stranger (error_reply (dav.Status 423)) late.was late.now
all_but_refused passed other = λ h alone is unnamed. absurd (none_exclusive h alone is)
all_but_refused kept other = stand late refl
all_but_refused shared other = as_shared late refl
all_but_refused tags other = no_tag stranger (error_reply (dav.Status 423)) late.was late.now (λ e. omega (arith, e))
all_but_refused hrefs other = no_hrefs late refl
all_but_refused members other = λ h alone is unnamed folder. absurd (none_exclusive h alone is)

pub late_refusal_leaves_a_change : Ran Asks refuses_late (holding before) one_shared (Err (dav.Status 423)) (holding after) one_shared × BreaksOnly refused late
late_refusal_leaves_a_change = (
  ran_ask {c = CreateDir (a ∷ []) 1} {answer = Ok tt} (asked makes_a) (ran_look ran_done),
  record {
    broken = λ leaves. other_world (leaves.world (inr refl));
    others = all_but_refused;
  },
)

-- ---- a file that was to be created is overwritten

abbrev pub star_field : Field
star_field = record { name = codes "If-None-Match"; raw = codes "*"; end = crlf }

-- PUT /a with If-None-Match `*`
abbrev pub creator : Exchange
creator = record { head = print_request (head_of (codes "PUT") slash_a (star_field ∷ [])); body = body.None; principal = None; moment = 1; token = None }

is_star_field : IsField star_field
unfolding is_token_byte
is_star_field = record { name = (omega arith, AllPass-from_list_all is_token_byte (codes "If-None-Match") refl); raw = AllPass-from_list_all is_value_byte (codes "*") refl }

put_short : length creator.head ≤ 65536
unfolding print_request
put_short = omega arith

abbrev pub star_fields : List (List ℕ × List ℕ)
star_fields = (codes "If-None-Match", codes "*") ∷ []

fields_are : (request_of_head (head_of (codes "PUT") slash_a (star_field ∷ []))).fields ≡ star_fields
unfolding trim_ows
fields_are = refl

abbrev pub put_request : Request
put_request = record { method = codes "PUT"; target = slash_a; fields = star_fields }

put_head : IsHead creator.head put_request
unfolding is_token_byte
put_head =
    subst (IsHead creator.head) (ap (λ f. record { method = codes "PUT"; target = slash_a; fields = f }) fields_are)
    (put_short, head_of (codes "PUT") slash_a (star_field ∷ []), (head_with_method (codes "PUT") slash_a (star_field ∷ []) (omega arith) refl (omega arith) refl text_a (All-cons IsField star_field [] is_star_field (All-nil IsField)), sym (append-nil _)), omega arith, refl)

says_star : IsTagList (get_all (headers_of star_fields) (codes "if-none-match")) star
says_star = (omega arith, (AllPass-from_list_all is_visible_or_blank (codes "*") refl, inl refl))

only_creates : IsCreateOnly settings creator at_a
only_creates = (put_request, Put, put_head, (tt, refl), inl refl, target_at_a Put, says_star)

-- a file of one byte, and the same emptied
abbrev pub one_byte : Node
one_byte = record { made = 1; number = 1; kind = File (49 ∷ []); properties = []; created = 1; modified = 1 }

abbrev pub filled : World
filled = with_new before (a ∷ []) (File (49 ∷ [])) [] 1

abbrev pub drained : World
drained = record { nodes = adjust (a ∷ []) (emptied 2 1) filled.nodes; next = 3 }

-- the store refuses its next call
abbrev pub refusing_once : StoreState
refusing_once = record { world = filled; refusals = Some Forbidden ∷ []; short = false }

abbrev pub emptying : Opening
emptying = record no_opening { write = true; truncate = true; create = true }

-- a PUT that takes a refused look for a path where nothing is
abbrev pub puts_blindly : MethodPlan Reply
puts_blindly = do
  found ← answer_of (Metadata (a ∷ []))
  _ ← require (not (is_some (result_ok found))) (dav.Status 412)
  _ ← ask_for (Open (a ∷ []) emptying 1)
  gives (unlocked_reply [])

looks_in_vain : Answered (Metadata (a ∷ [])) refusing_once (Err Forbidden) (holding filled)
looks_in_vain = record { as_asked = refl; refusals = refl; short = refl }

empties : Answered (Open (a ∷ []) emptying 1) (holding filled) (Ok (opened 1 emptying)) (holding drained)
unfolding meaning
empties = record { as_asked = refl; refusals = refl; short = refl }

other_number : drained ≡ filled → ⊥
other_number same = let e : ◌≡◌ {A = ℕ} 3 2 = ap (λ (w : World). w.next) same in omega (arith, e)

abbrev pub blind : OneStep
blind = first_step creator (unlocked_reply []) (state refusing_once none) (state (holding drained) none)

all_but_created : (d : Promise) → d ≢ created → Keeps d blind
all_but_created reading other = unsafe blind put_request Put put_head (tt, refl) refl
all_but_created created other = absurd (other refl)
all_but_created refused other = answered blind (λ e. omega (arith, e)) (λ e. omega (arith, e)) (λ e. omega (arith, e))
all_but_created unmodified other = no_304 blind (λ e. omega (arith, e))
all_but_created updated other = untold creator (unlocked_reply []) blind.was blind.now
all_but_created passed other = none_passed blind refl
all_but_created kept other = stand blind refl
all_but_created shared other = as_shared blind refl
all_but_created tags other = no_tag creator (unlocked_reply []) blind.was blind.now (λ e. omega (arith, e))
all_but_created hrefs other = no_hrefs blind refl
all_but_created members other = none_on blind refl

pub blind_put_overwrites : Ran Asks puts_blindly refusing_once none (Ok (unlocked_reply [])) (holding drained) none × BreaksOnly created blind
blind_put_overwrites = (
  ran_ask {c = Metadata (a ∷ [])} {answer = Err Forbidden} (asked looks_in_vain) (ran_ask {c = Open (a ∷ []) emptying 1} {answer = Ok (opened 1 emptying)} (asked empties) ran_done),
  record { broken = λ leaves. other_number (leaves at_a one_byte only_creates refl).0.0; others = all_but_created },
)

-- ---- one tag for all bytes

abbrev pub one_tag : List ℕ
one_tag = 34 ∷ 49 ∷ 34 ∷ []

abbrev pub tagged : List ℕ → Reply
tagged bytes = record { status = 200; headers = (codes "etag", one_tag) ∷ []; body = reply.Bytes bytes }

pub shows : (bytes : List ℕ) → Shows one_tag bytes (tagged bytes)
shows bytes = record { status = refl; tag_is = (0, omega arith, refl); bytes_are = refl }

-- two GETs that are answered so, with different bytes, and leave what is there
module _ (bytes others : List ℕ) (differ : bytes ≢ others) where
  abbrev pub again : OneStep
  again = record {
    settings = settings;
    front = turn_with getter ∷ [];
    turn = turn_with getter;
    back = [];
    before = tagged bytes ∷ [];
    reply = tagged others;
    after = [];
    was = state (holding filled) none;
    now = state (holding filled) none;
  }

  all_but_tags : (d : Promise) → d ≢ tags → Keeps d again
  all_but_tags reading other = λ safe. (refl, refl)
  all_but_tags created other = no_creation again get_request Get get_head (tt, refl) (λ e. cc) (λ e. cc)
  all_but_tags refused other = answered again (λ e. omega (arith, e)) (λ e. omega (arith, e)) (λ e. omega (arith, e))
  all_but_tags unmodified other = no_304 again (λ e. omega (arith, e))
  all_but_tags updated other = no_update again get_request Get get_head (tt, refl) refl
  all_but_tags passed other = none_passed again refl
  all_but_tags kept other = stand again refl
  all_but_tags shared other = as_shared again refl
  all_but_tags tags other = absurd (other refl)
  all_but_tags hrefs other = no_hrefs again refl
  all_but_tags members other = none_on again refl

  pub one_tag_tells_nothing : BreaksOnly tags again
  one_tag_tells_nothing = record {
    broken = λ tells.
        differ (tells one_tag bytes others
        (turn_with getter, tagged bytes, (0, omega arith, refl), is_get, shows bytes)
        (turn_with getter, tagged others, (1, omega arith, refl), is_get, shows others));
    others = all_but_tags;
  }

-- ---- a reply that isn't the machine's

-- a request whose head is empty, and a plan that answers it with success
abbrev pub silent : Exchange
silent = record { head = []; body = body.None; principal = None; moment = 1; token = None }

abbrev pub answers_nothing : MethodPlan Reply
answers_nothing = gives (unlocked_reply [])

no_request : (h : RequestHead) (rest : List ℕ) → IsRequestHead h → [] ≡ print_request h ++ rest → ⊥
unfolding print_request
no_request h rest is e =
    let some : 0 < length h.method = is.method.0 in
    let sizes : ◌≡◌ {A = ℕ} 0 (length (print_request h ++ rest)) = ap length e in
    omega (arith, length-append {A = ℕ}, some, sizes)

pub no_head_of_none : (r : Request) → ¬ IsHead [] r
no_head_of_none r (short, h, (is, reads), few, same) = no_request h [] is reads

-- the machine answers 400
refuses_it : {plan : MethodPlan Reply} → Means settings silent plan → plan ≡ fails (dav.Status 400)
refuses_it (no_head unread) = refl
refuses_it (no_method r e head unserved) = absurd (no_head_of_none r head)
refuses_it (known r m head served means) = absurd (no_head_of_none r head)

ends_so : {plan : MethodPlan Reply} {old new : StoreState} {ls ms : Locks} {outcome : Result Reply DavError} → Ran Asks plan old ls outcome new ms → plan ≡ fails (dav.Status 400) → outcome ≡ Err (dav.Status 400)
ends_so ran_done is = cc
ends_so (ran_ask step ran) is = cc
ends_so (ran_look ran) is = cc
ends_so (ran_keep ran) is = cc

is_refused : (old new : StoreState) (ls ms : Locks) (reply : Reply) → Steps settings silent old ls reply new ms → reply.status ≡ 400
is_refused old new ls ms reply (steps plan outcome means ran) = ap (λ (o : Result Reply DavError). (reply_to o).status) (ends_so ran (refuses_it means))

abbrev pub unheard : OneStep
unheard = first_step silent (unlocked_reply []) (state (holding before) one_lock) (state (holding before) one_lock)

never_safe : Keeps reading unheard
never_safe (m, (r, head, served), safe) = absurd (no_head_of_none r head)

never_created : Keeps created unheard
never_created p n (r, m, head, served, writes, named, says) there = absurd (no_head_of_none r head)

all_kept : KeepsAll unheard
all_kept reading = never_safe
all_kept created = never_created
all_kept refused = answered unheard (λ e. omega (arith, e)) (λ e. omega (arith, e)) (λ e. omega (arith, e))
all_kept unmodified = no_304 unheard (λ e. omega (arith, e))
all_kept updated = untold silent (unlocked_reply []) unheard.was unheard.now
all_kept passed = λ h alone is unnamed. same_world h before
all_kept kept = stand unheard refl
all_kept shared = as_shared unheard refl
all_kept tags = no_tag silent (unlocked_reply []) unheard.was unheard.now (λ e. omega (arith, e))
all_kept hrefs = no_hrefs unheard refl
all_kept members = same_list unheard refl

pub silence_has_another_reply :
    Ran Asks answers_nothing (holding before) one_lock (Ok (unlocked_reply [])) (holding before) one_lock
    × ¬ Steps settings silent (holding before) one_lock (unlocked_reply []) (holding before) one_lock
    × KeepsAll unheard
silence_has_another_reply = (
  ran_done,
  λ is. let e : ◌≡◌ {A = ℕ} 204 400 = is_refused (holding before) (holding before) one_lock one_lock (unlocked_reply []) is in omega (arith, e),
  all_kept,
)

-- ---- an answer to the holder that tells of others

-- a reply with the number of the locks, wherever they are
abbrev pub counted : Locks → Reply
counted ls = record { status = 405; headers = []; body = reply.Bytes (length (unwrap_or ls []) ∷ []) }

abbrev pub counts_locks : MethodPlan Reply
counts_locks = do
  ls ← look
  gives (counted ls)

-- with a lock elsewhere the list guards the folder as before
abbrev pub elsewhere : Lock
elsewhere = record lock { token = 117 ∷ []; path = record { prefix = []; bytes = 47 ∷ 98 ∷ [] } }

not_at_b : (rest : Path) → covers elsewhere ((a ∷ []) ++ rest) ≡ false
not_at_b rest = refl

is_elsewhere : IsElsewhere lock elsewhere
is_elsewhere = record { token = λ same. let e : ◌≡◌ {A = ℕ} 117 116 = ap (λ (t : List ℕ). get_or t 0 0) same in omega (arith, e); apart = not_at_b }

abbrev pub with_other : Locks
with_other = Some (lock ∷ elsewhere ∷ [])

differ : ¬ Alongside lock true (λ file. SameAnswers) None (gives (counted one_lock)) (gives (counted with_other))
differ (side_ok same) = let e : ◌≡◌ {A = ℕ} 1 2 = ap (λ (a : AnswerParts). get_or (unwrap_or a.bytes []) 0 0) same in omega (arith, e)

counts_apart : ¬ IsIsolatedPlan lock counts_locks
counts_apart (side_look next) = differ (next (lock ∷ []) (lock ∷ elsewhere ∷ []) (guards_here refl no_others) (guards_here refl (another is_elsewhere no_others)))

-- a step of the holder that is answered so, and changes nothing
abbrev pub counting : Locks → OneStep
counting ls = first_step holder (counted ls) (state (holding before) ls) (state (holding before) ls)

nothing_else : (ls : Locks) → KeepsAll (counting ls)
nothing_else ls reading = λ safe. (refl, refl)
nothing_else ls created = no_creation (counting ls) holder_request MkCol own_head (tt, refl) (λ e. cc) (λ e. cc)
nothing_else ls refused = answered (counting ls) (λ e. omega (arith, e)) (λ e. omega (arith, e)) (λ e. omega (arith, e))
nothing_else ls unmodified = no_304 (counting ls) (λ e. omega (arith, e))
nothing_else ls updated = untold holder (counted ls) (counting ls).was (counting ls).now
nothing_else ls passed = λ h alone is unnamed. same_world h before
nothing_else ls kept = stand (counting ls) refl
nothing_else ls shared = as_shared (counting ls) refl
nothing_else ls tags = no_tag holder (counted ls) (counting ls).was (counting ls).now (λ e. omega (arith, e))
nothing_else ls hrefs = no_hrefs (counting ls) refl
nothing_else ls members = same_list (counting ls) refl

-- The holder is answered otherwise where another client has a lock at another path: only isolation is broken.
pub counted_locks_tell_of_others :
    Ran Asks counts_locks (holding before) one_lock (Ok (counted one_lock)) (holding before) one_lock
    × Ran Asks counts_locks (holding before) with_other (Ok (counted with_other)) (holding before) with_other
    × Guarded lock one_lock × Guarded lock with_other × (counted one_lock ≢ counted with_other) × ¬ IsIsolatedPlan lock counts_locks
    × KeepsAll (counting one_lock) × KeepsAll (counting with_other)
counted_locks_tell_of_others = (
  ran_look ran_done,
  ran_look ran_done,
  guards_here refl no_others,
  guards_here refl (another is_elsewhere no_others),
  (λ same. let e : ◌≡◌ {A = ℕ} 1 2 = ap (λ (r : Reply). get_or (unwrap_or (answers_of r).bytes []) 0 0) same in omega (arith, e)),
  counts_apart,
  nothing_else one_lock,
  nothing_else with_other,
)
