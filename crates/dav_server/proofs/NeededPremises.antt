-- Premises of isolation that are needed: runs like the worked one that break one of them, and of which it isn't true.
use Rattle.std.proofs.Common.{◌≡◌, ◌≢◌, ◌≤◌, ℕ, true, false, List, [], ◌∷◌, length, codes, append-nil, Option, Some, None, Ok, Err, refl, sym, ap, subst, ◌∙◌, arith}
use Rattle.std.proofs.lemmas.List.Elements.{All-nil}
use Rattle.std.specs.Str.{IsUtf8}
use Rattle.percent_encoding.specs.Percent.{percent_decode}
use Rattle.httparse.specs.Grammar.{IsField, print_request}
use Rattle.dav_core.specs.declared.errors.FsError.{FsError}
use Rattle.dav_core.specs.declared.errors.FsError.TheVariants.{NotFound, Exists, GeneralFailure, InsufficientStorage, Forbidden}
use Rattle.dav_core.specs.declared.errors.DavError.TheVariants as dav
use Rattle.dav_core.specs.declared.fs.DavMetaData.{DavMetaData}
use Rattle.dav_core.specs.declared.method.DavMethod.TheVariants.{MkCol}
use Rattle.dav_core.specs.Asking.{meaning, StoreState, Asks, Answered, RanShort, asked, ran_short, Metadata, CreateDir}
use Rattle.dav_core.specs.Locks.{Lock}
use Rattle.dav_core.specs.Path.{PathText}
use Rattle.dav_core.specs.World.{World, Folder, with_new, empty_from}
use Rattle.dav_headers.specs.IfLaws.{asks_for}
use Rattle.dav_engine.specs.declared.request.Body.TheVariants as body
use Rattle.dav_engine.specs.Alongside.{AsksWithNumbers, SameAnswers}
use Rattle.dav_engine.specs.AnswerParts.{AnswerParts}
use Rattle.dav_engine.specs.Guard.{Guarded, guards_here, no_others, listed_here}
use Rattle.dav_engine.specs.Conditions.{Conditions}
use Rattle.dav_engine.specs.Inside.{inside}
use Rattle.dav_engine.specs.Method.{MethodPlan}
use Rattle.dav_engine.specs.Mkcol.{create_error, made, mkcol, is_mkcol}
use Rattle.dav_engine.specs.Plan.{Locks, Ran, ran_done, ran_ask, ran_look}
use Rattle.dav_engine.specs.Reply.{Reply, error_reply, reply_to}
use Rattle.dav_engine.proofs.Theorems.{ran_plain}
use Rattle.dav_server.specs.Head.{Request, IsHead, request_of_head}
use Rattle.dav_server.specs.Target.{TargetNames}
use Rattle.dav_server.specs.Isolation.{RunsUnder, under_none, under_more, HolderTurns, alone_none, alone_other, alone_own, AnswerAlike, alike_other, alike_own, MatchesSoloRun}
use Rattle.dav_server.specs.Machine.{Exchange, caller, Means, known, method, makes, steps}
use Rattle.dav_server.specs.Naming.{NamesLock, by_if}
use Rattle.dav_server.specs.Run.{Turn, RunsBy, Runs, no_more, one_more}
use Rattle.dav_server.proofs.MeansLemmas.{runs_are_determined}
use Rattle.dav_server.proofs.WorkedRun.{a, b, below, at_below, token, lock, stranger, stranger_below, holder_below, turn_with, settings, plan_below, no_conditions, own_conditions, below_means, holder_below_means, before, after, filled, holding, one_lock, missing_below, makes_below, number_below, listed, below_ran, below_unnamed, other_below_names, own_below_names, is_holder, own_turn, head_to, request_to, request_head, one_field, if_field, letter_target, own_fields, own_if, holder_fields, stranger_says, holder_says, unnamed_by}

-- the holder's turns have one run with memory enough, and it answers otherwise
pub refuted : {h : Lock} {ts us : List Turn} {old new end : StoreState} {ls locks : Locks} {replies others : List Reply}
    → Runs settings us old ls others end locks → end.short ≡ false → ¬ AnswerAlike h ts replies others → ¬ MatchesSoloRun settings h ts us old ls replies new
refuted {h} {ts} {us} {old} {new} {end} {ls} {locks} {replies} {others} ran ample unlike alone =
    let same = runs_are_determined settings us old alone.end end ls alone.locks locks alone.alone others alone.runs alone.ample ran ample in
    unlike (subst (AnswerAlike h ts replies) same.0 alone.answers)

pub apart : (x y : Reply) → x.status ≢ y.status → ¬ SameAnswers x y
apart x y other same = other (ap (λ (p : AnswerParts). p.status) same)

-- ---- the store runs out of memory

abbrev pub shorted : World → StoreState
shorted w = record { world = w; refusals = []; short = true }

abbrev pub no_room : Reply
no_room = reply_to (Err (create_error InsufficientStorage))

runs_short : RanShort (CreateDir below 1) (holding after) (Err InsufficientStorage) (shorted after)
unfolding meaning
runs_short = record { takes_memory = tt; not_refused = refl; allowed = tt; answer_is = refl; world = refl; refusals = refl; short = refl }

short_ran : Ran AsksWithNumbers (plan_below (own_conditions below)) (holding after) one_lock (Err (create_error InsufficientStorage)) (shorted after) one_lock
short_ran =
    ran_ask {c = Metadata below} {answer = Err NotFound} (asked missing_below, λ ready finds. finds.0)
    (ran_look (ran_look (ran_look (ran_ask {c = CreateDir below 1} {answer = Err InsufficientStorage} (ran_short runs_short, λ ready finds. number_below finds.1) ran_done))))

-- the holder's request by itself
own_run : Runs settings own_turn (holding after) one_lock (made at_below ∷ []) (holding filled) one_lock
own_run = one_more (steps (plan_below (own_conditions below)) (Ok (made at_below)) holder_below_means (ran_plain below_ran)) no_more

short_unlike : ¬ AnswerAlike lock own_turn (no_room ∷ []) (made at_below ∷ [])
short_unlike (alike_other other more) = other own_below_names
short_unlike (alike_own named same more) = apart no_room (made at_below) (λ e. omega (arith, e)) same

-- Where the store runs out of memory in the holder's request, the answer is another than alone.
pub memory_is_needed :
    RunsUnder AsksWithNumbers settings lock own_turn (holding after) one_lock (no_room ∷ []) (shorted after) one_lock
    × HolderTurns lock own_turn own_turn × ¬ MatchesSoloRun settings lock own_turn own_turn (holding after) one_lock (no_room ∷ []) (shorted after)
memory_is_needed = (
  under_more listed (λ named. is_holder) (steps (plan_below (own_conditions below)) (Err (create_error InsufficientStorage)) holder_below_means short_ran) under_none,
  alone_own own_below_names alone_none,
  refuted own_run refl short_unlike,
)

-- ---- a lock of Depth 0

abbrev pub shallow : Lock
shallow = record lock { path = record { prefix = []; bytes = 47 ∷ [] }; deep = false }

abbrev pub shallow_alone : Locks
shallow_alone = Some (shallow ∷ [])

-- A lock of Depth 0 on the root guards the names in the root, and not those in /a.
other_passes : Ran AsksWithNumbers (plan_below no_conditions) (holding after) shallow_alone (Ok (made at_below)) (holding filled) shallow_alone
other_passes =
    ran_ask {c = Metadata below} {answer = Err NotFound} (asked missing_below, λ ready finds. finds.0)
    (ran_look (ran_look (ran_ask {c = CreateDir below 1} {answer = Ok tt} (asked makes_below, λ ready finds. number_below finds.1) ran_done)))

abbrev pub other_turn : List Turn
other_turn = turn_with stranger_below ∷ []

not_shallow : ¬ NamesLock shallow stranger_below
not_shallow named = below_unnamed named.token

pub nothing_runs : {old new : StoreState} {ls ms : Locks} {replies : List Reply} → Runs settings [] old ls replies new ms → new ≡ old
nothing_runs no_more = refl

-- With a lock of Depth 0 the folder changes below it, and wouldn't alone.
pub depth_is_needed :
    RunsUnder AsksWithNumbers settings shallow other_turn (holding after) shallow_alone (made at_below ∷ []) (holding filled) shallow_alone
    × Guarded shallow shallow_alone × HolderTurns shallow other_turn [] × ¬ MatchesSoloRun settings shallow other_turn [] (holding after) shallow_alone (made at_below ∷ []) (holding filled)
depth_is_needed = (
  under_more (listed_here refl) (λ named. absurd (not_shallow named)) (steps (plan_below no_conditions) (Ok (made at_below)) below_means other_passes) under_none,
  guards_here refl no_others,
  alone_other not_shallow alone_none,
  λ alone. let e : inside filled [] below ≡ inside after [] below = alone.inside below ∙ ap (λ (s : StoreState). inside s.world [] below) (nothing_runs alone.runs) in cc,
)

-- ---- refusals that are left of the turn before

abbrev pub refusing : List (Option FsError) → StoreState
refusing rs = record { world = after; refusals = rs; short = false }

abbrev pub plain_turn : Exchange → Turn
plain_turn x = record { asked = x; refusals = None }

abbrev pub two_refusals : List (Option FsError)
two_refusals = None ∷ Some Forbidden ∷ []

pub asks_first : Answered (Metadata below) (refusing two_refusals) (Err NotFound) (refusing (Some Forbidden ∷ []))
unfolding meaning
asks_first = record { as_asked = refl; refusals = refl; short = refl }

asks_refused : Answered (Metadata below) (refusing (Some Forbidden ∷ [])) (Err Forbidden) (holding after)
asks_refused = record { as_asked = refl; refusals = refl; short = refl }

makes_refused : Answered (CreateDir below 1) (refusing (Some Forbidden ∷ [])) (Err Forbidden) (holding after)
makes_refused = record { as_asked = refl; refusals = refl; short = refl }

abbrev pub denied : Reply
denied = reply_to (Err (create_error Forbidden))

first_ran : Ran AsksWithNumbers (plan_below no_conditions) (refusing two_refusals) one_lock (Err (dav.Status 423)) (refusing (Some Forbidden ∷ [])) one_lock
first_ran = ran_ask {c = Metadata below} {answer = Err NotFound} (asked asks_first, λ ready finds. finds.0) (ran_look ran_done)

second_ran : Ran AsksWithNumbers (plan_below (own_conditions below)) (refusing (Some Forbidden ∷ [])) one_lock (Ok (made at_below)) (holding filled) one_lock
second_ran =
    ran_ask {c = Metadata below} {answer = Err Forbidden} (asked asks_refused, λ ready finds. finds.0)
    (ran_look (ran_look (ran_look (ran_ask {c = CreateDir below 1} {answer = Ok tt} (asked makes_below, λ ready finds. number_below finds.1) ran_done))))

alone_ran : Ran Asks (plan_below (own_conditions below)) (refusing two_refusals) one_lock (Err (create_error Forbidden)) (holding after) one_lock
alone_ran =
    ran_ask {c = Metadata below} {answer = Err NotFound} (asked asks_first)
    (ran_look (ran_look (ran_look (ran_ask {c = CreateDir below 1} {answer = Err Forbidden} (asked makes_refused) ran_done))))

abbrev pub unloaded : List Turn
unloaded = plain_turn stranger_below ∷ plain_turn holder_below ∷ []

abbrev pub own_unloaded : List Turn
own_unloaded = plain_turn holder_below ∷ []

abbrev pub two_replies : List Reply
two_replies = error_reply (dav.Status 423) ∷ made at_below ∷ []

denied_unlike : ¬ AnswerAlike lock own_unloaded (made at_below ∷ []) (denied ∷ [])
denied_unlike (alike_other other more) = other own_below_names
denied_unlike (alike_own named same more) = apart (made at_below) denied (λ e. omega (arith, e)) same

both_unlike : ¬ AnswerAlike lock unloaded two_replies (denied ∷ [])
both_unlike (alike_other other more) = denied_unlike more
both_unlike (alike_own named same more) = other_below_names named

-- Where turns have no refusals of their own, another client uses up a refusal that the holder would meet alone.
pub own_refusals_are_needed :
    RunsUnder AsksWithNumbers settings lock unloaded (refusing two_refusals) one_lock two_replies (holding filled) one_lock
    × HolderTurns lock unloaded own_unloaded × ¬ MatchesSoloRun settings lock unloaded own_unloaded (refusing two_refusals) one_lock two_replies (holding filled)
own_refusals_are_needed = (
  under_more listed (λ named. absurd (other_below_names named)) (steps (plan_below no_conditions) (Err (dav.Status 423)) below_means first_ran)
      (under_more listed (λ named. is_holder) (steps (plan_below (own_conditions below)) (Ok (made at_below)) holder_below_means second_ran) under_none),
  alone_other other_below_names (alone_own own_below_names alone_none),
  refuted (one_more (steps (plan_below (own_conditions below)) (Err (create_error Forbidden)) holder_below_means alone_ran) no_more) refl both_unlike,
)

-- ---- another path

abbrev pub slash_b : List ℕ
slash_b = 47 ∷ 98 ∷ []

abbrev pub at_b : PathText
at_b = record { prefix = []; bytes = slash_b }

-- MKCOL /b, without a header and with an If of the lock's token
abbrev pub other_b : Exchange
other_b = request_to slash_b []

abbrev pub named_b : Exchange
named_b = request_to slash_b (if_field ∷ [])

text_b : IsUtf8 slash_b
unfolding lib.Utf8.encode
text_b = (slash_b, (refl, refl))

target_b : TargetNames [] MkCol slash_b (Ok at_b)
unfolding percent_decode
target_b = letter_target 98 (omega arith) (omega arith) refl refl MkCol

short_b : length other_b.head ≤ 65536
unfolding print_request
short_b = omega arith

short_named_b : length named_b.head ≤ 65536
unfolding print_request
short_named_b = omega arith

other_b_head : IsHead other_b.head (request_of_head (head_to slash_b []))
other_b_head = (short_b, head_to slash_b [], (request_head slash_b [] (omega arith) refl text_b (All-nil IsField), sym (append-nil _)), omega arith, refl)

abbrev pub named_b_request : Request
named_b_request = record { method = codes "MKCOL"; target = slash_b; fields = holder_fields }

named_b_head : IsHead named_b.head named_b_request
named_b_head =
    subst (IsHead named_b.head) (ap (λ f. record { method = codes "MKCOL"; target = slash_b; fields = f }) own_fields)
    (short_named_b, head_to slash_b (if_field ∷ []), (request_head slash_b (if_field ∷ []) (omega arith) refl text_b one_field, sym (append-nil _)), omega arith, refl)

abbrev pub plan_b : Conditions → MethodPlan Reply
plan_b c = mkcol c at_b (caller stranger)

pub other_b_means : Means settings other_b (plan_b no_conditions)
other_b_means = known (request_of_head (head_to slash_b [])) MkCol other_b_head (tt, refl) (method at_b body.None refl target_b refl (makes (is_mkcol no_conditions (stranger_says (b ∷ [])))))

pub named_b_means : Means settings named_b (plan_b (own_conditions (b ∷ [])))
named_b_means = known named_b_request MkCol named_b_head (tt, refl) (method at_b body.None refl target_b refl (makes (is_mkcol (own_conditions (b ∷ [])) (holder_says (b ∷ [])))))

pub other_b_names : ¬ NamesLock lock other_b
other_b_names named = unnamed_by other_b (request_of_head (head_to slash_b [])) other_b_head refl named.token

pub named_b_names : NamesLock lock named_b
named_b_names = record { token = by_if named_b_request named_b_head (asks_for token ∷ [], own_if, (0, omega arith, refl)); principal = refl }

-- ---- a request that names the lock, but isn't at its folder

abbrev pub with_b : World
with_b = with_new before (b ∷ []) Folder [] 1

pub missing_b : Answered (Metadata (b ∷ [])) (holding before) (Err NotFound) (holding before)
unfolding meaning
missing_b = record { as_asked = refl; refusals = refl; short = refl }

pub makes_b : Answered (CreateDir (b ∷ []) 1) (holding before) (Ok tt) (holding with_b)
unfolding meaning
makes_b = record { as_asked = refl; refusals = refl; short = refl }

pub number_b : meaning (CreateDir (b ∷ []) 1) before ≡ Err GeneralFailure → ⊥
unfolding meaning
number_b e = cc

abbrev pub found_b : DavMetaData
found_b = record { len = 0; dir = true; created = 1; modified = 1; number = Some 1 }

there_b : Answered (Metadata (b ∷ [])) (holding with_b) (Ok found_b) (holding with_b)
unfolding meaning
there_b = record { as_asked = refl; refusals = refl; short = refl }

exists_b : Answered (CreateDir (b ∷ []) 1) (holding with_b) (Err Exists) (holding with_b)
unfolding meaning
exists_b = record { as_asked = refl; refusals = refl; short = refl }

number_there : meaning (CreateDir (b ∷ []) 1) with_b ≡ Err GeneralFailure → ⊥
unfolding meaning
number_there e = cc

other_makes_b : Ran AsksWithNumbers (plan_b no_conditions) (holding before) one_lock (Ok (made at_b)) (holding with_b) one_lock
other_makes_b =
    ran_ask {c = Metadata (b ∷ [])} {answer = Err NotFound} (asked missing_b, λ ready finds. finds.0)
    (ran_look (ran_look (ran_ask {c = CreateDir (b ∷ []) 1} {answer = Ok tt} (asked makes_b, λ ready finds. number_b finds.1) ran_done)))

named_finds_b : Ran AsksWithNumbers (plan_b (own_conditions (b ∷ []))) (holding with_b) one_lock (Err (create_error Exists)) (holding with_b) one_lock
named_finds_b =
    ran_ask {c = Metadata (b ∷ [])} {answer = Ok found_b} (asked there_b, λ ready finds. finds.0)
    (ran_look (ran_look (ran_ask {c = CreateDir (b ∷ []) 1} {answer = Err Exists} (asked exists_b, λ ready finds. number_there finds.1) ran_done)))

named_makes_b : Ran Asks (plan_b (own_conditions (b ∷ []))) (holding before) one_lock (Ok (made at_b)) (holding with_b) one_lock
named_makes_b =
    ran_ask {c = Metadata (b ∷ [])} {answer = Err NotFound} (asked missing_b)
    (ran_look (ran_look (ran_look (ran_ask {c = CreateDir (b ∷ []) 1} {answer = Ok tt} (asked makes_b) ran_done))))

abbrev pub at_another : List Turn
at_another = turn_with other_b ∷ turn_with named_b ∷ []

abbrev pub another_replies : List Reply
another_replies = made at_b ∷ reply_to (Err (create_error Exists)) ∷ []

named_unlike : ¬ AnswerAlike lock (turn_with named_b ∷ []) (reply_to (Err (create_error Exists)) ∷ []) (made at_b ∷ [])
named_unlike (alike_other other more) = other named_b_names
named_unlike (alike_own named same more) = apart (reply_to (Err (create_error Exists))) (made at_b) (λ e. omega (arith, e)) same

another_unlike : ¬ AnswerAlike lock at_another another_replies (made at_b ∷ [])
another_unlike (alike_other other more) = named_unlike more
another_unlike (alike_own named same more) = other_b_names named

-- Where a request names the lock at a path that isn't in the folder, its answer depends on what others did there. The lock
-- stands all along.
pub holders_requests_are_needed :
    RunsBy AsksWithNumbers settings at_another (holding before) one_lock another_replies (holding with_b) one_lock
    × HolderTurns lock at_another (turn_with named_b ∷ [])
    × ¬ MatchesSoloRun settings lock at_another (turn_with named_b ∷ []) (holding before) one_lock another_replies (holding with_b)
holders_requests_are_needed = (
  one_more (steps (plan_b no_conditions) (Ok (made at_b)) other_b_means other_makes_b)
      (one_more (steps (plan_b (own_conditions (b ∷ []))) (Err (create_error Exists)) named_b_means named_finds_b) no_more),
  alone_other other_b_names (alone_own named_b_names alone_none),
  refuted (one_more (steps (plan_b (own_conditions (b ∷ []))) (Ok (made at_b)) named_b_means named_makes_b) no_more) refl another_unlike,
)

-- ---- change numbers that are used up

-- a store with the folder and one number left, and what /b and what /a/b leaves of it
abbrev pub nearly : World
nearly = with_new (empty_from 18446744073709551613) (a ∷ []) Folder [] 1

abbrev pub spent : World
spent = with_new nearly (b ∷ []) Folder [] 1

abbrev pub spent_alone : World
spent_alone = with_new nearly below Folder [] 1

nearly_missing_b : Answered (Metadata (b ∷ [])) (holding nearly) (Err NotFound) (holding nearly)
unfolding meaning
nearly_missing_b = record { as_asked = refl; refusals = refl; short = refl }

takes_last : Answered (CreateDir (b ∷ []) 1) (holding nearly) (Ok tt) (holding spent)
unfolding meaning
takes_last = record { as_asked = refl; refusals = refl; short = refl }

spent_missing : Answered (Metadata below) (holding spent) (Err NotFound) (holding spent)
unfolding meaning
spent_missing = record { as_asked = refl; refusals = refl; short = refl }

none_left : Answered (CreateDir below 1) (holding spent) (Err GeneralFailure) (holding spent)
unfolding meaning
none_left = record { as_asked = refl; refusals = refl; short = refl }

nearly_missing : Answered (Metadata below) (holding nearly) (Err NotFound) (holding nearly)
unfolding meaning
nearly_missing = record { as_asked = refl; refusals = refl; short = refl }

takes_last_alone : Answered (CreateDir below 1) (holding nearly) (Ok tt) (holding spent_alone)
unfolding meaning
takes_last_alone = record { as_asked = refl; refusals = refl; short = refl }

last_taken : Ran Asks (plan_b no_conditions) (holding nearly) one_lock (Ok (made at_b)) (holding spent) one_lock
last_taken =
    ran_ask {c = Metadata (b ∷ [])} {answer = Err NotFound} (asked nearly_missing_b)
    (ran_look (ran_look (ran_ask {c = CreateDir (b ∷ []) 1} {answer = Ok tt} (asked takes_last) ran_done)))

finds_none : Ran Asks (plan_below (own_conditions below)) (holding spent) one_lock (Err (create_error GeneralFailure)) (holding spent) one_lock
finds_none =
    ran_ask {c = Metadata below} {answer = Err NotFound} (asked spent_missing)
    (ran_look (ran_look (ran_look (ran_ask {c = CreateDir below 1} {answer = Err GeneralFailure} (asked none_left) ran_done))))

finds_last : Ran Asks (plan_below (own_conditions below)) (holding nearly) one_lock (Ok (made at_below)) (holding spent_alone) one_lock
finds_last =
    ran_ask {c = Metadata below} {answer = Err NotFound} (asked nearly_missing)
    (ran_look (ran_look (ran_look (ran_ask {c = CreateDir below 1} {answer = Ok tt} (asked takes_last_alone) ran_done))))

abbrev pub spending : List Turn
spending = turn_with other_b ∷ own_turn

abbrev pub spending_replies : List Reply
spending_replies = made at_b ∷ reply_to (Err (create_error GeneralFailure)) ∷ []

spent_unlike : ¬ AnswerAlike lock own_turn (reply_to (Err (create_error GeneralFailure)) ∷ []) (made at_below ∷ [])
spent_unlike (alike_other other more) = other own_below_names
spent_unlike (alike_own named same more) = apart (reply_to (Err (create_error GeneralFailure))) (made at_below) (λ e. omega (arith, e)) same

spending_unlike : ¬ AnswerAlike lock spending spending_replies (made at_below ∷ [])
spending_unlike (alike_other other more) = spent_unlike more
spending_unlike (alike_own named same more) = other_b_names named

-- Where another client takes the last change number, elsewhere, the holder's request fails, and wouldn't alone.
pub numbers_are_needed :
    RunsUnder Asks settings lock spending (holding nearly) one_lock spending_replies (holding spent) one_lock
    × HolderTurns lock spending own_turn × ¬ MatchesSoloRun settings lock spending own_turn (holding nearly) one_lock spending_replies (holding spent)
numbers_are_needed = (
  under_more listed (λ named. absurd (other_b_names named)) (steps (plan_b no_conditions) (Ok (made at_b)) other_b_means last_taken)
      (under_more listed (λ named. is_holder) (steps (plan_below (own_conditions below)) (Err (create_error GeneralFailure)) holder_below_means finds_none) under_none),
  alone_other other_b_names (alone_own own_below_names alone_none),
  refuted (one_more (steps (plan_below (own_conditions below)) (Ok (made at_below)) holder_below_means finds_last) no_more) refl spending_unlike,
)
