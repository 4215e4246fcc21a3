-- That the guard's lock is exclusive, and that no other lock is at its folder, are needed: runs that break one of these, and of
-- which isolation isn't true.
use Rattle.std.proofs.Common.{◌≡◌, ◌≢◌, ◌≤◌, ℕ, true, false, true≢false, List, [], ◌∷◌, length, get_or, codes, append-nil, All, Option, Some, None, Ok, Err, inl, inr, refl, sym, ap, subst, ◌∙◌, arith}
use Rattle.std.proofs.lemmas.List.Elements.{All-nil, All-cons}
use Rattle.std.proofs.lemmas.List.Kept.{AllPairs-cons}
use Rattle.std.proofs.lemmas.List.Sums.{AllPass-from_list_all}
use Rattle.std.specs.Option.{unwrap_or}
use Rattle.httparse.specs.Grammar.{Field, IsField, crlf, is_token_byte, is_value_byte, print_request, trim_ows}
use Rattle.dav_core.specs.declared.errors.FsError.TheVariants.{NotFound}
use Rattle.dav_core.specs.declared.errors.DavError.TheVariants as dav
use Rattle.dav_core.specs.declared.method.DavMethod.TheVariants.{Lock as LockMethod, Unlock}
use Rattle.dav_core.specs.Asking.{Asks, asked, Metadata, CreateDir}
use Rattle.dav_core.specs.Element.{ElementTree, element, trees}
use Rattle.dav_core.specs.Locks.{Lock}
use Rattle.dav_core.specs.World.{is_folder, IsWorld}
use Rattle.dav_core.proofs.Theorems.{empty_is_world}
use Rattle.dav_engine.specs.declared.request.Body.TheVariants as body
use Rattle.dav_engine.specs.Alongside.{AsksWithNumbers}
use Rattle.dav_engine.specs.Folder.{location_found}
use Rattle.dav_engine.specs.Guard.{folder_of, IsGuard, Guarded, guards_here, no_others, listed_here}
use Rattle.dav_engine.specs.Inside.{inside, HasFoldersAbove}
use Rattle.dav_engine.specs.Lock.{granted_reply, is_lock, lock as lock_plan}
use Rattle.dav_engine.specs.LockToken.{SaysLockToken, IsAngle}
use Rattle.dav_engine.specs.Method.{MethodPlan}
use Rattle.dav_engine.specs.Mkcol.{made}
use Rattle.dav_engine.specs.Plan.{Locks, Ran, ran_done, ran_ask, ran_look, ran_keep}
use Rattle.dav_engine.specs.Reply.{Reply, error_reply}
use Rattle.dav_engine.specs.Unlock.{unlock, unlocked_reply, is_unlock}
use Rattle.dav_engine.proofs.Theorems.{last_is}
use Rattle.dav_server.specs.EachRequest.{RunStep}
use Rattle.dav_server.specs.Head.{Request, IsHead, request_of_head}
use Rattle.dav_server.specs.Headers.{headers_of}
use Rattle.dav_server.specs.Headline.{empty_server}
use Rattle.dav_server.specs.Isolation.{AreLoaded, TokenIsFresh, RunsUnder, under_none, under_more, HolderTurns, alone_none, alone_other, alone_own, AnswerAlike, alike_other, alike_own, MatchesSoloRun, TokensDiffer, Grants}
use Rattle.dav_server.specs.Machine.{Exchange, caller, Means, known, method, locks, releases, steps}
use Rattle.dav_server.specs.Naming.{NamesLock}
use Rattle.dav_server.specs.Run.{Turn, no_more, one_more}
use Rattle.dav_server.specs.TagLaws.{MomentsAreDates}
use Rattle.dav_server.proofs.NeededForHeadline.{state}
use Rattle.dav_server.proofs.NeededGrants.{new_root, finds_root, root_locker, root_head, says_root}
use Rattle.dav_server.proofs.NeededPremises.{apart, refuted, nothing_runs}
use Rattle.dav_server.proofs.NeededTokens.{slash, at_root, target_root}
use Rattle.dav_server.proofs.WorkedGrant.{named, holds, lock_headers, none, found_a, there, Others, quiet}
use Rattle.dav_server.proofs.WorkedRun.{a, below, token, slash_a, at_a, at_below, lock, head_of, head_with_method, text_a, target_at_a, holder, holder_below, is_holder, turn_with, settings, own_conditions, plan_with, plan_below, holder_means, holder_below_means, below_ran, before, after, filled, holding, one_lock, missing, makes_a, some_number, missing_below, own_below_names, own_turn, listed, root_above, is_world, Showable, Loaded}

-- ---- a shared lock

-- the body of a LOCK that asks for a shared lock
abbrev pub shared_info : ElementTree
shared_info = element (codes "lockinfo") None None [] (trees (holds (codes "lockscope") (named (codes "shared")) ∷ holds (codes "locktype") (named (codes "write")) ∷ []))

abbrev pub other_token : List ℕ
other_token = 117 ∷ []

-- the principal of another client
abbrev pub other_principal : Option (List ℕ)
other_principal = Some (98 ∷ [])

-- LOCK / for a shared lock of infinite depth: by this client, and by one without a principal
abbrev pub sharer : Exchange
sharer = record root_locker { body = body.Tree shared_info; principal = other_principal; token = Some other_token }

abbrev pub joiner : Exchange
joiner = record root_locker { body = body.Tree shared_info }

abbrev pub sharing : MethodPlan Reply
sharing = lock_plan lock_headers at_root (body.Tree shared_info) (caller sharer)

abbrev pub joining : MethodPlan Reply
joining = lock_plan lock_headers at_root (body.Tree shared_info) (caller joiner)

pub sharer_means : Means settings sharer sharing
sharer_means = known (request_of_head (head_of (codes "LOCK") slash [])) LockMethod root_head (tt, refl) (method at_root (body.Tree shared_info) refl target_root refl (locks (is_lock lock_headers says_root)))

joiner_means : Means settings joiner joining
joiner_means = known (request_of_head (head_of (codes "LOCK") slash [])) LockMethod root_head (tt, refl) (method at_root (body.Tree shared_info) refl target_root refl (locks (is_lock lock_headers says_root)))

abbrev pub shared_lock : Lock
shared_lock = record { token = other_token; path = at_root; principal = other_principal; owner = None; timeout_at = None; timeout = None; shared = true; deep = true }

abbrev pub joined_lock : Lock
joined_lock = record { token = token; path = at_root; principal = None; owner = None; timeout_at = None; timeout = None; shared = true; deep = true }

abbrev pub one_shared : Locks
one_shared = Some (shared_lock ∷ [])

abbrev pub both_shared : Locks
both_shared = Some (shared_lock ∷ joined_lock ∷ [])

abbrev pub sharing_reply : Reply
sharing_reply = granted_reply true (location_found (Some new_root) at_root) shared_lock

abbrev pub joining_reply : Reply
joining_reply = granted_reply true (location_found (Some new_root) at_root) joined_lock

pub shares : Ran Asks sharing (holding before) none (Ok sharing_reply) (holding before) one_shared
shares = ran_look (ran_ask {c = Metadata []} {answer = Ok new_root} (asked finds_root) (ran_look (ran_keep ran_done)))

joins : Ran AsksWithNumbers joining (holding before) one_shared (Ok joining_reply) (holding before) both_shared
joins = ran_look (ran_ask {c = Metadata []} {answer = Ok new_root} (asked finds_root, λ ready finds. finds.0) (ran_look (ran_keep ran_done)))

makes_beside : Ran AsksWithNumbers (plan_with (own_conditions (a ∷ []))) (holding before) both_shared (Ok (made at_a)) (holding after) both_shared
makes_beside =
    ran_ask {c = Metadata (a ∷ [])} {answer = Err NotFound} (asked missing, λ ready finds. finds.0)
    (ran_look (ran_look (ran_look (ran_ask {c = CreateDir (a ∷ []) 1} {answer = Ok tt} (asked makes_a, λ ready finds. some_number finds.1) ran_done))))

-- the other client joins the lock, and makes a folder
abbrev pub beside : List Turn
beside = turn_with joiner ∷ turn_with holder ∷ []

abbrev pub beside_replies : List Reply
beside_replies = joining_reply ∷ made at_a ∷ []

joiner_names : ¬ NamesLock shared_lock joiner
joiner_names named = let e : ◌≡◌ {A = Option (List ℕ)} None (Some (98 ∷ [])) = named.principal in cc

holder_names : ¬ NamesLock shared_lock holder
holder_names named = let e : ◌≡◌ {A = Option (List ℕ)} None (Some (98 ∷ [])) = named.principal in cc

under_shared : RunsUnder AsksWithNumbers settings shared_lock beside (holding before) one_shared beside_replies (holding after) both_shared
under_shared =
    under_more (listed_here refl) (λ named. absurd (joiner_names named)) (steps joining (Ok joining_reply) joiner_means joins)
    (under_more (listed_here refl) (λ named. absurd (holder_names named)) (steps (plan_with (own_conditions (a ∷ []))) (Ok (made at_a)) holder_means makes_beside) under_none)

none_alone : HolderTurns shared_lock beside []
none_alone = alone_other joiner_names (alone_other holder_names alone_none)

not_alone : ¬ MatchesSoloRun settings shared_lock beside [] (holding before) one_shared beside_replies (holding after)
not_alone alone = let e : inside after [] (a ∷ []) ≡ inside before [] (a ∷ []) = alone.inside (a ∷ []) ∙ ap (λ s. inside s.world [] (a ∷ [])) (nothing_runs alone.runs) in cc

-- the two tokens begin with different bytes
tokens_apart : Some token ≡ Some other_token → ⊥
tokens_apart e = let f : ◌≡◌ {A = ℕ} 116 117 = ap (λ (o : Option (List ℕ)). get_or (unwrap_or o []) 0 0) e in omega (arith, f)

none_above : HasFoldersAbove [] before
none_above [] under = refl
none_above (x ∷ p) under = absurd (true≢false (sym under))

abbrev NotShared : Turn → Type 0
NotShared t = t.asked.token ≢ Some other_token

beside_quiet : TokenIsFresh shared_lock beside
beside_quiet = All-cons NotShared (turn_with joiner) (turn_with holder ∷ []) tokens_apart (All-cons NotShared (turn_with holder) [] (λ e. cc) (All-nil NotShared))

beside_showable : MomentsAreDates beside
beside_showable = All-cons Showable (turn_with joiner) (turn_with holder ∷ []) (omega arith) (All-cons Showable (turn_with holder) [] (omega arith) (All-nil Showable))

beside_loaded : AreLoaded beside
beside_loaded = All-cons Loaded (turn_with joiner) (turn_with holder ∷ []) refl (All-cons Loaded (turn_with holder) [] refl (All-nil Loaded))

-- A shared lock of infinite depth guards the root: another client joins it, and makes a folder there, and there is none alone.
pub exclusive_guard_is_needed :
    (shared_lock.deep ≡ true) × Guarded shared_lock one_shared × HasFoldersAbove (folder_of shared_lock) before × IsWorld before
    × MomentsAreDates beside × AreLoaded beside × TokenIsFresh shared_lock beside
    × RunsUnder AsksWithNumbers settings shared_lock beside (holding before) one_shared beside_replies (holding after) both_shared
    × HolderTurns shared_lock beside [] × ¬ MatchesSoloRun settings shared_lock beside [] (holding before) one_shared beside_replies (holding after)
exclusive_guard_is_needed = (refl, guards_here refl no_others, none_above, empty_is_world 1 (omega arith) (omega arith), beside_showable, beside_loaded, beside_quiet, under_shared, none_alone, not_alone)

abbrev pub shared_grant : RunStep (empty_server settings) (turn_with sharer ∷ beside) (sharing_reply ∷ beside_replies)
shared_grant = record {
  front = [];
  turn = turn_with sharer;
  back = beside;
  before = [];
  reply = sharing_reply;
  after = beside_replies;
  was = state (holding before) none;
  now = state (holding before) one_shared;
  turns_are = refl;
  replies_are = refl;
  earlier = no_more;
  stepped = steps sharing (Ok sharing_reply) sharer_means shares;
}

shared_alone : All (Others (turn_with sharer)) beside
shared_alone =
    All-cons (Others (turn_with sharer)) (turn_with joiner) (turn_with holder ∷ []) (λ each own same. tokens_apart (same ∙ sym own))
    (All-cons (Others (turn_with sharer)) (turn_with holder) [] (λ each own same. cc) (All-nil (Others (turn_with sharer))))

joined_alone : All (Others (turn_with joiner)) (turn_with holder ∷ [])
joined_alone = All-cons (Others (turn_with joiner)) (turn_with holder) [] (λ each own same. cc) (All-nil (Others (turn_with joiner)))

shared_differ : TokensDiffer (turn_with sharer ∷ beside)
shared_differ =
    AllPairs-cons Others (turn_with sharer) beside shared_alone (AllPairs-cons Others (turn_with joiner) (turn_with holder ∷ []) joined_alone
    (AllPairs-cons Others (turn_with holder) [] (quiet (turn_with holder) refl []) (λ i j d less small. absurd (omega (arith, small)))))

-- So it is from the grant on, on an empty server: the lock that was granted is of infinite depth, on a folder, and it stands all
-- along. It is shared.
pub exclusive_lock_in_the_headline_is_needed :
    (g : RunStep (empty_server settings) (turn_with sharer ∷ beside) (sharing_reply ∷ beside_replies)) × TokensDiffer (turn_with sharer ∷ beside)
    × (shared_lock.deep ≡ true) × Grants g.turn shared_lock [] (shared_lock ∷ []) × (is_folder g.now.store.world (folder_of shared_lock) ≡ true)
    × RunsUnder AsksWithNumbers settings shared_lock beside g.now.store g.now.locks beside_replies (holding after) both_shared
    × HolderTurns shared_lock beside [] × ¬ MatchesSoloRun settings shared_lock beside [] g.now.store g.now.locks beside_replies (holding after)
exclusive_lock_in_the_headline_is_needed = (shared_grant, shared_differ, refl, record { token_is = refl; listed = refl }, refl, under_shared, none_alone, not_alone)

-- ---- another lock at the folder

abbrev pub other_angles : List ℕ
other_angles = 60 ∷ 117 ∷ 62 ∷ []

abbrev pub other_field : Field
other_field = record { name = codes "Lock-Token"; raw = other_angles; end = crlf }

-- UNLOCK /a of the other client, with the token of its own lock
abbrev pub leaver : Exchange
leaver = record { head = print_request (head_of (codes "UNLOCK") slash_a (other_field ∷ [])); body = body.None; principal = other_principal; moment = 1; token = None }

is_other_field : IsField other_field
unfolding is_token_byte
is_other_field = record { name = (omega arith, AllPass-from_list_all is_token_byte (codes "Lock-Token") refl); raw = AllPass-from_list_all is_value_byte other_angles refl }

short : length leaver.head ≤ 65536
unfolding print_request
short = omega arith

abbrev pub other_fields : List (List ℕ × List ℕ)
other_fields = (codes "Lock-Token", other_angles) ∷ []

fields_are : (request_of_head (head_of (codes "UNLOCK") slash_a (other_field ∷ []))).fields ≡ other_fields
unfolding trim_ows
fields_are = refl

abbrev pub leave_request : Request
leave_request = record { method = codes "UNLOCK"; target = slash_a; fields = other_fields }

leave_head : IsHead leaver.head leave_request
unfolding is_token_byte
leave_head =
    subst (IsHead leaver.head) (ap (λ f. record { method = codes "UNLOCK"; target = slash_a; fields = f }) fields_are)
    (short, head_of (codes "UNLOCK") slash_a (other_field ∷ []), (head_with_method (codes "UNLOCK") slash_a (other_field ∷ []) (omega arith) refl (omega arith) refl text_a (All-cons IsField other_field [] is_other_field (All-nil IsField)), sym (append-nil _)), omega arith, refl)

bare : ¬ IsAngle 117
bare (inl e) = omega (arith, e)
bare (inr e) = omega (arith, e)

says : SaysLockToken (headers_of other_fields) other_token
says = (
  other_angles,
  refl,
  record {
    front = 60 ∷ [];
    back = 62 ∷ [];
    opening = All-cons IsAngle 60 [] (inl refl) (All-nil IsAngle);
    closing = All-cons IsAngle 62 [] (inr refl) (All-nil IsAngle);
    whole = refl;
    begins = λ b rest e. let f : 117 ≡ b = cc in subst (λ x. ¬ IsAngle x) f bare;
    ends = λ front b e. let f : 117 ≡ b = last_is [] front 117 b e in subst (λ x. ¬ IsAngle x) f bare;
  },
)

abbrev pub leave_plan : MethodPlan Reply
leave_plan = unlock (Some other_token) at_a

pub leave_means : Means settings leaver leave_plan
leave_means = known leave_request Unlock leave_head (tt, refl) (method at_a body.None refl (target_at_a Unlock) refl (releases (is_unlock (Some other_token) says)))

-- a lock of the other client on the folder
abbrev pub other_lock : Lock
other_lock = record lock { token = other_token; principal = other_principal; deep = false }

abbrev pub two_locks : Locks
two_locks = Some (lock ∷ other_lock ∷ [])

abbrev pub left_reply : Reply
left_reply = unlocked_reply (location_found (Some found_a) at_a)

pub leaves : Ran AsksWithNumbers leave_plan (holding after) two_locks (Ok left_reply) (holding after) one_lock
leaves = ran_look (ran_ask {c = Metadata (a ∷ [])} {answer = Ok found_a} (asked there, λ ready finds. finds.0) (ran_look (ran_keep ran_done)))

-- The other lock guards the names in the folder too.
refused_alone : Ran Asks (plan_below (own_conditions below)) (holding after) two_locks (Err (dav.Status 423)) (holding after) two_locks
refused_alone = ran_ask {c = Metadata below} {answer = Err NotFound} (asked missing_below) (ran_look (ran_look (ran_look ran_done)))

-- the other lock ends, and the holder makes a folder in its own
abbrev pub leaving : List Turn
leaving = turn_with leaver ∷ own_turn

abbrev pub leaving_replies : List Reply
leaving_replies = left_reply ∷ made at_below ∷ []

leaver_names : ¬ NamesLock lock leaver
leaver_names named = let e : ◌≡◌ {A = Option (List ℕ)} (Some (98 ∷ [])) None = named.principal in cc

own_unlike : ¬ AnswerAlike lock own_turn (made at_below ∷ []) (error_reply (dav.Status 423) ∷ [])
own_unlike (alike_other other more) = other own_below_names
own_unlike (alike_own named same more) = apart (made at_below) (error_reply (dav.Status 423)) (λ e. omega (arith, e)) same

leaving_unlike : ¬ AnswerAlike lock leaving leaving_replies (error_reply (dav.Status 423) ∷ [])
leaving_unlike (alike_other other more) = own_unlike more
leaving_unlike (alike_own named same more) = leaver_names named

abbrev NotOwn : Turn → Type 0
NotOwn t = t.asked.token ≢ Some token

leaving_quiet : TokenIsFresh lock leaving
leaving_quiet = All-cons NotOwn (turn_with leaver) own_turn (λ e. cc) (All-cons NotOwn (turn_with holder_below) [] (λ e. cc) (All-nil NotOwn))

leaving_showable : MomentsAreDates leaving
leaving_showable = All-cons Showable (turn_with leaver) own_turn (omega arith) (All-cons Showable (turn_with holder_below) [] (omega arith) (All-nil Showable))

leaving_loaded : AreLoaded leaving
leaving_loaded = All-cons Loaded (turn_with leaver) own_turn refl (All-cons Loaded (turn_with holder_below) [] refl (All-nil Loaded))

-- Another lock is on the folder when the run begins, with another token, of Depth 0: the holder makes a folder in it once that lock
-- has ended, and is answered 423 alone. The lock itself is exclusive and of infinite depth, and it stands all along.
pub no_other_lock_is_needed :
    IsGuard lock × (other_lock.token ≢ lock.token) × HasFoldersAbove (folder_of lock) after × IsWorld after
    × MomentsAreDates leaving × AreLoaded leaving × TokenIsFresh lock leaving
    × RunsUnder AsksWithNumbers settings lock leaving (holding after) two_locks leaving_replies (holding filled) one_lock
    × HolderTurns lock leaving own_turn × ¬ MatchesSoloRun settings lock leaving own_turn (holding after) two_locks leaving_replies (holding filled)
no_other_lock_is_needed = (
  record { exclusive = refl; deep = refl },
  λ same. tokens_apart (ap Some (sym same)),
  root_above after refl,
  is_world,
  leaving_showable,
  leaving_loaded,
  leaving_quiet,
  under_more (listed_here refl) (λ named. absurd (leaver_names named)) (steps leave_plan (Ok left_reply) leave_means leaves)
      (under_more listed (λ named. is_holder) (steps (plan_below (own_conditions below)) (Ok (made at_below)) holder_below_means below_ran) under_none),
  alone_other leaver_names (alone_own own_below_names alone_none),
  refuted (one_more (steps (plan_below (own_conditions below)) (Err (dav.Status 423)) holder_below_means refused_alone) no_more) refl leaving_unlike,
)
