-- That no request hands in the guard's token is needed: a run in which one does, and of which isolation isn't true.
use Rattle.std.proofs.Common.{◌≡◌, ◌≤◌, ℕ, true, false, List, [], ◌∷◌, length, codes, append-nil, Some, None, Ok, Err, inl, inr, refl, sym, ap, subst, arith}
use Rattle.std.proofs.lemmas.List.Elements.{All-nil, All-cons}
use Rattle.std.proofs.lemmas.List.Sums.{AllPass-from_list_all}
use Rattle.std.specs.Str.{IsUtf8}
use Rattle.http_header.specs.HeaderMap.{get_all}
use Rattle.percent_encoding.specs.Percent.{percent_decode}
use Rattle.httparse.specs.Grammar.{Field, IsField, crlf, is_token_byte, is_value_byte, print_request, trim_ows}
use Rattle.dav_core.specs.declared.errors.DavError.TheVariants as dav
use Rattle.dav_core.specs.declared.fs.DavMetaData.{DavMetaData}
use Rattle.dav_core.specs.declared.method.DavMethod.TheVariants.{Lock as LockMethod, Unlock}
use Rattle.dav_core.specs.Asking.{meaning, Answered, asked, Metadata}
use Rattle.dav_core.specs.Locks.{Lock}
use Rattle.dav_core.specs.Path.{PathText, at_start}
use Rattle.dav_core.specs.Target.{nothing, blank, NamesPath, IsTextByte}
use Rattle.dav_headers.specs.declared.depth.Depth.TheVariants.{Zero}
use Rattle.dav_engine.specs.declared.request.Body.TheVariants as body
use Rattle.dav_engine.specs.Alongside.{AsksWithNumbers}
use Rattle.dav_engine.specs.Folder.{location_found}
use Rattle.dav_engine.specs.Guard.{Guarded, guards_here, no_others, listed_here}
use Rattle.dav_headers.specs.Value.{only_text}
use Rattle.dav_engine.specs.Lock.{granted_reply, is_lock, lock as lock_plan}
use Rattle.dav_engine.specs.LockHeaders.{LockHeaders, AreLockHeaders}
use Rattle.dav_engine.specs.LockToken.{SaysLockToken, IsAngle}
use Rattle.dav_engine.specs.Method.{MethodPlan}
use Rattle.dav_engine.specs.Plan.{Locks, Ran, ran_done, ran_ask, ran_look, ran_keep}
use Rattle.dav_engine.specs.Reply.{Reply, error_reply}
use Rattle.dav_engine.specs.Unlock.{unlock, unlocked_reply, is_unlock}
use Rattle.dav_engine.proofs.Theorems.{last_is, ran_plain}
use Rattle.dav_server.specs.Head.{Request, IsHead, request_of_head}
use Rattle.dav_server.specs.Headers.{headers_of}
use Rattle.dav_server.specs.Holder.{IsHolderRequest, unlocks}
use Rattle.dav_server.specs.Isolation.{RunsUnder, under_none, under_more, HolderTurns, alone_none, alone_other, alone_own, AnswerAlike, alike_other, alike_own, MatchesSoloRun}
use Rattle.dav_server.specs.Machine.{Exchange, caller, Means, known, method, locks, releases, steps}
use Rattle.dav_server.specs.Naming.{NamesToken, NamesLock, by_if, by_lock_token}
use Rattle.dav_server.specs.Run.{Turn, no_more, one_more}
use Rattle.dav_server.specs.Target.{TargetNames, path}
use Rattle.dav_server.proofs.HeadLemmas.{one_head}
use Rattle.dav_server.proofs.NeededPremises.{apart, refuted}
use Rattle.dav_server.proofs.WorkedGrant.{info, granted_lock, no_timeout, one, found_a, there}
use Rattle.dav_server.proofs.WorkedRun.{a, token, slash_a, at_a, head_of, head_with_method, text_a, target_at_a, turn_with, settings, no_tags, no_if, no_conditions, after, holding}

-- ---- LOCK / with Depth 0, by another client, with the token of the lock on /a

abbrev pub slash : List ℕ
slash = 47 ∷ []

abbrev pub at_root : PathText
at_root = record { prefix = []; bytes = slash }

abbrev pub depth_field : Field
depth_field = record { name = codes "Depth"; raw = codes "0"; end = crlf }

abbrev pub second : Exchange
second = record { head = print_request (head_of (codes "LOCK") slash (depth_field ∷ [])); body = body.Tree info; principal = None; moment = 1; token = Some token }

pub text_root : IsUtf8 slash
unfolding lib.Utf8.encode
text_root = (slash, (refl, refl))

is_depth_field : IsField depth_field
unfolding is_token_byte
is_depth_field = record { name = (omega arith, AllPass-from_list_all is_token_byte (codes "Depth") refl); raw = AllPass-from_list_all is_value_byte (codes "0") refl }

short : length second.head ≤ 65536
unfolding print_request
short = omega arith

abbrev pub depth_fields : List (List ℕ × List ℕ)
depth_fields = (codes "Depth", codes "0") ∷ []

own_fields : (request_of_head (head_of (codes "LOCK") slash (depth_field ∷ []))).fields ≡ depth_fields
unfolding trim_ows
own_fields = refl

abbrev pub second_request : Request
second_request = record { method = codes "LOCK"; target = slash; fields = depth_fields }

second_head : IsHead second.head second_request
unfolding is_token_byte
second_head =
    subst (IsHead second.head) (ap (λ f. record { method = codes "LOCK"; target = slash; fields = f }) own_fields)
    (short, head_of (codes "LOCK") slash (depth_field ∷ []), (head_with_method (codes "LOCK") slash (depth_field ∷ []) (omega arith) refl (omega arith) refl text_root (All-cons IsField depth_field [] is_depth_field (All-nil IsField)), sym (append-nil _)), omega arith, refl)

root_path : NamesPath slash [] true
unfolding percent_decode
root_path = record {
  rooted = record { text = All-cons IsTextByte 47 [] (omega arith, omega arith, (λ e. omega (arith, e))) (All-nil IsTextByte); rooted = ([], refl) };
  leaves = blank (inl refl) (blank (inl refl) nothing);
  closed_if = ([], refl);
}

pub target_root : TargetNames [] LockMethod slash (Ok at_root)
target_root = path (inl (([], refl), refl)) (inr ([], true, root_path, refl)) (at_start refl refl)

abbrev pub second_headers : LockHeaders
second_headers = record { conditions = no_conditions; depth = Some Zero; timeout = None }

says_second : AreLockHeaders (headers_of depth_fields) at_root second_headers
says_second = record { conditions = record { match = no_tags; none_match = no_tags; lists = no_if [] }; depth = refl; timeout = no_timeout }

abbrev pub second_plan : MethodPlan Reply
second_plan = lock_plan second_headers at_root (body.Tree info) (caller second)

pub second_means : Means settings second second_plan
second_means = known second_request LockMethod second_head (tt, refl) (method at_root (body.Tree info) refl target_root refl (locks (is_lock second_headers says_second)))

-- it names nothing: it has no If, and no Lock-Token
second_unnamed : ¬ NamesToken second token
second_unnamed (by_if q also (ls, (v, e, says), contains)) = absurd (let same : q ≡ second_request = one_head second.head q second_request also second_head in let f : [] ≡ v ∷ [] = subst (λ (r : Request). get_all (headers_of r.fields) (codes "if") ≡ v ∷ []) same e in cc)
second_unnamed (by_lock_token q also (text, e, between)) = absurd (let same : q ≡ second_request = one_head second.head q second_request also second_head in let f : None ≡ Some text = subst (λ (r : Request). only_text (get_all (headers_of r.fields) (codes "lock-token")) ≡ Some text) same e in cc)

second_names : ¬ NamesLock granted_lock second
second_names named = second_unnamed named.token

-- ---- UNLOCK /a of the holder

abbrev pub in_angles : List ℕ
in_angles = 60 ∷ 116 ∷ 62 ∷ []

abbrev pub token_field : Field
token_field = record { name = codes "Lock-Token"; raw = in_angles; end = crlf }

abbrev pub unlocker : Exchange
unlocker = record { head = print_request (head_of (codes "UNLOCK") slash_a (token_field ∷ [])); body = body.None; principal = None; moment = 1; token = None }

is_token_field : IsField token_field
unfolding is_token_byte
is_token_field = record { name = (omega arith, AllPass-from_list_all is_token_byte (codes "Lock-Token") refl); raw = AllPass-from_list_all is_value_byte in_angles refl }

short_too : length unlocker.head ≤ 65536
unfolding print_request
short_too = omega arith

abbrev pub token_fields : List (List ℕ × List ℕ)
token_fields = (codes "Lock-Token", in_angles) ∷ []

fields_too : (request_of_head (head_of (codes "UNLOCK") slash_a (token_field ∷ []))).fields ≡ token_fields
unfolding trim_ows
fields_too = refl

abbrev pub unlock_request : Request
unlock_request = record { method = codes "UNLOCK"; target = slash_a; fields = token_fields }

unlock_head : IsHead unlocker.head unlock_request
unfolding is_token_byte
unlock_head =
    subst (IsHead unlocker.head) (ap (λ f. record { method = codes "UNLOCK"; target = slash_a; fields = f }) fields_too)
    (short_too, head_of (codes "UNLOCK") slash_a (token_field ∷ []), (head_with_method (codes "UNLOCK") slash_a (token_field ∷ []) (omega arith) refl (omega arith) refl text_a (All-cons IsField token_field [] is_token_field (All-nil IsField)), sym (append-nil _)), omega arith, refl)

bare : ¬ IsAngle 116
bare (inl e) = omega (arith, e)
bare (inr e) = omega (arith, e)

says : SaysLockToken (headers_of token_fields) token
says = (
  in_angles,
  refl,
  record {
    front = 60 ∷ [];
    back = 62 ∷ [];
    opening = All-cons IsAngle 60 [] (inl refl) (All-nil IsAngle);
    closing = All-cons IsAngle 62 [] (inr refl) (All-nil IsAngle);
    whole = refl;
    begins = λ b rest e. let f : 116 ≡ b = cc in subst (λ x. ¬ IsAngle x) f bare;
    ends = λ front b e. let f : 116 ≡ b = last_is [] front 116 b e in subst (λ x. ¬ IsAngle x) f bare;
  },
)

abbrev pub unlock_plan : MethodPlan Reply
unlock_plan = unlock (Some token) at_a

pub unlock_means : Means settings unlocker unlock_plan
unlock_means = known unlock_request Unlock unlock_head (tt, refl) (method at_a body.None refl (target_at_a Unlock) refl (releases (is_unlock (Some token) says)))

pub unlock_names : NamesLock granted_lock unlocker
unlock_names = record { token = by_lock_token unlock_request unlock_head says; principal = refl }

is_holder : IsHolderRequest settings granted_lock unlocker
is_holder = unlocks unlock_request at_a refl (record { head = unlock_head; method = (tt, refl); target = target_at_a Unlock }) refl says

-- ---- the run: the lock on the root is granted, and the first UNLOCK ends it, in place of the guard

abbrev pub root_lock : Lock
root_lock = record { token = token; path = at_root; principal = None; owner = None; timeout_at = None; timeout = None; shared = false; deep = false }

abbrev pub two : Locks
two = Some (granted_lock ∷ root_lock ∷ [])

abbrev pub found_root : DavMetaData
found_root = record { len = 0; dir = true; created = 0; modified = 1; number = Some 0 }

pub root_there : Answered (Metadata []) (holding after) (Ok found_root) (holding after)
unfolding meaning
root_there = record { as_asked = refl; refusals = refl; short = refl }

abbrev pub second_reply : Reply
second_reply = granted_reply true (location_found (Some found_root) at_root) root_lock

second_ran : Ran AsksWithNumbers second_plan (holding after) one (Ok second_reply) (holding after) two
second_ran = ran_look (ran_ask {c = Metadata []} {answer = Ok found_root} (asked root_there, λ ready finds. finds.0) (ran_look (ran_keep ran_done)))

abbrev pub ended : Reply
ended = unlocked_reply (location_found (Some found_a) at_a)

ends_root : Ran AsksWithNumbers unlock_plan (holding after) two (Ok ended) (holding after) one
ends_root = ran_look (ran_ask {c = Metadata (a ∷ [])} {answer = Ok found_a} (asked there, λ ready finds. finds.0) (ran_look (ran_keep ran_done)))

pub ends_guard : Ran AsksWithNumbers unlock_plan (holding after) one (Ok ended) (holding after) (Some [])
ends_guard = ran_look (ran_ask {c = Metadata (a ∷ [])} {answer = Ok found_a} (asked there, λ ready finds. finds.0) (ran_look (ran_keep ran_done)))

finds_none : Ran AsksWithNumbers unlock_plan (holding after) (Some []) (Err (dav.Status 409)) (holding after) (Some [])
finds_none = ran_look (ran_ask {c = Metadata (a ∷ [])} {answer = Ok found_a} (asked there, λ ready finds. finds.0) (ran_look ran_done))

abbrev pub twice : List Turn
twice = turn_with second ∷ turn_with unlocker ∷ turn_with unlocker ∷ []

abbrev pub own : List Turn
own = turn_with unlocker ∷ turn_with unlocker ∷ []

abbrev pub replies : List Reply
replies = second_reply ∷ ended ∷ ended ∷ []

abbrev pub alone_replies : List Reply
alone_replies = ended ∷ error_reply (dav.Status 409) ∷ []

last_unlike : ¬ AnswerAlike granted_lock (turn_with unlocker ∷ []) (ended ∷ []) (error_reply (dav.Status 409) ∷ [])
last_unlike (alike_other other more) = other unlock_names
last_unlike (alike_own named same more) = apart ended (error_reply (dav.Status 409)) (λ e. omega (arith, e)) same

own_unlike : ¬ AnswerAlike granted_lock own (ended ∷ ended ∷ []) alone_replies
own_unlike (alike_other other more) = other unlock_names
own_unlike (alike_own named same more) = last_unlike more

unlike : ¬ AnswerAlike granted_lock twice replies alone_replies
unlike (alike_other other more) = own_unlike more
unlike (alike_own named same more) = second_names named

-- Where another client hands in the guard's token, for a lock of Depth 0 on the root, the holder's first UNLOCK ends that lock,
-- and its second one the guard. Alone the second finds none. The lock guards its folder when the run begins, and stands all along.
pub tokens_are_needed :
    RunsUnder AsksWithNumbers settings granted_lock twice (holding after) one replies (holding after) (Some [])
    × Guarded granted_lock one × HolderTurns granted_lock twice own × ¬ MatchesSoloRun settings granted_lock twice own (holding after) one replies (holding after)
tokens_are_needed = (
  under_more (listed_here refl) (λ named. absurd (second_names named)) (steps second_plan (Ok second_reply) second_means second_ran)
      (under_more (listed_here refl) (λ named. is_holder) (steps unlock_plan (Ok ended) unlock_means ends_root)
      (under_more (listed_here refl) (λ named. is_holder) (steps unlock_plan (Ok ended) unlock_means ends_guard) under_none)),
  guards_here refl no_others,
  alone_other second_names (alone_own unlock_names (alone_own unlock_names alone_none)),
  refuted (one_more (steps unlock_plan (Ok ended) unlock_means (ran_plain ends_guard)) (one_more (steps unlock_plan (Err (dav.Status 409)) unlock_means (ran_plain finds_none)) no_more)) refl unlike,
)
