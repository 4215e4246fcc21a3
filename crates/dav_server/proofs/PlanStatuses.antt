-- Which statuses plans result in: 304 is that of the conditions of GET and HEAD alone; and an error of a PUT reports one.
use Rattle.std.proofs.Common.{◌≡◌, ◌≢◌, ◌⊎◌, inl, inr, ℕ, zero, suc, ◌≤◌, map, ◌==◌, ◌||◌, Bool, true, false, true≢false, not, if◌then◌else◌, nat_lt, length, List, [], ◌∷◌, All, Option, Some, None, Result, Ok, Err, refl, sym, subst, arith, ◌-◌, ◌+◌}
use Rattle.std.proofs.lemmas.List.Elements.{All-nil, All-head}
use Rattle.std.specs.Bool.{⊤}
use Rattle.std.specs.Option.{unwrap_or, is_some, is_none}
use Rattle.std.specs.Result.{is_ok, result_ok}
use Rattle.http_header.specs.FieldValue.{FieldValue}
use Rattle.dav_core.specs.declared.errors.ParseError.{ParseError}
use Rattle.dav_core.specs.declared.errors.ParseError.TheVariants as parse
use Rattle.dav_core.specs.declared.errors.FsError.{FsError}
use Rattle.dav_core.specs.declared.errors.FsError.TheVariants as fs
use Rattle.dav_core.specs.declared.errors.DavError.{DavError}
use Rattle.dav_core.specs.declared.errors.DavError.TheVariants as dav
use Rattle.dav_core.specs.declared.fs.DavMetaData.{DavMetaData}
use Rattle.dav_core.specs.declared.method.DavMethod.{DavMethod}
use Rattle.dav_core.specs.declared.method.DavMethod.TheVariants.{Head, Patch, MkCol, Delete, Lock as LockMethod}
use Rattle.dav_core.specs.Asking.{Call, Answer, StoreState, Write}
use Rattle.dav_core.specs.Handle.{Handle, Opening}
use Rattle.dav_core.specs.Locks.{Lock, Requester, deleted, unlocked}
use Rattle.dav_core.specs.Numbers.{max_u64}
use Rattle.dav_core.specs.Path.{Path, PathText, names, are_equal, is_at_or_under}
use Rattle.dav_core.specs.Status.{dav_status, fs_status, path_error}
use Rattle.dav_headers.specs.declared.depth.Depth.{Depth}
use Rattle.dav_headers.specs.declared.depth.Depth.TheVariants.{Default, Zero, One, Infinity}
use Rattle.dav_headers.specs.ETagList.{TagList}
use Rattle.dav_headers.specs.If.{Item, state_token, entity_tag, Condition}
use Rattle.dav_headers.specs.declared.range.XUpdateRange.{XUpdateRange}
use Rattle.dav_headers.specs.declared.range.XUpdateRange.TheVariants.{FromTo, AllFrom, Last, Append}
use Rattle.dav_engine.specs.declared.methods.put.headers.Bounds.{Bounds}
use Rattle.dav_engine.specs.declared.methods.put.headers.Bounds.TheVariants.{Unread, Whole, Within}
use Rattle.dav_engine.specs.declared.methods.put.headers.Writing.{Writing}
use Rattle.dav_engine.specs.declared.request.Body.{Body}
use Rattle.dav_engine.specs.Caller.{Caller, requester}
use Rattle.dav_engine.specs.Conditions.{Conditions, Addressed, is_reading, matches_found, item_holds, and_then, or_else, all_hold, some_holds, if_holds, http_conditions, if_match, unless, status_as, guarded, submitted}
use Rattle.dav_engine.specs.Lock.{one_token, token_to_refresh, keep_refreshed, refresh_in, lock_again, asked_lock, grant_in, taken_back, empty_opening, empty_error, create_or_unlock, make_empty, lock_new, is_absent, lock_found, lock}
use Rattle.dav_engine.specs.Headers.{Headers}
use Rattle.dav_engine.specs.LockHeaders.{LockHeaders, refreshed_for}
use Rattle.dav_engine.specs.LockInfo.{lock_info}
use Rattle.dav_engine.specs.Method.{MethodPlan, then as followed_by, ◌>>=◌, gives, require, require_free, required, has_locks, refused_as, ask_for, set_by, unless_status, require_parent, require_member}
use Rattle.dav_engine.specs.Copying.{CopyFault, CopyWalk, copy_report, copy_seen, copy_members, copy_listed, copy_inside, copy_kind, copy_looked, copy as copy_walk}
use Rattle.dav_engine.specs.CopyMove.{CopyHeaders, AreCopyHeaders, DestinationNames, absent, unreadable, outside, inside, is_move, copy_depth, destination_found, source_free, copy_allowed, is_replaced, clearing, drop_if, drop_if_moved, transfer, copied_status, copy_reply, transfer_if_cleared, copy_or_move, changes_members}
use Rattle.dav_engine.specs.Delete.{DeleteHeaders, whole_depth, delete_allowed, drop_if_gone, delete_reply, delete_found, delete}
use Rattle.dav_engine.specs.Folder.{closed as folder_path, child_of, room_at, is_folder_found, path_found, location_found}
use Rattle.dav_engine.specs.Mkcol.{mkcol, create_error}
use Rattle.dav_engine.specs.Multistatus.{PathStatus, status_reply, multistatus_reply, multi_reply}
use Rattle.dav_engine.specs.Options.{options}
use Rattle.dav_engine.specs.Plan.{CallStep, Done, Ask, Look, Keep, Locks, Ran, ran_done, ran_ask, ran_look, ran_keep}
use Rattle.dav_engine.specs.Put.{PutHeaders, from_end, update_from, update_at, updates, written_by, placed, bounded, bounded_by, writing_of, open_error, put_opening, sought, written, is_announced, unsatisfiable, spans, store, put_allowed, put_body}
use Rattle.dav_engine.specs.Removal.{Fault, report_of}
use Rattle.dav_engine.specs.Reply.{Reply, Header, reply_to}
use Rattle.dav_engine.specs.Unlock.{keep_left, end_in, end_lock, unlock}
use Rattle.dav_engine.proofs.Theorems.{Gives, gives_done, gives_ask, gives_look, gives_keep, gives_removal}
use Rattle.dav_server.specs.Get.{show, show_or_tell}

-- ---- the outcomes of plans

-- an outcome is of this kind: its value, or its error
abbrev pub Outcome : (DavError → Type 0) → {A : Type 0} → (A → Type 0) → Result A DavError → Type 0
Outcome E P (Ok a) = P a
Outcome E P (Err e) = E e

-- every outcome of the plan is of this kind, whatever the store answers
pub data Ends (E : DavError → Type 0) {A : Type 0} (P : A → Type 0) : MethodPlan A → Type 0 where
  ends_done : {r : Result A DavError} → Outcome E P r → Ends E P (Done r)
  ends_ask : {c : Call} {go : Result (Answer c) FsError → MethodPlan A} → ((answer : Result (Answer c) FsError) → Ends E P (go answer)) → Ends E P (Ask c go)
  ends_look : {go : Locks → MethodPlan A} → ((ls : Locks) → Ends E P (go ls)) → Ends E P (Look go)
  ends_keep : {locks : List Lock} {rest : MethodPlan A} → Ends E P rest → Ends E P (Keep locks rest)

pub ran_ends : {step : CallStep} {E : DavError → Type 0} {A : Type 0} {P : A → Type 0} {plan : MethodPlan A} {old new : StoreState} {ls ms : Locks} {outcome : Result A DavError}
    → Ends E P plan → Ran step plan old ls outcome new ms → Outcome E P outcome
ran_ends (ends_done is) ran_done = is
ran_ends (ends_ask more) (ran_ask {answer = answer} one rest) = ran_ends (more answer) rest
ran_ends (ends_look more) (ran_look {ls = ls} rest) = ran_ends (more ls) rest
ran_ends (ends_keep more) (ran_keep rest) = ran_ends more rest

pub ends_then : {E : DavError → Type 0} {A B : Type 0} {P : A → Type 0} {Q : B → Type 0} (r : Result A DavError) (f : A → MethodPlan B) → Outcome E P r → ((a : A) → P a → Ends E Q (f a)) → Ends E Q (followed_by r f)
ends_then (Ok a) f is more = more a is
ends_then (Err e) f is more = ends_done is

pub ends_bind : {E : DavError → Type 0} {A B : Type 0} {P : A → Type 0} {Q : B → Type 0} {plan : MethodPlan A} (f : A → MethodPlan B) → Ends E P plan → ((a : A) → P a → Ends E Q (f a)) → Ends E Q (plan >>= f)
ends_bind f (ends_done {r = r} is) more = ends_then r f is more
ends_bind f (ends_ask rest) more = ends_ask (λ answer. ends_bind f (rest answer) more)
ends_bind f (ends_look rest) more = ends_look (λ ls. ends_bind f (rest ls) more)
ends_bind f (ends_keep rest) more = ends_keep (ends_bind f rest more)

outcome_weaker : {E F : DavError → Type 0} {A : Type 0} {P Q : A → Type 0} (r : Result A DavError) → ((e : DavError) → E e → F e) → ((a : A) → P a → Q a) → Outcome E P r → Outcome F Q r
outcome_weaker (Ok a) errors values is = values a is
outcome_weaker (Err e) errors values is = errors e is

pub ends_weaker : {E F : DavError → Type 0} {A : Type 0} {P Q : A → Type 0} {plan : MethodPlan A} → ((e : DavError) → E e → F e) → ((a : A) → P a → Q a) → Ends E P plan → Ends F Q plan
ends_weaker errors values (ends_done {r = r} is) = ends_done (outcome_weaker r errors values is)
ends_weaker errors values (ends_ask more) = ends_ask (λ answer. ends_weaker errors values (more answer))
ends_weaker errors values (ends_look more) = ends_look (λ ls. ends_weaker errors values (more ls))
ends_weaker errors values (ends_keep more) = ends_keep (ends_weaker errors values more)

-- any value
abbrev pub Any : {A : Type 0} → A → Type 0
Any a = ⊤

pub ends_require : {E : DavError → Type 0} (b : Bool) (e : DavError) → E e → Ends E Any (require b e)
ends_require true e is = ends_done tt
ends_require false e is = ends_done is

-- ---- statuses

-- a status other than 304
abbrev pub IsOtherStatus : ℕ → Type 0
IsOtherStatus status = status ≢ 304

-- an error of another status than 304
abbrev pub IsOther : DavError → Type 0
IsOther e = IsOtherStatus (dav_status e)

-- a status that reports an error (RFC 9110, sections 15.5 and 15.6)
abbrev pub IsErrorStatus : ℕ → Type 0
IsErrorStatus status = 400 ≤ status

-- an error of such a status
abbrev pub IsFailure : DavError → Type 0
IsFailure e = IsErrorStatus (dav_status e)

pub failure_other : (e : DavError) → IsFailure e → IsOther e
failure_other e above same = absurd (omega (arith, above, same))

-- what ends with such errors ends with others than 304
pub ends_other : {A : Type 0} {P : A → Type 0} {plan : MethodPlan A} → Ends IsFailure P plan → Ends IsOther P plan
ends_other ends = ends_weaker failure_other (λ a is. is) ends

-- a response of another status than 304
abbrev pub AnswersOther : Reply → Type 0
AnswersOther r = IsOtherStatus r.status

pub fs_failure : (e : FsError) → IsErrorStatus (fs_status e)
fs_failure fs.NotImplemented = omega arith
fs_failure fs.GeneralFailure = omega arith
fs_failure fs.Exists = omega arith
fs_failure fs.NotFound = omega arith
fs_failure fs.Forbidden = omega arith
fs_failure fs.InsufficientStorage = omega arith
fs_failure fs.LoopDetected = omega arith
fs_failure fs.PathTooLong = omega arith
fs_failure fs.TooLarge = omega arith
fs_failure fs.IsRemote = omega arith

pub fs_other : (e : FsError) → fs_status e ≢ 304
fs_other e = failure_other (dav.FsError e) (fs_failure e)

asked_other : {A : Type 0} (g : FsError → DavError) → ((e : FsError) → IsOther (g e)) → (answer : Result A FsError) → Outcome IsOther Any (refused_as g answer)
asked_other g other (Ok a) = tt
asked_other g other (Err e) = other e

asked_fails : {A : Type 0} (g : FsError → DavError) → ((e : FsError) → IsFailure (g e)) → (answer : Result A FsError) → Outcome IsFailure Any (refused_as g answer)
asked_fails g fails (Ok a) = tt
asked_fails g fails (Err e) = fails e

-- the store's own errors
pub store_other : {A : Type 0} (answer : Result A FsError) → Outcome IsOther Any (refused_as dav.FsError answer)
store_other answer = asked_other dav.FsError fs_other answer

pub store_fails : {A : Type 0} (answer : Result A FsError) → Outcome IsFailure Any (refused_as dav.FsError answer)
store_fails answer = asked_fails dav.FsError fs_failure answer

pub outcome_if : {A : Type 0} (b : Bool) (one other : Result A DavError) → Outcome IsFailure Any one → Outcome IsFailure Any other → Outcome IsFailure Any (if b then one else other)
outcome_if true one other is is' = is
outcome_if false one other is is' = is'

-- ---- conditions

ends_item : {E : DavError → Type 0} (p : Option Path) (i : Item) → Ends E Any (item_holds p i)
ends_item None i = ends_done tt
ends_item (Some p) (state_token t) = ends_look (λ ls. ends_done tt)
ends_item (Some p) (entity_tag e) = ends_ask (λ answer. ends_done tt)

ends_while_true : {E : DavError → Type 0} (b : Bool) (next : MethodPlan Bool) → Ends E Any next → Ends E Any (and_then b next)
ends_while_true true next is = is
ends_while_true false next is = ends_done tt

ends_while_false : {E : DavError → Type 0} (b : Bool) (next : MethodPlan Bool) → Ends E Any next → Ends E Any (or_else b next)
ends_while_false true next is = ends_done tt
ends_while_false false next is = is

ends_all : {E : DavError → Type 0} (p : Option Path) (cs : List Condition) → Ends E Any (all_hold p cs)
ends_all p [] = ends_done tt
ends_all p (c ∷ cs) = ends_bind _ (ends_item p c.item) (λ holds any. ends_while_true _ (all_hold p cs) (ends_all p cs))

ends_some : {E : DavError → Type 0} (ls : List Addressed) → Ends E Any (some_holds ls)
ends_some [] = ends_done tt
ends_some (l ∷ ls) = ends_bind _ (ends_all l.path l.conditions) (λ holds any. ends_while_false holds (some_holds ls) (ends_some ls))

ends_if : {E : DavError → Type 0} (lists : Option (List Addressed)) → Ends E Any (if_holds lists)
ends_if None = ends_done tt
ends_if (Some ls) = ends_some ls

verdict_if : (b : Bool) (verdict : Option ℕ) → ((if b then verdict else Some 412) ≡ verdict) ⊎ ((if b then verdict else Some 412) ≡ Some 412)
verdict_if true verdict = inl refl
verdict_if false verdict = inr refl

-- conditions answer what If-Match and If-None-Match do, or 412, and never fail
pub conditions_end : {E : DavError → Type 0} (m : DavMethod) (c : Conditions) (found : Option DavMetaData)
    → Ends E (λ verdict. (verdict ≡ http_conditions m c.if_match c.if_none_match found) ⊎ (verdict ≡ Some 412)) (if_match m c found)
conditions_end m c found = ends_bind _ (ends_if c.lists) (λ holds any. ends_done (verdict_if holds (http_conditions m c.if_match c.if_none_match found)))

-- no status, or one that reports an error
abbrev pub Fails : Option ℕ → Type 0
Fails None = ⊤
Fails (Some status) = IsErrorStatus status

fails_if : (b : Bool) (one other : Option ℕ) → Fails one → Fails other → Fails (if b then one else other)
fails_if true one other is is' = is
fails_if false one other is is' = is'

precondition : IsErrorStatus 412
precondition = omega arith

writes_412 : (b : Bool) → b ≡ false → Fails (Some (if b then 304 else 412))
writes_412 true is = absurd (true≢false is)
writes_412 false is = precondition

-- a method that writes is answered an error by them, if anything
writes_fail : (m : DavMethod) (match none_match : Option TagList) (found : Option DavMetaData) → is_reading m ≡ false → Fails (http_conditions m match none_match found)
writes_fail m match none_match found writes =
    fails_if (not (unwrap_or (matches_found match found) true)) (Some 412) _ precondition
    (fails_if (unwrap_or (matches_found none_match found) false) (Some (if is_reading m then 304 else 412)) None (writes_412 (is_reading m) writes) tt)

-- tokens, or a status that reports an error
abbrev pub Judges : {A : Type 0} → Result A ℕ → Type 0
Judges (Ok a) = ⊤
Judges (Err status) = IsErrorStatus status

judges_if : {A : Type 0} (b : Bool) (a : A) → Judges (if b then Ok a else Err 412)
judges_if true a = tt
judges_if false a = precondition

ends_unless : {E : DavError → Type 0} {A : Type 0} (status : Option ℕ) (next : MethodPlan (Result A ℕ)) → Fails status → Ends E Judges next → Ends E Judges (unless status next)
ends_unless (Some status) next above is = ends_done above
ends_unless None next above is = is

status_fails : (E : DavError → Type 0) {A : Type 0} (f : ℕ → DavError) → ((status : ℕ) → IsErrorStatus status → E (f status)) → (verdict : Result A ℕ) → Judges verdict → Outcome E Any (status_as f verdict)
status_fails E f fails (Ok a) is = tt
status_fails E f fails (Err status) is = fails status is

-- the conditions of a method that writes fail with errors alone
pub guarded_ends : {E : DavError → Type 0} (f : ℕ → DavError) (m : DavMethod) (c : Conditions) (found : Option DavMetaData) → ((status : ℕ) → IsErrorStatus status → E (f status)) → is_reading m ≡ false → Ends E Any (guarded f m c found)
guarded_ends {E} f m c found fails writes =
    ends_bind _ (ends_unless (http_conditions m c.if_match c.if_none_match found) _ (writes_fail m c.if_match c.if_none_match found writes)
    (ends_bind _ (ends_if c.lists) (λ holds any. ends_done (judges_if holds _))))
    (λ verdict is. ends_done (status_fails E f fails verdict is))

pub ends_guarded : (f : ℕ → DavError) (m : DavMethod) (c : Conditions) (found : Option DavMetaData) → ((status : ℕ) → status ≢ 304 → IsOther (f status)) → is_reading m ≡ false → Ends IsOther Any (guarded f m c found)
ends_guarded f m c found other writes = guarded_ends f m c found (λ status above. other status (λ same. absurd (omega (arith, above, same)))) writes

pub ends_free : {E : DavError → Type 0} (deep : Bool) (who : Requester) (p : Path) (e : DavError) → E e → Ends E Any (require_free deep who p e)
ends_free deep who p e is = ends_look (λ ls. ends_require _ e is)

pub ends_parent : {E : DavError → Type 0} (wanted : Bool) (who : Requester) (p : Path) (e : DavError) → E e → Ends E Any (require_parent wanted who p e)
ends_parent false who p e is = ends_done tt
ends_parent true who p e is = ends_look (λ ls. ends_require _ e is)

pub ends_member : {E : DavError → Type 0} (deep changes : Bool) (who : Requester) (p : Path) (e : DavError) → E e → Ends E Any (require_member deep changes who p e)
ends_member deep changes who p e is = ends_bind _ (ends_free deep who p e is) (λ u any. ends_parent changes who p e is)

-- ---- PUT and PATCH

from_end_fails : (n : ℕ) (found : Option DavMetaData) → Outcome IsFailure Any (from_end n found)
from_end_fails n None = tt
from_end_fails n (Some m) = outcome_if (nat_lt m.len n) (Err unsatisfiable) (Ok (m.len - n)) (omega arith) tt

update_from_fails : (range : XUpdateRange) (n : ℕ) (found : Option DavMetaData) → Outcome IsFailure Any (update_from range n found)
update_from_fails (FromTo first last) n found = outcome_if (spans first last n) (Ok first) (Err unsatisfiable) tt (omega arith)
update_from_fails (AllFrom first) n found = tt
update_from_fails (Last k) n found = from_end_fails k found
update_from_fails Append n found = tt

update_at_fails : (range : XUpdateRange) (n : ℕ) (from : Result ℕ DavError) → Outcome IsFailure Any from → Outcome IsFailure Any (update_at range n from)
update_at_fails range n (Ok first) is = tt
update_at_fails range n (Err e) is = is

updates_fails : (announced : Option ℕ) (range : Option XUpdateRange) (found : Option DavMetaData) → Outcome IsFailure Any (updates announced range found)
updates_fails None range found = omega arith
updates_fails (Some n) None found = omega arith
updates_fails (Some n) (Some range) found = update_at_fails range n (update_from range n found) (update_from_fails range n found)

written_by_fails : (m : DavMethod) (h : PutHeaders) (found : Option DavMetaData) → Outcome IsFailure Any (written_by m h found)
written_by_fails Patch h found = outcome_if h.is_partial (updates h.announced h.update found) (Err (dav.StatusClose 415)) (updates_fails h.announced h.update found) (omega arith)
written_by_fails _ h found = tt

placed_fails : (first n : ℕ) (w : Writing) (announced : Option ℕ) → Outcome IsFailure Any (placed first n w announced)
placed_fails first n w None = outcome_if (nat_lt max_u64 n) (Err unsatisfiable) _ (omega arith) tt
placed_fails first n w (Some k) = outcome_if (n == k) _ (Err unsatisfiable) tt (omega arith)

bounded_fails : (range : Bounds) (w : Writing) → Outcome IsFailure Any (bounded range w)
bounded_fails Unread w = omega arith
bounded_fails Whole w = tt
bounded_fails (Within first last) w = outcome_if (nat_lt last first) (Err unsatisfiable) _ (omega arith) (placed_fails first (last - first + 1) w w.announced)

bounded_by_fails : (range : Bounds) (written : Result Writing DavError) → Outcome IsFailure Any written → Outcome IsFailure Any (bounded_by range written)
bounded_by_fails range (Ok w) is = bounded_fails range w
bounded_by_fails range (Err e) is = is

writing_fails : (m : DavMethod) (h : PutHeaders) (found : Option DavMetaData) → Outcome IsFailure Any (writing_of m h found)
writing_fails m h found = bounded_by_fails h.range (written_by m h found) (written_by_fails m h found)

ends_put_allowed : (m : DavMethod) (h : PutHeaders) (p : Path) (who : Caller) (bytes : List ℕ) → is_reading m ≡ false → Ends IsFailure Any (put_allowed m h p who bytes)
ends_put_allowed m h p who bytes writes = ends_ask (λ answer.
    ends_then (writing_of m h (result_ok answer)) _ (writing_fails m h (result_ok answer)) (λ w any.
    ends_bind _ (guarded_ends dav.StatusClose m h.conditions (result_ok answer) (λ status above. above) writes) (λ tokens any.
    ends_bind _ (ends_member false (not (is_ok answer)) (requester who tokens) p (dav.StatusClose 423) (omega arith)) (λ free any.
    ends_bind _ (ends_require (is_announced w.announced bytes) (dav.StatusClose 400) (omega arith)) (λ long any.
    ends_done tt)))))

missing_fails : (b : Bool) → IsErrorStatus (if b then 412 else 409)
missing_fails true = omega arith
missing_fails false = omega arith

open_fails : (how : Opening) (e : FsError) → IsFailure (open_error how e)
open_fails how fs.NotFound = missing_fails (not how.create || how.create_new)
open_fails how fs.Exists = missing_fails (not how.create || how.create_new)
open_fails how fs.NotImplemented = fs_failure fs.NotImplemented
open_fails how fs.GeneralFailure = fs_failure fs.GeneralFailure
open_fails how fs.Forbidden = fs_failure fs.Forbidden
open_fails how fs.InsufficientStorage = fs_failure fs.InsufficientStorage
open_fails how fs.LoopDetected = fs_failure fs.LoopDetected
open_fails how fs.PathTooLong = fs_failure fs.PathTooLong
open_fails how fs.TooLarge = fs_failure fs.TooLarge
open_fails how fs.IsRemote = fs_failure fs.IsRemote

ends_sought : (place : Option ℕ) (file : Handle) → Ends IsFailure Any (sought place file)
ends_sought None file = ends_done tt
ends_sought (Some k) file = ends_ask (λ answer.
    ends_then (refused_as (λ e. unsatisfiable) answer) _ (asked_fails (λ e. unsatisfiable) (λ e. omega arith) answer) (λ moved any. ends_done tt))

pub ends_either : {E : DavError → Type 0} {A : Type 0} {P : A → Type 0} (b : Bool) (one other : MethodPlan A) → Ends E P one → Ends E P other → Ends E P (if b then one else other)
ends_either true one other is is' = is
ends_either false one other is is' = is'

ends_written : (file : Handle) (bytes : List ℕ) (now : ℕ) → Ends IsFailure Any (written file bytes now)
ends_written file bytes now = ends_either (length bytes == 0) (gives file) (ask_for (Write file bytes now)) (ends_done tt) (ends_ask (λ answer. ends_done (store_fails answer)))

stored_status : (b : Bool) → IsOtherStatus (if b then 204 else 201)
stored_status true same = absurd (omega (arith, same))
stored_status false same = absurd (omega (arith, same))

ends_store : (how : Opening) (place : Option ℕ) (p : Path) (bytes : List ℕ) (now : ℕ) (found : Bool) → Ends IsFailure AnswersOther (store how place p bytes now found)
ends_store how place p bytes now found = ends_ask (λ answer.
    ends_then (refused_as (open_error how) answer) _ (asked_fails (open_error how) (open_fails how) answer) (λ file any.
    ends_bind _ (ends_sought place file) (λ file any.
    ends_bind _ (ends_written file bytes now) (λ file any.
    ends_ask (λ answer. ends_then (refused_as dav.FsError answer) _ (store_fails answer) (λ done any. ends_ask (λ answer. ends_done (stored_status found))))))))

-- an error of a PUT or PATCH reports one
pub put_ends : (m : DavMethod) (h : PutHeaders) (p : Path) (who : Caller) (bytes : Option (List ℕ)) → is_reading m ≡ false → Ends IsFailure AnswersOther (put_body m h p who bytes)
put_ends m h p who None writes = ends_done (omega arith)
put_ends m h p who (Some bytes) writes =
    ends_bind _ (ends_put_allowed m h p who bytes writes) (λ allowed any. ends_store (put_opening h allowed.0) allowed.0.from p bytes who.moment allowed.1)

pub ends_put : (m : DavMethod) (h : PutHeaders) (p : Path) (who : Caller) (bytes : Option (List ℕ)) → is_reading m ≡ false → Ends IsOther AnswersOther (put_body m h p who bytes)
ends_put m h p who bytes writes = ends_other (put_ends m h p who bytes writes)

-- ---- MKCOL

create_other : (e : FsError) → IsOther (create_error e)
create_other fs.NotFound same = absurd (omega (arith, same))
create_other fs.Exists same = absurd (omega (arith, same))
create_other fs.NotImplemented same = fs_other fs.NotImplemented same
create_other fs.GeneralFailure same = fs_other fs.GeneralFailure same
create_other fs.Forbidden same = fs_other fs.Forbidden same
create_other fs.InsufficientStorage same = fs_other fs.InsufficientStorage same
create_other fs.LoopDetected same = fs_other fs.LoopDetected same
create_other fs.PathTooLong same = fs_other fs.PathTooLong same
create_other fs.TooLarge same = fs_other fs.TooLarge same
create_other fs.IsRemote same = fs_other fs.IsRemote same

pub ends_mkcol : (c : Conditions) (p : PathText) (who : Caller) → Ends IsOther AnswersOther (mkcol c p who)
ends_mkcol c p who =
    ends_bind _ (ends_ask (λ answer.
    ends_bind _ (ends_guarded dav.Status MkCol c (result_ok answer) (λ status other. other) refl) (λ tokens any.
    ends_member false (not (is_ok answer)) (requester who tokens) (names p) (dav.Status 423) (λ same. absurd (omega (arith, same)))))) (λ allowed any.
    ends_ask (λ answer. ends_then (refused_as create_error answer) _ (asked_other create_error create_other answer) (λ done any. ends_done (λ same. absurd (omega (arith, same))))))

-- ---- DELETE

-- a plan that no error ends
pub gives_ends : {E : DavError → Type 0} {A : Type 0} {P : A → Type 0} {plan : MethodPlan A} → Gives P plan → Ends E P plan
gives_ends (gives_done is) = ends_done is
gives_ends (gives_ask more) = ends_ask (λ answer. gives_ends (more answer))
gives_ends (gives_look more) = ends_look (λ ls. gives_ends (more ls))
gives_ends (gives_keep more) = ends_keep (gives_ends more)

-- what ends the locks at a path never fails
ends_deleted : {E : DavError → Type 0} (p : Path) (ls : Locks) → Ends E Any (set_by (deleted p) ls)
ends_deleted p None = ends_done tt
ends_deleted p (Some ls) = ends_keep (ends_done tt)

-- the reply to a DELETE has one of these statuses, where those of refusals and of its own are such
module _ (E : DavError → Type 0) (P : ℕ → Type 0) (refusal : (e : FsError) → P (fs_status e)) (conflict : P 409) (gone : P 204) (several : P 207) where
  abbrev AnswersBy : Reply → Type 0
  AnswersBy r = P r.status

  one_status : (b : Bool) (item : PathStatus) → P item.1 → P (if b then status_reply item.1 else multistatus_reply (item ∷ [])).status
  one_status true item is = is
  one_status false item is = several

  reported_status : (p : PathText) (faults : List Fault) → All (λ f. P (report_of f).1) faults → Outcome E AnswersBy (delete_reply p faults)
  reported_status p [] are = gone
  reported_status p (f ∷ []) are = one_status (are_equal (report_of f).0 p) (report_of f) (All-head (λ f. P (report_of f).1) f [] are)
  reported_status p (f ∷ g ∷ faults) are = several

  ends_dropped : (p : PathText) (faults : List Fault) → Ends E Any (drop_if_gone p faults)
  ends_dropped p [] = ends_look (λ ls. ends_deleted (names p) ls)
  ends_dropped p (f ∷ faults) = ends_done tt

  ends_delete_found : (deep : Bool) (c : Conditions) (p : PathText) (who : Caller) (found : DavMetaData) → Ends E Any (delete_allowed c p who found) → Ends E AnswersBy (delete_found deep c p who found)
  ends_delete_found deep c p who found allowed =
      ends_bind _ allowed (λ u any.
      ends_bind _ (gives_ends (gives_removal P refusal conflict deep who.moment p found.dir)) (λ faults are.
      ends_bind _ (ends_dropped p faults) (λ u any. ends_done (reported_status p faults are))))

  pub ends_deleting : (h : DeleteHeaders) (p : PathText) (who : Caller) → Outcome E Any (whole_depth h.depth) → ((answer : Result DavMetaData FsError) → Outcome E Any (refused_as dav.FsError answer))
      → ((q : PathText) (found : DavMetaData) → Ends E Any (delete_allowed h.conditions q who found)) → Ends E AnswersBy (delete h p who)
  ends_deleting h p who depth store allowed =
      ends_then (whole_depth h.depth) _ depth (λ deep any.
      ends_ask (λ answer. ends_then (refused_as dav.FsError answer) _ (store answer) (λ found any.
      ends_delete_found deep h.conditions (folder_path found.dir p) who found (allowed (folder_path found.dir p) found))))

depth_fails : (depth : Option Depth) → Outcome IsFailure Any (whole_depth depth)
depth_fails None = tt
depth_fails (Some Default) = tt
depth_fails (Some Zero) = tt
depth_fails (Some One) = omega arith
depth_fails (Some Infinity) = tt

depth_other : (depth : Option Depth) → Outcome IsOther Any (whole_depth depth)
depth_other depth = outcome_weaker (whole_depth depth) failure_other (λ a any. any) (depth_fails depth)

-- an error of a DELETE reports one
pub delete_ends : (h : DeleteHeaders) (p : PathText) (who : Caller) → Ends IsFailure AnswersOther (delete h p who)
delete_ends h p who =
    ends_deleting IsFailure IsOtherStatus fs_other (λ same. absurd (omega (arith, same))) (λ same. absurd (omega (arith, same))) (λ same. absurd (omega (arith, same)))
    h p who (depth_fails h.depth) store_fails (λ q found.
    ends_bind _ (guarded_ends dav.Status Delete h.conditions (Some found) (λ status above. above) refl) (λ tokens any.
    ends_member true true (requester who tokens) (names q) (dav.Status 423) (omega arith)))

pub ends_delete : (h : DeleteHeaders) (p : PathText) (who : Caller) → Ends IsOther AnswersOther (delete h p who)
ends_delete h p who = ends_other (delete_ends h p who)

-- ---- COPY and MOVE

-- no error ends a copy
module _ (E : DavError → Type 0) where
  ends_copy_seen : (walk : CopyWalk) (s d : PathText) (name : List ℕ) (rest : MethodPlan (List CopyFault)) (seen : Result DavMetaData FsError) → ((a b : PathText) → Ends E Any (walk a b)) → Ends E Any rest
      → Ends E Any (copy_seen walk s d name rest seen)
  ends_copy_seen walk s d name rest (Err e) walks more = ends_done tt
  ends_copy_seen walk s d name rest (Ok m) walks more = ends_bind _ (walks (child_of s name m.dir) (child_of d name m.dir)) (λ faults any. ends_bind _ more (λ others any. ends_done tt))

  ends_copy_members : (walk : CopyWalk) (s d : PathText) (entries : List (List ℕ × Bool)) → ((a b : PathText) → Ends E Any (walk a b)) → Ends E Any (copy_members walk s d entries)
  ends_copy_members walk s d [] walks = ends_done tt
  ends_copy_members walk s d (entry ∷ entries) walks = ends_ask (λ seen. ends_copy_seen walk s d entry.0 (copy_members walk s d entries) seen walks (ends_copy_members walk s d entries walks))

  ends_copy_listed : (walk : CopyWalk) (s d : PathText) (listed : Result (List (List ℕ × Bool)) FsError) → ((a b : PathText) → Ends E Any (walk a b)) → Ends E Any (copy_listed walk s d listed)
  ends_copy_listed walk s d (Err e) walks = ends_done tt
  ends_copy_listed walk s d (Ok entries) walks = ends_copy_members walk s d entries walks

  ends_copy_inside : (walk : CopyWalk) (s d : PathText) (made : Result (Unit {0}) FsError) → ((a b : PathText) → Ends E Any (walk a b)) → Ends E Any (copy_inside walk s d made)
  ends_copy_inside walk s d (Err e) walks = ends_done tt
  ends_copy_inside walk s d (Ok made) walks = ends_ask (λ listed. ends_copy_listed walk s d listed walks)

  ends_copy_kind : (deep dir : Bool) (walk : CopyWalk) (now : ℕ) (s d : PathText) → ((a b : PathText) → Ends E Any (walk a b)) → Ends E Any (copy_kind deep dir walk now s d)
  ends_copy_kind true true walk now s d walks = ends_ask (λ made. ends_copy_inside walk s d made walks)
  ends_copy_kind false true walk now s d walks = ends_ask (λ made. ends_done tt)
  ends_copy_kind deep false walk now s d walks = ends_ask (λ copied. ends_done tt)

  ends_copy_looked : (deep : Bool) (walk : CopyWalk) (now : ℕ) (s d : PathText) (found : Result DavMetaData FsError) → ((a b : PathText) → Ends E Any (walk a b)) → Ends E Any (copy_looked deep walk now s d found)
  ends_copy_looked deep walk now s d (Err e) walks = ends_done tt
  ends_copy_looked deep walk now s d (Ok m) walks = ends_copy_kind deep m.dir walk now s d walks

  ends_copy : (room : ℕ) (deep : Bool) (now : ℕ) (top s d : PathText) → Ends E Any (copy_walk room deep now top s d)
  ends_copy zero deep now top s d = ends_done tt
  ends_copy (suc room) deep now top s d = ends_either (are_equal s top) _ _ (ends_done tt) (ends_ask (λ found. ends_copy_looked deep _ now s d found (λ a b. ends_copy room deep now top a b)))

  ends_moved : (p : PathText) (faults : List CopyFault) → Ends E Any (drop_if_moved p faults)
  ends_moved p [] = ends_look (λ ls. ends_deleted (names p) ls)
  ends_moved p (f ∷ faults) = ends_done tt

  ends_brought : (moves deep : Bool) (now : ℕ) (p d : PathText) → Ends E Any (transfer moves deep now p d)
  ends_brought true deep now p d = ends_ask (λ moved. ends_bind _ (ends_moved p _) (λ u any. ends_done tt))
  ends_brought false deep now p d = ends_copy (room_at p) deep now d p d

  ends_drop_if : (b : Bool) (p : PathText) → Ends E Any (drop_if b p)
  ends_drop_if true p = ends_look (λ ls. ends_deleted (names p) ls)
  ends_drop_if false p = ends_done tt

-- the reply to a COPY or MOVE has one of these statuses, where those of refusals and of its own are such
module _ (E : DavError → Type 0) (P : ℕ → Type 0) (refusal : (e : FsError) → P (fs_status e)) (conflict : P 409) (gone : P 204) (made : P 201) (several : P 207) where
  abbrev Brings : Reply → Type 0
  Brings r = P r.status

  one_told : (b : Bool) (item : PathStatus) → P item.1 → P (if b then status_reply item.1 else multistatus_reply (item ∷ [])).status
  one_told true item is = is
  one_told false item is = several

  cleared_told : (p : PathText) (f : Fault) (faults : List Fault) → P (report_of f).1 → Outcome E Brings (multi_reply p (map report_of (f ∷ faults)))
  cleared_told p f [] is = one_told (are_equal (report_of f).0 p) (report_of f) is
  cleared_told p f (g ∷ faults) is = several

  copied_told : (p : PathText) (status : ℕ) → P status → (faults : List CopyFault) → Outcome E Brings (copy_reply p status faults)
  copied_told p status is [] = is
  copied_told p status is (f ∷ []) = one_told (are_equal f.0 p) (copy_report f) (refusal f.1)
  copied_told p status is (f ∷ g ∷ faults) = several

  brought_status : (b : Bool) → P (if b then 204 else 201)
  brought_status true = gone
  brought_status false = made

  ends_clearing : (deep : Bool) (now : ℕ) (d : PathText) (there : Option DavMetaData) → Ends E (All (λ (f : Fault). P (report_of f).1)) (clearing deep now d there)
  ends_clearing deep now d there =
      ends_either (is_replaced deep there) _ _ (gives_ends (gives_removal P refusal conflict true now d (is_folder_found there))) (ends_done (All-nil (λ (f : Fault). P (report_of f).1)))

  ends_bring : (moves deep : Bool) (now : ℕ) (p d : PathText) (there : Option DavMetaData) (faults : List Fault) → All (λ (f : Fault). P (report_of f).1) faults → Ends E Brings (transfer_if_cleared moves deep now p d there faults)
  ends_bring moves deep now p d there (f ∷ faults) are = ends_done (cleared_told p f faults (All-head (λ (f : Fault). P (report_of f).1) f faults are))
  ends_bring moves deep now p d there [] are =
      ends_bind _ (ends_drop_if E (is_replaced deep there) d) (λ u any.
      ends_bind _ (ends_brought E moves deep now p d) (λ faults any. ends_done (copied_told p (copied_status there) (brought_status (is_some there)) faults)))

  ends_after : (moves deep : Bool) (now : ℕ) (p d : PathText) (there : Option DavMetaData) → Ends E Brings (clearing deep now d there >>= (λ faults. transfer_if_cleared moves deep now p d there faults))
  ends_after moves deep now p d there = ends_bind _ (ends_clearing deep now d there) (λ faults are. ends_bring moves deep now p d there faults are)

  pub ends_copying : (m : DavMethod) (h : CopyHeaders) (p : PathText) (who : Caller) → Outcome E Any (copy_depth (is_move m) h.depth) → Outcome E Any h.destination → ((answer : Result DavMetaData FsError) → Outcome E Any (refused_as dav.FsError answer))
      → ((deep : Bool) (q d : PathText) (found : DavMetaData) → Ends E Any (copy_allowed m deep h q d who found)) → Ends E Brings (copy_or_move m h p who)
  ends_copying m h p who depth destination store allowed =
      ends_then (copy_depth (is_move m) h.depth) _ depth (λ deep any.
      ends_then h.destination _ destination (λ d any.
      ends_ask (λ answer. ends_then (refused_as dav.FsError answer) _ (store answer) (λ found any.
      ends_bind _ (allowed deep (folder_path found.dir p) d found) (λ there any. ends_after (is_move m) deep who.moment (folder_path found.dir p) d there)))))

copy_depth_fails : (moves : Bool) (depth : Option Depth) → Outcome IsFailure Any (copy_depth moves depth)
copy_depth_fails true None = tt
copy_depth_fails true (Some Default) = tt
copy_depth_fails true (Some Zero) = omega arith
copy_depth_fails true (Some One) = omega arith
copy_depth_fails true (Some Infinity) = tt
copy_depth_fails false depth = depth_fails depth

path_fails : (e : ParseError) → e ≢ parse.Memory → IsFailure (path_error e)
path_fails parse.InvalidPath known = omega arith
path_fails parse.PrefixMismatch known = omega arith
path_fails parse.ForbiddenPath known = omega arith
path_fails parse.Memory known = absurd (known refl)

place_fails : {prefix : List ℕ} {values : List FieldValue} {r : Result PathText DavError} → DestinationNames prefix values r → Outcome IsFailure Any r
place_fails (absent none) = omega arith
place_fails (unreadable text {e} is refused known) = path_fails e known
place_fails (outside text bytes is reads none) = omega arith
place_fails (inside text bytes is reads cut) = tt

ends_source : (b : Bool) (who : Caller) (tokens : List (List ℕ)) (p : PathText) → Ends IsFailure Any (source_free b who tokens p)
ends_source true who tokens p = ends_free true (requester who tokens) (names p) (dav.Status 423) (omega arith)
ends_source false who tokens p = ends_done tt

ends_place : (overwrite : Option Bool) (d : PathText) → Ends IsFailure Any (destination_found overwrite d)
ends_place overwrite d = ends_ask (λ above.
    ends_bind _ (ends_require (is_folder_found (result_ok above)) (dav.Status 409) (omega arith)) (λ u any.
    ends_ask (λ there. ends_bind _ (ends_require (unwrap_or overwrite true || not (is_ok there)) (dav.Status 412) (omega arith)) (λ u any. ends_done tt))))

ends_copy_allowed : (m : DavMethod) (deep : Bool) (h : CopyHeaders) (p d : PathText) (who : Caller) (found : DavMetaData) → is_reading m ≡ false → Ends IsFailure Any (copy_allowed m deep h p d who found)
ends_copy_allowed m deep h p d who found writes =
    ends_bind _ (ends_place h.overwrite d) (λ there any.
    ends_bind _ (ends_require (not (is_at_or_under (names p) (names d))) (dav.Status 403) (omega arith)) (λ u any.
    ends_bind _ (ends_bind _ (guarded_ends dav.Status m h.conditions (Some found) (λ status above. above) writes) (λ tokens any.
    ends_bind _ (ends_bind _ (ends_source (is_move m) who tokens p) (λ u any. ends_free true (requester who tokens) (names d) (dav.Status 423) (omega arith))) (λ u any.
    ends_bind _ (ends_parent (is_move m) (requester who tokens) (names p) (dav.Status 423) (omega arith)) (λ u any.
    ends_parent (changes_members (is_move m) deep there) (requester who tokens) (names d) (dav.Status 423) (omega arith))))) (λ u any. ends_done tt)))

-- an error of a COPY or MOVE reports one
pub copymove_ends : (m : DavMethod) (headers : Headers) (h : CopyHeaders) (p : PathText) (who : Caller) → is_reading m ≡ false → AreCopyHeaders headers p h → Ends IsFailure AnswersOther (copy_or_move m h p who)
copymove_ends m headers h p who writes are =
    ends_copying IsFailure IsOtherStatus fs_other (λ same. absurd (omega (arith, same))) (λ same. absurd (omega (arith, same))) (λ same. absurd (omega (arith, same))) (λ same. absurd (omega (arith, same)))
    m h p who (copy_depth_fails (is_move m) h.depth) (place_fails are.destination) store_fails (λ deep q d found. ends_copy_allowed m deep h q d who found writes)

pub ends_copymove : (m : DavMethod) (headers : Headers) (h : CopyHeaders) (p : PathText) (who : Caller) → is_reading m ≡ false → AreCopyHeaders headers p h → Ends IsOther AnswersOther (copy_or_move m h p who)
ends_copymove m headers h p who writes are = ends_other (copymove_ends m headers h p who writes are)

-- ---- LOCK

-- the reply to a LOCK has one of these statuses, where its errors are such
module _ (E : DavError → Type 0) (P : ℕ → Type 0) (found_there : P 200) (created : P 201) (absent : E (dav.Status 405)) (conflict : E (dav.Status 423)) (unmeant : E (dav.Status 412))
    (empty : (how : Opening) (e : FsError) → E (empty_error how e)) where
  abbrev Locked : Reply → Type 0
  Locked r = P r.status

  ends_grant : (new : Lock) (ls : Locks) → Ends E Any (grant_in new ls)
  ends_grant new None = ends_done absent
  ends_grant new (Some ls) = ends_either _ _ _ (ends_keep (ends_done tt)) (ends_done conflict)

  ends_back : (token : List ℕ) (p : Path) (ls : Locks) → Ends E Any (set_by (taken_back token p) ls)
  ends_back token p None = ends_done tt
  ends_back token p (Some ls) = ends_keep (ends_done tt)

  ends_opened : (how : Opening) (token : List ℕ) (p : Path) (opened : Result Handle FsError) → Ends E Any (create_or_unlock how token p opened)
  ends_opened how token p (Ok file) = ends_done tt
  ends_opened how token p (Err e) = ends_look (λ ls. ends_bind _ (ends_back token p ls) (λ u any. ends_done (empty how e)))

  ends_empty : (how : Opening) (token : List ℕ) (p : Path) (now : ℕ) (found : Option DavMetaData) → Ends E Any (make_empty how token p now found)
  ends_empty how token p now (Some found) = ends_done tt
  ends_empty how token p now None = ends_ask (λ opened. ends_opened how token p opened)

  granted_status : (b : Bool) → P (if b then 200 else 201)
  granted_status true = found_there
  granted_status false = created

  ends_new : (h : LockHeaders) (p : PathText) (location : List Header) (content : Body) (who : Caller) (found : Option DavMetaData) → Ends E Any (asked_lock h p content who found) → Ends E Locked (lock_new h p location content who found)
  ends_new h p location content who found asked =
      ends_bind _ asked (λ new any. ends_look (λ ls. ends_bind _ (ends_grant new ls) (λ u any.
      ends_bind _ (ends_empty (empty_opening h.conditions) new.token (names p) who.moment found) (λ u any. ends_done (granted_status (is_some found))))))

  ends_refreshed : (l : Option Lock) (left : Option (List Lock)) → Ends E Any (keep_refreshed l left)
  ends_refreshed None left = ends_done unmeant
  ends_refreshed (Some l) None = ends_done unmeant
  ends_refreshed (Some l) (Some ls) = ends_keep (ends_done tt)

  ends_refresh : (token : List ℕ) (p : Path) (timeout : Option ℕ) (now : ℕ) (ls : Locks) → Ends E Any (refresh_in token p timeout now ls)
  ends_refresh token p timeout now None = ends_done absent
  ends_refresh token p timeout now (Some ls) = ends_refreshed _ _

  ends_again : (h : LockHeaders) (p : PathText) (location : List Header) (who : Caller) → Ends E Any (token_to_refresh h (names p) who) → Ends E Locked (lock_again h p location who)
  ends_again h p location who meant =
      ends_bind _ meant (λ token any. ends_look (λ ls. ends_bind _ (ends_refresh token (names p) (refreshed_for h.timeout) who.moment ls) (λ l any. ends_done found_there)))

  ends_locked : (h : LockHeaders) (p : PathText) (content : Body) (who : Caller) (found : Option DavMetaData)
      → ((q : PathText) → Ends E Any (asked_lock h q content who found)) → ((q : PathText) → Ends E Any (token_to_refresh h (names q) who)) → Ends E Locked (lock_found h p content who found)
  ends_locked h p content who found asked meant =
      ends_either (is_absent content) _ _ (ends_again h (path_found found p) (location_found found p) who (meant (path_found found p)))
      (ends_new h (path_found found p) (location_found found p) content who found (asked (path_found found p)))

  pub ends_locking : (h : LockHeaders) (p : PathText) (content : Body) (who : Caller)
      → ((q : PathText) (found : Option DavMetaData) → Ends E Any (asked_lock h q content who found)) → ((q : PathText) → Ends E Any (token_to_refresh h (names q) who)) → Ends E Locked (lock h p content who)
  ends_locking h p content who asked meant =
      ends_look (λ ls. ends_bind _ (ends_require (has_locks ls) (dav.Status 405) absent) (λ u any.
      ends_ask (λ answer. ends_locked h p content who (result_ok answer) (λ q. asked q (result_ok answer)) meant)))

ends_status : (status : Option ℕ) → Fails status → Ends IsOther Any (unless_status status)
ends_status None fails = ends_done tt
ends_status (Some status) fails = ends_done (failure_other (dav.Status status) fails)

required_other : {A : Type 0} (o : Option A) (e : DavError) → IsOther e → Outcome IsOther Any (required o e)
required_other None e other = other
required_other (Some a) e other = tt

verdict_fails : (c : Conditions) (found : Option DavMetaData) (verdict : Option ℕ) → (verdict ≡ http_conditions LockMethod c.if_match c.if_none_match found) ⊎ (verdict ≡ Some 412) → Fails verdict
verdict_fails c found verdict (inl is) = subst Fails (sym is) (writes_fail LockMethod c.if_match c.if_none_match found refl)
verdict_fails c found verdict (inr is) = subst Fails (sym is) precondition

ends_asked : (h : LockHeaders) (p : PathText) (content : Body) (who : Caller) (found : Option DavMetaData) → Ends IsOther Any (asked_lock h p content who found)
ends_asked h p content who found =
    ends_then (whole_depth h.depth) _ (depth_other h.depth) (λ deep any.
    ends_bind _ (conditions_end LockMethod h.conditions found) (λ verdict is.
    ends_bind _ (ends_status verdict (verdict_fails h.conditions found verdict is)) (λ u any.
    ends_then (required (lock_info content) dav.XmlParseError) _ (required_other (lock_info content) dav.XmlParseError (λ same. absurd (omega (arith, same)))) (λ info any.
    ends_then (required who.token (dav.Status 500)) _ (required_other who.token (dav.Status 500) (λ same. absurd (omega (arith, same)))) (λ token any.
    ends_bind _ (ends_parent (is_none found) (requester who (submitted h.conditions.lists)) (names p) (dav.Status 423) (λ same. absurd (omega (arith, same)))) (λ u any. ends_done tt))))))

one_other : (tokens : List (List ℕ)) → Outcome IsOther Any (one_token tokens)
one_other [] = λ same. absurd (omega (arith, same))
one_other (token ∷ []) = tt
one_other (token ∷ other ∷ tokens) = λ same. absurd (omega (arith, same))

ends_meant : (h : LockHeaders) (p : Path) (who : Caller) → Ends IsOther Any (token_to_refresh h p who)
ends_meant h p who =
    ends_bind {P = λ said. ⊤} _ (ends_bind _ (ends_if h.conditions.lists) (λ holds any. ends_done tt)) (λ said any.
    ends_then (one_token said.1) _ (one_other said.1) (λ token any.
    ends_bind _ (ends_free false (requester who (token ∷ [])) p (dav.Status 412) (λ same. absurd (omega (arith, same)))) (λ u any. ends_done tt)))

empty_other : (how : Opening) (e : FsError) → IsOther (empty_error how e)
empty_other how fs.NotFound = failure_other (dav.Status _) (missing_fails (not how.create || how.create_new))
empty_other how fs.Exists = failure_other (dav.Status _) (missing_fails (not how.create || how.create_new))
empty_other how fs.NotImplemented = fs_other fs.NotImplemented
empty_other how fs.GeneralFailure = fs_other fs.GeneralFailure
empty_other how fs.Forbidden = fs_other fs.Forbidden
empty_other how fs.InsufficientStorage = fs_other fs.InsufficientStorage
empty_other how fs.LoopDetected = fs_other fs.LoopDetected
empty_other how fs.PathTooLong = fs_other fs.PathTooLong
empty_other how fs.TooLarge = fs_other fs.TooLarge
empty_other how fs.IsRemote = fs_other fs.IsRemote

pub ends_lock : (h : LockHeaders) (p : PathText) (content : Body) (who : Caller) → Ends IsOther AnswersOther (lock h p content who)
ends_lock h p content who =
    ends_locking IsOther IsOtherStatus (λ same. absurd (omega (arith, same))) (λ same. absurd (omega (arith, same))) (λ same. absurd (omega (arith, same))) (λ same. absurd (omega (arith, same)))
    (λ same. absurd (omega (arith, same))) empty_other h p content who (λ q found. ends_asked h q content who found) (λ q. ends_meant h (names q) who)

-- ---- OPTIONS

pub ends_options : (allowed : ℕ) (p : PathText) → Ends IsOther AnswersOther (options allowed p)
ends_options allowed p = ends_ask (λ answer. ends_look (λ ls. ends_done (λ same. absurd (omega (arith, same)))))

-- ---- UNLOCK

ends_left : (left : Option (List Lock)) → Ends IsOther Any (keep_left left)
ends_left None = ends_done (λ same. absurd (omega (arith, same)))
ends_left (Some ls) = ends_keep (ends_done tt)

ends_in : (token : List ℕ) (p : Path) (ls : Locks) → Ends IsOther Any (end_in token p ls)
ends_in token p None = ends_done (λ same. absurd (omega (arith, same)))
ends_in token p (Some ls) = ends_left (unlocked token p ls)

ends_said : (token : Option (List ℕ)) (p : PathText) → Ends IsOther AnswersOther (Done (required token (dav.Status 400)) >>= (λ said. end_lock p said))
ends_said None p = ends_done (λ same. absurd (omega (arith, same)))
ends_said (Some token) p =
    ends_ask (λ found. ends_look (λ ls. ends_bind _ (ends_in token (names p) ls) (λ ended any. ends_done (λ same. absurd (omega (arith, same))))))

pub ends_unlock : (token : Option (List ℕ)) (p : PathText) → Ends IsOther AnswersOther (unlock token p)
ends_unlock token p = ends_look (λ ls. ends_bind _ (ends_require (has_locks ls) (dav.Status 405) (λ same. absurd (omega (arith, same)))) (λ u any. ends_said token p))

-- ---- GET and HEAD, where the conditions hold

ends_show : (p : Path) (now : ℕ) (file : DavMetaData) → Ends IsOther AnswersOther (show p now file)
ends_show p now file = ends_ask (λ answer. ends_then (refused_as dav.FsError answer) _ (store_other answer) (λ handle any.
    ends_ask (λ answer. ends_then (refused_as dav.FsError answer) _ (store_other answer) (λ bytes any. ends_done (λ same. absurd (omega (arith, same)))))))

pub ends_show_or_tell : (m : DavMethod) (p : Path) (now : ℕ) (file : DavMetaData) → Ends IsOther AnswersOther (show_or_tell m p now file)
ends_show_or_tell Head p now file = ends_done (λ same. absurd (omega (arith, same)))
ends_show_or_tell _ p now file = ends_show p now file

-- the status of such an outcome isn't 304
pub other_status : (outcome : Result Reply DavError) → Outcome IsOther AnswersOther outcome → (reply_to outcome).status ≢ 304
other_status (Ok r) is = is
other_status (Err e) is = is
