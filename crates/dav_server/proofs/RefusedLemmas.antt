-- A request that is answered 412, 416 or 423 leaves everything: after the file was opened, or the folder made, no such status comes, but 416
-- where the store refuses to seek.
use Rattle.std.proofs.Common.{◌≡◌, ◌≢◌, ◌⊎◌, inl, inr, ℕ, ◌==◌, Bool, true, false, if◌then◌else◌, length, List, codes, Option, Some, None, Result, Ok, Err, refl, ap, subst, ◌∙◌, arith}
use Rattle.dav_core.specs.declared.errors.FsError.{FsError}
use Rattle.dav_core.specs.declared.errors.FsError.TheVariants as fs
use Rattle.dav_core.specs.declared.errors.DavError.{DavError}
use Rattle.dav_core.specs.declared.errors.DavError.TheVariants as dav
use Rattle.dav_core.specs.declared.method.DavMethod.{DavMethod}
use Rattle.dav_core.specs.declared.method.DavMethod.TheVariants.{Get, Head, Put, Patch, Copy, Move, PropPatch, Lock as LockMethod}
use Rattle.std.specs.Bool.{⊤}
use Rattle.std.specs.Result.{result_ok}
use Rattle.http_header.specs.HeaderMap.{get_all}
use Rattle.dav_core.specs.Asking.{Call, Open, CreateDir, Write, Flush, FileMetadata, meaning, StoreState, Asks as Asking}
use Rattle.dav_core.specs.Handle.{Handle, Opening}
use Rattle.dav_core.specs.Locks.{Lock, unlocked}
use Rattle.dav_core.specs.Path.{Path, PathText, names}
use Rattle.dav_core.specs.Status.{dav_status, fs_status}
use Rattle.dav_core.specs.World.{World}
use Rattle.dav_headers.specs.ETagList.{IsTagList, star as every_tag}
use Rattle.dav_engine.specs.declared.request.Body.{Body}
use Rattle.dav_engine.specs.declared.methods.put.headers.Writing.{Writing}
use Rattle.dav_engine.specs.Caller.{Caller, requester}
use Rattle.dav_engine.specs.Conditions.{Conditions}
use Rattle.dav_engine.specs.Headers.{Headers}
use Rattle.dav_engine.specs.Lock.{lock, IsLock, is_lock}
use Rattle.dav_engine.specs.LockHeaders.{LockHeaders}
use Rattle.dav_engine.specs.LockLaws.{IsUnused, IsRefusedFile}
use Rattle.dav_engine.specs.Method.{MethodPlan, then as followed_by, ◌>>=◌, gives, answer_of, ask_for, ask_or, refused_as, required, has_locks}
use Rattle.dav_engine.specs.CopyMove.{CopyHeaders, is_move, copy_depth, copy_or_move, is_copy_move}
use Rattle.dav_engine.specs.Delete.{DeleteHeaders, whole_depth, delete, is_delete}
use Rattle.dav_engine.specs.Mkcol.{mkcol_allowed, create_error, made, is_mkcol}
use Rattle.dav_engine.specs.Plan.{Locks, Done, Ran, ran_ask, ServerState}
use Rattle.dav_engine.specs.Put.{PutHeaders, put_opening, open_error, sought, written, stored, store, put_allowed, put, put_body, bytes_of_body, is_put}
use Rattle.dav_engine.specs.RefusedCalls.{RanRefused, refused_now, refused_later, opens_file, seeks_place}
use Rattle.dav_engine.specs.Reply.{Reply, reply_to}
use Rattle.dav_engine.specs.Unlock.{keep_left, end_in, end_lock, unlock, IsUnlock, is_unlock}
use Rattle.dav_engine.specs.WorldLaws.{reads_done}
use Rattle.dav_engine.specs.Proppatch.{proppatch, IsProppatch, is_proppatch}
use Rattle.dav_server.proofs.PropertyStatuses.{ends_patching}
use Rattle.dav_engine.proofs.Theorems.{Did, stays, means, did, only_guarded, only_free, only_copy_allowed, refused_copymove_leaves_all, look_reads, only_put_allowed, only_mkcol_allowed, only_delete_allowed, only_require, Only, only_done, only_ask, only_look, only_reads, reading_leaves, ran_split, ran_outcome, answered_or_refused, refused_behind, unrefused_lock_leaves_all, only_asked, only_token, options_only_reads, refused_delete_leaves_all, refused_lock_leaves_all, refused_unlock_leaves_all, propfind_only_reads, refused_proppatch_leaves_all}
use Rattle.dav_server.specs.Get.{is_get}
use Rattle.dav_server.specs.Head.{Request, IsHead}
use Rattle.dav_server.specs.Headers.{headers_of}
use Rattle.dav_server.specs.Leaving.{IsWriteRequest, WasRefused, TakesNothingBack, RefusedLeaves}
use Rattle.dav_server.specs.Machine.{Settings, Exchange, caller, PlanOf, gets, heads, puts, patches, makes, deletes, copies, moves, offers, finds_properties, sets_properties, locks, releases, MeansOf, not_allowed, no_path, no_body, method, no_head, no_method, known, Means, Steps, steps, step_refused}
use Rattle.dav_server.specs.Method.{GivesServed}
use Rattle.dav_server.specs.WriteLaws.{IsRefusedStatus, IsLockRequest}
use Rattle.dav_server.proofs.GetWorld.{get_is_reading}
use Rattle.dav_server.proofs.PlanStatuses.{Outcome, Any, Ends, ends_done, ends_ask, ends_look, ends_keep, ends_then, ends_bind, ends_either, ends_deleting, ends_copying, ends_locking, ran_ends}

-- ---- statuses that come after a change

-- the status is 412, 423 or 416
abbrev IsEarly : ℕ → Type 0
IsEarly status = IsRefusedStatus status ⊎ (status ≡ 416)

abbrev Later : ℕ → Type 0
Later status = (status ≢ 412) × (status ≢ 423) × (status ≢ 416)

not_early : (status : ℕ) → Later status → ¬ IsEarly status
not_early status later (inl (inl is)) = later.0 is
not_early status later (inl (inr is)) = later.1 is
not_early status later (inr is) = later.2 is

abbrev LaterError : DavError → Type 0
LaterError e = Later (dav_status e)

abbrev LaterReply : Reply → Type 0
LaterReply r = Later r.status

later_fs : (e : FsError) → Later (fs_status e)
later_fs fs.NotImplemented = (λ same. absurd (omega (arith, same)), λ same. absurd (omega (arith, same)), λ same. absurd (omega (arith, same)))
later_fs fs.GeneralFailure = (λ same. absurd (omega (arith, same)), λ same. absurd (omega (arith, same)), λ same. absurd (omega (arith, same)))
later_fs fs.Exists = (λ same. absurd (omega (arith, same)), λ same. absurd (omega (arith, same)), λ same. absurd (omega (arith, same)))
later_fs fs.NotFound = (λ same. absurd (omega (arith, same)), λ same. absurd (omega (arith, same)), λ same. absurd (omega (arith, same)))
later_fs fs.Forbidden = (λ same. absurd (omega (arith, same)), λ same. absurd (omega (arith, same)), λ same. absurd (omega (arith, same)))
later_fs fs.InsufficientStorage = (λ same. absurd (omega (arith, same)), λ same. absurd (omega (arith, same)), λ same. absurd (omega (arith, same)))
later_fs fs.LoopDetected = (λ same. absurd (omega (arith, same)), λ same. absurd (omega (arith, same)), λ same. absurd (omega (arith, same)))
later_fs fs.PathTooLong = (λ same. absurd (omega (arith, same)), λ same. absurd (omega (arith, same)), λ same. absurd (omega (arith, same)))
later_fs fs.TooLarge = (λ same. absurd (omega (arith, same)), λ same. absurd (omega (arith, same)), λ same. absurd (omega (arith, same)))
later_fs fs.IsRemote = (λ same. absurd (omega (arith, same)), λ same. absurd (omega (arith, same)), λ same. absurd (omega (arith, same)))

later_asked : {A : Type 0} (g : FsError → DavError) → ((e : FsError) → LaterError (g e)) → (answer : Result A FsError) → Outcome LaterError Any (refused_as g answer)
later_asked g later (Ok a) = tt
later_asked g later (Err e) = later e

later_store : {A : Type 0} (answer : Result A FsError) → Outcome LaterError Any (refused_as dav.FsError answer)
later_store answer = later_asked dav.FsError later_fs answer

later_written : (file : Handle) (bytes : List ℕ) (now : ℕ) → Ends LaterError Any (written file bytes now)
later_written file bytes now = ends_either (length bytes == 0) (gives file) (ask_for (Write file bytes now)) (ends_done tt) (ends_ask (λ answer. ends_done (later_store answer)))

later_stored : (b : Bool) → Later (if b then 204 else 201)
later_stored true = (λ same. absurd (omega (arith, same)), λ same. absurd (omega (arith, same)), λ same. absurd (omega (arith, same)))
later_stored false = (λ same. absurd (omega (arith, same)), λ same. absurd (omega (arith, same)), λ same. absurd (omega (arith, same)))

not_later : (outcome : Result Reply DavError) → Outcome LaterError LaterReply outcome → ¬ IsEarly (reply_to outcome).status
not_later (Ok r) later is = not_early r.status later is
not_later (Err e) later is = not_early (dav_status e) later is

-- ---- the call that makes the first change

abbrev Same : StoreState → Locks → StoreState → Locks → Type 0
Same old ls new ms = (new.world ≡ old.world) × (ms ≡ ls)

-- where it is refused the plan ends; where it isn't, none of these statuses comes
first_change : {A : Type 0} (w : World) (m : Result (A × World) FsError) (g : FsError → DavError) (answer : Result A FsError) (f : A → MethodPlan Reply) (mid : StoreState) {new : StoreState} {ls ms : Locks} (outcome : Result Reply DavError)
    → ((a : A) → Ends LaterError LaterReply (f a)) → Did m w answer mid.world → IsEarly (reply_to outcome).status
    → Ran Asking (followed_by (refused_as g answer) f) mid ls outcome new ms → (new.world ≡ w) × (ms ≡ ls)
first_change w m g (Ok a) f mid outcome later done refused ran = absurd (not_later outcome (ran_ends (later a) ran) refused)
first_change w m g (Err e) f mid outcome later (stays d is same) refused ran =
    let (world, stay) = reading_leaves reads_done ran in
    (world ∙ same, stay)
first_change w m g (Err e) f mid outcome later (means r h is same) refused ran = absurd (cc)

unchanged : {A : Type 0} {m : Result (A × World) FsError} {w v : World} {e : FsError} → Did m w (Err e) v → v ≡ w
unchanged (stays d is same) = same
unchanged (means r h is same) = absurd (cc)

-- ---- PUT and PATCH

-- all is left, or the store refused to seek
abbrev SameOrSought : MethodPlan Reply → StoreState → Locks → Result Reply DavError → StoreState → Locks → Type 0
SameOrSought plan old ls outcome new ms = Same old ls new ms ⊎ (((reply_to outcome).status ≡ 416) × RanRefused seeks_place plan old ls outcome new ms)

-- the bytes are written and flushed, and the file is asked for its tag
abbrev finishing : Path → List ℕ → ℕ → Bool → Handle → MethodPlan Reply
finishing p bytes now found file = do
  file ← written file bytes now
  _ ← ask_for (Flush file)
  after ← answer_of (FileMetadata file)
  gives (stored found (result_ok after))

later_finishing : (p : Path) (bytes : List ℕ) (now : ℕ) (found : Bool) (file : Handle) → Ends LaterError LaterReply (finishing p bytes now found file)
later_finishing p bytes now found file =
    ends_bind _ (later_written file bytes now) (λ file any.
    ends_ask (λ answer. ends_then (refused_as dav.FsError answer) _ (later_store answer) (λ done any. ends_ask (λ answer. ends_done (later_stored found)))))

-- once the file is open, such a status comes from a refused seek alone
seeks : (place : Option ℕ) (p : Path) (bytes : List ℕ) (now : ℕ) (found : Bool) (file : Handle) (outcome : Result Reply DavError) {old new : StoreState} {ls ms : Locks}
    → IsEarly (reply_to outcome).status → Ran Asking (sought place file >>= finishing p bytes now found) old ls outcome new ms
    → ((reply_to outcome).status ≡ 416) × RanRefused seeks_place (sought place file >>= finishing p bytes now found) old ls outcome new ms
seeks None p bytes now found file outcome early ran = absurd (not_later outcome (ran_ends (later_finishing p bytes now found file) ran) early)
seeks (Some k) p bytes now found file outcome early (ran_ask {answer = Ok moved} one rest) = absurd (not_later outcome (ran_ends (later_finishing p bytes now found moved.1) rest) early)
seeks (Some k) p bytes now found file outcome early (ran_ask {answer = Err e} one rest) =
    (ap (λ (o : Result Reply DavError). (reply_to o).status) (ran_outcome rest), refused_now refl one rest)

opened_leaves : (how : Opening) (place : Option ℕ) (p : Path) (bytes : List ℕ) (now : ℕ) (found : Bool) (answer : Result Handle FsError) (outcome : Result Reply DavError) {old mid new : StoreState} {ls ms : Locks}
    → IsEarly (reply_to outcome).status → Asking (Open p how now) old answer mid
    → Ran Asking (followed_by (refused_as (open_error how) answer) (λ file. sought place file >>= finishing p bytes now found)) mid ls outcome new ms
    → SameOrSought (store how place p bytes now found) old ls outcome new ms
opened_leaves how place p bytes now found (Ok file) outcome early one rest =
    let (status, refused) = seeks place p bytes now found file outcome early rest in
    inr (status, refused_later one refused)
opened_leaves how place p bytes now found (Err e) outcome early one rest =
    let (world, stay) = reading_leaves reads_done rest in
    inl (world ∙ unchanged (did one), stay)

store_leaves : (how : Opening) (place : Option ℕ) (p : Path) (bytes : List ℕ) (now : ℕ) (found : Bool) (outcome : Result Reply DavError) {old new : StoreState} {ls ms : Locks}
    → IsEarly (reply_to outcome).status → Ran Asking (store how place p bytes now found) old ls outcome new ms → SameOrSought (store how place p bytes now found) old ls outcome new ms
store_leaves how place p bytes now found outcome early (ran_ask {answer = answer} one rest) = opened_leaves how place p bytes now found answer outcome early one rest

abbrev storing : PutHeaders → Path → Caller → List ℕ → Writing × Bool → MethodPlan Reply
storing h p who bytes allowed = store (put_opening h allowed.0) allowed.0.from p bytes who.moment allowed.1

put_leaves : (m : DavMethod) (h : PutHeaders) (p : Path) (who : Caller) (bytes : List ℕ) (checked : Result (Writing × Bool) DavError) (outcome : Result Reply DavError) {old mid new : StoreState} {ls ks ms : Locks}
    → IsEarly (reply_to outcome).status → Ran Asking (put_allowed m h p who bytes) old ls checked mid ks
    → Ran Asking (followed_by checked (storing h p who bytes)) mid ks outcome new ms → SameOrSought (put m h p who bytes) old ls outcome new ms
put_leaves m h p who bytes (Err e) outcome early first rest =
    let (world, stay) = reading_leaves (only_reads look_reads (only_put_allowed m h p who bytes)) first in
    let (same, kept) = reading_leaves reads_done rest in
    inl (same ∙ world, kept ∙ stay)
put_leaves m h p who bytes (Ok allowed) outcome early first rest =
    let (world, stay) = reading_leaves (only_reads look_reads (only_put_allowed m h p who bytes)) first in
    elim (store_leaves (put_opening h allowed.0) allowed.0.from p bytes who.moment allowed.1 outcome early rest) [
      | inl same ↦ inl (same.0 ∙ world, same.1 ∙ stay)
      | inr sought ↦ inr (sought.0, refused_behind seeks_place (storing h p who bytes) first sought.1)
    ]

body_leaves : (m : DavMethod) (h : PutHeaders) (p : Path) (who : Caller) (bytes : Option (List ℕ)) (outcome : Result Reply DavError) {old new : StoreState} {ls ms : Locks}
    → IsEarly (reply_to outcome).status → Ran Asking (put_body m h p who bytes) old ls outcome new ms → SameOrSought (put_body m h p who bytes) old ls outcome new ms
body_leaves m h p who None outcome early ran = inl (reading_leaves reads_done ran)
body_leaves m h p who (Some bytes) outcome early ran =
    let parts = ran_split (put_allowed m h p who bytes) _ ran in
    put_leaves m h p who bytes parts.outcome outcome early parts.first parts.rest

-- ---- MKCOL

mkcol_leaves : (c : Conditions) (p : PathText) (who : Caller) (checked : Result (Unit {0}) DavError) (outcome : Result Reply DavError) {old mid new : StoreState} {ls ks ms : Locks}
    → IsEarly (reply_to outcome).status → Ran Asking (mkcol_allowed c p who) old ls checked mid ks
    → Ran Asking (followed_by checked (λ _. ask_or create_error (CreateDir (names p) who.moment) >>= (λ _. gives (made p)))) mid ks outcome new ms → Same old ls new ms
mkcol_leaves c p who (Err e) outcome refused first rest =
    let (world, stay) = reading_leaves (only_reads look_reads (only_mkcol_allowed c p who)) first in
    let (same, kept) = reading_leaves reads_done rest in
    (same ∙ world, kept ∙ stay)
mkcol_leaves c p who (Ok allowed) outcome refused first (ran_ask {old = old} {mid = mid} {answer = answer} one rest) =
    let (world, stay) = reading_leaves (only_reads look_reads (only_mkcol_allowed c p who)) first in
    let (same, kept) = first_change old.world (meaning (CreateDir (names p) who.moment) old.world) create_error answer (λ _. gives (made p)) mid outcome
    (λ done. ends_done (λ same. absurd (omega (arith, same)), λ same. absurd (omega (arith, same)), λ same. absurd (omega (arith, same)))) (did one) refused rest in
    (same ∙ world, kept ∙ stay)

-- ---- DELETE

any_outcome : {A : Type 0} (r : Result A DavError) → Outcome (λ e. ⊤) Any r
any_outcome (Ok a) = tt
any_outcome (Err e) = tt

only_ends : {P : Call → Type 0} {A : Type 0} {plan : MethodPlan A} → Only P plan → Ends (λ e. ⊤) Any plan
only_ends (only_done {a = r}) = ends_done (any_outcome r)
only_ends (only_ask is more) = ends_ask (λ answer. only_ends (more answer))
only_ends (only_look more) = ends_look (λ ls. only_ends (more ls))

-- no reply to a DELETE has such a status, but one that an error makes
later_delete : (h : DeleteHeaders) (p : PathText) (who : Caller) → Ends (λ e. ⊤) LaterReply (delete h p who)
later_delete h p who =
    ends_deleting (λ e. ⊤) Later later_fs (λ same. absurd (omega (arith, same)), λ same. absurd (omega (arith, same)), λ same. absurd (omega (arith, same)))
    (λ same. absurd (omega (arith, same)), λ same. absurd (omega (arith, same)), λ same. absurd (omega (arith, same))) (λ same. absurd (omega (arith, same)), λ same. absurd (omega (arith, same)), λ same. absurd (omega (arith, same)))
    h p who (any_outcome (whole_depth h.depth)) (λ answer. any_outcome (refused_as dav.FsError answer)) (λ q found. only_ends (only_delete_allowed h.conditions q who found))

delete_leaves : (h : DeleteHeaders) (p : PathText) (who : Caller) (outcome : Result Reply DavError) {old new : StoreState} {ls ms : Locks}
    → IsEarly (reply_to outcome).status → Ran Asking (delete h p who) old ls outcome new ms → Same old ls new ms
delete_leaves h p who (Ok r) is ran = absurd (not_early r.status (ran_ends (later_delete h p who) ran) is)
delete_leaves h p who (Err e) {old} {new} {ls} {ms} refused ran = refused_delete_leaves_all h p who old new ls ms e ran

-- ---- UNLOCK

later_left : (left : Option (List Lock)) → Ends (λ e. ⊤) Any (keep_left left)
later_left None = ends_done tt
later_left (Some ls) = ends_keep (ends_done tt)

later_in : (token : List ℕ) (p : Path) (ls : Locks) → Ends (λ e. ⊤) Any (end_in token p ls)
later_in token p None = ends_done tt
later_in token p (Some ls) = later_left (unlocked token p ls)

later_said : (token : Option (List ℕ)) (p : PathText) → Ends (λ e. ⊤) LaterReply (Done (required token (dav.Status 400)) >>= (λ said. end_lock p said))
later_said None p = ends_done tt
later_said (Some token) p =
    ends_ask (λ found. ends_look (λ ls. ends_bind _ (later_in token (names p) ls) (λ ended any.
    ends_done (λ same. absurd (omega (arith, same)), λ same. absurd (omega (arith, same)), λ same. absurd (omega (arith, same))))))

-- no reply to an UNLOCK has such a status, but one that an error makes
later_unlock : (token : Option (List ℕ)) (p : PathText) → Ends (λ e. ⊤) LaterReply (unlock token p)
later_unlock token p = ends_look (λ ls. ends_bind _ (only_ends (only_require {P = λ c. ⊤} (has_locks ls) (dav.Status 405))) (λ u any. later_said token p))

unlock_leaves : (headers : Headers) (p : PathText) (who : Caller) (plan : MethodPlan Reply) (outcome : Result Reply DavError) {old new : StoreState} {ls ms : Locks}
    → IsEarly (reply_to outcome).status → IsUnlock headers p who plan → Ran Asking plan old ls outcome new ms → Same old ls new ms
unlock_leaves headers p who plan (Ok r) is (is_unlock token said) ran = absurd (not_early r.status (ran_ends (later_unlock token p) ran) is)
unlock_leaves headers p who plan (Err e) {old} {new} {ls} {ms} refused its ran = refused_unlock_leaves_all headers p who plan old new ls ms e its ran

-- ---- COPY and MOVE

-- no reply to a COPY or MOVE has such a status, but one that an error makes
later_copymove : (m : DavMethod) (h : CopyHeaders) (p : PathText) (who : Caller) → Ends (λ e. ⊤) LaterReply (copy_or_move m h p who)
later_copymove m h p who =
    ends_copying (λ e. ⊤) Later later_fs (λ same. absurd (omega (arith, same)), λ same. absurd (omega (arith, same)), λ same. absurd (omega (arith, same))) (λ same. absurd (omega (arith, same)), λ same. absurd (omega (arith, same)), λ same. absurd (omega (arith, same)))
    (λ same. absurd (omega (arith, same)), λ same. absurd (omega (arith, same)), λ same. absurd (omega (arith, same))) (λ same. absurd (omega (arith, same)), λ same. absurd (omega (arith, same)), λ same. absurd (omega (arith, same)))
    m h p who (any_outcome (copy_depth (is_move m) h.depth)) (any_outcome h.destination) (λ answer. any_outcome (refused_as dav.FsError answer)) (λ deep q d found. only_ends (only_copy_allowed m deep h q d who found))

copymove_leaves : (m : DavMethod) (h : CopyHeaders) (p : PathText) (who : Caller) (outcome : Result Reply DavError) {old new : StoreState} {ls ms : Locks}
    → IsEarly (reply_to outcome).status → Ran Asking (copy_or_move m h p who) old ls outcome new ms → Same old ls new ms
copymove_leaves m h p who (Ok r) is ran = absurd (not_early r.status (ran_ends (later_copymove m h p who) ran) is)
copymove_leaves m h p who (Err e) {old} {new} {ls} {ms} refused ran = refused_copymove_leaves_all m h p who old new ls ms e ran

-- ---- PROPPATCH

-- no reply to a PROPPATCH has such a status, but one that an error makes
later_proppatch : (c : Conditions) (p : PathText) (content : Body) (who : Caller) → Ends (λ e. ⊤) LaterReply (proppatch c p content who)
later_proppatch c p content who =
    ends_patching (λ e. ⊤) Later (λ same. absurd (omega (arith, same)), λ same. absurd (omega (arith, same)), λ same. absurd (omega (arith, same))) (λ A answer. any_outcome (refused_as dav.FsError answer)) tt c p content who
    (λ found. only_ends (only_guarded dav.Status PropPatch c (Some found))) (λ tokens q. only_ends (only_free false (requester who tokens) (names q) (dav.Status 423)))

proppatch_leaves : (headers : Headers) (p : PathText) (content : Body) (who : Caller) (plan : MethodPlan Reply) (outcome : Result Reply DavError) {old new : StoreState} {ls ms : Locks}
    → IsEarly (reply_to outcome).status → IsProppatch headers p content who plan → Ran Asking plan old ls outcome new ms → Same old ls new ms
proppatch_leaves headers p content who plan (Ok r) is (is_proppatch c are) ran = absurd (not_early r.status (ran_ends (later_proppatch c p content who) ran) is)
proppatch_leaves headers p content who plan (Err e) {old} {new} {ls} {ms} refused its ran = refused_proppatch_leaves_all headers p content who plan old new ls ms e its ran

-- ---- LOCK

-- no reply to a LOCK has such a status, but one that an error makes
later_lock : (h : LockHeaders) (p : PathText) (content : Body) (who : Caller) → Ends (λ e. ⊤) LaterReply (lock h p content who)
later_lock h p content who =
    ends_locking (λ e. ⊤) Later (λ same. absurd (omega (arith, same)), λ same. absurd (omega (arith, same)), λ same. absurd (omega (arith, same))) (λ same. absurd (omega (arith, same)), λ same. absurd (omega (arith, same)), λ same. absurd (omega (arith, same)))
    tt tt tt (λ how e. tt) h p content who (λ q found. only_ends (only_asked h q content who found)) (λ q. only_ends (only_token h (names q) who))

abbrev IsNewToken : Caller → Locks → Type 0
IsNewToken who ls = (token : List ℕ) → who.token ≡ Some token → IsUnused token ls

-- why a LOCK that is answered 412 takes no lock back
abbrev TakesNone : Headers → Caller → MethodPlan Reply → StoreState → Locks → Result Reply DavError → StoreState → Locks → Type 0
TakesNone headers who plan old ls outcome new ms =
    IsNewToken who ls ⊎ (¬ IsTagList (get_all headers (codes "if-none-match")) every_tag) ⊎ (¬ RanRefused opens_file plan old ls outcome new ms)

-- what is left where there is such a reason
abbrev LeftIf : Type 0 → StoreState → Locks → StoreState → Locks → Type 0
LeftIf reason old ls new ms = (new.world ≡ old.world) × (reason → ms ≡ ls)

-- no error comes with 416 or 423 once the store was asked for a file
not_file : (headers : Headers) (e : DavError) → (dav_status e ≡ 423) ⊎ (dav_status e ≡ 416) → ¬ IsRefusedFile headers e
not_file headers (dav.FsError d) (inl is) refused = (later_fs d).1 is
not_file headers (dav.FsError d) (inr is) refused = (later_fs d).2 is
not_file headers (dav.Status status) (inl is) (inl conflict) = absurd (omega (arith, is, conflict))
not_file headers (dav.Status status) (inl is) (inr failed) = let other = failed.0 in absurd (omega (arith, is, other))
not_file headers (dav.Status status) (inr is) (inl conflict) = absurd (omega (arith, is, conflict))
not_file headers (dav.Status status) (inr is) (inr failed) = let other = failed.0 in absurd (omega (arith, is, other))
not_file headers (dav.StatusClose status) is refused = refused
not_file headers dav.XmlParseError is refused = refused
not_file headers dav.InvalidPath is refused = refused
not_file headers dav.ForbiddenPath is refused = refused
not_file headers dav.IllegalPath is refused = refused
not_file headers dav.UnknownDavMethod is refused = refused
not_file headers dav.ChanError is refused = refused
not_file headers dav.Memory is refused = refused

-- nor 412, unless If-None-Match is `*`
no_star : (headers : Headers) (e : DavError) → dav_status e ≡ 412 → ¬ IsTagList (get_all headers (codes "if-none-match")) every_tag → ¬ IsRefusedFile headers e
no_star headers (dav.FsError d) is none refused = (later_fs d).0 is
no_star headers (dav.Status status) is none (inl conflict) = absurd (omega (arith, is, conflict))
no_star headers (dav.Status status) is none (inr failed) = none failed.1
no_star headers (dav.StatusClose status) is none refused = refused
no_star headers dav.XmlParseError is none refused = refused
no_star headers dav.InvalidPath is none refused = refused
no_star headers dav.ForbiddenPath is none refused = refused
no_star headers dav.IllegalPath is none refused = refused
no_star headers dav.UnknownDavMethod is none refused = refused
no_star headers dav.ChanError is none refused = refused
no_star headers dav.Memory is none refused = refused

module _ (headers : Headers) (p : PathText) (content : Body) (who : Caller) (plan : MethodPlan Reply) (its : IsLock headers p content who plan) (e : DavError) {old new : StoreState} {ls ms : Locks}
    (ran : Ran Asking plan old ls (Err e) new ms) where
  refused_lock : IsNewToken who ls ⊎ (¬ IsRefusedFile headers e) → ms ≡ ls
  refused_lock reason = (refused_lock_leaves_all headers p content who plan old new ls ms e its ran).1 reason

  unasked_lock : ¬ RanRefused opens_file plan old ls (Err e) new ms → ms ≡ ls
  unasked_lock none = elim (answered_or_refused opens_file ran) [
    | inl answered ↦ (unrefused_lock_leaves_all headers p content who plan old new ls ms e its answered).1
    | inr refused ↦ absurd (none refused)
  ]

  takes_none : dav_status e ≡ 412 → TakesNone headers who plan old ls (Err e) new ms → ms ≡ ls
  takes_none status (inl fresh) = refused_lock (inl fresh)
  takes_none status (inr (inl none)) = refused_lock (inr (no_star headers e status none))
  takes_none status (inr (inr none)) = unasked_lock none

  list_left : IsEarly (dav_status e) → (dav_status e ≡ 412 → TakesNone headers who plan old ls (Err e) new ms) → ms ≡ ls
  list_left (inl (inl is)) reason = takes_none is (reason is)
  list_left (inl (inr is)) reason = refused_lock (inr (not_file headers e (inl is)))
  list_left (inr is) reason = refused_lock (inr (not_file headers e (inr is)))

lock_leaves : (headers : Headers) (p : PathText) (content : Body) (who : Caller) (plan : MethodPlan Reply) (outcome : Result Reply DavError) {old new : StoreState} {ls ms : Locks}
    → IsEarly (reply_to outcome).status → IsLock headers p content who plan → Ran Asking plan old ls outcome new ms
    → LeftIf ((reply_to outcome).status ≡ 412 → TakesNone headers who plan old ls outcome new ms) old ls new ms
lock_leaves headers p content who plan (Ok r) is (is_lock h are) ran = absurd (not_early r.status (ran_ends (later_lock h p content who) ran) is)
lock_leaves headers p content who plan (Err e) {old} {new} {ls} {ms} is its ran =
    ((refused_lock_leaves_all headers p content who plan old new ls ms e its ran).0, list_left headers p content who plan its e ran is)

-- ---- a step

-- what is left, or the store refused to seek
abbrev LeftOrSought : Type 0 → Type 0 → MethodPlan Reply → StoreState → Locks → Result Reply DavError → StoreState → Locks → Type 0
LeftOrSought reason writes plan old ls outcome new ms =
    LeftIf reason old ls new ms ⊎ (((reply_to outcome).status ≡ 416) × writes × RanRefused seeks_place plan old ls outcome new ms)

all_left : {R W : Type 0} {plan : MethodPlan Reply} {old new : StoreState} {ls ms : Locks} {outcome : Result Reply DavError} → Same old ls new ms → LeftOrSought R W plan old ls outcome new ms
all_left same = inl (same.0, λ reason. same.1)

or_sought : {R W : Type 0} {plan : MethodPlan Reply} {old new : StoreState} {ls ms : Locks} {outcome : Result Reply DavError} → W → SameOrSought plan old ls outcome new ms → LeftOrSought R W plan old ls outcome new ms
or_sought writes (inl same) = inl (same.0, λ reason. same.1)
or_sought writes (inr sought) = inr (sought.0, writes, sought.1)

abbrev Writes : DavMethod → Type 0
Writes m = (m ≡ Put) ⊎ (m ≡ Patch)

-- what a method leaves
abbrev Leaves : Headers → Caller → DavMethod → MethodPlan Reply → StoreState → Locks → Result Reply DavError → StoreState → Locks → Type 0
Leaves headers who m plan old ls outcome new ms =
    LeftOrSought ((reply_to outcome).status ≡ 412 → m ≡ LockMethod → TakesNone headers who plan old ls outcome new ms) (Writes m) plan old ls outcome new ms

plan_leaves : {allowed : ℕ} {headers : Headers} {p : PathText} {given : Body} {who : Caller} {m : DavMethod} {plan : MethodPlan Reply} (outcome : Result Reply DavError) {old new : StoreState} {ls ms : Locks}
    → IsEarly (reply_to outcome).status → PlanOf allowed headers p given who m plan → Ran Asking plan old ls outcome new ms → Leaves headers who m plan old ls outcome new ms
plan_leaves {p = p} {who = who} outcome early (gets (is_get c are)) ran = all_left (reading_leaves (get_is_reading Get c (names p) who.moment) ran)
plan_leaves {p = p} {who = who} outcome early (heads (is_get c are)) ran = all_left (reading_leaves (get_is_reading Head c (names p) who.moment) ran)
plan_leaves {p = p} {given} {who} outcome early (puts (is_put h are)) ran = or_sought (inl refl) (body_leaves Put h (names p) who (bytes_of_body given) outcome early ran)
plan_leaves {p = p} {given} {who} outcome early (patches (is_put h are)) ran = or_sought (inr refl) (body_leaves Patch h (names p) who (bytes_of_body given) outcome early ran)
plan_leaves {p = p} {who = who} outcome early (makes (is_mkcol c are)) ran =
    let parts = ran_split (mkcol_allowed c p who) _ ran in
    all_left (mkcol_leaves c p who parts.outcome outcome early parts.first parts.rest)
plan_leaves {p = p} {who = who} outcome early (deletes (is_delete h are)) ran = all_left (delete_leaves h p who outcome early ran)
plan_leaves {p = p} {who = who} outcome early (copies (is_copy_move h are)) ran = all_left (copymove_leaves Copy h p who outcome early ran)
plan_leaves {p = p} {who = who} outcome early (moves (is_copy_move h are)) ran = all_left (copymove_leaves Move h p who outcome early ran)
plan_leaves {allowed} {p = p} outcome early offers ran = all_left (reading_leaves (options_only_reads allowed p) ran)
plan_leaves {headers = headers} {p} {given} {who} {plan = plan} outcome early (finds_properties is) ran = all_left (reading_leaves (propfind_only_reads headers p given who plan is) ran)
plan_leaves {headers = headers} {p} {given} {who} {plan = plan} outcome early (sets_properties is) ran = all_left (proppatch_leaves headers p given who plan outcome early is ran)
plan_leaves {headers = headers} {p} {given} {who} {plan = plan} outcome early (locks is) ran = (let (world, list) = lock_leaves headers p given who plan outcome early is ran in inl (world, λ reason. list (λ status. reason status refl)))
plan_leaves {headers = headers} {p} {who = who} {plan = plan} outcome early (releases is) ran = all_left (unlock_leaves headers p who plan outcome early is ran)

of_leaves : {s : Settings} {x : Exchange} {r : Request} {m : DavMethod} {plan : MethodPlan Reply} (outcome : Result Reply DavError) {old new : StoreState} {ls ms : Locks}
    → IsEarly (reply_to outcome).status → MeansOf s x r m plan → Ran Asking plan old ls outcome new ms → Leaves (headers_of r.fields) (caller x) m plan old ls outcome new ms
of_leaves outcome early (not_allowed out) ran = all_left (reading_leaves reads_done ran)
of_leaves outcome early (no_path e has none) ran = all_left (reading_leaves reads_done ran)
of_leaves outcome early (no_body p e has named bad) ran = all_left (reading_leaves reads_done ran)
of_leaves outcome early (method p given has named good plan) ran = plan_leaves outcome early plan ran

abbrev state : StoreState → Locks → ServerState
state store ls = record { store = store; locks = ls }

-- what a request leaves
abbrev Left : Settings → Exchange → ServerState → Reply → ServerState → Type 0
Left s x was reply now =
    LeftIf (reply.status ≡ 412 → IsLockRequest x → TakesNothingBack s x was reply now) was.store was.locks now.store now.locks
    ⊎ ((reply.status ≡ 416) × IsWriteRequest x × WasRefused seeks_place s x was reply now)

module _ (s : Settings) (x : Exchange) (r : Request) (m : DavMethod) (head : IsHead x.head r) (served : GivesServed r.method (Ok m)) where
  served_as : {k : DavMethod} → m ≡ k → GivesServed r.method (Ok k)
  served_as is = subst (λ (k : DavMethod). GivesServed r.method (Ok k)) is served

  write_request : Writes m → IsWriteRequest x
  write_request (inl put) = inl (r, head, served_as put)
  write_request (inr patch) = inr (r, head, served_as patch)

  -- what the step says of its plan
  takes : (plan : MethodPlan Reply) (outcome : Result Reply DavError) {old new : StoreState} {ls ms : Locks} → Means s x plan
      → TakesNothingBack s x (state old ls) (reply_to outcome) (state new ms) → TakesNone (headers_of r.fields) (caller x) plan old ls outcome new ms
  takes plan outcome its (inl fresh) = inl fresh
  takes plan outcome its (inr (inl none)) = inr (inl (λ says. none (r, head, says)))
  takes plan outcome its (inr (inr none)) = inr (inr (λ refused. none (step_refused plan outcome its refused)))

  known_leaves : (plan : MethodPlan Reply) (outcome : Result Reply DavError) {old new : StoreState} {ls ms : Locks} → Means s x plan
      → Leaves (headers_of r.fields) (caller x) m plan old ls outcome new ms → Left s x (state old ls) (reply_to outcome) (state new ms)
  known_leaves plan outcome its (inl (world, list)) = inl (world, λ reason. list (λ status is. takes plan outcome its (reason status (r, head, served_as is))))
  known_leaves plan outcome its (inr (status, writes, refused)) = inr (status, write_request writes, step_refused plan outcome its refused)

same_left : {s : Settings} {x : Exchange} {was now : ServerState} {reply : Reply} → Same was.store was.locks now.store now.locks → Left s x was reply now
same_left same = inl (same.0, λ reason. same.1)

step_leaves : (s : Settings) (x : Exchange) (old new : StoreState) (ls ms : Locks) (reply : Reply) → IsEarly reply.status → Steps s x old ls reply new ms → Left s x (state old ls) reply (state new ms)
step_leaves s x old new ls ms reply early (steps plan outcome (no_head out) ran) = same_left (reading_leaves reads_done ran)
step_leaves s x old new ls ms reply early (steps plan outcome (no_method r e head known_by) ran) = same_left (reading_leaves reads_done ran)
step_leaves s x old new ls ms reply early (steps plan outcome (known r m head known_by its) ran) =
    known_leaves s x r m head known_by plan outcome (known r m head known_by its) (of_leaves outcome early its ran)

-- 412 and 423 aren't 416
not_range : (status : ℕ) → IsRefusedStatus status → status ≢ 416
not_range status (inl is) other = absurd (omega (arith, is, other))
not_range status (inr is) other = absurd (omega (arith, is, other))

pub refused_leaves : RefusedLeaves
refused_leaves s x was now reply step = record {
  world = λ is. elim (step_leaves s x was.store now.store was.locks now.locks reply (inl is) step) [ inl left ↦ left.0 | inr sought ↦ absurd (not_range reply.status is sought.0) ];
  locks = λ is reason. elim (step_leaves s x was.store now.store was.locks now.locks reply (inl is) step) [ inl left ↦ left.1 reason | inr sought ↦ absurd (not_range reply.status is sought.0) ];
  range = λ is. elim (step_leaves s x was.store now.store was.locks now.locks reply (inr is) step) [
    | inl left ↦ inl (left.0, left.1 (λ other. absurd (omega (arith, is, other))))
    | inr sought ↦ inr (sought.1, sought.2)
  ];
}
