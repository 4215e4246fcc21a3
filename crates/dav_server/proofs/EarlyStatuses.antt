-- Statuses of successes, and replies that report what was done in part: none of them is a reply to an error.
use Rattle.std.proofs.Common.{◌≤◌, ℕ, Bool, true, false, if◌then◌else◌, List, [], ◌∷◌, map, Option, Some, None, Result, Ok, Err, refl, arith}
use Rattle.std.specs.Bool.{⊤}
use Rattle.dav_core.specs.declared.errors.DavError.{DavError}
use Rattle.dav_core.specs.declared.errors.DavError.TheVariants as dav
use Rattle.dav_core.specs.declared.fs.DavMetaData.{DavMetaData}
use Rattle.dav_core.specs.declared.method.DavMethod.{DavMethod}
use Rattle.dav_core.specs.declared.method.DavMethod.TheVariants.{PropPatch}
use Rattle.dav_core.specs.Path.{Path, PathText, names, are_equal}
use Rattle.dav_engine.specs.declared.request.Body.{Body}
use Rattle.dav_engine.specs.Caller.{Caller, requester}
use Rattle.dav_engine.specs.Conditions.{Conditions, guarded}
use Rattle.dav_engine.specs.Copying.{CopyFault, copy_report}
use Rattle.dav_engine.specs.CopyMove.{CopyHeaders, is_move, copy_depth, copy_allowed, is_replaced, clearing, drop_if, transfer, copied_status, copy_reply, transfer_if_cleared, copy_or_move}
use Rattle.dav_engine.specs.Delete.{DeleteHeaders, whole_depth, delete_allowed, drop_if_gone, delete_reply, delete}
use Rattle.dav_engine.specs.Folder.{closed}
use Rattle.dav_engine.specs.Lock.{asked_lock, token_to_refresh, lock}
use Rattle.dav_engine.specs.LockHeaders.{LockHeaders}
use Rattle.dav_engine.specs.Method.{MethodPlan, ◌>>=◌, require_free, required, refused_as}
use Rattle.dav_engine.specs.Mkcol.{mkcol_allowed, create_error, mkcol}
use Rattle.dav_engine.specs.Multistatus.{PathStatus, multi_reply, multistatus_reply, status_reply}
use Rattle.dav_engine.specs.Plan.{Done, Ask, Look, Keep}
use Rattle.dav_engine.specs.Proppatch.{proppatch}
use Rattle.dav_engine.specs.Put.{PutHeaders, put_opening, open_error, sought, written, put_allowed, put_body}
use Rattle.dav_engine.specs.Removal.{Fault, removal, report_of}
use Rattle.dav_engine.specs.Reply.{Reply}
use Rattle.dav_engine.specs.Unlock.{end_in, end_lock, unlock}
use Rattle.dav_server.specs.Leaving.{IsErrorReply}
use Rattle.dav_server.proofs.PlanStatuses.{Outcome, Any, Ends, ends_done, ends_ask, ends_look, ends_keep, ends_then, ends_bind, ends_locking}
use Rattle.dav_server.proofs.PropertyStatuses.{ends_patching}

-- ---- statuses of successes

-- every plan ends in something
pub any_outcome : {A : Type 0} (r : Result A DavError) → Outcome (λ e. ⊤) Any r
any_outcome (Ok a) = tt
any_outcome (Err e) = tt

ends_any : {A : Type 0} (plan : MethodPlan A) → Ends (λ e. ⊤) Any plan
ends_any (Done r) = ends_done (any_outcome r)
ends_any (Ask c go) = ends_ask (λ answer. ends_any (go answer))
ends_any (Look go) = ends_look (λ ls. ends_any (go ls))
ends_any (Keep ls rest) = ends_keep (ends_any rest)

-- the status is no error
abbrev Below : ℕ → Type 0
Below status = ¬ (400 ≤ status)

abbrev pub Succeeds : Reply → Type 0
Succeeds r = Below r.status

below_201 : Below 201
below_201 above = absurd (omega (arith, above))

below_204 : Below 204
below_204 above = absurd (omega (arith, above))

below_207 : Below 207
below_207 above = absurd (omega (arith, above))

below_200 : Below 200
below_200 above = absurd (omega (arith, above))

stored_below : (b : Bool) → Below (if b then 204 else 201)
stored_below true = below_204
stored_below false = below_201

pub put_succeeds : (m : DavMethod) (h : PutHeaders) (p : Path) (who : Caller) (bytes : Option (List ℕ)) → Ends (λ e. ⊤) Succeeds (put_body m h p who bytes)
put_succeeds m h p who None = ends_done tt
put_succeeds m h p who (Some bytes) =
    ends_bind _ (ends_any (put_allowed m h p who bytes)) (λ allowed any.
    ends_ask (λ answer. ends_then (refused_as (open_error (put_opening h allowed.0)) answer) _ (any_outcome (refused_as (open_error (put_opening h allowed.0)) answer)) (λ file any.
    ends_bind _ (ends_any (sought allowed.0.from file)) (λ file any.
    ends_bind _ (ends_any (written file bytes who.moment)) (λ file any.
    ends_ask (λ answer. ends_then (refused_as dav.FsError answer) _ (any_outcome (refused_as dav.FsError answer)) (λ done any. ends_ask (λ answer. ends_done (stored_below allowed.1)))))))))

pub mkcol_succeeds : (c : Conditions) (p : PathText) (who : Caller) → Ends (λ e. ⊤) Succeeds (mkcol c p who)
mkcol_succeeds c p who =
    ends_bind _ (ends_any (mkcol_allowed c p who)) (λ u any.
    ends_ask (λ answer. ends_then (refused_as create_error answer) _ (any_outcome (refused_as create_error answer)) (λ done any. ends_done below_201)))

-- ---- what is reported at one path

-- a success, or a status and nothing else
abbrev pub IsPlain : Reply → Type 0
IsPlain r = ¬ IsErrorReply r

status_plain : (status : ℕ) → IsPlain (status_reply status)
status_plain status is = is.1 refl

several_plain : (items : List PathStatus) → IsPlain (multistatus_reply items)
several_plain items is = below_207 is.0

one_plain : (item : PathStatus) (b : Bool) → IsPlain (if b then status_reply item.1 else multistatus_reply (item ∷ []))
one_plain item true = status_plain item.1
one_plain item false = several_plain (item ∷ [])

multi_plain : (p : PathText) (items : List PathStatus) → Outcome (λ e. ⊤) IsPlain (multi_reply p items)
multi_plain p [] = tt
multi_plain p (item ∷ []) = one_plain item (are_equal item.0 p)
multi_plain p (item ∷ other ∷ more) = several_plain (item ∷ other ∷ more)

removed_plain : (p : PathText) (faults : List Fault) → Outcome (λ e. ⊤) IsPlain (delete_reply p faults)
removed_plain p [] = status_plain 204
removed_plain p (f ∷ faults) = multi_plain p (map report_of (f ∷ faults))

copied_plain : (p : PathText) (status : ℕ) (faults : List CopyFault) → Outcome (λ e. ⊤) IsPlain (copy_reply p status faults)
copied_plain p status [] = status_plain status
copied_plain p status (f ∷ faults) = multi_plain p (map copy_report (f ∷ faults))

pub delete_plain : (h : DeleteHeaders) (p : PathText) (who : Caller) → Ends (λ e. ⊤) IsPlain (delete h p who)
delete_plain h p who =
    ends_then (whole_depth h.depth) _ (any_outcome (whole_depth h.depth)) (λ deep any.
    ends_ask (λ answer. ends_then (refused_as dav.FsError answer) _ (any_outcome (refused_as dav.FsError answer)) (λ found any.
    ends_bind _ (ends_any (delete_allowed h.conditions (closed found.dir p) who found)) (λ free any.
    ends_bind _ (ends_any (removal deep who.moment (closed found.dir p) found.dir)) (λ faults any.
    ends_bind _ (ends_any (drop_if_gone (closed found.dir p) faults)) (λ done any. ends_done (removed_plain (closed found.dir p) faults)))))))

transfer_plain : (moves deep : Bool) (now : ℕ) (p d : PathText) (there : Option DavMetaData) (faults : List Fault)
    → Ends (λ e. ⊤) IsPlain (transfer_if_cleared moves deep now p d there faults)
transfer_plain moves deep now p d there (f ∷ faults) = ends_done (multi_plain p (map report_of (f ∷ faults)))
transfer_plain moves deep now p d there [] =
    ends_bind _ (ends_any (drop_if (is_replaced deep there) d)) (λ done any.
    ends_bind _ (ends_any (transfer moves deep now p d)) (λ faults any. ends_done (copied_plain p (copied_status there) faults)))

pub copymove_plain : (m : DavMethod) (h : CopyHeaders) (p : PathText) (who : Caller) → Ends (λ e. ⊤) IsPlain (copy_or_move m h p who)
copymove_plain m h p who =
    ends_then (copy_depth (is_move m) h.depth) _ (any_outcome (copy_depth (is_move m) h.depth)) (λ deep any.
    ends_then h.destination _ (any_outcome h.destination) (λ d any.
    ends_ask (λ answer. ends_then (refused_as dav.FsError answer) _ (any_outcome (refused_as dav.FsError answer)) (λ found any.
    ends_bind _ (ends_any (copy_allowed m deep h (closed found.dir p) d who found)) (λ there any.
    ends_bind _ (ends_any (clearing deep who.moment d there)) (λ faults any. transfer_plain (is_move m) deep who.moment (closed found.dir p) d there faults))))))

-- ---- methods that are done or not

pub proppatch_succeeds : (c : Conditions) (p : PathText) (content : Body) (who : Caller) → Ends (λ e. ⊤) Succeeds (proppatch c p content who)
proppatch_succeeds c p content who =
    ends_patching (λ e. ⊤) Below below_207 (λ A answer. any_outcome (refused_as dav.FsError answer)) tt c p content who
    (λ found. ends_any (guarded dav.Status PropPatch c (Some found))) (λ tokens q. ends_any (require_free false (requester who tokens) (names q) (dav.Status 423)))

pub lock_succeeds : (h : LockHeaders) (p : PathText) (content : Body) (who : Caller) → Ends (λ e. ⊤) Succeeds (lock h p content who)
lock_succeeds h p content who =
    ends_locking (λ e. ⊤) Below below_200 below_201 tt tt tt (λ how e. tt) h p content who (λ q found. ends_any (asked_lock h q content who found)) (λ q. ends_any (token_to_refresh h (names q) who))

unlocks : (token : Option (List ℕ)) (p : PathText) → Ends (λ e. ⊤) Succeeds (Done (required token (dav.Status 400)) >>= (λ said. end_lock p said))
unlocks None p = ends_done tt
unlocks (Some token) p = ends_ask (λ found. ends_look (λ ls. ends_bind _ (ends_any (end_in token (names p) ls)) (λ ended any. ends_done below_204)))

pub unlock_succeeds : (token : Option (List ℕ)) (p : PathText) → Ends (λ e. ⊤) Succeeds (unlock token p)
unlock_succeeds token p = ends_look (λ ls. ends_bind _ (ends_any _) (λ u any. unlocks token p))
