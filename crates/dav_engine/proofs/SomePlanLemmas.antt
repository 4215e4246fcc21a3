-- No PUT, PATCH, MKCOL, DELETE, COPY, MOVE, LOCK, UNLOCK, PROPFIND or PROPPATCH is without a plan, since a header decodes or doesn't.
use Rattle.std.proofs.Common.{ℕ, List, inl, inr, Option, Some, None, Result, Ok, refl}
use Rattle.std.specs.Option.{is_some, option_or}
use Rattle.std.specs.Prelude.{codes}
use Rattle.http_header.specs.FieldValue.{FieldValue}
use Rattle.http_header.specs.HeaderMap.{get_all}
use Rattle.dav_core.specs.declared.errors.DavError.{DavError}
use Rattle.dav_core.specs.declared.errors.ParseError.TheVariants as parse
use Rattle.dav_core.specs.declared.method.DavMethod.{DavMethod}
use Rattle.dav_core.specs.Path.{Path, PathText, names}
use Rattle.dav_core.proofs.Theorems.{read_or_refused}
use Rattle.dav_headers.specs.ContentRange.{IsContentRange}
use Rattle.dav_headers.specs.Depth.{IsDepth}
use Rattle.dav_headers.specs.Destination.{IsDestination}
use Rattle.dav_headers.specs.Overwrite.{IsOverwrite}
use Rattle.dav_headers.specs.ETagList.{IsTagList}
use Rattle.dav_headers.specs.Length.{IsContentLength}
use Rattle.dav_headers.specs.Timeout.{IsTimeout}
use Rattle.dav_headers.specs.UpdateRange.{IsUpdateRange}
use Rattle.dav_headers.specs.Value.{only_text}
use Rattle.dav_engine.specs.declared.methods.put.headers.Bounds.{Bounds}
use Rattle.dav_engine.specs.declared.methods.put.headers.Bounds.TheVariants.{Unread, Whole, Within}
use Rattle.dav_engine.specs.declared.request.Body.{Body}
use Rattle.dav_engine.specs.Caller.{Caller}
use Rattle.dav_engine.specs.Conditions.{Conditions, AreConditions, SaysLists}
use Rattle.dav_engine.specs.CopyMove.{DestinationNames, absent, unreadable, outside, inside, copy_or_move, IsCopyMove, is_copy_move}
use Rattle.dav_engine.specs.Delete.{delete, IsDelete, is_delete}
use Rattle.dav_engine.specs.Headers.{Headers, Decodes}
use Rattle.dav_engine.specs.Method.{MethodPlan}
use Rattle.dav_engine.specs.Mkcol.{mkcol, IsMkcol, is_mkcol}
use Rattle.dav_engine.specs.Propfind.{propfind, IsPropfind, is_propfind}
use Rattle.dav_engine.specs.Proppatch.{proppatch, IsProppatch, is_proppatch}
use Rattle.dav_engine.specs.Put.{PutHeaders, ArePutHeaders, IsPut, is_put, put_body, bytes_of_body, IsAnnounced, IsExpectedLength, TellsBounds, is_partial_update, checksum_in}
use Rattle.dav_engine.specs.Reply.{Reply}
use Rattle.dav_engine.specs.Lock.{lock, IsLock, is_lock}
use Rattle.dav_engine.specs.LockToken.{SaysLockToken}
use Rattle.dav_engine.specs.Unlock.{unlock, IsUnlock, is_unlock}

-- what is read decodes to something, or to nothing
pub decoded_some : {A B : Type 0} (grammar : A → B → Type 0) (input : A) → ¬ ((r : Option B) → ¬ Decodes grammar input r)
decoded_some grammar input unread = unread None (λ x is. unread (Some x) is)

pub some_conditions : (headers : Headers) (prefix : List ℕ) (own : Path) → ¬ ((c : Conditions) → ¬ AreConditions headers prefix own c)
some_conditions headers prefix own unsaid =
    decoded_some IsTagList (get_all headers (codes "if-match")) (λ match one.
    decoded_some IsTagList (get_all headers (codes "if-none-match")) (λ none_match two.
    decoded_some (SaysLists prefix own) (get_all headers (codes "if")) (λ lists three.
    unsaid (record { if_match = match; if_none_match = none_match; lists = lists }) (record { match = one; none_match = two; lists = three }))))

some_announced : (headers : Headers) → ¬ ((announced : Option ℕ) → ¬ IsAnnounced headers announced)
some_announced headers unsaid =
    decoded_some IsContentLength (get_all headers (codes "content-length")) (λ length one.
    decoded_some IsExpectedLength (get_all headers (codes "x-expected-entity-length")) (λ expected two.
    unsaid (option_or length expected) (length, expected, one, two, refl)))

-- a range has bounds, or it has none
range_tells : (values : List FieldValue) (bounds : Option (ℕ × ℕ)) (length : Option ℕ) → IsContentRange values (record { bounds = bounds; length = length }) → ¬ ((b : Bounds) → ¬ TellsBounds values b)
range_tells values None length is untold = untold Whole (inr (length, is))
range_tells values (Some (first, last)) length is untold = untold (Within first last) (length, is)

some_bounds : (values : List FieldValue) → ¬ ((b : Bounds) → ¬ TellsBounds values b)
some_bounds values untold =
    untold Unread (λ empty. untold Whole (inl empty), λ range is. range_tells values range.bounds range.length is untold)

some_put_headers : (headers : Headers) (p : PathText) → ¬ ((h : PutHeaders) → ¬ ArePutHeaders headers p h)
some_put_headers headers p unsaid =
    some_conditions headers p.prefix (names p) (λ conditions one.
    some_announced headers (λ announced two.
    some_bounds (get_all headers (codes "content-range")) (λ range three.
    decoded_some IsUpdateRange (get_all headers (codes "x-update-range")) (λ update four.
    unsaid
    (record { conditions = conditions; announced = announced; range = range; is_partial = is_partial_update (get_all headers (codes "content-type")); update = update; checksum = checksum_in headers })
    (record { conditions = one; announced = two; range = three; is_partial = refl; update = four; checksum = refl })))))

pub some_put_plan : (m : DavMethod) (headers : Headers) (p : PathText) (body : Body) (who : Caller) → ¬ ((plan : MethodPlan Reply) → ¬ IsPut m headers p body who plan)
some_put_plan m headers p body who without =
    some_put_headers headers p (λ h is. without (put_body m h (names p) who (bytes_of_body body)) (is_put h is))

pub some_mkcol_plan : (headers : Headers) (p : PathText) (who : Caller) → ¬ ((plan : MethodPlan Reply) → ¬ IsMkcol headers p who plan)
some_mkcol_plan headers p who without =
    some_conditions headers p.prefix (names p) (λ c is. without (mkcol c p who) (is_mkcol c is))

pub some_delete_plan : (headers : Headers) (p : PathText) (who : Caller) → ¬ ((plan : MethodPlan Reply) → ¬ IsDelete headers p who plan)
some_delete_plan headers p who without =
    some_conditions headers p.prefix (names p) (λ c is.
    decoded_some IsDepth (get_all headers (codes "depth")) (λ depth too.
    without (delete (record { conditions = c; depth = depth }) p who) (is_delete (record { conditions = c; depth = depth }) (record { conditions = is; depth = too }))))

pub some_unlock_plan : (headers : Headers) (p : PathText) (who : Caller) → ¬ ((plan : MethodPlan Reply) → ¬ IsUnlock headers p who plan)
some_unlock_plan headers p who without = decoded_some SaysLockToken headers (λ token is. without (unlock token p) (is_unlock token is))

pub some_lock_plan : (headers : Headers) (p : PathText) (body : Body) (who : Caller) → ¬ ((plan : MethodPlan Reply) → ¬ IsLock headers p body who plan)
some_lock_plan headers p body who without =
    some_conditions headers p.prefix (names p) (λ c is.
    decoded_some IsDepth (get_all headers (codes "depth")) (λ depth too.
    decoded_some IsTimeout (get_all headers (codes "timeout")) (λ timeout also.
    without (lock (record { conditions = c; depth = depth; timeout = timeout }) p body who) (is_lock (record { conditions = c; depth = depth; timeout = timeout }) (record { conditions = is; depth = too; timeout = also })))))

destination_by : (prefix : List ℕ) (values : List FieldValue) (text : Option (List ℕ)) → Decodes IsDestination values text → ¬ ((r : Result PathText DavError) → ¬ DestinationNames prefix values r)
destination_by prefix values None none unsaid = unsaid _ (absent none)
destination_by prefix values (Some text) is unsaid =
    read_or_refused text (λ bytes reads. unsaid _ (outside text bytes is reads (λ d cut. unsaid (Ok d) (inside text bytes is reads cut))))
    (λ refused. unsaid _ (unreadable text {e = parse.InvalidPath} is refused (λ e. cc)))
    (λ refused. unsaid _ (unreadable text {e = parse.ForbiddenPath} is refused (λ e. cc)))

some_destination : (prefix : List ℕ) (values : List FieldValue) → ¬ ((r : Result PathText DavError) → ¬ DestinationNames prefix values r)
some_destination prefix values unsaid = decoded_some IsDestination values (λ text is. destination_by prefix values text is unsaid)

pub some_copymove_plan : (m : DavMethod) (headers : Headers) (p : PathText) (who : Caller) → ¬ ((plan : MethodPlan Reply) → ¬ IsCopyMove m headers p who plan)
some_copymove_plan m headers p who without =
    some_conditions headers p.prefix (names p) (λ c is.
    decoded_some IsDepth (get_all headers (codes "depth")) (λ depth too.
    decoded_some IsOverwrite (get_all headers (codes "overwrite")) (λ overwrite also.
    some_destination p.prefix (get_all headers (codes "destination")) (λ d named.
    without (copy_or_move m (record { conditions = c; depth = depth; overwrite = overwrite; destination = d }) p who)
    (is_copy_move (record { conditions = c; depth = depth; overwrite = overwrite; destination = d }) (record { conditions = is; depth = too; overwrite = also; destination = named }))))))

pub some_propfind_plan : (headers : Headers) (p : PathText) (content : Body) (who : Caller) → ¬ ((plan : MethodPlan Reply) → ¬ IsPropfind headers p content who plan)
some_propfind_plan headers p content who without =
    decoded_some IsDepth (get_all headers (codes "depth")) (λ depth is.
    let test = is_some (only_text (get_all headers (codes "x-litmus"))) in
    without (propfind (record { depth = depth; is_test = test }) headers p content who) (is_propfind (record { depth = depth; is_test = test }) (record { depth = is; is_test = refl })))

pub some_proppatch_plan : (headers : Headers) (p : PathText) (content : Body) (who : Caller) → ¬ ((plan : MethodPlan Reply) → ¬ IsProppatch headers p content who plan)
some_proppatch_plan headers p content who without =
    some_conditions headers p.prefix (names p) (λ c is. without (proppatch c p content who) (is_proppatch c is))
