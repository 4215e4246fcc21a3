-- Laws of LOCK (RFC 4918, sections 7 and 9.10).
use Rattle.std.specs.Prelude.{◌≡◌, ◌≢◌, ◌⊎◌, ⊤, ℕ, ◌++◌, Bool, true, false, List, [], ◌∷◌, All, codes, if◌then◌else◌, Some, None, Ok, Err}
use Rattle.http_header.specs.HeaderMap.{get_all}
use Rattle.dav_core.specs.declared.errors.DavError.{DavError}
use Rattle.dav_core.specs.declared.errors.DavError.TheVariants as dav
use Rattle.dav_core.specs.Asking.{StoreState, Asks}
use Rattle.dav_core.specs.Locks.{Lock, is_grantable, refreshed}
use Rattle.dav_core.specs.Path.{Path, PathText, names, star}
use Rattle.dav_core.specs.World.{World, File, is_folder, is_missing, with_new}
use Rattle.dav_headers.specs.ETagList.{star as star_tags, IsTagList}
use Rattle.dav_engine.specs.declared.request.Body.{Body}
use Rattle.dav_engine.specs.Caller.{Caller}
use Rattle.dav_engine.specs.Conditions.{submitted}
use Rattle.dav_engine.specs.Delete.{whole_depth}
use Rattle.dav_engine.specs.Folder.{closed}
use Rattle.dav_engine.specs.Headers.{Headers}
use Rattle.dav_engine.specs.Lock.{lock_of, is_absent, IsLock}
use Rattle.dav_engine.specs.LockHeaders.{LockHeaders, AreLockHeaders, refreshed_for}
use Rattle.dav_engine.specs.LockInfo.{LockInfo, lock_info}
use Rattle.dav_engine.specs.Method.{MethodPlan}
use Rattle.dav_engine.specs.Plan.{Locks, Ran}
use Rattle.dav_engine.specs.RefusedCalls.{AsksAnswered, opens_file}
use Rattle.dav_engine.specs.Reply.{Reply}

-- A list of locks before and after: at its end is one lock more, which was grantable. It has the client's token, the path, with
-- a slash at its end where it is that of a folder, the client's principal, and the depth, the scope, the owner and the timeout
-- that the request asked for (RFC 4918, section 9.10.1).
pub record GrantsLock (headers : Headers) (p : PathText) (content : Body) (who : Caller) (w : World) (ls ms : Locks) : Type 0 where
  pub asked : LockHeaders
  pub deep : Bool
  pub info : LockInfo
  pub token : List ℕ
  pub before : List Lock
  pub said : AreLockHeaders headers p asked
  pub depth : whole_depth asked.depth ≡ Ok deep
  pub body : lock_info content ≡ Some info
  pub own : who.token ≡ Some token
  pub was : ls ≡ Some before
  pub free : is_grantable (lock_of asked (closed (is_folder w (names p)) p) who deep info token) before ≡ true
  pub is : ms ≡ Some (before ++ lock_of asked (closed (is_folder w (names p)) p) who deep info token ∷ [])

-- The world; where nothing is at a path, with a new empty file there, by which the folder above it was modified (RFC 4918, section 7.3).
abbrev pub with_empty : Path → ℕ → World → World
with_empty p now w = if is_missing w p then with_new w p (File []) [] now else w

-- A LOCK with a body that succeeds grants a lock as `GrantsLock` says; the world is as it was, but for an empty file at the
-- path where nothing was there, whatever the store refuses (RFC 4918, sections 7.3 and 9.10).
abbrev pub LockGrants : Type 0
LockGrants =
    (headers : Headers) (p : PathText) (body : Body) (who : Caller) (plan : MethodPlan Reply) (old new : StoreState) (ls ms : Locks) (r : Reply)
    → is_absent body ≡ false → IsLock headers p body who plan → Ran Asks plan old ls (Ok r) new ms
    → (new.world ≡ with_empty (names p) who.moment old.world) × GrantsLock headers p body who old.world ls ms

-- A list of locks before and after: the lock that the only token submitted and the path name has a new timeout (RFC 4918, section 9.10.2).
pub record RefreshesLock (headers : Headers) (p : PathText) (who : Caller) (ls ms : Locks) : Type 0 where
  pub asked : LockHeaders
  pub token : List ℕ
  pub before : List Lock
  pub after : List Lock
  pub said : AreLockHeaders headers p asked
  pub only : submitted asked.conditions.lists ≡ token ∷ []
  pub was : ls ≡ Some before
  pub renewed : refreshed token (names p) (refreshed_for asked.timeout) who.moment before ≡ Some after
  pub is : ms ≡ Some after

-- A LOCK without a body that succeeds refreshes a lock as `RefreshesLock` says, and leaves the world (RFC 4918, section 9.10.2).
abbrev pub LockRefreshes : Type 0
LockRefreshes =
    (headers : Headers) (p : PathText) (body : Body) (who : Caller) (plan : MethodPlan Reply) (old new : StoreState) (ls ms : Locks) (r : Reply)
    → p.bytes ≢ star → is_absent body ≡ true → IsLock headers p body who plan → Ran Asks plan old ls (Ok r) new ms
    → (new.world ≡ old.world) × RefreshesLock headers p who ls ms

-- No lock of the list has this token.
abbrev pub IsUnused : List ℕ → Locks → Type 0
IsUnused token None = ⊤
IsUnused token (Some ls) = All (λ l. l.token ≢ token) ls

-- The error is one that a LOCK may end in once the store was asked to open the empty file: a refusal of the store; 409; or 412
-- where If-None-Match is `*`. Only with these does a LOCK take back a lock that it granted (RFC 4918, section 7.3).
abbrev pub IsRefusedFile : Headers → DavError → Type 0
IsRefusedFile headers (dav.FsError e) = ⊤
IsRefusedFile headers (dav.Status status) = (status ≡ 409) ⊎ ((status ≡ 412) × IsTagList (get_all headers (codes "if-none-match")) star_tags)
IsRefusedFile headers _ = ⊥

-- A LOCK that ends in an error leaves the world. It leaves the list of locks, too, where no lock has the client's token
-- (RFC 4918, section 6.5), or the error isn't one of `IsRefusedFile`: where it is 400, 405 or 423, for instance.
abbrev pub RefusedLockLeavesAll : Type 0
RefusedLockLeavesAll =
    (headers : Headers) (p : PathText) (body : Body) (who : Caller) (plan : MethodPlan Reply) (old new : StoreState) (ls ms : Locks) (e : DavError)
    → IsLock headers p body who plan → Ran Asks plan old ls (Err e) new ms
    → (new.world ≡ old.world) × (((token : List ℕ) → who.token ≡ Some token → IsUnused token ls) ⊎ (¬ IsRefusedFile headers e) → ms ≡ ls)

-- A LOCK that ends in an error, and to which the store refuses no file, leaves the world and the list of locks, whatever locks there
-- are: also with 412, where a condition failed before a file was asked for.
abbrev pub UnrefusedLockLeavesAll : Type 0
UnrefusedLockLeavesAll =
    (headers : Headers) (p : PathText) (body : Body) (who : Caller) (plan : MethodPlan Reply) (old new : StoreState) (ls ms : Locks) (e : DavError)
    → IsLock headers p body who plan → Ran (AsksAnswered opens_file) plan old ls (Err e) new ms → (new.world ≡ old.world) × (ms ≡ ls)
