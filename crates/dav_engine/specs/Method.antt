-- Methods: plans that an error may end, and the operations that they are written with.
use Rattle.std.specs.Prelude.{ℕ, Bool, true, false, List, Option, Some, None, Result, Ok, Err}
use Rattle.dav_core.specs.declared.errors.FsError.{FsError}
use Rattle.dav_core.specs.declared.errors.DavError.{DavError}
use Rattle.dav_core.specs.declared.errors.DavError.TheVariants as dav
use Rattle.dav_core.specs.Asking.{Call, Answer}
use Rattle.dav_core.specs.Locks.{Lock, Requester, is_free_for, is_free_parent, deleted}
use Rattle.dav_core.specs.Path.{Path}
use Rattle.dav_engine.specs.Plan.{Plan, Locks, Done, Ask, Look, Keep}

-- a plan that an error may end
abbrev pub MethodPlan : Type 0 → Type 0
MethodPlan A = Plan (Result A DavError)

-- Goes on with what a part gives; an error of it ends the whole plan.
abbrev pub then : {A B : Type 0} → Result A DavError → (A → MethodPlan B) → MethodPlan B
then (Ok a) f = f a
then (Err e) f = Done (Err e)

infixl 10 ◌>>=◌
-- One part after another: the second gets what the first gives, and an error of the first ends the plan.
abbrev pub ◌>>=◌ : {A B : Type 0} → MethodPlan A → (A → MethodPlan B) → MethodPlan B
(Done r) >>= f = then r f
(Ask c go) >>= f = Ask c (λ answer. go answer >>= f)
(Look go) >>= f = Look (λ locks. go locks >>= f)
(Keep locks rest) >>= f = Keep locks (rest >>= f)

-- Ends with this value.
abbrev pub gives : {A : Type 0} → A → MethodPlan A
gives a = Done (Ok a)

-- ends with this error
abbrev pub fails : {A : Type 0} → DavError → MethodPlan A
fails e = Done (Err e)

-- goes on where the test holds; else ends with this error
abbrev pub require : Bool → DavError → MethodPlan (Unit {0})
require true e = Done (Ok tt)
require false e = Done (Err e)

-- makes a call and gives its answer, which may be a refusal
abbrev pub answer_of : (c : Call) → MethodPlan (Result (Answer c) FsError)
answer_of c = Ask c (λ answer. Done (Ok answer))

-- reads the list of locks
abbrev pub look : MethodPlan Locks
look = Look (λ locks. Done (Ok locks))

-- The answer of a call, with a refusal turned into an error of the method.
abbrev pub refused_as : {A : Type 0} → (FsError → DavError) → Result A FsError → Result A DavError
refused_as f (Ok a) = Ok a
refused_as f (Err e) = Err (f e)

-- Makes a call and gives its answer; where it is refused, ends with the error that f makes of the refusal.
abbrev pub ask_or : (FsError → DavError) → (c : Call) → MethodPlan (Answer c)
ask_or f c = Ask c (λ answer. Done (refused_as f answer))

-- Makes a call and gives its answer; where it is refused, ends with the refusal.
abbrev pub ask_for : (c : Call) → MethodPlan (Answer c)
ask_for = ask_or dav.FsError

-- Whether a path isn't locked against the requester, for infinite depth together with everything below it; without a list of
-- locks no path is locked (RFC 4918, section 7.5).
abbrev pub is_open : Bool → Requester → Path → Locks → Bool
is_open deep who p None = true
is_open deep who p (Some ls) = is_free_for deep who p ls

-- goes on where the path isn't locked against the requester, for infinite depth with everything below it; else ends with
-- this error (RFC 4918, section 7.5)
abbrev pub require_free : Bool → Requester → Path → DavError → MethodPlan (Unit {0})
require_free deep who p e = do
  locks ← look
  require (is_open deep who p locks) e

-- Whether the folder above a path isn't locked against the requester; without a list of locks no folder is (RFC 4918, section 7.4).
abbrev pub is_open_parent : Requester → Path → Locks → Bool
is_open_parent who p None = true
is_open_parent who p (Some ls) = is_free_parent who p ls

-- Where a member of the path's folder is added or removed (the Bool): goes on if the folder isn't locked against the requester;
-- else ends with this error (RFC 4918, section 7.4).
abbrev pub require_parent : Bool → Requester → Path → DavError → MethodPlan (Unit {0})
require_parent false who p e = gives tt
require_parent true who p e = do
  locks ← look
  require (is_open_parent who p locks) e

-- goes on where the path isn't locked against the requester, for infinite depth with everything below it, and, where a member of
-- its folder is made or removed, the folder isn't either; else ends with this error (RFC 4918, sections 7.4 and 7.5)
abbrev pub require_member : Bool → Bool → Requester → Path → DavError → MethodPlan (Unit {0})
require_member deep changes who p e = do
  _ ← require_free deep who p e
  require_parent changes who p e

-- whether there is a lock system
abbrev pub has_locks : Locks → Bool
has_locks None = false
has_locks (Some ls) = true

-- goes on where there is a lock system; else the plan ends with this error
abbrev pub require_locks : DavError → MethodPlan (Unit {0})
require_locks e = do
  locks ← look
  require (has_locks locks) e

-- The value that has to be there; else this error.
abbrev pub required : {A : Type 0} → Option A → DavError → Result A DavError
required None e = Err e
required (Some a) e = Ok a

-- sets the list of locks to `f` of it; without a lock system it changes nothing
abbrev pub set_by : (List Lock → List Lock) → Locks → MethodPlan (Unit {0})
set_by f None = Done (Ok tt)
set_by f (Some ls) = Keep (f ls) (Done (Ok tt))

-- Changes the list of locks by a function of the list as it is now; without a lock system it changes nothing.
abbrev pub change_locks : (List Lock → List Lock) → MethodPlan (Unit {0})
change_locks f = do
  locks ← look
  set_by f locks

-- ends the locks at a path and below it
abbrev pub drop_locks : Path → MethodPlan (Unit {0})
drop_locks p = change_locks (deleted p)

-- goes on, unless there is a status, with which the plan ends
abbrev pub unless_status : Option ℕ → MethodPlan (Unit {0})
unless_status None = Done (Ok tt)
unless_status (Some status) = Done (Err (dav.Status status))
