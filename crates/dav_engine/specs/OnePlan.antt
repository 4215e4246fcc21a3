-- Laws: a request has one plan at most.
use Rattle.std.specs.Prelude.{◌≡◌, List, ℕ}
use Rattle.dav_core.specs.declared.method.DavMethod.{DavMethod}
use Rattle.dav_core.specs.Path.{Path, PathText}
use Rattle.dav_engine.specs.declared.request.Body.{Body}
use Rattle.dav_engine.specs.Caller.{Caller}
use Rattle.dav_engine.specs.Conditions.{Conditions, AreConditions}
use Rattle.dav_engine.specs.CopyMove.{IsCopyMove}
use Rattle.dav_engine.specs.Delete.{IsDelete}
use Rattle.dav_engine.specs.Headers.{Headers}
use Rattle.dav_engine.specs.Lock.{IsLock}
use Rattle.dav_engine.specs.Method.{MethodPlan}
use Rattle.dav_engine.specs.Mkcol.{IsMkcol}
use Rattle.dav_engine.specs.Propfind.{IsPropfind}
use Rattle.dav_engine.specs.Proppatch.{IsProppatch}
use Rattle.dav_engine.specs.Put.{PutHeaders, ArePutHeaders, IsPut}
use Rattle.dav_engine.specs.Reply.{Reply}
use Rattle.dav_engine.specs.Unlock.{IsUnlock}

-- The headers of a request to a path say one thing as conditions, at most.
abbrev pub OneReadingOfConditions : Type 0
OneReadingOfConditions =
    (headers : Headers) (prefix : List ℕ) (own : Path) (a b : Conditions)
    → AreConditions headers prefix own a → AreConditions headers prefix own b → a ≡ b

-- The headers of a request say one thing as those of a PUT or PATCH, at most.
abbrev pub OneReadingOfPut : Type 0
OneReadingOfPut = (headers : Headers) (p : PathText) (a b : PutHeaders) → ArePutHeaders headers p a → ArePutHeaders headers p b → a ≡ b

-- A PUT or PATCH has one plan at most: its headers, its path, its body and its client determine what it does.
abbrev pub OnePutPlan : Type 0
OnePutPlan =
    (m : DavMethod) (headers : Headers) (p : PathText) (body : Body) (who : Caller) (one other : MethodPlan Reply)
    → IsPut m headers p body who one → IsPut m headers p body who other → one ≡ other

-- A MKCOL has one plan at most: its headers, its path and its client determine what it does.
abbrev pub OneMkcolPlan : Type 0
OneMkcolPlan =
    (headers : Headers) (p : PathText) (who : Caller) (one other : MethodPlan Reply)
    → IsMkcol headers p who one → IsMkcol headers p who other → one ≡ other

-- A DELETE has one plan at most: its headers, its path and its client determine what it does.
abbrev pub OneDeletePlan : Type 0
OneDeletePlan =
    (headers : Headers) (p : PathText) (who : Caller) (one other : MethodPlan Reply)
    → IsDelete headers p who one → IsDelete headers p who other → one ≡ other

-- An UNLOCK has one plan at most: its headers, its path and its client determine what it does.
abbrev pub OneUnlockPlan : Type 0
OneUnlockPlan =
    (headers : Headers) (p : PathText) (who : Caller) (one other : MethodPlan Reply)
    → IsUnlock headers p who one → IsUnlock headers p who other → one ≡ other

-- A LOCK has one plan at most: its headers, its path, its body and its client determine what it does.
abbrev pub OneLockPlan : Type 0
OneLockPlan =
    (headers : Headers) (p : PathText) (body : Body) (who : Caller) (one other : MethodPlan Reply)
    → IsLock headers p body who one → IsLock headers p body who other → one ≡ other

-- A COPY or MOVE has one plan at most: its headers, its path and its client determine what it does.
abbrev pub OneCopyMovePlan : Type 0
OneCopyMovePlan =
    (m : DavMethod) (headers : Headers) (p : PathText) (who : Caller) (one other : MethodPlan Reply)
    → IsCopyMove m headers p who one → IsCopyMove m headers p who other → one ≡ other

-- A PROPFIND has one plan at most: its headers, its path, its body and its client determine what it does.
abbrev pub OnePropfindPlan : Type 0
OnePropfindPlan =
    (headers : Headers) (p : PathText) (content : Body) (who : Caller) (one other : MethodPlan Reply)
    → IsPropfind headers p content who one → IsPropfind headers p content who other → one ≡ other

-- A PROPPATCH has one plan at most: its headers, its path, its body and its client determine what it does.
abbrev pub OneProppatchPlan : Type 0
OneProppatchPlan =
    (headers : Headers) (p : PathText) (content : Body) (who : Caller) (one other : MethodPlan Reply)
    → IsProppatch headers p content who one → IsProppatch headers p content who other → one ≡ other
