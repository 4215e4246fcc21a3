-- What plans do to worlds, and how that follows from their parts.
use Rattle.std.proofs.Common.{◌≡◌, Bool, true, false, Result, Ok, Err, refl, ◌∙◌}
use Rattle.dav_core.specs.declared.errors.FsError.{FsError}
use Rattle.dav_core.specs.declared.errors.DavError.{DavError}
use Rattle.dav_core.specs.World.{IsWorld}
use Rattle.dav_core.specs.Asking.{Call, Answer, StoreState, Asks}
use Rattle.dav_core.specs.CallLaws.{IsProper}
use Rattle.dav_engine.specs.Plan.{Plan, Done, Ask, Look, Keep, CallStep, Locks, Ran, ran_done, ran_ask, ran_look, ran_keep}
use Rattle.dav_engine.specs.Method.{MethodPlan, then, ◌>>=◌, require}
use Rattle.dav_engine.specs.WorldLaws.{OnlyReads, IsReading, reads_done, reads_ask, reads_look, IsProperPlan, proper_done, proper_ask, proper_look, proper_keep}
use Rattle.dav_engine.proofs.CallWorlds.{did, did_leave, Kept, kept_same, kept_on, asks_keep, asks_tell}

-- a plan that only reads leaves the world and the list of locks
pub reading_leaves : {A : Type 0} {plan : Plan A} {old new : StoreState} {ls ms : Locks} {a : A}
    → IsReading plan → Ran Asks plan old ls a new ms → (new.world ≡ old.world) × (ms ≡ ls)
reading_leaves reads_done ran_done = (refl, refl)
reading_leaves (reads_ask {c = c} only more) (ran_ask {old = old} {mid = mid} {answer = answer} one rest) =
    let (world, locks) = reading_leaves (more answer) rest in
    (world ∙ did_leave c old.world mid.world answer only (did one), locks)
reading_leaves (reads_look more) (ran_look {ls = ls} rest) = reading_leaves (more ls) rest

-- a plan of calls that a caller may make keeps worlds, their numbers, and what is remembered of these
pub proper_keeps : {A : Type 0} {plan : Plan A} {old new : StoreState} {ls ms : Locks} {a : A}
    → IsProperPlan plan → IsWorld old.world → Ran Asks plan old ls a new ms → Kept old.world new.world
proper_keeps proper_done world (ran_done {s = s}) = kept_same s.world s.world world refl
proper_keeps (proper_ask proper more) world (ran_ask {old = old} {mid = mid} {new = new} {answer = answer} one rest) =
    let first = asks_keep proper world one in
    kept_on old.world mid.world new.world first (proper_keeps (more answer (asks_tell world one)) first.world rest)
proper_keeps (proper_look more) world (ran_look {ls = ls} rest) = proper_keeps (more ls) world rest
proper_keeps (proper_keep more) world (ran_keep rest) = proper_keeps more world rest

-- ---- plans of calls of one kind

-- a plan that makes only calls of this kind, and doesn't set the list of locks
pub data Only (P : Call → Type 0) {A : Type 0} : Plan A → Type 0 where
  only_done : {a : A} → Only P (Done a)
  only_ask : {c : Call} {go : Result (Answer c) FsError → Plan A} → P c → ((answer : Result (Answer c) FsError) → Only P (go answer)) → Only P (Ask c go)
  only_look : {go : Locks → Plan A} → ((ls : Locks) → Only P (go ls)) → Only P (Look go)

pub only_reads : {P : Call → Type 0} {A : Type 0} {plan : Plan A} → ((c : Call) → P c → OnlyReads c) → Only P plan → IsReading plan
only_reads reads only_done = reads_done
only_reads reads (only_ask {c = c} is more) = reads_ask (reads c is) (λ answer. only_reads reads (more answer))
only_reads reads (only_look more) = reads_look (λ ls. only_reads reads (more ls))

pub only_proper : {P : Call → Type 0} {A : Type 0} {plan : Plan A} → ((c : Call) → P c → IsProper c) → Only P plan → IsProperPlan plan
only_proper proper only_done = proper_done
only_proper proper (only_ask {c = c} is more) = proper_ask (proper c is) (λ answer tells. only_proper proper (more answer))
only_proper proper (only_look more) = proper_look (λ ls. only_proper proper (more ls))

pub only_then : {P : Call → Type 0} {A B : Type 0} (r : Result A DavError) (f : A → MethodPlan B) → ((a : A) → Only P (f a)) → Only P (then r f)
only_then (Ok a) f more = more a
only_then (Err e) f more = only_done

pub only_bind : {P : Call → Type 0} {A B : Type 0} (plan : MethodPlan A) (f : A → MethodPlan B) → Only P plan → ((a : A) → Only P (f a)) → Only P (plan >>= f)
only_bind plan f (only_done {a = r}) more = only_then r f more
only_bind plan f (only_ask {go = go} is rest) more = only_ask is (λ answer. only_bind (go answer) f (rest answer) more)
only_bind plan f (only_look {go = go} rest) more = only_look (λ ls. only_bind (go ls) f (rest ls) more)

pub only_require : {P : Call → Type 0} (b : Bool) (e : DavError) → Only P (require b e)
only_require true e = only_done
only_require false e = only_done

pub proper_then : {A B : Type 0} (r : Result A DavError) (f : A → MethodPlan B) → ((a : A) → IsProperPlan (f a)) → IsProperPlan (then r f)
proper_then (Ok a) f more = more a
proper_then (Err e) f more = proper_done

-- plans of calls that a caller may make, one after another
pub proper_bind : {A B : Type 0} (plan : MethodPlan A) (f : A → MethodPlan B) → IsProperPlan plan → ((a : A) → IsProperPlan (f a)) → IsProperPlan (plan >>= f)
proper_bind plan f (proper_done {a = r}) more = proper_then r f more
proper_bind plan f (proper_ask {go = go} is rest) more = proper_ask is (λ answer tells. proper_bind (go answer) f (rest answer tells) more)
proper_bind plan f (proper_look {go = go} rest) more = proper_look (λ ls. proper_bind (go ls) f (rest ls) more)
proper_bind plan f (proper_keep {rest = rest} is) more = proper_keep (proper_bind rest f is more)

-- ---- a run in parts

-- a run of one part after another: the first ended, and then the rest
pub record Split (step : CallStep) {A B : Type 0} (plan : MethodPlan A) (f : A → MethodPlan B) (old : StoreState) (ls : Locks) (b : Result B DavError) (new : StoreState) (ms : Locks) : Type 0 where
  pub outcome : Result A DavError
  pub mid : StoreState
  pub ks : Locks
  pub first : Ran step plan old ls outcome mid ks
  pub rest : Ran step (then outcome f) mid ks b new ms

pub ran_split : {step : CallStep} {A B : Type 0} (plan : MethodPlan A) (f : A → MethodPlan B) {old new : StoreState} {ls ms : Locks} {b : Result B DavError}
    → Ran step (plan >>= f) old ls b new ms → Split step plan f old ls b new ms
ran_split (Done r) f {old} {ls = ls} ran = record { outcome = r; mid = old; ks = ls; first = ran_done; rest = ran }
ran_split (Ask c go) f (ran_ask {answer = answer} one more) =
    let parts = ran_split (go answer) f more in
    record { outcome = parts.outcome; mid = parts.mid; ks = parts.ks; first = ran_ask one parts.first; rest = parts.rest }
ran_split (Look go) f (ran_look {ls = ls} more) =
    let parts = ran_split (go ls) f more in
    record { outcome = parts.outcome; mid = parts.mid; ks = parts.ks; first = ran_look parts.first; rest = parts.rest }
ran_split (Keep locks rest) f (ran_keep more) =
    let parts = ran_split rest f more in
    record { outcome = parts.outcome; mid = parts.mid; ks = parts.ks; first = ran_keep parts.first; rest = parts.rest }

-- a plan that is done has its outcome
pub ran_outcome : {step : CallStep} {A : Type 0} {a b : A} {old new : StoreState} {ls ms : Locks} → Ran step (Done a) old ls b new ms → b ≡ a
ran_outcome ran_done = refl
