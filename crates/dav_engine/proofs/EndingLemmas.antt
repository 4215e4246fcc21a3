-- Plans that leave a lock in the list, part by part; and those of PUT, PATCH and MKCOL.
use Rattle.std.proofs.Common.{◌≡◌, ℕ, ◌==◌, Bool, true, false, List, length, if◌then◌else◌, Option, Some, None, Result, Ok, Err, ◌⊎◌, inl, inr, sym, subst}
use Rattle.dav_core.specs.declared.errors.DavError.{DavError}
use Rattle.dav_core.specs.declared.errors.DavError.TheVariants as dav
use Rattle.dav_core.specs.declared.method.DavMethod.{DavMethod}
use Rattle.dav_core.specs.Asking.{StoreState, Write}
use Rattle.dav_core.specs.Handle.{Handle, Opening}
use Rattle.dav_core.specs.Locks.{Lock}
use Rattle.dav_core.specs.Path.{Path, PathText, names}
use Rattle.dav_engine.specs.Caller.{Caller}
use Rattle.dav_engine.specs.Conditions.{Conditions}
use Rattle.dav_engine.specs.Ending.{KeepsLock, keeps_done, keeps_ask, keeps_look, keeps_list, KeptLocksStand, KeptLocksStandCut, ReadingKeepsLocks, PutKeepsLocks, MkcolKeepsLocks}
use Rattle.dav_engine.specs.Guard.{Stands}
use Rattle.dav_engine.specs.Method.{MethodPlan, then as followed_by, ◌>>=◌, gives, refused_as, ask_for}
use Rattle.dav_engine.specs.Mkcol.{mkcol, create_error, is_mkcol}
use Rattle.dav_engine.specs.Plan.{Plan, CallStep, Locks, Ran, ran_done, ran_ask, ran_look, ran_keep, Refused, refused_done, refused_ask, refused_look, refused_keep, RanUpTo, up_to_here, up_to_ask, up_to_look, up_to_keep}
use Rattle.dav_engine.specs.Put.{PutHeaders, put_opening, open_error, unsatisfiable, sought, store, put_body, bytes_of_body, is_put}
use Rattle.dav_engine.specs.Reply.{Reply}
use Rattle.dav_engine.specs.WorldLaws.{IsReading, reads_done, reads_ask, reads_look}
use Rattle.dav_engine.proofs.PutWorld.{look_reads, only_put_allowed, only_mkcol_allowed}
use Rattle.dav_engine.proofs.WorldPlans.{only_reads}

-- ---- the law

module _ (h : Lock) where
  kept_stands : {step : CallStep} {A : Type 0} {plan : Plan A} {old new : StoreState} {ls ms : Locks} {a : A} → KeepsLock h plan → Ran step plan old ls a new ms → Stands h ls → Stands h ms
  kept_stands keeps_done ran_done stands = stands
  kept_stands (keeps_ask more) (ran_ask {answer} one rest) stands = kept_stands (more answer) rest stands
  kept_stands (keeps_look more) (ran_look {ls = Some ls} rest) stands = kept_stands (more ls stands) rest stands
  kept_stands (keeps_look more) (ran_look {ls = None} rest) stands = absurd stands
  kept_stands (keeps_list is more) (ran_keep {ls = Some ls} rest) stands = kept_stands more rest is
  kept_stands (keeps_list is more) (ran_keep {ls = None} rest) stands = absurd stands

  -- what is left of a plan keeps the lock too, and it stands
  kept_up_to : {step : CallStep} {A : Type 0} {plan rest : Plan A} {old new : StoreState} {ls ms : Locks} → KeepsLock h plan → RanUpTo step plan old ls rest new ms → Stands h ls → KeepsLock h rest × Stands h ms
  kept_up_to keeps up_to_here stands = (keeps, stands)
  kept_up_to (keeps_ask more) (up_to_ask {answer} one rest) stands = kept_up_to (more answer) rest stands
  kept_up_to (keeps_look more) (up_to_look {ls = Some ls} rest) stands = kept_up_to (more ls stands) rest stands
  kept_up_to (keeps_look more) (up_to_look {ls = None} rest) stands = absurd stands
  kept_up_to (keeps_list is more) (up_to_keep {ls = Some ls} rest) stands = kept_up_to more rest is
  kept_up_to (keeps_list is more) (up_to_keep {ls = None} rest) stands = absurd stands

  kept_refused : {A : Type 0} {plan : Plan A} {ls ms : Locks} {a : A} → KeepsLock h plan → Refused plan ls a ms → Stands h ls → Stands h ms
  kept_refused keeps_done refused_done stands = stands
  kept_refused (keeps_ask more) (refused_ask e rest) stands = kept_refused (more (Err e)) rest stands
  kept_refused (keeps_look more) (refused_look {ls = Some ls} rest) stands = kept_refused (more ls stands) rest stands
  kept_refused (keeps_look more) (refused_look {ls = None} rest) stands = absurd stands
  kept_refused (keeps_list is more) (refused_keep {ls = Some ls} rest) stands = kept_refused more rest is
  kept_refused (keeps_list is more) (refused_keep {ls = None} rest) stands = absurd stands

pub kept_locks_stand : KeptLocksStand
kept_locks_stand h plan old new ls ms a keeps ran stands = kept_stands h keeps ran stands

-- where memory runs out: the list is that of the beginning, or what the rest leaves where each of its calls is refused
stands_cut : (h : Lock) {step : CallStep} {plan : MethodPlan Reply} {old new : StoreState} {ls ms : Locks} → KeepsLock h plan → Stands h ls
    → (rest : MethodPlan Reply) (locks : Locks) → RanUpTo step plan old ls rest new locks → ((ms ≡ ls) ⊎ ((outcome : Result Reply DavError) × Refused rest locks outcome ms)) → Stands h ms
stands_cut h keeps stands rest locks ran (inl same) = subst (Stands h) (sym same) stands
stands_cut h keeps stands rest locks ran (inr (outcome, refused)) = let (still, there) = kept_up_to h keeps ran stands in kept_refused h still refused there

pub kept_locks_stand_cut : KeptLocksStandCut
kept_locks_stand_cut h plan old new ls ms keeps cut stands = stands_cut h keeps stands cut.rest cut.locks cut.ran cut.list

-- ---- parts

pub keeps_reading : {h : Lock} {A : Type 0} {plan : Plan A} → IsReading plan → KeepsLock h plan
keeps_reading reads_done = keeps_done
keeps_reading (reads_ask {c = c} is more) = keeps_ask (λ answer. keeps_reading (more answer))
keeps_reading (reads_look more) = keeps_look (λ ls listed. keeps_reading (more (Some ls)))

-- an outcome, and what follows it
pub keeps_then : {h : Lock} {A B : Type 0} (r : Result A DavError) (f : A → MethodPlan B) → ((a : A) → KeepsLock h (f a)) → KeepsLock h (followed_by r f)
keeps_then (Ok a) f more = more a
keeps_then (Err e) f more = keeps_done

-- one part after another
pub keeps_bind : {h : Lock} {A B : Type 0} {plan : MethodPlan A} (f : A → MethodPlan B) → KeepsLock h plan → ((a : A) → KeepsLock h (f a)) → KeepsLock h (plan >>= f)
keeps_bind f (keeps_done {a = r}) more = keeps_then r f more
keeps_bind f (keeps_ask next) more = keeps_ask (λ answer. keeps_bind f (next answer) more)
keeps_bind f (keeps_look next) more = keeps_look (λ ls listed. keeps_bind f (next ls listed) more)
keeps_bind f (keeps_list is next) more = keeps_list is (keeps_bind f next more)

-- ---- PUT, PATCH and MKCOL set no list

module _ (h : Lock) where
  keeps_sought : (place : Option ℕ) (file : Handle) → KeepsLock h (sought place file)
  keeps_sought None file = keeps_done
  keeps_sought (Some k) file = keeps_ask (λ answer. keeps_then (refused_as (λ e. unsatisfiable) answer) _ (λ moved. keeps_done))

  keeps_written : (b : Bool) (file : Handle) (bytes : List ℕ) (now : ℕ) → KeepsLock h (if b then gives file else ask_for (Write file bytes now))
  keeps_written true file bytes now = keeps_done
  keeps_written false file bytes now = keeps_ask (λ answer. keeps_done)

  keeps_store : (how : Opening) (place : Option ℕ) (p : Path) (bytes : List ℕ) (now : ℕ) (found : Bool) → KeepsLock h (store how place p bytes now found)
  keeps_store how place p bytes now found = keeps_ask (λ answer.
      keeps_then (refused_as (open_error how) answer) _ (λ file.
      keeps_bind _ (keeps_sought place file) (λ file.
      keeps_bind _ (keeps_written (length bytes == 0) file bytes now) (λ file.
      keeps_ask (λ answer. keeps_then (refused_as dav.FsError answer) _ (λ done. keeps_ask (λ answer. keeps_done)))))))

  keeps_put : (m : DavMethod) (headers : PutHeaders) (p : Path) (who : Caller) (bytes : Option (List ℕ)) → KeepsLock h (put_body m headers p who bytes)
  keeps_put m headers p who None = keeps_done
  keeps_put m headers p who (Some bytes) =
      keeps_bind _ (keeps_reading (only_reads look_reads (only_put_allowed m headers p who bytes))) (λ allowed.
      keeps_store (put_opening headers allowed.0) allowed.0.from p bytes who.moment allowed.1)

  keeps_mkcol : (c : Conditions) (p : PathText) (who : Caller) → KeepsLock h (mkcol c p who)
  keeps_mkcol c p who =
      keeps_bind _ (keeps_reading (only_reads look_reads (only_mkcol_allowed c p who))) (λ allowed.
      keeps_ask (λ answer. keeps_then (refused_as create_error answer) _ (λ done. keeps_done)))

pub reading_keeps_locks : ReadingKeepsLocks
reading_keeps_locks h plan reads = keeps_reading reads

pub put_keeps_locks : PutKeepsLocks
put_keeps_locks h m headers p body who plan (is_put hd are) = keeps_put h m hd (names p) who (bytes_of_body body)

pub mkcol_keeps_locks : MkcolKeepsLocks
mkcol_keeps_locks h headers p who plan (is_mkcol c are) = keeps_mkcol h c p who
