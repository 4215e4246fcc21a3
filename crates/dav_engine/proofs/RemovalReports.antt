-- What a removal reports: no error ends it, and each of its statuses is that of a refusal.
use Rattle.std.proofs.Common.{◌≡◌, ℕ, zero, suc, Bool, true, false, List, [], ◌∷◌, All, Result, Ok, Err, sym, subst}
use Rattle.std.proofs.lemmas.List.Elements.{All-append, All-cons, All-nil}
use Rattle.dav_core.specs.declared.errors.FsError.{FsError}
use Rattle.dav_core.specs.declared.errors.FsError.TheVariants as fs
use Rattle.dav_core.specs.declared.errors.DavError.{DavError}
use Rattle.dav_core.specs.declared.fs.DavMetaData.{DavMetaData}
use Rattle.dav_core.specs.Asking.{Call, Answer, StoreState, Asks}
use Rattle.dav_core.specs.Locks.{Lock}
use Rattle.dav_core.specs.Path.{PathText}
use Rattle.dav_core.specs.Status.{fs_status}
use Rattle.dav_engine.specs.Folder.{child_of, room_at}
use Rattle.dav_engine.specs.Method.{MethodPlan, ◌>>=◌}
use Rattle.dav_engine.specs.Plan.{Done, Ask, Look, Keep, Locks, Ran, ran_look, ran_keep}
use Rattle.dav_engine.specs.Removal.{Fault, Stays, StaysWhole, StaysWith, Walk, refused_by, emptied_status, report_of, removal, remove, each, remove_emptied, remove_found, remove_listed, remove_member}
use Rattle.dav_engine.proofs.RunLemmas.{first, finish}

-- ---- plans that no error ends

-- a plan that no error ends, and what holds of all that it may give
pub data Gives {A : Type 0} (P : A → Type 0) : MethodPlan A → Type 0 where
  gives_done : {a : A} → P a → Gives P (Done (Ok a))
  gives_ask : {c : Call} {go : Result (Answer c) FsError → MethodPlan A} → ((answer : Result (Answer c) FsError) → Gives P (go answer)) → Gives P (Ask c go)
  gives_look : {go : Locks → MethodPlan A} → ((ls : Locks) → Gives P (go ls)) → Gives P (Look go)
  gives_keep : {locks : List Lock} {rest : MethodPlan A} → Gives P rest → Gives P (Keep locks rest)

pub never_errs : {A : Type 0} {P : A → Type 0} {plan : MethodPlan A} {old new : StoreState} {ls ms : Locks} {e : DavError} → Gives P plan → Ran Asks plan old ls (Err e) new ms → ⊥
never_errs (gives_done p) ran = let ends = finish ran in let clash = ends.0 in cc
never_errs (gives_ask more) ran = let f = first ran in never_errs (more f.answer) f.more
never_errs (gives_look more) (ran_look {ls = ls} rest) = never_errs (more ls) rest
never_errs (gives_keep more) (ran_keep rest) = never_errs more rest

pub gave_by : {A : Type 0} {P : A → Type 0} {plan : MethodPlan A} {old new : StoreState} {ls ms : Locks} {a : A} → Gives P plan → Ran Asks plan old ls (Ok a) new ms → P a
gave_by {P = P} {a = a} (gives_done {a = b} p) ran = let ends = finish ran in let is = ends.0 in let same : a ≡ b = cc in subst P (sym same) p
gave_by (gives_ask more) ran = let f = first ran in gave_by (more f.answer) f.more
gave_by (gives_look more) (ran_look {ls = ls} rest) = gave_by (more ls) rest
gave_by (gives_keep more) (ran_keep rest) = gave_by more rest

pub gives_bind : {A B : Type 0} {P : A → Type 0} {Q : B → Type 0} (plan : MethodPlan A) (f : A → MethodPlan B) → Gives P plan → ((a : A) → P a → Gives Q (f a)) → Gives Q (plan >>= f)
gives_bind plan f (gives_done {a = a} p) more = more a p
gives_bind plan f (gives_ask {go = go} rest) more = gives_ask (λ answer. gives_bind (go answer) f (rest answer) more)
gives_bind plan f (gives_look {go = go} rest) more = gives_look (λ ls. gives_bind (go ls) f (rest ls) more)
gives_bind plan f (gives_keep {rest = rest} is) more = gives_keep (gives_bind rest f is more)

-- ---- a removal

module _ (P : ℕ → Type 0) (refusal : (e : FsError) → P (fs_status e)) (conflict : P 409) where
  -- the status that a fault is reported with is such a one
  abbrev Reports : Fault → Type 0
  Reports f = P (report_of f).1

  emptied : (e : FsError) → P (emptied_status e)
  emptied fs.NotImplemented = refusal fs.NotImplemented
  emptied fs.GeneralFailure = refusal fs.GeneralFailure
  emptied fs.Exists = conflict
  emptied fs.NotFound = refusal fs.NotFound
  emptied fs.Forbidden = refusal fs.Forbidden
  emptied fs.InsufficientStorage = refusal fs.InsufficientStorage
  emptied fs.LoopDetected = refusal fs.LoopDetected
  emptied fs.PathTooLong = refusal fs.PathTooLong
  emptied fs.TooLarge = refusal fs.TooLarge
  emptied fs.IsRemote = refusal fs.IsRemote

  one_report : (f : Fault) → Reports f → All Reports (f ∷ [])
  one_report f is = All-cons Reports f [] is (All-nil Reports)

  refused_reports : {A : Type 0} (fault : FsError → Fault) (r : Result A FsError) → ((e : FsError) → Reports (fault e)) → All Reports (refused_by fault r)
  refused_reports fault (Ok a) all = All-nil Reports
  refused_reports fault (Err e) all = one_report (fault e) (all e)

  gives_each : {X : Type 0} (f : X → MethodPlan (List Fault)) (xs : List X) → ((x : X) → Gives (All Reports) (f x)) → Gives (All Reports) (each f xs)
  gives_each f [] more = gives_done (All-nil Reports)
  gives_each f (x ∷ xs) more =
      gives_bind (f x) _ (more x) (λ reports are. gives_bind (each f xs) _ (gives_each f xs more) (λ others too. gives_done (All-append Reports reports others are too)))

  gives_emptied : (now : ℕ) (p : PathText) (faults : List Fault) → All Reports faults → Gives (All Reports) (remove_emptied now p faults)
  gives_emptied now p [] are = gives_ask (λ answer. gives_done (refused_reports (λ e. Stays p (emptied_status e)) answer emptied))
  gives_emptied now p (f ∷ faults) are = gives_done are

  gives_found : (walk : Walk) (p : PathText) (name : List ℕ) (seen : Result DavMetaData FsError) → ((q : PathText) (dir : Bool) → Gives (All Reports) (walk q dir)) → Gives (All Reports) (remove_found walk p name seen)
  gives_found walk p name (Ok m) more = more (child_of p name m.dir) m.dir
  gives_found walk p name (Err e) more = gives_done (one_report (StaysWith p name (fs_status e)) (refusal e))

  gives_listed : (walk : Walk) (now : ℕ) (p : PathText) (listed : Result (List (List ℕ × Bool)) FsError) → ((q : PathText) (dir : Bool) → Gives (All Reports) (walk q dir)) → Gives (All Reports) (remove_listed walk now p listed)
  gives_listed walk now p (Err e) more = gives_done (one_report (StaysWhole p (fs_status e)) (refusal e))
  gives_listed walk now p (Ok entries) more =
      gives_bind (each (remove_member walk p) entries) _
      (gives_each (remove_member walk p) entries (λ entry. gives_ask (λ seen. gives_found walk p entry.0 seen more)))
      (λ faults are. gives_emptied now p faults are)

  gives_remove : (room now : ℕ) (p : PathText) (dir : Bool) → Gives (All Reports) (remove room now p dir)
  gives_remove room now p false = gives_ask (λ answer. gives_done (refused_reports (λ e. Stays p (fs_status e)) answer refusal))
  gives_remove zero now p true = gives_done (one_report (StaysWhole p (fs_status fs.PathTooLong)) (refusal fs.PathTooLong))
  gives_remove (suc room) now p true = gives_ask (λ listed. gives_listed (λ q dir. remove room now q dir) now p listed (λ q dir. gives_remove room now q dir))

  pub gives_removal : (deep : Bool) (now : ℕ) (p : PathText) (dir : Bool) → Gives (All Reports) (removal deep now p dir)
  gives_removal true now p dir = gives_remove (room_at p) now p dir
  gives_removal false now p true = gives_ask (λ answer. gives_done (refused_reports (λ e. StaysWhole p (fs_status e)) answer refusal))
  gives_removal false now p false = gives_ask (λ answer. gives_done (refused_reports (λ e. Stays p (fs_status e)) answer refusal))
