-- A DELETE keeps the locks that its client doesn't hold.
use Rattle.std.proofs.Common.{◌≡◌, true≢false, not, cond, Bool, true, false, List, [], ◌∷◌, Some, None, Result, Ok, Err, refl, sym, ap, subst, ◌∙◌}
use Rattle.dav_core.specs.declared.errors.FsError.{FsError}
use Rattle.dav_core.specs.declared.errors.DavError.{DavError}
use Rattle.dav_core.specs.declared.errors.DavError.TheVariants as dav
use Rattle.dav_core.specs.declared.fs.DavMetaData.{DavMetaData}
use Rattle.dav_core.specs.declared.method.DavMethod.TheVariants.{Delete}
use Rattle.dav_core.specs.Asking.{Call, Answer}
use Rattle.dav_core.specs.Locks.{Lock, is_held, deleted, Requester}
use Rattle.dav_core.specs.Path.{Path, PathText, names, is_at_or_under}
use Rattle.dav_engine.specs.Caller.{Caller, requester}
use Rattle.dav_engine.specs.Conditions.{Conditions, submitted}
use Rattle.dav_engine.specs.Delete.{whole_depth, delete_allowed, drop_if_gone, delete_reply, delete_found, is_delete}
use Rattle.dav_engine.specs.Ending.{KeepsLock, keeps_done, keeps_ask, keeps_look, keeps_list, DeleteKeepsLocks}
use Rattle.dav_engine.specs.Folder.{closed}
use Rattle.dav_engine.specs.Guard.{folder_of, IsSameLock, IsListed, listed_here, listed_later}
use Rattle.dav_engine.specs.Method.{MethodPlan, ◌>>=◌, require, require_free, is_open, refused_as, require_parent, is_open_parent}
use Rattle.dav_engine.specs.Plan.{Plan, Done, Ask, Look, Locks}
use Rattle.dav_engine.specs.Removal.{Fault}
use Rattle.dav_engine.specs.Sparing.{Sparing, spares_ok, spares_err, spares_reads, spares_call, spares_look, AnyList}
use Rattle.dav_engine.proofs.DeleteWorld.{only_removal}
use Rattle.dav_engine.proofs.EndingLemmas.{keeps_then, keeps_bind}
use Rattle.dav_engine.proofs.PutWorld.{IsLook, looks, only_guarded}
use Rattle.dav_engine.proofs.SparingDelete.{free_outside_lock}
use Rattle.dav_engine.proofs.SparingPlans.{At, spare_guarded}
use Rattle.dav_engine.proofs.WorldPlans.{Only, only_done, only_ask, only_look}

-- ---- plans that set no list, with what holds of what they give

pub data Gives (h : Lock) {A : Type 0} (Q : A → Type 0) : MethodPlan A → Type 0 where
  gives_ok : {a : A} → Q a → Gives h Q (Done (Ok a))
  gives_err : {e : DavError} → Gives h Q (Done (Err e))
  gives_ask : {c : Call} {go : Result (Answer c) FsError → MethodPlan A} → ((answer : Result (Answer c) FsError) → Gives h Q (go answer)) → Gives h Q (Ask c go)
  gives_look : {go : Locks → MethodPlan A} → ((ls : List Lock) → IsListed h ls → Gives h Q (go (Some ls))) → Gives h Q (Look go)

pub gives_bind : {h : Lock} {A B : Type 0} {Q : A → Type 0} {R : B → Type 0} {plan : MethodPlan A} (f : A → MethodPlan B) → Gives h Q plan → ((a : A) → Q a → Gives h R (f a)) → Gives h R (plan >>= f)
gives_bind f (gives_ok q) more = more _ q
gives_bind f gives_err more = gives_err
gives_bind f (gives_ask next) more = gives_ask (λ answer. gives_bind f (next answer) more)
gives_bind f (gives_look next) more = gives_look (λ ls listed. gives_bind f (next ls listed) more)

pub keeps_given : {h : Lock} {A B : Type 0} {Q : A → Type 0} {plan : MethodPlan A} (f : A → MethodPlan B) → Gives h Q plan → ((a : A) → Q a → KeepsLock h (f a)) → KeepsLock h (plan >>= f)
keeps_given f (gives_ok q) more = more _ q
keeps_given f gives_err more = keeps_done
keeps_given f (gives_ask next) more = keeps_ask (λ answer. keeps_given f (next answer) more)
keeps_given f (gives_look next) more = keeps_look (λ ls listed. keeps_given f (next ls listed) more)

-- what is known of a plan that only looks
pub gives_only : {h : Lock} {A : Type 0} {covered : Path → Bool} {E : List Lock → Type 0} {Q : A → Type 0} {plan : MethodPlan A} → Only IsLook plan → Sparing covered (IsListed h) E false (At None Q) None plan → Gives h Q plan
gives_only only_done (spares_ok (same, q)) = gives_ok q
gives_only only_done spares_err = gives_err
gives_only (only_ask looks more) (spares_reads only next) = gives_ask (λ answer. gives_only (more answer) (next answer))
gives_only (only_ask looks more) (spares_call out next) = absurd out
gives_only (only_look more) (spares_look next) = gives_look (λ ls listed. gives_only (more (Some ls)) (next ls listed))

-- a plan that sets no list keeps every lock
pub keeps_only : {h : Lock} {P : Call → Type 0} {A : Type 0} {plan : Plan A} → Only P plan → KeepsLock h plan
keeps_only only_done = keeps_done
keeps_only (only_ask {c = c} is more) = keeps_ask (λ answer. keeps_only (more answer))
keeps_only (only_look more) = keeps_look (λ ls listed. keeps_only (more (Some ls)))

-- ---- the lock stays where those at a path and below it end, and it is elsewhere

module _ (h : Lock) (p : Path) (outside : is_at_or_under (folder_of h) p ≡ false) where
  here_by : (l : Lock) (more : List Lock) (b : Bool) → IsSameLock h l → is_at_or_under (names l.path) p ≡ b → IsListed h (cond (not b) (l ∷ more) more)
  here_by l more false is under = listed_here is
  here_by l more true is under = absurd (true≢false (sym under ∙ ap (λ (m : Lock). is_at_or_under (names m.path) p) is ∙ outside))

  later_by : (l : Lock) (more : List Lock) (b : Bool) → IsListed h more → IsListed h (cond b (l ∷ more) more)
  later_by l more true there = listed_later there
  later_by l more false there = there

  pub still_listed : (ls : List Lock) → IsListed h ls → IsListed h (deleted p ls)
  still_listed [] there = elim there [ ]
  still_listed (l ∷ ls) (listed_here is) = here_by l (deleted p ls) (is_at_or_under (names l.path) p) is refl
  still_listed (l ∷ ls) (listed_later there) = later_by l (deleted p ls) (not (is_at_or_under (names l.path) p)) (still_listed ls there)

-- ---- the plan

-- the check of the folder above tells nothing of the lock
gives_test : {h : Lock} {Q : Type 0} → Q → (b : Bool) (e : DavError) → Gives h (λ (u : Unit {0}). Q) (require b e)
gives_test q true e = gives_ok q
gives_test q false e = gives_err

pub gives_parent : {h : Lock} {Q : Type 0} → Q → (wanted : Bool) (who : Requester) (p : Path) (e : DavError) → Gives h (λ (u : Unit {0}). Q) (require_parent wanted who p e)
gives_parent q false who p e = gives_ok q
gives_parent q true who p e = gives_look (λ ls listed. gives_test q (is_open_parent who p (Some ls)) e)

module _ (h : Lock) (who : Caller) (c : Conditions) (unheld : is_held (requester who (submitted c.lists)) h ≡ false) where
  abbrev pub Elsewhere : Path → Type 0
  Elsewhere p = is_at_or_under (folder_of h) p ≡ false

  free_by : (p : Path) (ls : List Lock) → IsListed h ls → (b : Bool) → is_open true (requester who (submitted c.lists)) p (Some ls) ≡ b → Gives h (λ u. Elsewhere p) (require b (dav.Status 423))
  free_by p ls listed true free = gives_ok (free_outside_lock h (requester who (submitted c.lists)) unheld p ls listed free)
  free_by p ls listed false free = gives_err

  pub checked : (p : Path) (tokens : List (List _)) → tokens ≡ submitted c.lists → Gives h (λ u. Elsewhere p) (require_free true (requester who tokens) p (dav.Status 423))
  checked p tokens same =
      subst (λ ts. Gives h (λ u. Elsewhere p) (require_free true (requester who ts) p (dav.Status 423))) (sym same)
      (gives_look (λ ls listed. free_by p ls listed (is_open true (requester who (submitted c.lists)) p (Some ls)) refl))

  allowed : (p : PathText) (found : DavMetaData) → Gives h (λ u. Elsewhere (names p)) (delete_allowed c p who found)
  allowed p found =
      gives_bind _ (gives_only {covered = λ q. false} {E = AnyList} (only_guarded dav.Status Delete c (Some found)) (spare_guarded (λ q. false) (IsListed h) AnyList dav.Status Delete c (Some found)))
      (λ tokens same. gives_bind _ (checked (names p) tokens same) (λ u off. gives_parent off true (requester who tokens) (names p) (dav.Status 423)))

  answered_by : (p : PathText) (f : Fault) (faults : List Fault) → KeepsLock h (Done (delete_reply p (f ∷ faults)))
  answered_by p f faults = keeps_done

  dropped : (p : PathText) (faults : List Fault) → Elsewhere (names p) → KeepsLock h (drop_if_gone p faults >>= (λ done. Done (delete_reply p faults)))
  dropped p (f ∷ faults) off = answered_by p f faults
  dropped p [] off = keeps_look (λ ls listed. keeps_list (still_listed h (names p) off ls listed) keeps_done)

  found_keeps : (deep : Bool) (p : PathText) (found : DavMetaData) → KeepsLock h (delete_found deep c p who found)
  found_keeps deep p found =
      keeps_given _ (allowed p found) (λ u off. keeps_bind _ (keeps_only (only_removal deep who.moment p found.dir)) (λ faults. dropped p faults off))

pub delete_keeps_locks : DeleteKeepsLocks
delete_keeps_locks h headers p who plan stranger (is_delete k are) =
    keeps_then (whole_depth k.depth) _ (λ deep.
    keeps_ask (λ answer. keeps_then (refused_as dav.FsError answer) _ (λ found.
    found_keeps h who k.conditions (stranger k.conditions are.conditions) deep (closed found.dir p) found)))
