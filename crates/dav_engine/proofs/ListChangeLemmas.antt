-- How plans change the list of locks, part by part; and those of PUT, PATCH, MKCOL and DELETE.
use Rattle.std.proofs.Common.{◌≡◌, ℕ, ◌==◌, ◌++◌, Bool, true, false, not, List, All, Contains, [], ◌∷◌, length, if◌then◌else◌, Option, Some, None, Result, Ok, Err, ◌⊎◌, inl, inr, refl, sym, subst, arith}
use Rattle.std.proofs.lemmas.List.Elements.{All-append, All-cons, All-filter, All-head, All-push, All-same, All-tail}
use Rattle.std.specs.Result.{result_ok}
use Rattle.dav_core.specs.declared.errors.DavError.{DavError}
use Rattle.dav_core.specs.declared.errors.DavError.TheVariants as dav
use Rattle.dav_core.specs.declared.fs.DavMetaData.{DavMetaData}
use Rattle.dav_core.specs.declared.method.DavMethod.{DavMethod}
use Rattle.dav_core.specs.Asking.{Call, StoreState, Write}
use Rattle.dav_core.specs.Handle.{Handle, Opening}
use Rattle.dav_core.specs.Locks.{Lock, refreshed_lock, unlocked, refreshed}
use Rattle.dav_core.specs.LockLaws.{CoveringAreShared}
use Rattle.dav_core.specs.Path.{Path, PathText, names, is_at_or_under}
use Rattle.dav_core.proofs.Theorems.{granted_are_shared, unlocked_are_shared, refreshed_are_shared, deleted_are_shared, unlock_takes_one, refresh_changes_one}
use Rattle.dav_engine.specs.Caller.{Caller}
use Rattle.dav_engine.specs.Conditions.{Conditions}
use Rattle.dav_engine.specs.Delete.{whole_depth, drop_if_gone, delete_reply, delete_found, is_delete}
use Rattle.dav_engine.specs.Folder.{closed, location_found}
use Rattle.dav_engine.specs.Guard.{OnList}
use Rattle.dav_engine.specs.ListChanges.{IsChange, grants, refreshes, unlocks, drops, AreChanges, no_change, a_change, ChangesList, changes_done, changes_ask, changes_look, changes_list, ListsAreChanged, ListsAreChangedCut, ChangesKeepShared, ChangesBringTokens, ReadingChangesList, PutChangesList, MkcolChangesList, DeleteChangesList, UnlockChangesList}
use Rattle.dav_engine.specs.Method.{MethodPlan, then as followed_by, ◌>>=◌, gives, refused_as, ask_for}
use Rattle.dav_engine.specs.Mkcol.{mkcol, create_error, is_mkcol}
use Rattle.dav_engine.specs.Plan.{Plan, Done, CallStep, Locks, Ran, ran_done, ran_ask, ran_look, ran_keep, Refused, refused_done, refused_ask, refused_look, refused_keep, RanUpTo, up_to_here, up_to_ask, up_to_look, up_to_keep}
use Rattle.dav_engine.specs.Put.{PutHeaders, put_opening, open_error, unsatisfiable, sought, store, put_body, bytes_of_body, is_put}
use Rattle.dav_engine.specs.Removal.{Fault}
use Rattle.dav_engine.specs.Reply.{Reply}
use Rattle.dav_engine.specs.Unlock.{keep_left, unlocked_reply, unlock, is_unlock}
use Rattle.dav_engine.specs.WorldLaws.{IsReading, reads_done, reads_ask, reads_look}
use Rattle.dav_engine.proofs.DeleteWorld.{only_delete_allowed, only_removal}
use Rattle.dav_engine.proofs.PutWorld.{only_put_allowed, only_mkcol_allowed}
use Rattle.dav_engine.proofs.WorldPlans.{Only, only_done, only_ask, only_look}

-- ---- the law

pub changes_join : {who : Caller} {ls ks ms : List Lock} → AreChanges who ls ks → AreChanges who ks ms → AreChanges who ls ms
changes_join no_change more = more
changes_join (a_change one rest) more = a_change one (changes_join rest more)

module _ (who : Caller) where
  abbrev From : List Lock → Locks → Type 0
  From ls ms = OnList (AreChanges who ls) ms

  joined : {ls ks : List Lock} (ms : Locks) → AreChanges who ls ks → From ks ms → From ls ms
  joined None one more = absurd more
  joined (Some ms) one more = changes_join one more

  changed_by : {step : CallStep} {A : Type 0} {plan : Plan A} {old new : StoreState} {ls : List Lock} {ms : Locks} {a : A} → ChangesList who ls plan → Ran step plan old (Some ls) a new ms → From ls ms
  changed_by changes_done ran_done = no_change
  changed_by (changes_ask more) (ran_ask {answer} one rest) = changed_by (more answer) rest
  changed_by (changes_look more) (ran_look rest) = changed_by more rest
  changed_by (changes_list {ks} is more) (ran_keep {ms = ms} rest) = joined ms (a_change is no_change) (changed_by more rest)

  -- what is left of a plan changes the list too
  changed_up_to : {step : CallStep} {A : Type 0} {plan rest : Plan A} {old new : StoreState} {ls : List Lock} {ms : Locks} → ChangesList who ls plan → RanUpTo step plan old (Some ls) rest new ms
      → (ks : List Lock) × (ms ≡ Some ks) × AreChanges who ls ks × ChangesList who ks rest
  changed_up_to {ls = ls} changes up_to_here = (ls, refl, no_change, changes)
  changed_up_to (changes_ask more) (up_to_ask {answer} one rest) = changed_up_to (more answer) rest
  changed_up_to (changes_look more) (up_to_look rest) = changed_up_to more rest
  changed_up_to (changes_list is more) (up_to_keep rest) = let (ks, same, changes, left) = changed_up_to more rest in (ks, same, a_change is changes, left)

  changed_refused : {A : Type 0} {plan : Plan A} {ls : List Lock} {ms : Locks} {a : A} → ChangesList who ls plan → Refused plan (Some ls) a ms → From ls ms
  changed_refused changes_done refused_done = no_change
  changed_refused (changes_ask more) (refused_ask e rest) = changed_refused (more (Err e)) rest
  changed_refused (changes_look more) (refused_look rest) = changed_refused more rest
  changed_refused (changes_list is more) (refused_keep {ms = ms} rest) = joined ms (a_change is no_change) (changed_refused more rest)

  from_refused : {A : Type 0} {rest : Plan A} {ls ks : List Lock} {ms locks : Locks} {a : A} → AreChanges who ls ks → ChangesList who ks rest → locks ≡ Some ks → Refused rest locks a ms → From ls ms
  from_refused {rest = rest} {ms = ms} {a = a} changes left same refused = joined ms changes (changed_refused left (subst (λ (l : Locks). Refused rest l a ms) same refused))

  cut_by : {step : CallStep} {plan : MethodPlan Reply} {old new : StoreState} {ls : List Lock} {ms : Locks} → ChangesList who ls plan
      → (rest : MethodPlan Reply) (locks : Locks) → RanUpTo step plan old (Some ls) rest new locks → ((ms ≡ Some ls) ⊎ ((outcome : Result Reply DavError) × Refused rest locks outcome ms)) → From ls ms
  cut_by {ls = ls} changes rest locks ran (inl same) = subst (From ls) (sym same) no_change
  cut_by changes rest locks ran (inr (outcome, refused)) = let (ks, same, before, left) = changed_up_to changes ran in from_refused before left same refused

pub lists_are_changed : ListsAreChanged
lists_are_changed who plan old new ls ms a changes ran = changed_by who changes ran

pub lists_are_changed_cut : ListsAreChangedCut
lists_are_changed_cut who plan old new ls ms changes cut = cut_by who changes cut.rest cut.locks cut.ran cut.list

-- ---- what lasts through changes

module _ {who : Caller} where
  shared_after : {ls ms : List Lock} → IsChange who ls ms → CoveringAreShared ls → CoveringAreShared ms
  shared_after {ls} (grants l own ok) shared = granted_are_shared l ls shared ok
  shared_after {ls} {ms} (refreshes token p timeout now is) shared = refreshed_are_shared token p timeout now ls ms shared is
  shared_after {ls} {ms} (unlocks token p is) shared = unlocked_are_shared token p ls ms shared is
  shared_after {ls} (drops p) shared = deleted_are_shared p ls shared

  pub shared_after_all : {ls ms : List Lock} → AreChanges who ls ms → CoveringAreShared ls → CoveringAreShared ms
  shared_after_all no_change shared = shared
  shared_after_all (a_change one more) shared = shared_after_all more (shared_after one shared)

-- the locks whose tokens meet P
abbrev Good : (List ℕ → Type 0) → Lock → Type 0
Good P l = P l.token

parts : (P : List ℕ → Type 0) (front back : List Lock) (l : Lock) → All (Good P) (front ++ l ∷ back) → All (Good P) front × Good P l × All (Good P) back
parts P [] back l all = (λ k d small. absurd (omega (arith, small)), All-head (Good P) l back all, All-tail (Good P) l back all)
parts P (m ∷ front) back l all =
    let (more, here, rest) = parts P front back l (All-tail (Good P) m (front ++ l ∷ back) all) in
    (All-cons (Good P) m front (All-head (Good P) m (front ++ l ∷ back) all) more, here, rest)

tokens_refreshed : (P : List ℕ → Type 0) (token : List ℕ) (p : Path) (timeout : Option ℕ) (now : ℕ) (ls ms : List Lock) → refreshed token p timeout now ls ≡ Some ms → All (Good P) ls → All (Good P) ms
tokens_refreshed P token p timeout now ls ms is all =
    let (l, front, back, meant, was, new) = refresh_changes_one token p timeout now ls ms is in
    let (before, here, after) = parts P front back l (All-same (Good P) (front ++ l ∷ back) ls (sym was) all) in
    All-same (Good P) ms (front ++ refreshed_lock timeout now l ∷ back) new (All-append (Good P) front (refreshed_lock timeout now l ∷ back) before (All-cons (Good P) (refreshed_lock timeout now l) back here after))

tokens_unlocked : (P : List ℕ → Type 0) (token : List ℕ) (p : Path) (ls ms : List Lock) → unlocked token p ls ≡ Some ms → All (Good P) ls → All (Good P) ms
tokens_unlocked P token p ls ms is all =
    let (l, front, back, meant, was, new) = unlock_takes_one token p ls ms is in
    let (before, here, after) = parts P front back l (All-same (Good P) (front ++ l ∷ back) ls (sym was) all) in
    All-same (Good P) ms (front ++ back) new (All-append (Good P) front back before after)

module _ {who : Caller} (P : List ℕ → Type 0) (own : (token : List ℕ) → who.token ≡ Some token → P token) where
  tokens_after : {ls ms : List Lock} → IsChange who ls ms → All (Good P) ls → All (Good P) ms
  tokens_after {ls} (grants l is ok) all = All-push (Good P) ls l all (own l.token is)
  tokens_after {ls} {ms} (refreshes token p timeout now is) all = tokens_refreshed P token p timeout now ls ms is all
  tokens_after {ls} {ms} (unlocks token p is) all = tokens_unlocked P token p ls ms is all
  tokens_after {ls} (drops p) all = All-filter (λ l. not (is_at_or_under (names l.path) p)) (Good P) ls all

  -- what holds of the tokens of the locks before, and of the client's token, holds of those after
  pub tokens_after_all : {ls ms : List Lock} → AreChanges who ls ms → All (λ l. P l.token) ls → All (λ l. P l.token) ms
  tokens_after_all no_change all = all
  tokens_after_all (a_change one more) all = tokens_after_all more (tokens_after one all)

pub changes_keep_shared : ChangesKeepShared
changes_keep_shared who ls ms changes shared = shared_after_all changes shared

pub changes_bring_tokens : ChangesBringTokens
changes_bring_tokens who tokens ls ms changes have own = tokens_after_all (Contains tokens) own changes have

-- ---- parts

module _ {who : Caller} where
  pub changes_reading : {ls : List Lock} {A : Type 0} {plan : Plan A} → IsReading plan → ChangesList who ls plan
  changes_reading reads_done = changes_done
  changes_reading (reads_ask {c = c} is more) = changes_ask (λ answer. changes_reading (more answer))
  changes_reading {ls} (reads_look more) = changes_look (changes_reading (more (Some ls)))

  -- a plan that sets no list
  pub changes_only : {ls : List Lock} {P : Call → Type 0} {A : Type 0} {plan : Plan A} → Only P plan → ChangesList who ls plan
  changes_only only_done = changes_done
  changes_only (only_ask {c = c} is more) = changes_ask (λ answer. changes_only (more answer))
  changes_only {ls} (only_look more) = changes_look (changes_only (more (Some ls)))

  -- an outcome, and what follows it
  pub changes_then : {ls : List Lock} {A B : Type 0} (r : Result A DavError) (f : A → MethodPlan B) → ((a : A) → ChangesList who ls (f a)) → ChangesList who ls (followed_by r f)
  changes_then (Ok a) f more = more a
  changes_then (Err e) f more = changes_done

  -- one part after another
  pub changes_bind : {A B : Type 0} {ls : List Lock} {plan : MethodPlan A} (f : A → MethodPlan B) → ChangesList who ls plan → ((ks : List Lock) (a : A) → ChangesList who ks (f a)) → ChangesList who ls (plan >>= f)
  changes_bind {ls = ls} f (changes_done {a = r}) more = changes_then r f (more ls)
  changes_bind f (changes_ask next) more = changes_ask (λ answer. changes_bind f (next answer) more)
  changes_bind f (changes_look next) more = changes_look (changes_bind f next more)
  changes_bind f (changes_list is next) more = changes_list is (changes_bind f next more)

-- ---- PUT, PATCH and MKCOL set no list

module _ (who : Caller) where
  changes_sought : (ls : List Lock) (place : Option ℕ) (file : Handle) → ChangesList who ls (sought place file)
  changes_sought ls None file = changes_done
  changes_sought ls (Some k) file = changes_ask (λ answer. changes_then (refused_as (λ e. unsatisfiable) answer) _ (λ moved. changes_done))

  changes_written : (ls : List Lock) (b : Bool) (file : Handle) (bytes : List ℕ) (now : ℕ) → ChangesList who ls (if b then gives file else ask_for (Write file bytes now))
  changes_written ls true file bytes now = changes_done
  changes_written ls false file bytes now = changes_ask (λ answer. changes_done)

  changes_store : (ls : List Lock) (how : Opening) (place : Option ℕ) (p : Path) (bytes : List ℕ) (now : ℕ) (found : Bool) → ChangesList who ls (store how place p bytes now found)
  changes_store ls how place p bytes now found = changes_ask (λ answer.
      changes_then (refused_as (open_error how) answer) _ (λ file.
      changes_bind _ (changes_sought ls place file) (λ ks file.
      changes_bind _ (changes_written ks (length bytes == 0) file bytes now) (λ js file.
      changes_ask (λ answer. changes_then (refused_as dav.FsError answer) _ (λ done. changes_ask (λ answer. changes_done)))))))

  changes_put : (ls : List Lock) (m : DavMethod) (headers : PutHeaders) (p : Path) (bytes : Option (List ℕ)) → ChangesList who ls (put_body m headers p who bytes)
  changes_put ls m headers p None = changes_done
  changes_put ls m headers p (Some bytes) =
      changes_bind _ (changes_only (only_put_allowed m headers p who bytes)) (λ ks allowed.
      changes_store ks (put_opening headers allowed.0) allowed.0.from p bytes who.moment allowed.1)

  changes_mkcol : (ls : List Lock) (c : Conditions) (p : PathText) → ChangesList who ls (mkcol c p who)
  changes_mkcol ls c p =
      changes_bind _ (changes_only (only_mkcol_allowed c p who)) (λ ks allowed.
      changes_ask (λ answer. changes_then (refused_as create_error answer) _ (λ done. changes_done)))

  -- ---- DELETE

  changes_dropped : (ls : List Lock) (p : PathText) (faults : List Fault) → ChangesList who ls (drop_if_gone p faults >>= (λ done. Done (delete_reply p faults)))
  changes_dropped ls p (f ∷ faults) = changes_done
  changes_dropped ls p [] = changes_look (changes_list (drops (names p)) changes_done)

  changes_found : (ls : List Lock) (deep : Bool) (c : Conditions) (p : PathText) (found : DavMetaData) → ChangesList who ls (delete_found deep c p who found)
  changes_found ls deep c p found =
      changes_bind _ (changes_only (only_delete_allowed c p who found)) (λ ks allowed.
      changes_bind _ (changes_only (only_removal deep who.moment p found.dir)) (λ js faults. changes_dropped js p faults))

  -- ---- UNLOCK

  changes_left : (ls : List Lock) (token : List ℕ) (p : Path) (reply : Reply) (left : Option (List Lock)) → unlocked token p ls ≡ left → ChangesList who ls (keep_left left >>= (λ ended. gives reply))
  changes_left ls token p reply None is = changes_done
  changes_left ls token p reply (Some ms) is = changes_list (unlocks token p is) changes_done

  changes_unlock : (ls : List Lock) (token : Option (List ℕ)) (p : PathText) → ChangesList who ls (unlock token p)
  changes_unlock ls None p = changes_look changes_done
  changes_unlock ls (Some token) p = changes_look (changes_ask (λ found. changes_look
      (changes_left ls token (names p) (unlocked_reply (location_found (result_ok found) p)) (unlocked token (names p) ls) refl)))

pub reading_changes_list : ReadingChangesList
reading_changes_list who ls plan reads = changes_reading reads

pub put_changes_list : PutChangesList
put_changes_list m headers p body who ls plan (is_put hd are) = changes_put who ls m hd (names p) (bytes_of_body body)

pub mkcol_changes_list : MkcolChangesList
mkcol_changes_list headers p who ls plan (is_mkcol c are) = changes_mkcol who ls c p

pub delete_changes_list : DeleteChangesList
delete_changes_list headers p who ls plan (is_delete k are) =
    changes_then (whole_depth k.depth) _ (λ deep.
    changes_ask (λ answer. changes_then (refused_as dav.FsError answer) _ (λ found.
    changes_found who ls deep k.conditions (closed found.dir p) found)))

pub unlock_changes_list : UnlockChangesList
unlock_changes_list headers p who ls plan (is_unlock token said) = changes_unlock who ls token p
