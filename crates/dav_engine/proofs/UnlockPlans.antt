-- What an UNLOCK does to worlds and to lists of locks.
use Rattle.std.proofs.Common.{◌≡◌, ◌++◌, ℕ, Bool, true, List, Option, Some, None, Result, Ok, Err, refl, sym, ap, subst, ◌∙◌}
use Rattle.std.specs.Result.{result_ok}
use Rattle.dav_core.specs.declared.errors.FsError.{FsError}
use Rattle.dav_core.specs.declared.errors.DavError.{DavError}
use Rattle.dav_core.specs.declared.errors.DavError.TheVariants as dav
use Rattle.dav_core.specs.declared.fs.DavMetaData.{DavMetaData}
use Rattle.dav_core.specs.Asking.{StoreState, Asks, Metadata}
use Rattle.dav_core.specs.Locks.{Lock, covers, unlocked}
use Rattle.dav_core.specs.Path.{Path, PathText, names}
use Rattle.dav_engine.specs.Alongside.{Alongside, SameResult, SameMetadata, side_asks, side_look, side_last, SameAnswers}
use Rattle.dav_engine.specs.IsolatedPlans.{UnlockIsIsolated}
use Rattle.dav_engine.specs.AnswerParts.{answers_of}
use Rattle.dav_engine.specs.Ending.{KeepsLock, keeps_done, keeps_ask, keeps_look, keeps_list, UnlockKeepsLocks}
use Rattle.dav_engine.specs.Folder.{location_found}
use Rattle.dav_engine.specs.Guard.{folder_of, Guards, IsListed, StillGuards}
use Rattle.dav_engine.specs.Headers.{Headers}
use Rattle.dav_engine.specs.LockToken.{SaysLockToken}
use Rattle.dav_engine.specs.Method.{MethodPlan, ◌>>=◌, require, has_locks, required, gives}
use Rattle.dav_engine.specs.Plan.{Locks, Ran, ran_done, ran_ask, ran_look, ran_keep}
use Rattle.dav_engine.specs.Reply.{Reply}
use Rattle.dav_engine.specs.Sparing.{Sparing, Anything, AnyList, spares_err, spares_reads, spares_look, spares_last}
use Rattle.dav_engine.specs.SparingPlans.{UnlockSpares}
use Rattle.dav_engine.specs.Unlock.{keep_left, end_in, unlocked_reply, end_lock, unlock, is_unlock}
use Rattle.dav_engine.specs.UnlockLaws.{EndsLock, UnlockEndsLock, RefusedUnlockLeavesAll}
use Rattle.dav_engine.specs.WorldLaws.{IsProperPlan, proper_done, proper_ask, proper_look, proper_keep, UnlockIsProper}
use Rattle.dav_engine.proofs.IsolatedPlans.{in_reach}
use Rattle.dav_engine.proofs.CallWorlds.{did, did_leave}
use Rattle.dav_engine.proofs.LockListLemmas.{unlocked_guards, unlocked_listed, guard_ends}
use Rattle.dav_engine.proofs.LockTokenLemmas.{one_lock_token}
use Rattle.dav_engine.proofs.PutWorld.{look_proper}
use Rattle.dav_engine.proofs.SparingPlans.{spare_then}
use Rattle.dav_engine.proofs.WorldPlans.{only_require, only_proper, proper_then, proper_bind, ran_outcome}

-- what follows what is left of a list
abbrev replies : PathText → Result DavMetaData FsError → Option (List Lock) → MethodPlan Reply
replies p answer left = do
  _ ← keep_left left
  gives (unlocked_reply (location_found (result_ok answer) p))

-- ---- worlds

proper_left : (left : Option (List Lock)) → IsProperPlan (keep_left left)
proper_left None = proper_done
proper_left (Some ls) = proper_keep proper_done

proper_end : (token : List ℕ) (p : Path) (ls : Locks) → IsProperPlan (end_in token p ls)
proper_end token p None = proper_done
proper_end token p (Some ls) = proper_left (unlocked token p ls)

proper_unlock : (token : Option (List ℕ)) (p : PathText) → IsProperPlan (unlock token p)
proper_unlock token p =
    proper_look (λ ls. proper_bind (require (has_locks ls) (dav.Status 405)) _ (only_proper look_proper (only_require (has_locks ls) (dav.Status 405))) (λ there.
    proper_then (required token (dav.Status 400)) _ (λ said. proper_ask tt (λ answer tells.
    proper_look (λ ks. proper_bind (end_in said (names p) ks) _ (proper_end said (names p) ks) (λ done. proper_done))))))

pub unlock_is_proper : UnlockIsProper
unlock_is_proper headers p who plan (is_unlock token is) = proper_unlock token p

-- a run of what follows what is left
left_by : (p : PathText) (answer : Result DavMetaData FsError) (left : Option (List Lock)) {s new : StoreState} {ls : List Lock} {ms : Locks} {r : Reply}
    → Ran Asks (replies p answer left) s (Some ls) (Ok r) new ms → (after : List Lock) × (left ≡ Some after) × (new ≡ s) × (ms ≡ Some after)
left_by p answer None ran = absurd (let e = ran_outcome ran in cc)
left_by p answer (Some after) (ran_keep ran_done) = (after, refl, refl, refl)

stays_by : (p : PathText) (answer : Result DavMetaData FsError) (left : Option (List Lock)) {s new : StoreState} {ls ms : Locks} {e : DavError}
    → Ran Asks (replies p answer left) s ls (Err e) new ms → (new ≡ s) × (ms ≡ ls)
stays_by p answer None ran_done = (refl, refl)
stays_by p answer (Some after) (ran_keep ran) = absurd (let e = ran_outcome ran in cc)

unlock_ends : (headers : Headers) (p : PathText) (token : List ℕ) {old new : StoreState} {ls : List Lock} {ms : Locks} {r : Reply}
    → SaysLockToken headers token → Ran Asks (end_lock p token) old (Some ls) (Ok r) new ms → (new.world ≡ old.world) × EndsLock headers p (Some ls) ms
unlock_ends headers p token {old} {new} {ls} {ms} says (ran_ask {mid = mid} {answer = answer} one (ran_look ran)) =
    let (after, left, same, is) = left_by p answer (unlocked token (names p) ls) ran in (
      ap (λ (s : StoreState). s.world) same ∙ did_leave (Metadata (names p)) old.world mid.world answer tt (did one),
      record { token = token; before = ls; after = after; said = says; was = refl; ended = left; is = is },
    )

pub unlock_ends_lock : UnlockEndsLock
unlock_ends_lock headers p who plan old new None ms r (is_unlock token is) (ran_look ran) = absurd (let e = ran_outcome ran in cc)
unlock_ends_lock headers p who plan old new (Some ls) ms r (is_unlock None is) (ran_look ran) = absurd (let e = ran_outcome ran in cc)
unlock_ends_lock headers p who plan old new (Some ls) ms r (is_unlock (Some token) is) (ran_look ran) = unlock_ends headers p token is ran

unlock_stays : (p : PathText) (token : List ℕ) {old new : StoreState} {ls : List Lock} {ms : Locks} {e : DavError}
    → Ran Asks (end_lock p token) old (Some ls) (Err e) new ms → (new.world ≡ old.world) × (ms ≡ Some ls)
unlock_stays p token {old} {ls = ls} (ran_ask {mid = mid} {answer = answer} one (ran_look ran)) =
    let (same, is) = stays_by p answer (unlocked token (names p) ls) ran in
    (ap (λ (s : StoreState). s.world) same ∙ did_leave (Metadata (names p)) old.world mid.world answer tt (did one), is)

pub refused_unlock_leaves_all : RefusedUnlockLeavesAll
refused_unlock_leaves_all headers p who plan old new None ms e (is_unlock token is) (ran_look ran_done) = (refl, refl)
refused_unlock_leaves_all headers p who plan old new (Some ls) ms e (is_unlock None is) (ran_look ran_done) = (refl, refl)
refused_unlock_leaves_all headers p who plan old new (Some ls) ms e (is_unlock (Some token) is) (ran_look ran) = unlock_stays p token ran

-- ---- what is locked

module _ (covered : Path → Bool) (G E : List Lock → Type 0) (ends : (token : List ℕ) (p : Path) (ls left : List Lock) → G ls → unlocked token p ls ≡ Some left → E left) where
  spare_left : (p : PathText) (answer : Result DavMetaData FsError) (left : Option (List Lock)) → ((after : List Lock) → left ≡ Some after → E after)
      → Sparing covered G E true Anything None (replies p answer left)
  spare_left p answer None over = spares_err
  spare_left p answer (Some after) over = spares_last refl (over after refl)

  pub spare_unlock : (token : Option (List ℕ)) (p : PathText) → Sparing covered G E true Anything None (unlock token p)
  spare_unlock token p =
      spares_look (λ ls g. spare_then (required token (dav.Status 400)) _ (λ said _.
      spares_reads {c = Metadata (names p)} tt (λ answer. spares_look (λ ks k. spare_left p answer (unlocked said (names p) ks) (λ after is. ends said (names p) ks after k is)))))

pub unlock_spares : UnlockSpares
unlock_spares h headers p who plan (is_unlock token is) =
    (spare_unlock (covers h) (IsListed h) AnyList (λ token p ls left there is. tt) token p, spare_unlock (covers h) (Guards h) (StillGuards h) (λ token p ls left g is. unlocked_guards h token p ls left g is) token p)

-- ---- the lock of another token

keeps_left : (h : Lock) (p : PathText) (answer : Result DavMetaData FsError) (left : Option (List Lock)) → ((after : List Lock) → left ≡ Some after → IsListed h after) → KeepsLock h (replies p answer left)
keeps_left h p answer None listed = keeps_done
keeps_left h p answer (Some after) listed = keeps_list (listed after refl) keeps_done

pub unlock_keeps_locks : UnlockKeepsLocks
unlock_keeps_locks h headers p who plan other (is_unlock None is) = keeps_look (λ ls there. keeps_done)
unlock_keeps_locks h headers p who plan other (is_unlock (Some token) is) =
    keeps_look (λ ls there. keeps_ask (λ answer. keeps_look (λ ks here.
    keeps_left h p answer (unlocked token (names p) ks) (λ after left.
    unlocked_listed h token (names p) ks after (λ same. other (subst (SaysLockToken headers) same is)) here left))))

-- ---- the holder

same_reply : (p : PathText) (a b : Result DavMetaData FsError) → SameResult SameMetadata a b → unlocked_reply (location_found (result_ok a) p) ≡ unlocked_reply (location_found (result_ok b) p)
same_reply p (Ok m) (Ok n) same = ap (λ d. unlocked_reply (location_found (Some (record m { dir = d })) p)) same.dir
same_reply p (Err e) (Err f) same = refl
same_reply p (Ok m) (Err f) same = absurd same
same_reply p (Err e) (Ok n) same = absurd same

module _ (h : Lock) (p : PathText) (rest : Path) (at : names p ≡ folder_of h ++ rest) where
  side_ends : (a b : Result DavMetaData FsError) → SameResult SameMetadata a b → (ls ks : List Lock) → Guards h ls → Guards h ks
      → Alongside h true (λ file. SameAnswers) None (replies p a (unlocked h.token (names p) ls)) (replies p b (unlocked h.token (names p) ks))
  side_ends a b told ls ks g g' =
      let (left, is, gone) = guard_ends h rest ls g in
      let (other, also, away) = guard_ends h rest ks g' in
      let one : unlocked h.token (names p) ls ≡ Some left = ap (λ q. unlocked h.token q ls) at ∙ is in
      let two : unlocked h.token (names p) ks ≡ Some other = ap (λ q. unlocked h.token q ks) at ∙ also in
      subst (λ o. Alongside h true (λ file. SameAnswers) None (replies p a o) (replies p b (unlocked h.token (names p) ks))) (sym one)
      (subst (λ o. Alongside h true (λ file. SameAnswers) None (replies p a (Some left)) (replies p b o)) (sym two)
      (side_last refl gone away (ap answers_of (same_reply p a b told))))

  side_unlock : (token : List ℕ) → token ≡ h.token → Alongside h true (λ file. SameAnswers) None (unlock (Some token) p) (unlock (Some token) p)
  side_unlock token same =
      subst (λ t. Alongside h true (λ file. SameAnswers) None (unlock (Some t) p) (unlock (Some t) p)) (sym same)
      (side_look (λ ls ks g g'. side_asks {c = Metadata (names p)} (rest, at) (λ a b told. side_look (λ ls ks g g'. side_ends a b told ls ks g g'))))

pub unlock_goes_along : UnlockIsIsolated
unlock_goes_along h headers p who plan guard within says (is_unlock None is) = absurd (is h.token says)
unlock_goes_along h headers p who plan guard within says (is_unlock (Some token) is) =
    let (rest, at) = in_reach h (names p) within in side_unlock h p rest at token (one_lock_token headers token h.token is says)
