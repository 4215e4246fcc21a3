-- How code follows the parts of plans that conditions and locks guard.
use Rattle.std.proofs.Common.{◌≡◌, ℕ, Bool, true, false, not, List, map, string_bytes, String, Option, Some, None, ◌||◌, Result, Ok, Err, refl, sym, subst, ap, ◌∙◌}
use Rattle.std.specs.Global.{Vec, Global}
use Rattle.std.specs.Option.{option_copied, option_map, is_none}
use Rattle.std.specs.Result.{is_ok, result_ok}
use denote.Ref.{Bor}
use Rattle.dav_core.specs.declared.errors.FsError.{FsError}
use Rattle.dav_core.specs.declared.errors.DavError.{DavError}
use Rattle.dav_core.specs.declared.errors.DavError.TheVariants as dav
use Rattle.dav_core.specs.declared.fs.DavMetaData.{DavMetaData}
use Rattle.dav_core.specs.declared.method.DavMethod.{DavMethod}
use Rattle.dav_core.specs.Asking.{StoreState}
use Rattle.dav_core.specs.Locks.{Requester, Lock, requester_of, is_free}
use Rattle.dav_core.specs.Path.{Path, is_root, parent_of}
use Rattle.dav_engine.specs.Plan.{Locks, Look, Done, ran_look}
use Rattle.dav_engine.proofs.CutPlans.{cut_look}
use Rattle.dav_engine.specs.Method.{MethodPlan, ◌>>=◌, require, require_free, require_parent, require_member, is_open, is_open_parent}
use Rattle.dav_engine.specs.Follows.{Follows, followed, gave_up, viewed, or_memory, FollowsOnLocks, FollowsOneOf, served}
use Rattle.dav_engine.specs.Conditions.{Conditions, if_match_get_tokens, status_as, guarded}
use Rattle.dav_engine.specs.ConditionView.{locks_in, texts_of, tokens_or_status}
use Rattle.dav_engine.proofs.Following.{follows_done, follows_then, follows_err, follows_on, follows_out, follows_up_to}

-- the list of locks was read, and the rest of the plan was followed
pub follows_look : {A X : Type 0} {view : X → A} {go : Locks → MethodPlan A} {old new : StoreState} {ls ms : Locks} {r : Result X DavError} → Follows view (go ls) old ls r new ms → Follows view (Look go) old ls r new ms
follows_look (followed rest) = followed (ran_look rest)
follows_look (gave_up e rest) = gave_up e (cut_look rest)

-- a part that is done already: the rest goes on with its outcome, or its error is the end
pub follows_ok : {A B Y : Type 0} {view : Y → B} (outcome : Result A DavError) (a : A) (f : A → MethodPlan B) {old new : StoreState} {ls ms : Locks} {r : Result Y DavError}
    → outcome ≡ Ok a → Follows view (f a) old ls r new ms → Follows view (Done outcome >>= f) old ls r new ms
follows_ok {A} {view = view} outcome a f {old} {new} {ls} {ms} {r} is rest = subst (λ (o : Result A DavError). Follows view (Done o >>= f) old ls r new ms) (sym is) rest

pub follows_fails : {A B Y : Type 0} {view : Y → B} (outcome : Result A DavError) (e : DavError) (f : A → MethodPlan B) {s : StoreState} {ls : Locks} {r : Result Y DavError}
    → outcome ≡ Err e → viewed view r ≡ Err e → Follows view (Done outcome >>= f) s ls r s ls
follows_fails {A} {view = view} outcome e f {s} {ls} {r} is same = subst (λ (o : Result A DavError). Follows view (Done o >>= f) s ls r s ls) (sym is) (follows_done same)

-- an evaluation of conditions that was followed, with equal arguments and an equal result
come : {E : Type 0} (m : DavMethod) (c : Conditions) {before found : Option DavMetaData} {old new : StoreState} {ls : Locks} {r w : Result (Result (Vec (String Global)) ℕ) E}
    → before ≡ found → r ≡ w
    → Follows tokens_or_status (if_match_get_tokens m c before) old ls (or_memory r) new ls → Follows tokens_or_status (if_match_get_tokens m c found) old ls (or_memory w) new ls
come {E} m c {before} {old = old} {new} {ls} {w = w} same is one =
    subst (λ o. Follows tokens_or_status (if_match_get_tokens m c o) old ls (or_memory w) new ls) same
    (subst (λ (v : Result (Result (Vec (String Global)) ℕ) E). Follows tokens_or_status (if_match_get_tokens m c before) old ls (or_memory v) new ls) is one)

-- the conditions hold
pub guard_passed : {E B Y : Type 0} {view : Y → B} (f : ℕ → DavError) (m : DavMethod) (c : Conditions) (before found : Option DavMetaData) (go : List (List ℕ) → MethodPlan B)
    (r : Result (Result (Vec (String Global)) ℕ) E) (verdict : Result (Vec (String Global)) ℕ) (tokens : Vec (String Global)) {old mid new : StoreState} {ls ms : Locks} {end : Result Y DavError}
    → before ≡ found → r ≡ Ok verdict → verdict ≡ Ok tokens
    → Follows tokens_or_status (if_match_get_tokens m c before) old ls (or_memory r) mid ls
    → Follows view (go (texts_of tokens)) mid ls end new ms
    → Follows view (guarded f m c found >>= go) old ls end new ms
guard_passed f m c before found go r verdict tokens {old} {mid} {ls = ls} same was is one rest =
    let tokens_come : Follows texts_of (guarded f m c found) old ls (Ok tokens) mid ls = follows_then (λ v. Done (status_as f v)) (come m c same (was ∙ ap Ok is) one) (follows_done refl) in
    follows_then go tokens_come rest

-- a condition fails
pub guard_failed : {E B Y : Type 0} {view : Y → B} (f : ℕ → DavError) (m : DavMethod) (c : Conditions) (before found : Option DavMetaData) (go : List (List ℕ) → MethodPlan B)
    (r : Result (Result (Vec (String Global)) ℕ) E) (verdict : Result (Vec (String Global)) ℕ) (status : ℕ) {old mid : StoreState} {ls : Locks}
    → before ≡ found → r ≡ Ok verdict → verdict ≡ Err status
    → Follows tokens_or_status (if_match_get_tokens m c before) old ls (or_memory r) mid ls
    → Follows view (guarded f m c found >>= go) old ls (Err (f status)) mid ls
guard_failed f m c before found go r verdict status {old} {mid} {ls} same was is one =
    let ends : Follows texts_of (guarded f m c found) old ls (Err (f status)) mid ls = follows_then (λ v. Done (status_as f v)) (come m c same (was ∙ ap Ok is) one) (follows_done refl) in
    follows_err go (f status) ends

-- memory ran out while conditions were evaluated
pub guard_short : {E B Y : Type 0} {view : Y → B} (f : ℕ → DavError) (m : DavMethod) (c : Conditions) (before found : Option DavMetaData) (go : List (List ℕ) → MethodPlan B)
    (r : Result (Result (Vec (String Global)) ℕ) E) (e : E) {old mid : StoreState} {ls : Locks}
    → before ≡ found → r ≡ Err e
    → Follows tokens_or_status (if_match_get_tokens m c before) old ls (or_memory r) mid ls
    → Follows view (guarded f m c found >>= go) old ls (Err dav.Memory) mid ls
guard_short f m c before found go r e {old} {mid} {ls} same was one =
    let ends : Follows texts_of (guarded f m c found) old ls (Err dav.Memory) mid ls = follows_err (λ v. Done (status_as f v)) dav.Memory (come m c same was one) in
    follows_err go dav.Memory ends

-- what the check of the locks answers for the submitted tokens
pub open_to : (tokens : Vec (String Global)) (lent : List (String Global)) (principal : Option (List ℕ)) (deep : Bool) (p : Path) (ls : Locks) (b : Bool)
    → lent ≡ tokens.items → b ≡ is_open deep (requester_of (map string_bytes lent) false principal) p ls → b ≡ is_open deep (requester_of (texts_of tokens) false principal) p ls
open_to tokens lent principal deep p ls b same is = is ∙ ap (λ (l : List (String Global)). is_open deep (requester_of (map string_bytes l) false principal) p ls) same

-- no lock conflicts, and the rest was followed
pub free_goes : {B Y : Type 0} {view : Y → B} (deep : Bool) (who : Requester) (p : Path) (e : DavError) (f : Unit {0} → MethodPlan B) (b : Bool) {old new : StoreState} {ls ms : Locks} {r : Result Y DavError}
    → b ≡ is_open deep who p ls → b ≡ true → Follows view (f tt) old ls r new ms → Follows view (require_free deep who p e >>= f) old ls r new ms
free_goes deep who p e f b is freed rest = follows_look (follows_on _ e f (sym is ∙ freed) rest)

-- a lock conflicts
pub locked_out : {B Y : Type 0} {view : Y → B} (deep : Bool) (who : Requester) (p : Path) (e : DavError) (f : Unit {0} → MethodPlan B) (b : Bool) {s : StoreState} {ls : Locks} {r : Result Y DavError}
    → b ≡ is_open deep who p ls → b ≡ false → viewed view r ≡ Err e → Follows view (require_free deep who p e >>= f) s ls r s ls
locked_out deep who p e f b is shut same = follows_look (follows_out _ e f (sym is ∙ shut) same)

-- the same at the end of a plan
pub ends_free : {Y : Type 0} {view : Y → Unit {0}} (deep : Bool) (who : Requester) (p : Path) (e : DavError) (b : Bool) {s : StoreState} {ls : Locks} {r : Result Y DavError}
    → b ≡ is_open deep who p ls → b ≡ true → viewed view r ≡ Ok tt → Follows view (require_free deep who p e) s ls r s ls
ends_free {view = view} deep who p e b {s} {ls} {r} is freed same =
    follows_look (subst (λ t. Follows view (require t e) s ls r s ls) (sym (sym is ∙ freed)) (follows_done same))

pub ends_locked : {Y : Type 0} {view : Y → Unit {0}} (deep : Bool) (who : Requester) (p : Path) (e : DavError) (b : Bool) {s : StoreState} {ls : Locks} {r : Result Y DavError}
    → b ≡ is_open deep who p ls → b ≡ false → viewed view r ≡ Err e → Follows view (require_free deep who p e) s ls r s ls
ends_locked {view = view} deep who p e b {s} {ls} {r} is shut same =
    follows_look (subst (λ t. Follows view (require t e) s ls r s ls) (sym (sym is ∙ shut)) (follows_done same))

-- what was followed with borrowed locks is followed with the locks themselves
pub carried : {L B Y : Type 0} {view : Y → B} {kind : MethodPlan B → Type 0} (locks : L → List Lock) (lent : Option (Bor L)) (held : Option L) (plan : MethodPlan B) {old new : StoreState} {r : Result Y DavError}
    → option_copied lent ≡ held → kind plan → Follows view plan old (locks_in locks lent) r new (locks_in locks lent)
    → FollowsOneOf view kind old (option_map locks held) r new (option_map locks held)
carried {view = view} {kind} locks lent held plan {old} {new} {r} same is one =
    subst (λ l. FollowsOneOf view kind old (option_map locks l) r new (option_map locks l)) same (served plan is one)

-- ---- the folder above

-- whether nothing was found
none_ok : (answer : Result DavMetaData FsError) → is_none (result_ok answer) ≡ not (is_ok answer)
none_ok (Ok m) = refl
none_ok (Err e) = refl

pub none_by : (answer : Result DavMetaData FsError) (file : Option DavMetaData) (b : Bool) → b ≡ is_none file → file ≡ result_ok answer → b ≡ not (is_ok answer)
none_by answer file b told kept = told ∙ ap is_none kept ∙ none_ok answer

pub root_open : (who : Requester) (p : Path) (ls : Locks) (b : Bool) → b ≡ is_root p → b ≡ true → true ≡ is_open_parent who p ls
root_open who p None b is root = refl
root_open who p (Some ls) b is root = sym (ap (λ t. t || is_free who (parent_of p) ls) (sym is ∙ root))

pub parent_open : (who : Requester) (p q : Path) (ls : Locks) (b free : Bool) → b ≡ is_root p → b ≡ false → q ≡ parent_of p → free ≡ is_open false who q ls → free ≡ is_open_parent who p ls
parent_open who p q None b free is branch at looked = looked
parent_open who p q (Some ls) b free is branch at looked =
    looked ∙ ap (λ x. is_free who x ls) at ∙ sym (ap (λ t. t || is_free who (parent_of p) ls) (sym is ∙ branch))

module _ (who : Requester) (p : Path) (e : DavError) where
  abbrev ByParent : Locks → Bool → Result (Unit {0}) DavError → Type 0
  ByParent ls wanted r = FollowsOnLocks (λ (u : Unit {0}). u) (require_parent wanted who p e) ls r ls

  pub parent_unasked : (wanted : Bool) {ls : Locks} → wanted ≡ false → ByParent ls wanted (Ok tt)
  parent_unasked wanted {ls} other = subst (λ w. ByParent ls w (Ok tt)) (sym other) (λ s. follows_done refl)

  pub parent_short : (wanted : Bool) {ls : Locks} → ByParent ls wanted (Err dav.Memory)
  parent_short wanted s = follows_up_to

  parent_by : (r : Result (Unit {0}) DavError) (b : Bool) {ls : Locks} → b ≡ is_open_parent who p ls → ((s : StoreState) → Follows (λ (u : Unit {0}). u) (require b e) s ls r s ls) → ByParent ls true r
  parent_by r b {ls} is done s = follows_look (subst (λ t. Follows (λ (u : Unit {0}). u) (require t e) s ls r s ls) is (done s))

  pub parent_goes : (wanted b : Bool) {ls : Locks} → wanted ≡ true → b ≡ is_open_parent who p ls → b ≡ true → ByParent ls wanted (Ok tt)
  parent_goes wanted b {ls} asked is freed =
      subst (λ w. ByParent ls w (Ok tt)) (sym asked) (parent_by (Ok tt) b is (λ s. subst (λ t. Follows (λ (u : Unit {0}). u) (require t e) s ls (Ok tt) s ls) (sym freed) (follows_done refl)))

  pub parent_locked : (wanted b : Bool) {ls : Locks} → wanted ≡ true → b ≡ is_open_parent who p ls → b ≡ false → ByParent ls wanted (Err e)
  parent_locked wanted b {ls} asked is shut =
      subst (λ w. ByParent ls w (Err e)) (sym asked) (parent_by (Err e) b is (λ s. subst (λ t. Follows (λ (u : Unit {0}). u) (require t e) s ls (Err e) s ls) (sym shut) (follows_done refl)))

  abbrev ByMember : Bool → Bool → Locks → Result (Unit {0}) DavError → Type 0
  ByMember deep changes ls r = FollowsOnLocks (λ (u : Unit {0}). u) (require_member deep changes who p e) ls r ls

  pub member_locked : (deep changes b : Bool) {ls : Locks} → b ≡ is_open deep who p ls → b ≡ false → ByMember deep changes ls (Err e)
  member_locked deep changes b is shut s = locked_out deep who p e (λ _. require_parent changes who p e) b is shut refl

  pub member_goes : (deep changes b : Bool) {ls : Locks} {r : Result (Unit {0}) DavError} → b ≡ is_open deep who p ls → b ≡ true → ByParent ls changes r → ByMember deep changes ls r
  member_goes deep changes b is freed rest s = free_goes deep who p e (λ _. require_parent changes who p e) b is freed (rest s)

-- the same for the tokens that were submitted
pub member_for : (deep before after : Bool) (tokens : Vec (String Global)) (lent : List (String Global)) (principal : Option (List ℕ)) (p : Path) (e : DavError) {ls : Locks} {r : Result (Unit {0}) DavError}
    → before ≡ after → lent ≡ tokens.items
    → FollowsOnLocks (λ (u : Unit {0}). u) (require_member deep before (requester_of (map string_bytes lent) false principal) p e) ls r ls
    → FollowsOnLocks (λ (u : Unit {0}). u) (require_member deep after (requester_of (texts_of tokens) false principal) p e) ls r ls
member_for deep before after tokens lent principal p e {ls} {r} same tells done =
    subst (λ b. FollowsOnLocks (λ (u : Unit {0}). u) (require_member deep b (requester_of (texts_of tokens) false principal) p e) ls r ls) same
    (subst (λ (l : List (String Global)). FollowsOnLocks (λ (u : Unit {0}). u) (require_member deep before (requester_of (map string_bytes l) false principal) p e) ls r ls) tells done)
