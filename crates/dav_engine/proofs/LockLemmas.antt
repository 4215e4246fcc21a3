-- How code follows a LOCK.
use Rattle.std.proofs.Common.{◌≡◌, ℕ, List, [], ◌∷◌, Bool, true, false, map, string_bytes, String, Option, Some, None, Result, Ok, Err, IfOk, IfErr, IsOk, IsOkAnd, OnErr, ◌⊎◌, inl, inr, refl, sym, ap, subst, ◌∙◌}
use Rattle.std.specs.Global.{Vec, Global}
use Rattle.std.specs.Option.{option_map}
use Rattle.dav_core.specs.declared.errors.DavError.{DavError}
use Rattle.dav_core.specs.declared.errors.DavError.TheVariants as dav
use Rattle.dav_core.specs.Asking.{StoreState}
use Rattle.dav_core.specs.Locks.{Lock, requester_of, named_lock, refreshed, refreshed_lock}
use Rattle.dav_core.specs.Path.{Path, PathText, names}
use Rattle.dav_core.specs.declared.ls.RefreshRefusal.{RefreshRefusal}
use Rattle.dav_core.specs.declared.ls.RefreshRefusal.TheVariants.{NotThere}
use Rattle.dav_core.specs.LockRefusals.{IsRefusedRefresh}
use Rattle.dav_engine.specs.Caller.{Caller, requester}
use Rattle.dav_engine.specs.Conditions.{dav_if_match}
use Rattle.dav_engine.specs.ConditionView.{texts_of}
use Rattle.dav_engine.specs.Follows.{as_is, Follows, followed, FollowsOnLocks, or_memory}
use Rattle.dav_engine.specs.Lock.{one_token, token_to_refresh, keep_refreshed, refresh, refreshed_reply, lock_again}
use Rattle.dav_engine.specs.LockHeaders.{LockHeaders, refreshed_for}
use Rattle.dav_engine.specs.Method.{MethodPlan, ◌>>=◌, require_free, is_open, gives}
use Rattle.dav_engine.specs.Plan.{Locks, Done, ran_done, refused_done}
use Rattle.dav_engine.specs.Reply.{Reply, Header}
use Rattle.dav_engine.proofs.Following.{ran_at, follows_done, follows_then, follows_err, follows_up_to}
use Rattle.dav_engine.proofs.GuardLemmas.{follows_look, follows_ok, follows_fails, ends_free, ends_locked}
use Rattle.dav_engine.proofs.LaterLemmas.{follows_keep, follows_refused, follows_then_from}
use Rattle.dav_engine.proofs.VerdictLemmas.{dav_view}

-- ---- a lock is refreshed

module _ (token : List ℕ) (p : Path) (timeout : Option ℕ) (now : ℕ) where
  pub refresh_nowhere : {ls : Locks} → ls ≡ None → FollowsOnLocks (as_is {A = Lock}) (refresh token p timeout now) ls (Err (dav.Status 405)) ls
  refresh_nowhere none s = subst (λ ls. Follows as_is (refresh token p timeout now) s ls (Err (dav.Status 405)) s ls) (sym none) (follows_look (follows_done refl))

  pub refresh_known : (l : Lock) {ls ms : List Lock} → option_map (refreshed_lock timeout now) (named_lock token p ls) ≡ Some l → refreshed token p timeout now ls ≡ Some ms
      → FollowsOnLocks as_is (refresh token p timeout now) (Some ls) (Ok l) (Some ms)
  refresh_known l {ls} {ms} named left s =
      follows_look (subst (λ o. Follows as_is (keep_refreshed o (refreshed token p timeout now ls)) s (Some ls) (Ok l) s (Some ms)) (sym named)
      (subst (λ o. Follows as_is (keep_refreshed (Some l) o) s (Some ls) (Ok l) s (Some ms)) (sym left) (follows_keep (followed ran_done))))

  pub refresh_unknown : (e : RefreshRefusal) {ls ms : List Lock} → e ≡ NotThere → IsRefusedRefresh e (named_lock token p ls) → ms ≡ ls → FollowsOnLocks (as_is {A = Lock}) (refresh token p timeout now) (Some ls) (Err (dav.Status 412)) (Some ms)
  refresh_unknown e {ls} {ms} is why same s =
      let none : named_lock token p ls ≡ None = subst (λ (w : RefreshRefusal). IsRefusedRefresh w (named_lock token p ls)) is why in
      subst (λ ks. Follows as_is (refresh token p timeout now) s (Some ls) (Err (dav.Status 412)) s (Some ks)) (sym same)
      (follows_look (subst (λ o. Follows as_is (keep_refreshed (option_map (refreshed_lock timeout now) o) (refreshed token p timeout now ls)) s (Some ls) (Err (dav.Status 412)) s (Some ls)) (sym none) (follows_done refl)))

  pub refresh_short : {ls ms : List Lock} → ms ≡ ls → FollowsOnLocks (as_is {A = Lock}) (refresh token p timeout now) (Some ls) (Err dav.Memory) (Some ms)
  refresh_short {ls} same s = subst (λ ks. Follows as_is (refresh token p timeout now) s (Some ls) (Err dav.Memory) s (Some ks)) (sym same) follows_up_to

-- the same with equal arguments
pub refresh_as : {text token : List ℕ} (p : Path) {wanted timeout : Option ℕ} {moment now : ℕ} {r : Result Lock DavError} {ls ms : Locks}
    → text ≡ token → wanted ≡ timeout → moment ≡ now → FollowsOnLocks as_is (refresh text p wanted moment) ls r ms → FollowsOnLocks as_is (refresh token p timeout now) ls r ms
refresh_as {text} {token} p {wanted} {timeout} {moment} {now} {r} {ls} {ms} one two three done =
    subst (λ n. FollowsOnLocks as_is (refresh token p timeout n) ls r ms) three
    (subst (λ t. FollowsOnLocks as_is (refresh token p t moment) ls r ms) two (subst (λ t. FollowsOnLocks as_is (refresh t p wanted moment) ls r ms) one done))

-- ---- the token of the lock that is to be refreshed

one_is : (tokens : List (List ℕ)) (token : List ℕ) → one_token tokens ≡ Ok token → tokens ≡ token ∷ []
one_is [] token is = absurd (cc)
one_is (t ∷ []) token is = let same : t ≡ token = cc in ap (λ x. x ∷ []) same
one_is (t ∷ u ∷ more) token is = absurd (cc)

module _ (h : LockHeaders) (p : Path) (who : Caller) where
  -- what follows the tokens, and the only one
  abbrev with_tokens : Bool × List (List ℕ) → MethodPlan (List ℕ)
  with_tokens said = do
    token ← Done (one_token said.1)
    _ ← require_free false (requester who (token ∷ [])) p (dav.Status 412)
    gives token

  abbrev with_token : List ℕ → MethodPlan (List ℕ)
  with_token token = do
    _ ← require_free false (requester who (token ∷ [])) p (dav.Status 412)
    gives token

  -- an evaluation that was followed, with an equal result
  came : {E : Type 0} {r w : Result (Bool × Vec (String Global)) E} {old new : StoreState} {ls : Locks} → r ≡ w
      → Follows dav_view (dav_if_match h.conditions.lists) old ls (or_memory r) new ls → Follows dav_view (dav_if_match h.conditions.lists) old ls (or_memory w) new ls
  came {E} {old = old} {new} {ls} is one = subst (λ (v : Result (Bool × Vec (String Global)) E). Follows dav_view (dav_if_match h.conditions.lists) old ls (or_memory v) new ls) is one

  module _ {E : Type 0} (r : Result (Bool × Vec (String Global)) E) {old new : StoreState} {ls : Locks} (one : Follows dav_view (dav_if_match h.conditions.lists) old ls (or_memory r) new ls) where
    pub token_short : (e : E) → r ≡ Err e → Follows (string_bytes {Z = Global}) (token_to_refresh h p who) old ls (Err dav.Memory) new ls
    token_short e was = follows_err with_tokens dav.Memory (came was one)

    module _ (said : Bool × Vec (String Global)) (was : r ≡ Ok said) where
      -- there is none, or there are several
      pub token_unclear : (e : DavError) → one_token (texts_of said.1) ≡ Err e → Follows (string_bytes {Z = Global}) (token_to_refresh h p who) old ls (Err e) new ls
      token_unclear e is = follows_then with_tokens (came was one) (follows_fails (one_token (texts_of said.1)) e with_token is refl)

      module _ (token : List ℕ) (lent : List (String Global)) (b : Bool) (only : one_token (texts_of said.1) ≡ Ok token) (tells : lent ≡ said.1.items)
          (looked : b ≡ is_open false (requester_of (map string_bytes lent) false who.principal) p ls) where
        open_is : b ≡ is_open false (requester who (token ∷ [])) p ls
        open_is = looked ∙ ap (λ (ts : List (List ℕ)). is_open false (requester_of ts false who.principal) p ls) (ap (map string_bytes) tells ∙ one_is (texts_of said.1) token only)

        then_token : {r : Result (String Global) DavError} → Follows (string_bytes {Z = Global}) (with_token token) new ls r new ls → Follows (string_bytes {Z = Global}) (token_to_refresh h p who) old ls r new ls
        then_token more = follows_then with_tokens (came was one) (follows_ok (one_token (texts_of said.1)) token with_token only more)

        pub token_locked : b ≡ false → Follows (string_bytes {Z = Global}) (token_to_refresh h p who) old ls (Err (dav.Status 412)) new ls
        token_locked shut = then_token (follows_err (λ u. gives token) (dav.Status 412) (ends_locked {view = λ (u : Unit {0}). u} false (requester who (token ∷ [])) p (dav.Status 412) b open_is shut refl))

        pub token_uncopied : b ≡ true → Follows (string_bytes {Z = Global}) (token_to_refresh h p who) old ls (Err dav.Memory) new ls
        token_uncopied freed = then_token (follows_then (λ u. gives token) (ends_free {view = λ (u : Unit {0}). u} false (requester who (token ∷ [])) p (dav.Status 412) b open_is freed refl) follows_up_to)

        pub token_free : b ≡ true → (copy : String Global) → string_bytes copy ≡ token → Follows (string_bytes {Z = Global}) (token_to_refresh h p who) old ls (Ok copy) new ls
        token_free freed copy is = then_token (follows_then (λ u. gives token) (ends_free {view = λ (u : Unit {0}). u} false (requester who (token ∷ [])) p (dav.Status 412) b open_is freed refl) (follows_done (ap Ok is)))

-- ---- a LOCK without a body

module _ (h : LockHeaders) (p : PathText) (location : List Header) (who : Caller) where
  abbrev with_lock : List ℕ → MethodPlan Reply
  with_lock token = do
    l ← refresh token (names p) (refreshed_for h.timeout) who.moment
    gives (refreshed_reply location l)

  pub again_ends : (e : DavError) {old new : StoreState} {ls : Locks} → Follows (string_bytes {Z = Global}) (token_to_refresh h (names p) who) old ls (Err e) new ls → Follows as_is (lock_again h p location who) old ls (Err e) new ls
  again_ends e one = follows_err with_lock e one

  module _ (token : String Global) {old new : StoreState} {ls ms : Locks} (one : Follows (string_bytes {Z = Global}) (token_to_refresh h (names p) who) old ls (Ok token) new ls) where
    pub again_refused : (e : DavError) → ms ≡ ls → FollowsOnLocks (as_is {A = Lock}) (refresh (string_bytes token) (names p) (refreshed_for h.timeout) who.moment) ls (Err e) ms
        → Follows as_is (lock_again h p location who) old ls (Err e) new ms
    again_refused e same two =
        subst (λ ks. Follows as_is (lock_again h p location who) old ls (Err e) new ks) (sym same)
        (follows_then with_lock one (follows_err (λ l. gives (refreshed_reply location l)) e (subst (λ ks. Follows (as_is {A = Lock}) (refresh (string_bytes token) (names p) (refreshed_for h.timeout) who.moment) new ls (Err e) new ks) same (two new))))

    module _ (l : Lock) (two : FollowsOnLocks as_is (refresh (string_bytes token) (names p) (refreshed_for h.timeout) who.moment) ls (Ok l) ms) where
      pub again_short : Follows as_is (lock_again h p location who) old ls (Err dav.Memory) new ms
      again_short = follows_then with_lock one (follows_then_from (λ l. gives (refreshed_reply location l)) (two new) (follows_refused refused_done))

      pub again_done : (reply : Reply) → reply ≡ refreshed_reply location l → Follows as_is (lock_again h p location who) old ls (Ok reply) new ms
      again_done reply is = follows_then with_lock one (follows_then_from (λ l. gives (refreshed_reply location l)) (two new) (followed (ran_at (ap Ok is))))

    pub again_given : (lock : Result Lock DavError) (result : Result Reply DavError) → FollowsOnLocks (as_is {A = Lock}) (refresh (string_bytes token) (names p) (refreshed_for h.timeout) who.moment) ls lock ms → OnErr lock (ms ≡ ls)
        → IfOk result (λ r. IsOkAnd lock (λ l. r ≡ refreshed_reply location l)) → IfErr result (λ e. (lock ≡ Err e) ⊎ (IsOk lock × (e ≡ dav.Memory))) → Follows as_is (lock_again h p location who) old ls result new ms
    again_given (Ok l) (Ok reply) two same ok err = again_done l two reply ok
    again_given (Err e) (Ok reply) two same ok err = absurd ok
    again_given lock (Err e) two same ok (inl was) = again_refused e (subst (λ r. OnErr r (ms ≡ ls)) was same) (subst (λ r. FollowsOnLocks (as_is {A = Lock}) (refresh (string_bytes token) (names p) (refreshed_for h.timeout) who.moment) ls r ms) was two)
    again_given (Ok l) (Err e) two same ok (inr short) = subst (λ w. Follows as_is (lock_again h p location who) old ls (Err w) new ms) (sym short.1) (again_short l two)
    again_given (Err f) (Err e) two same ok (inr short) = absurd (cc)
