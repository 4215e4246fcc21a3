-- What the machine reads in the bytes of a head.
use Rattle.std.proofs.Common.{◌≡◌, ◌≢◌, ◌⊎◌, ◌↔◌, inl, inr, ℕ, Bool, List, codes, IfOk, MatchOption, IsTrue, true, option_map, [], ◌∷◌, Option, Some, None, Result, Ok, Err, refl, sym, ap, subst, ◌∙◌}
use Rattle.std.specs.Bool.{Decides}
use Rattle.std.specs.List.{AllByRecursion}
use Rattle.dav_core.specs.Locks.{Lock}
use Rattle.dav_core.specs.Method.{method_name}
use Rattle.dav_core.specs.Path.{PathText, is_at_or_under, names}
use Rattle.dav_core.specs.declared.errors.DavError.{DavError}
use Rattle.dav_core.specs.declared.errors.DavError.TheVariants.{Memory}
use Rattle.dav_core.specs.declared.method.DavMethod.{DavMethod}
use Rattle.dav_core.specs.declared.method.DavMethod.TheVariants.{Unlock}
use Rattle.dav_engine.specs.declared.request.Body.TheVariants as body
use Rattle.dav_engine.specs.Guard.{IsListed, IsSameLock, folder_of, listed_here, listed_later}
use Rattle.dav_engine.specs.Headers.{Decodes, Headers}
use Rattle.dav_engine.specs.LockToken.{SaysLockToken}
use Rattle.dav_engine.proofs.LockTokenLemmas.{one_lock_token}
use Rattle.dav_server.specs.Head.{IsHead, Request}
use Rattle.dav_server.specs.Headers.{headers_of}
use Rattle.dav_server.specs.Holder.{IsRequestTo}
use Rattle.dav_server.specs.Machine.{Exchange, Settings}
use Rattle.dav_server.specs.Method.{GivesServed}
use Rattle.dav_server.specs.Target.{TargetNames}
use Rattle.dav_server.specs.TargetCode.{GivesPath}
use Rattle.dav_server.proofs.HeadLemmas.{one_head}
use Rattle.dav_server.proofs.MeansWorld.{one_method}
use Rattle.dav_server.proofs.TargetLemmas.{one_outcome}
use Rattle.dav_access.specs.Rules.{Rules}
use Rattle.dav_confined.specs.Asked.{IsUnread}
use Rattle.dav_confined.specs.ConfinedSteps.{UnlocksLock}
use Rattle.dav_confined.specs.Granted.{OnlyReadsThere}
use Rattle.dav_confined.specs.Leave.{HasLeave, MayEnd, MayUnlock}
use Rattle.dav_confined.specs.Sight.{MayLook}
use Rattle.dav_confined.specs.Unlocking.{MayEndNamed, Names, UnlockView}

pub at_none : {A N : Type 0} (P : A → Type 0) (o : Option A) → o ≡ None → MatchOption o N P → N
at_none {A} {N} P o e m = subst (λ (t : Option A). MatchOption t N P) e m

pub at_some : {A : Type 0} (N : Type 0) (P : A → Type 0) (o : Option A) (a : A) → o ≡ Some a → MatchOption o N P → P a
at_some {A} N P o a e m = subst (λ (t : Option A). MatchOption t N P) e m

-- a target that gives an error names no path
pub no_path : (prefix target : List ℕ) (m : DavMethod) (e : DavError) → GivesPath prefix m target (Err e) → e ≢ Memory → (p : PathText) → ¬ TargetNames prefix m target (Ok p)
no_path prefix target m e (inl memory) other p named = other memory
no_path prefix target m e (inr gives) other p named = let same : Err e ≡ Ok p = one_outcome prefix m target (Err e) (Ok p) gives named in cc

-- so none is given for it
pub none_given : {E : Type 0} (prefix target : List ℕ) (m : DavMethod) (e : DavError) (r : Result (Option PathText) E) → GivesPath prefix m target (Err e)
    → IfOk r (λ o. (o ≡ None) × (e ≢ Memory)) → IfOk r (λ o. MatchOption o ((p : PathText) → ¬ TargetNames prefix m target (Ok p)) (λ p. TargetNames prefix m target (Ok p)))
none_given prefix target m e (Ok o) gives (none, other) =
    subst (λ (t : Option PathText). MatchOption t ((p : PathText) → ¬ TargetNames prefix m target (Ok p)) (λ p. TargetNames prefix m target (Ok p))) (sym none) (no_path prefix target m e gives other)
none_given prefix target m e (Err f) gives never = tt

module _ (s : Settings) (x : Exchange) (prefix head : List ℕ) (at : s.prefix ≡ prefix) (is : x.head ≡ head) where
  -- the bytes are no head
  pub no_head : ((r : Request) → ¬ IsHead head r) → IsUnread s x
  no_head none r m p to = none r (subst (λ (b : List ℕ). IsHead b r) is to.head)

  module _ (r : Request) (here : IsHead head r) where
    -- each reading is that of this request
    same_request : (q : Request) (m : DavMethod) (p : PathText) → IsRequestTo s x q m p → q ≡ r
    same_request q m p to = one_head head q r (subst (λ (b : List ℕ). IsHead b q) is to.head) here

    -- the method isn't served
    pub no_method : (e : DavError) → GivesServed r.method (Err e) → IsUnread s x
    no_method e none q m p to = none.1 m to.method.0 (sym (ap (λ (t : Request). t.method) (same_request q m p to)) ∙ to.method.1)

    module _ (n : DavMethod) (gives : GivesServed r.method (Ok n)) where
      same_method : (q : Request) (m : DavMethod) (p : PathText) → IsRequestTo s x q m p → m ≡ n
      same_method q m p to = one_method r.method m n (subst (λ (t : Request). GivesServed t.method (Ok m)) (same_request q m p to) to.method) gives

      named_here : (q : Request) (m : DavMethod) (p : PathText) → IsRequestTo s x q m p → TargetNames prefix n r.target (Ok p)
      named_here q m p to =
          subst (λ (k : DavMethod). TargetNames prefix k r.target (Ok p)) (same_method q m p to)
          (subst (λ (t : Request). TargetNames prefix m t.target (Ok p)) (same_request q m p to) (subst (λ (b : List ℕ). TargetNames b m q.target (Ok p)) at to.target))

      -- the target names no path
      pub no_target : ((p : PathText) → ¬ TargetNames prefix n r.target (Ok p)) → IsUnread s x
      no_target none q m p to = none p (named_here q m p to)

-- what isn't read has leave
pub unread_leave : (rules : Rules) (s : Settings) (x : Exchange) → IsUnread s x → HasLeave rules s x
unread_leave rules s x unread = record {
  target = λ r m p to other. absurd (unread r m p to);
  destination = λ r m p d to is named. absurd (unread r m p to);
  conditions = λ r m p lists to says. absurd (unread r m p to);
}

-- what isn't read doesn't look
pub unread_blind : (rules : Rules) (s : Settings) (x : Exchange) → IsUnread s x → ¬ MayLook rules s x
unread_blind rules s x unread look = unread look.request look.method look.path look.to

-- and reads nothing
pub unread_reads : (rules : Rules) (s : Settings) (x : Exchange) → IsUnread s x → HasLeave rules s x × OnlyReadsThere rules s x
unread_reads rules s x unread = (unread_leave rules s x unread, λ r m p to. absurd (unread r m p to))

-- some request of a principal with this head, below this prefix
abbrev pub settings_at : List ℕ → Settings
settings_at prefix = record { prefix = prefix; allowed = 0 }

abbrev pub exchange_at : List ℕ → Option (List ℕ) → Exchange
exchange_at head who = record { head = head; body = body.None; principal = who; moment = 0; token = None }

-- ---- UNLOCK

pub token_said : {A : Type 0} (f : A → List ℕ) (headers : Headers) (o : Option A) (a : A) → o ≡ Some a → Decodes SaysLockToken headers (option_map f o) → SaysLockToken headers (f a)
token_said {A} f headers o a is says = subst (λ (t : Option A). Decodes SaysLockToken headers (option_map f t)) is says

pub token_unsaid : {A : Type 0} (f : A → List ℕ) (headers : Headers) (o : Option A) → o ≡ None → Decodes SaysLockToken headers (option_map f o) → Decodes SaysLockToken headers None
token_unsaid {A} f headers o is says = subst (λ (t : Option A). Decodes SaysLockToken headers (option_map f t)) is says

module _ (s : Settings) (x : Exchange) (prefix head : List ℕ) (at : s.prefix ≡ prefix) (is : x.head ≡ head) where
  -- what isn't read names no lock
  pub names_none : IsUnread s x → (l : Lock) → ¬ UnlocksLock s x l
  names_none unread l unlocks = unread unlocks.request Unlock unlocks.path unlocks.to

  module _ (r : Request) (here : IsHead head r) where
    -- nor does another method
    pub other_names_none : r.method ≢ codes "UNLOCK" → (l : Lock) → ¬ UnlocksLock s x l
    other_names_none other l unlocks =
        other (sym (ap (λ (t : Request). t.method) (same_request s x prefix head at is r here unlocks.request Unlock unlocks.path unlocks.to)) ∙ unlocks.to.method.1)

    module _ (unlock : r.method ≡ codes "UNLOCK") (headers : Headers) (same : headers ≡ headers_of r.fields) where
      says_here : (l : Lock) (unlocks : UnlocksLock s x l) → SaysLockToken headers l.token
      says_here l unlocks =
          subst (λ (h : Headers). SaysLockToken h l.token) (ap (λ (t : Request). headers_of t.fields) (same_request s x prefix head at is r here unlocks.request Unlock unlocks.path unlocks.to) ∙ sym same) unlocks.says

      -- without a token none is named
      pub no_token : Decodes SaysLockToken headers None → (l : Lock) → ¬ UnlocksLock s x l
      no_token none l unlocks = none l.token (says_here l unlocks)

      -- a lock is named by this path and this token
      pub names_by : (u : UnlockView) → TargetNames prefix Unlock r.target (Ok u.path) → SaysLockToken headers u.token → (l : Lock) → Names u l ↔ UnlocksLock s x l
      names_by u named says l = (
        λ n. record {
          request = r;
          path = u.path;
          to = record {
            head = subst (λ (b : List ℕ). IsHead b r) (sym is) here;
            method = (tt, unlock);
            target = subst (λ (b : List ℕ). TargetNames b Unlock r.target (Ok u.path)) (sym at) named;
          };
          says = subst (λ (h : Headers). SaysLockToken h l.token) same (subst (SaysLockToken headers) (sym n.0) says);
          above = n.1;
        },
        λ unlocks.
            let to = named_here s x prefix head at is r here Unlock (tt, unlock) unlocks.request Unlock unlocks.path unlocks.to in
            let path : unlocks.path ≡ u.path = let e : Ok unlocks.path ≡ Ok u.path = one_outcome prefix Unlock r.target (Ok unlocks.path) (Ok u.path) to named in cc in
            (one_lock_token headers l.token u.token (says_here l unlocks) says, subst (λ (p : PathText). is_at_or_under (names p) (folder_of l) ≡ true) path unlocks.above),
      )

module _ (rules : Rules) (s : Settings) (x : Exchange) (who : Option (List ℕ)) (same : x.principal ≡ who) (u : UnlockView) (names : (l : Lock) → Names u l ↔ UnlocksLock s x l) where
  -- a lock that is listed may be ended, where it is named
  listed_may : (ls : List Lock) → AllByRecursion (MayEndNamed rules who u) ls → (l : Lock) → IsListed l ls → UnlocksLock s x l → MayEnd rules x.principal l
  listed_may [] all l here unlocks = elim here [ ]
  listed_may (k ∷ ks) all l (listed_here is) unlocks =
      let ends : MayEnd rules who k = all.0 (subst (Names u) (sym is) ((names l).1 unlocks)) in
      subst (λ (o : Option (List ℕ)). MayEnd rules o l) (sym same) (subst (MayEnd rules who) is ends)
  listed_may (k ∷ ks) all l (listed_later later) unlocks = listed_may ks all.1 l later unlocks

  all_may : (ls : List Lock) → MayUnlock rules s x ls → AllByRecursion (MayEndNamed rules who u) ls
  all_may [] may = tt
  all_may (l ∷ ls) may =
      (λ n. subst (λ (o : Option (List ℕ)). MayEnd rules o l) same (may l (listed_here refl) ((names l).0 n)), all_may ls (λ k here. may k (listed_later here)))

  pub may_by_names : (ls : List Lock) (b : Bool) → Decides b (AllByRecursion (MayEndNamed rules who u) ls) → Decides b (MayUnlock rules s x ls)
  may_by_names ls b says = (λ yes. listed_may ls (says.0 yes), λ may. says.1 (all_may ls may))

-- where none is named each may be ended
pub may_nothing : (rules : Rules) (s : Settings) (x : Exchange) (ls : List Lock) → ((l : Lock) → ¬ UnlocksLock s x l) → Decides true (MayUnlock rules s x ls)
may_nothing rules s x ls none = (λ yes l here unlocks. absurd (none l unlocks), λ may. refl)
