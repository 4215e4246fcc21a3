-- How code follows a LOCK with a body.
use Rattle.std.proofs.Common.{◌≡◌, ◌++◌, ℕ, List, [], ◌∷◌, Bool, true, false, if◌then◌else◌, Option, Some, None, Result, Ok, Err, refl, sym, ap, subst, ◌∙◌}
use Rattle.std.specs.Prelude.{IfOk, IfErr, IsErrOf, OnErr}
use Rattle.std.specs.Option.{is_some, is_none, option_map, option_copied}
use denote.Ref.{Bor}
use Rattle.std.specs.Result.{result_ok, result_err}
use Rattle.dav_core.specs.declared.errors.FsError.{FsError}
use Rattle.dav_core.specs.declared.errors.DavError.{DavError}
use Rattle.dav_core.specs.declared.errors.DavError.TheVariants as dav
use Rattle.dav_core.specs.declared.fs.DavMetaData.{DavMetaData}
use Rattle.dav_core.specs.declared.method.DavMethod.TheVariants as method
use Rattle.dav_core.specs.Asking.{StoreState, Asks, Metadata, Open}
use Rattle.dav_core.specs.Handle.{Handle, Opening}
use Rattle.dav_core.specs.Locks.{Lock, requester_of, is_grantable}
use Rattle.dav_core.specs.LockRefusals.{IsRefusedGrant}
use Rattle.dav_core.specs.declared.ls.LockRefusal.{LockRefusal}
use Rattle.dav_core.specs.declared.ls.LockRefusal.TheVariants.{Conflict}
use Rattle.dav_core.specs.Path.{Path, PathText, names}
use Rattle.dav_engine.specs.declared.request.Body.{Body}
use Rattle.dav_engine.specs.Caller.{Caller, requester}
use Rattle.dav_engine.specs.Conditions.{if_match, submitted}
use Rattle.dav_engine.specs.Delete.{whole_depth}
use Rattle.dav_engine.specs.Follows.{as_is, Follows, followed, FollowsOnLocks, or_memory}
use Rattle.dav_engine.specs.Lock.{lock_of, asked_lock, grant, taken_back, empty_opening, empty_error, open_empty, make_empty, granted_reply, lock_new, lock_found, lock}
use Rattle.dav_engine.specs.LockHeaders.{LockHeaders}
use Rattle.dav_engine.specs.LockInfo.{LockInfo, lock_info}
use Rattle.dav_engine.specs.LockView.{GrantsNew, not_granted, on_what_is_there, on_a_new_file}
use Rattle.dav_engine.specs.Method.{MethodPlan, ◌>>=◌, require_parent, required, unless_status, has_locks, gives}
use Rattle.dav_engine.specs.Plan.{Locks, Done, Keep, Ran, ran_done, ran_ask, ran_look, ran_keep}
use Rattle.dav_engine.specs.Reply.{Reply, Header}
use Rattle.dav_engine.proofs.Following.{ran_at, ran_bind, follows_done, follows_ask, follows_then, follows_err, follows_up_to}
use Rattle.dav_engine.proofs.GuardLemmas.{follows_look, follows_ok, follows_fails}
use Rattle.dav_engine.proofs.LaterLemmas.{follows_keep, follows_then_from}

-- ---- the lock that is asked for

module _ (h : LockHeaders) (p : PathText) (content : Body) (who : Caller) (found : Option DavMetaData) where
  abbrev with_info : Bool → LockInfo → MethodPlan Lock
  with_info deep info = do
    token ← Done (required who.token (dav.Status 500))
    _ ← require_parent (is_none found) (requester who (submitted h.conditions.lists)) (names p) (dav.Status 423)
    gives (lock_of h p who deep info token)

  abbrev with_token : Bool → LockInfo → List ℕ → MethodPlan Lock
  with_token deep info token = require_parent (is_none found) (requester who (submitted h.conditions.lists)) (names p) (dav.Status 423) >>= (λ _. gives (lock_of h p who deep info token))

  abbrev Above : Locks → Result (Unit {0}) DavError → Type 0
  Above ls r = FollowsOnLocks (λ (u : Unit {0}). u) (require_parent (is_none found) (requester who (submitted h.conditions.lists)) (names p) (dav.Status 423)) ls r ls

  abbrev when_held : Bool → MethodPlan Lock
  when_held deep = do
    info ← Done (required (lock_info content) dav.XmlParseError)
    with_info deep info

  abbrev with_verdict : Bool → Option ℕ → MethodPlan Lock
  with_verdict deep verdict = do
    _ ← unless_status verdict
    when_held deep

  abbrev with_deep : Bool → MethodPlan Lock
  with_deep deep = do
    verdict ← if_match method.Lock h.conditions found
    with_verdict deep verdict

  abbrev Asked : StoreState → Locks → Result Lock DavError → StoreState → Locks → Type 0
  Asked old ls r new ms = Follows (as_is {A = Lock}) (asked_lock h p content who found) old ls r new ms

  pub asked_depth : (e : DavError) {s : StoreState} {ls : Locks} → whole_depth h.depth ≡ Err e → Asked s ls (Err e) s ls
  asked_depth e is = follows_fails (whole_depth h.depth) e with_deep is refl

  module _ (deep : Bool) (is : whole_depth h.depth ≡ Ok deep) {E : Type 0} (r : Result (Option ℕ) E) {old new : StoreState} {ls : Locks}
      (one : Follows (λ (s : Option ℕ). s) (if_match method.Lock h.conditions found) old ls (or_memory r) new ls) where
    judged : {w : Result (Option ℕ) E} → r ≡ w → Follows (λ (s : Option ℕ). s) (if_match method.Lock h.conditions found) old ls (or_memory w) new ls
    judged was = subst (λ (v : Result (Option ℕ) E). Follows (λ (s : Option ℕ). s) (if_match method.Lock h.conditions found) old ls (or_memory v) new ls) was one

    pub asked_short : (e : E) → r ≡ Err e → Asked old ls (Err dav.Memory) new ls
    asked_short e was = follows_ok (whole_depth h.depth) deep with_deep is (follows_err (with_verdict deep) dav.Memory (judged was))

    module _ (verdict : Option ℕ) (was : r ≡ Ok verdict) where
      then_judged : {w : Result Lock DavError} → Follows (as_is {A = Lock}) (with_verdict deep verdict) new ls w new ls → Asked old ls w new ls
      then_judged more = follows_ok (whole_depth h.depth) deep with_deep is (follows_then (with_verdict deep) (judged was) more)

      pub asked_failed : (status : ℕ) → verdict ≡ Some status → Asked old ls (Err (dav.Status status)) new ls
      asked_failed status some = then_judged (subst (λ v. Follows (as_is {A = Lock}) (with_verdict deep v) new ls (Err (dav.Status status)) new ls) (sym some) (follows_done refl))

      module _ (none : verdict ≡ None) where
        then_held : {w : Result Lock DavError} → Follows (as_is {A = Lock}) (when_held deep) new ls w new ls → Asked old ls w new ls
        then_held {w} more = then_judged (subst (λ v. Follows (as_is {A = Lock}) (with_verdict deep v) new ls w new ls) (sym none) more)

        pub asked_unread : Asked old ls (Err dav.Memory) new ls
        asked_unread = then_held follows_up_to

        pub asked_nothing : lock_info content ≡ None → Asked old ls (Err dav.XmlParseError) new ls
        asked_nothing absent = then_held (follows_fails (required (lock_info content) dav.XmlParseError) dav.XmlParseError (with_info deep) (ap (λ i. required i dav.XmlParseError) absent) refl)

        module _ (info : LockInfo) (some : lock_info content ≡ Some info) where
          then_informed : {w : Result Lock DavError} → Follows (as_is {A = Lock}) (with_info deep info) new ls w new ls → Asked old ls w new ls
          then_informed more = then_held (follows_ok (required (lock_info content) dav.XmlParseError) info (with_info deep) (ap (λ i. required i dav.XmlParseError) some) more)

          pub asked_untokened : who.token ≡ None → Asked old ls (Err (dav.Status 500)) new ls
          asked_untokened absent = then_informed (follows_fails (required who.token (dav.Status 500)) (dav.Status 500) (with_token deep info) (ap (λ t. required t (dav.Status 500)) absent) refl)

          pub asked_uncopied : Asked old ls (Err dav.Memory) new ls
          asked_uncopied = then_informed follows_up_to

          module _ (token : List ℕ) (there : who.token ≡ Some token) where
            then_token : {w : Result Lock DavError} → Follows (as_is {A = Lock}) (with_token deep info token) new ls w new ls → Asked old ls w new ls
            then_token more = then_informed (follows_ok (required who.token (dav.Status 500)) token (with_token deep info) (ap (λ t. required t (dav.Status 500)) there) more)

            -- the folder above is locked, or memory runs out where that is checked
            pub asked_barred : (e : DavError) → Above ls (Err e) → Asked old ls (Err e) new ls
            asked_barred e barred = then_token (follows_err (λ _. gives (lock_of h p who deep info token)) e (barred new))

            pub asked_done : (l : Lock) → Above ls (Ok tt) → l ≡ lock_of h p who deep info token → Asked old ls (Ok l) new ls
            asked_done l freed same = then_token (follows_then (λ _. gives (lock_of h p who deep info token)) (freed new) (follows_done (ap Ok same)))

-- the check of the folder above, with equal arguments
pub above_for : {h k : LockHeaders} (p : Path) (who : Caller) (b wanted : Bool) {ls : Locks} {r : Result (Unit {0}) DavError} → h ≡ k → b ≡ wanted
    → FollowsOnLocks (λ (u : Unit {0}). u) (require_parent b (requester who (submitted h.conditions.lists)) p (dav.Status 423)) ls r ls
    → FollowsOnLocks (λ (u : Unit {0}). u) (require_parent wanted (requester who (submitted k.conditions.lists)) p (dav.Status 423)) ls r ls
above_for {k = k} p who b wanted {ls} {r} same told done =
    subst (λ x. FollowsOnLocks (λ (u : Unit {0}). u) (require_parent x (requester who (submitted k.conditions.lists)) p (dav.Status 423)) ls r ls) told
    (subst (λ (x : LockHeaders). FollowsOnLocks (λ (u : Unit {0}). u) (require_parent b (requester who (submitted x.conditions.lists)) p (dav.Status 423)) ls r ls) same done)

-- and with equal tokens
pub above_by : (tokens : List (List ℕ)) {lent : List (List ℕ)} (principal : Option (List ℕ)) (wanted : Bool) (p : Path) (e : DavError) {ls : Locks} {r : Result (Unit {0}) DavError} → lent ≡ tokens
    → FollowsOnLocks (λ (u : Unit {0}). u) (require_parent wanted (requester_of lent false principal) p e) ls r ls → FollowsOnLocks (λ (u : Unit {0}). u) (require_parent wanted (requester_of tokens false principal) p e) ls r ls
above_by tokens principal wanted p e {ls} {r} same done = subst (λ ts. FollowsOnLocks (λ (u : Unit {0}). u) (require_parent wanted (requester_of ts false principal) p e) ls r ls) same done

-- ---- the grant

-- what is said of a result, where it is an error, and where it isn't
pub err_is : {A E X : Type 0} (P : E → Type 0) (r : Result A E) (e : E) → result_err r ≡ Some e → IfErr r P → OnErr r X → P e × X
err_is P (Ok a) e is said more = absurd (cc)
err_is P (Err f) e is said more = let same : f ≡ e = cc in (subst P same said, more)

on_err : {A E X : Type 0} (r : Result A E) (e : E) → result_err r ≡ Some e → OnErr r X → X
on_err (Ok a) e is said = absurd (cc)
on_err (Err f) e is said = said

pub ok_is : {A E : Type 0} (P : A → Type 0) (r : Result A E) → result_err r ≡ None → IfOk r P → (a : A) × P a
ok_is P (Ok a) is said = (a, said)
ok_is P (Err f) is said = absurd (cc)

module _ (new : Lock) where
  abbrev Grants : Locks → Result (Unit {0}) DavError → Locks → Type 0
  Grants ls r ms = FollowsOnLocks (λ (u : Unit {0}). u) (grant new) ls r ms

  abbrev granted_if : Bool → List Lock → MethodPlan (Unit {0})
  granted_if b ls = if b then Keep (ls ++ new ∷ []) (gives tt) else Done (Err (dav.Status 423))

  pub grant_nowhere : {ls : Locks} → ls ≡ None → Grants ls (Err (dav.Status 405)) ls
  grant_nowhere none s = subst (λ ls. Follows (λ (u : Unit {0}). u) (grant new) s ls (Err (dav.Status 405)) s ls) (sym none) (follows_look (follows_done refl))

  pub grant_done : (l : Lock) {ls ms : List Lock} → l ≡ new → is_grantable l ls ≡ true → ms ≡ ls ++ l ∷ [] → Grants (Some ls) (Ok tt) (Some ms)
  grant_done l {ls} {ms} same may is s =
      let able : is_grantable new ls ≡ true = ap (λ m. is_grantable m ls) (sym same) ∙ may in
      let left : ms ≡ ls ++ new ∷ [] = is ∙ ap (λ m. ls ++ m ∷ []) same in
      follows_look (subst (λ b. Follows (λ (u : Unit {0}). u) (granted_if b ls) s (Some ls) (Ok tt) s (Some ms)) (sym able)
      (subst (λ ks. Follows (λ (u : Unit {0}). u) (granted_if true ls) s (Some ls) (Ok tt) s (Some ks)) (sym left) (follows_keep (followed ran_done))))

  -- what the answer of a lock system says
  abbrev Granted : Lock → List Lock → List Lock → Lock → Type 0
  Granted asked ls ms l = (l ≡ asked) × (is_grantable l ls ≡ true) × (ms ≡ ls ++ l ∷ [])

  pub grant_answered : (asked : Lock) {E : Type 0} (r : Result Lock E) {ls ms : List Lock} → asked ≡ new → result_err r ≡ None → IfOk r (Granted asked ls ms) → Grants (Some ls) (Ok tt) (Some ms)
  grant_answered asked r {ls} {ms} same is said = let (l, all) = ok_is (Granted asked ls ms) r is said in grant_done l (all.0 ∙ same) all.1 all.2

  pub grant_conflicts : (l : Lock) (e : LockRefusal) {ls ms : List Lock} → l ≡ new → e ≡ Conflict → IsRefusedGrant e (is_grantable l ls) → ms ≡ ls → Grants (Some ls) (Err (dav.Status 423)) (Some ms)
  grant_conflicts l e {ls} {ms} same conflict why is s =
      let may : is_grantable l ls ≡ false = subst (λ (w : LockRefusal). IsRefusedGrant w (is_grantable l ls)) conflict why in
      let able : is_grantable new ls ≡ false = ap (λ m. is_grantable m ls) (sym same) ∙ may in
      subst (λ ks. Follows (λ (u : Unit {0}). u) (grant new) s (Some ls) (Err (dav.Status 423)) s (Some ks)) (sym is)
      (follows_look (subst (λ b. Follows (λ (u : Unit {0}). u) (granted_if b ls) s (Some ls) (Err (dav.Status 423)) s (Some ls)) (sym able) (follows_done refl)))

  pub grant_refused : (asked : Lock) (r : Result Lock LockRefusal) (e : LockRefusal) {ls ms : List Lock} → asked ≡ new → result_err r ≡ Some e → e ≡ Conflict
      → IfErr r (λ e. IsRefusedGrant e (is_grantable asked ls)) → OnErr r (ms ≡ ls) → Grants (Some ls) (Err (dav.Status 423)) (Some ms)
  grant_refused asked r e {ls} {ms} same is conflict said kept =
      let (why, left) = err_is {X = ms ≡ ls} (λ e. IsRefusedGrant e (is_grantable asked ls)) r e is said kept in grant_conflicts asked e same conflict why left

  pub grant_ran_out : (r : Result Lock LockRefusal) (e : LockRefusal) {ls ms : List Lock} → result_err r ≡ Some e → OnErr r (ms ≡ ls) → Grants (Some ls) (Err dav.Memory) (Some ms)
  grant_ran_out r e {ls} {ms} is kept = subst (λ ks. Grants (Some ls) (Err dav.Memory) (Some ks)) (sym (on_err r e is kept)) (λ s. follows_up_to)

-- ---- the empty file

module _ (how : Opening) (token : List ℕ) (p : Path) (now : ℕ) {old new : StoreState} {ls : Locks} where
  pub empty_opened : (file : Handle) → Asks (Open p how now) old (Ok file) new → Ran Asks (open_empty how token p now) old ls (Ok tt) new ls
  empty_opened file asks = ran_ask asks ran_done

  back_by : (why : FsError) (ks : Locks) → Asks (Open p how now) old (Err why) new → ks ≡ ls → Ran Asks (open_empty how token p now) old ks (Err (empty_error how why)) new (option_map (taken_back token p) ks)
  back_by why None asks same = ran_ask asks (ran_look ran_done)
  back_by why (Some locks) asks same = ran_ask asks (ran_look (ran_keep ran_done))

  pub empty_refused : (why : FsError) (e : DavError) {ms : Locks} → Asks (Open p how now) old (Err why) new → e ≡ empty_error how why → ms ≡ option_map (taken_back token p) ls
      → Ran Asks (open_empty how token p now) old ls (Err e) new ms
  empty_refused why e {ms} asks is same =
      subst (λ w. Ran Asks (open_empty how token p now) old ls (Err w) new ms) (sym is)
      (subst (λ ks. Ran Asks (open_empty how token p now) old ls (Err (empty_error how why)) new ks) (sym same) (back_by why ls asks refl))

-- ---- the whole

module _ (h : LockHeaders) (p : PathText) (location : List Header) (content : Body) (who : Caller) (found : Option DavMetaData) where
  abbrev News : StoreState → Locks → Result Reply DavError → StoreState → Locks → Type 0
  News old ls r new ms = Follows (as_is {A = Reply}) (lock_new h p location content who found) old ls r new ms

  abbrev files : Lock → MethodPlan Reply
  files l = do
    _ ← make_empty (empty_opening h.conditions) l.token (names p) who.moment found
    gives (granted_reply (is_some found) location l)

  abbrev with_lock : Lock → MethodPlan Reply
  with_lock l = do
    _ ← grant l
    files l

  pub new_ends : (e : DavError) {old new : StoreState} {ls : Locks} → Asked h p content who found old ls (Err e) new ls → News old ls (Err e) new ls
  new_ends e one = follows_err with_lock e one

  module _ (l : Lock) {old mid : StoreState} {ls : Locks} (one : Asked h p content who found old ls (Ok l) mid ls) where
    pub new_short : News old ls (Err dav.Memory) mid ls
    new_short = follows_then with_lock one follows_up_to

    pub new_refused : (e : DavError) {ms : Locks} → ms ≡ ls → Grants l ls (Err e) ms → News old ls (Err e) mid ms
    new_refused e {ms} same two =
        subst (λ ks. News old ls (Err e) mid ks) (sym same)
        (follows_then with_lock one (follows_err (λ u. files l) e (subst (λ ks. Follows (λ (u : Unit {0}). u) (grant l) mid ls (Err e) mid ks) same (two mid))))

    module _ {ks : Locks} (two : Grants l ls (Ok tt) ks) where
      then_granted : {r : Result Reply DavError} {new : StoreState} {ms : Locks} → Ran Asks (files l) mid ks r new ms → News old ls r new ms
      then_granted {r = Ok reply} run = follows_then with_lock one (follows_then_from (λ u. files l) (two mid) (followed run))
      then_granted {r = Err e} run = follows_then with_lock one (follows_then_from (λ u. files l) (two mid) (followed run))

      pub new_there : (reply : Reply) → is_some found ≡ true → reply ≡ granted_reply (is_some found) location l → News old ls (Ok reply) mid ks
      new_there reply there is = then_granted (there_by found reply there is) where
        there_by : (o : Option DavMetaData) (reply : Reply) → is_some o ≡ true → reply ≡ granted_reply (is_some o) location l
            → Ran Asks (make_empty (empty_opening h.conditions) l.token (names p) who.moment o >>= (λ u. gives (granted_reply (is_some o) location l))) mid ks (Ok reply) mid ks
        there_by (Some m) reply there is = ran_at (ap Ok is)
        there_by None reply there is = absurd (cc)

      abbrev Opens : Result (Unit {0}) DavError → StoreState → Locks → Type 0
      Opens r new ms = Ran Asks (open_empty (empty_opening h.conditions) l.token (names p) who.moment) mid ks r new ms

      pub new_unmade : (e : DavError) {new : StoreState} {ms : Locks} → is_some found ≡ false → Opens (Err e) new ms → News old ls (Err e) new ms
      new_unmade e {new} {ms} none run = then_granted (unmade_by found none run) where
        unmade_by : (o : Option DavMetaData) → is_some o ≡ false → Opens (Err e) new ms
            → Ran Asks (make_empty (empty_opening h.conditions) l.token (names p) who.moment o >>= (λ u. gives (granted_reply (is_some o) location l))) mid ks (Err e) new ms
        unmade_by (Some m) none run = absurd (cc)
        unmade_by None none run = ran_bind (λ u. gives (granted_reply false location l)) run ran_done

      pub new_made : (reply : Reply) {new : StoreState} {ms : Locks} → is_some found ≡ false → Opens (Ok tt) new ms → reply ≡ granted_reply (is_some found) location l → News old ls (Ok reply) new ms
      new_made reply {new} {ms} none run is = then_granted (made_by found reply none run is) where
        made_by : (o : Option DavMetaData) (reply : Reply) → is_some o ≡ false → Opens (Ok tt) new ms → reply ≡ granted_reply (is_some o) location l
            → Ran Asks (make_empty (empty_opening h.conditions) l.token (names p) who.moment o >>= (λ u. gives (granted_reply (is_some o) location l))) mid ks (Ok reply) new ms
        made_by (Some m) reply none run is = absurd (cc)
        made_by None reply none run is = ran_bind (λ u. gives (granted_reply false location l)) run (ran_at (ap Ok is))

    abbrev News-by : Result (Unit {0}) DavError → StoreState → Locks → Type 0
    News-by r new ms = GrantsNew l (empty_opening h.conditions) who.moment (is_some found) mid ls r new ms

    -- the empty file was asked for at the path of the lock
    opens_there : {r w : Result (Unit {0}) DavError} {ks ms : Locks} {new : StoreState} → l.path ≡ p → r ≡ w → Ran Asks (open_empty (empty_opening h.conditions) l.token (names l.path) who.moment) mid ks r new ms
        → Ran Asks (open_empty (empty_opening h.conditions) l.token (names p) who.moment) mid ks w new ms
    opens_there {r} {w} {ks} {ms} {new} path was run =
        subst (λ v. Ran Asks (open_empty (empty_opening h.conditions) l.token (names p) who.moment) mid ks v new ms) was
        (subst (λ (q : PathText). Ran Asks (open_empty (empty_opening h.conditions) l.token (names q) who.moment) mid ks r new ms) path run)

    pub new_not_granted : (e : DavError) (r : Result (Unit {0}) DavError) {new : StoreState} {ms : Locks} → l.path ≡ p → r ≡ Err e → News-by r new ms → News old ls (Err e) new ms
    new_not_granted e r {new} {ms} path was (not_granted f is two same at) =
        let one_error : f ≡ e = cc in
        subst (λ s. News old ls (Err e) s ms) (sym at) (new_refused e same (subst (λ w. Grants l ls (Err w) ms) one_error two))
    new_not_granted e r {new} {ms} path was (on_what_is_there is there two at) = absurd (cc)
    new_not_granted e r {new} {ms} path was (on_a_new_file ks none two run) = new_unmade two e none (opens_there path was run)

    pub new_granted : (reply : Reply) (r : Result (Unit {0}) DavError) {new : StoreState} {ms : Locks} → l.path ≡ p → r ≡ Ok tt → News-by r new ms → reply ≡ granted_reply (is_some found) location l → News old ls (Ok reply) new ms
    new_granted reply r {new} {ms} path was (not_granted f is two same at) told = absurd (cc)
    new_granted reply r {new} {ms} path was (on_what_is_there is there two at) told = subst (λ s. News old ls (Ok reply) s ms) (sym at) (new_there two reply there told)
    new_granted reply r {new} {ms} path was (on_a_new_file ks none two run) told = new_made two reply none (opens_there path was run) told

    pub new_given : (reply : Reply) (done : Result (Unit {0}) DavError) (result : Result Reply DavError) {new : StoreState} {ms : Locks}
        → IfOk result (λ r. (done ≡ Ok tt) × (r ≡ reply)) → IfErr result (λ e. done ≡ Err e) → reply ≡ granted_reply (is_some found) location l → l.path ≡ p → News-by done new ms → News old ls result new ms
    new_given reply done (Ok r) ok err told path by = new_granted r done path ok.0 by (ok.1 ∙ told)
    new_given reply done (Err e) ok err told path by = new_not_granted e done path err by

-- where memory ran out, it did in what was done
pub given_memory : (done : Result (Unit {0}) DavError) (result : Result Reply DavError) → IfErr result (λ e. done ≡ Err e) → IsErrOf result dav.Memory → IsErrOf done dav.Memory
given_memory done (Ok r) err short = absurd (cc)
given_memory done (Err e) err short = let same : e ≡ dav.Memory = cc in err ∙ ap Err same

-- the same with equal arguments
pub news_as : {l : Lock} {how wanted : Opening} {moment now : ℕ} {found there : Bool} {r : Result (Unit {0}) DavError} {old new : StoreState} {ls held ms : Locks}
    → how ≡ wanted → moment ≡ now → found ≡ there → ls ≡ held → GrantsNew l how moment found old ls r new ms → GrantsNew l wanted now there old held r new ms
news_as {l} {how} {wanted} {moment} {now} {found} {there} {r} {old} {new} {ls} {held} {ms} one two three four done =
    subst (λ ks. GrantsNew l wanted now there old ks r new ms) four
    (subst (λ b. GrantsNew l wanted now b old ls r new ms) three
    (subst (λ n. GrantsNew l wanted n found old ls r new ms) two (subst (λ w. GrantsNew l w moment found old ls r new ms) one done)))

pub opens_as : {how wanted : Opening} {text token : List ℕ} {p q : Path} {moment now : ℕ} {r : Result (Unit {0}) DavError} {old new : StoreState} {ls ms : Locks}
    → how ≡ wanted → text ≡ token → p ≡ q → moment ≡ now → Ran Asks (open_empty how text p moment) old ls r new ms → Ran Asks (open_empty wanted token q now) old ls r new ms
opens_as {how} {wanted} {text} {token} {p} {q} {moment} {now} {r} {old} {new} {ls} {ms} one two path three done =
    subst (λ n. Ran Asks (open_empty wanted token q n) old ls r new ms) three
    (subst (λ (o : Path). Ran Asks (open_empty wanted token o moment) old ls r new ms) path
    (subst (λ t. Ran Asks (open_empty wanted t p moment) old ls r new ms) two (subst (λ w. Ran Asks (open_empty w text p moment) old ls r new ms) one done)))

-- what is borrowed is there where the borrow is
pub some_copied : {A : Type 0} (o : Option (Bor A)) → is_some (option_copied o) ≡ is_some o
some_copied None = refl
some_copied (Some x) = refl

-- ---- the method

pub lock_nowhere : (h : LockHeaders) (p : PathText) (content : Body) (who : Caller) {s : StoreState} {ls : Locks} → has_locks ls ≡ false → Follows as_is (lock h p content who) s ls (Err (dav.Status 405)) s ls
lock_nowhere h p content who {ls = None} none = follows_look (follows_done refl)
lock_nowhere h p content who {ls = Some ls} none = absurd (cc)

pub lock_by : (h : LockHeaders) (p : PathText) (content : Body) (who : Caller) (answer : Result DavMetaData FsError) (found : Option DavMetaData) {r : Result Reply DavError} {old mid new : StoreState} {ls ms : Locks}
    → has_locks ls ≡ true → Asks (Metadata (names p)) old answer mid → found ≡ result_ok answer → Follows as_is (lock_found h p content who found) mid ls r new ms
    → Follows as_is (lock h p content who) old ls r new ms
lock_by h p content who answer found {r} {mid = mid} {new = new} {ls = Some ls} {ms} some asks is done =
    follows_look (follows_ask asks (subst (λ o. Follows as_is (lock_found h p content who o) mid (Some ls) r new ms) is done))
lock_by h p content who answer found {ls = None} some asks is done = absurd (cc)
