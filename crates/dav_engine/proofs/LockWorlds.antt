-- What a LOCK leaves of worlds and of lists of locks.
use Rattle.std.proofs.Common.{◌≡◌, ◌≢◌, ℕ, ◌==◌, ◌||◌, not, ◌++◌, Bool, true, false, true≢false, codes, if◌then◌else◌, List, [], ◌∷◌, All, Option, Some, None, Result, Ok, Err, ◌⊎◌, inl, inr, refl, sym, ap, subst, ◌∙◌}
use Rattle.std.specs.Bool.{⊤}
use Rattle.std.specs.Option.{is_some, is_none, option_map, unwrap_or}
use Rattle.std.specs.Result.{result_ok}
use Rattle.http_header.specs.HeaderMap.{get_all}
use Rattle.dav_core.specs.declared.errors.FsError.{FsError}
use Rattle.dav_core.specs.declared.errors.FsError.TheVariants.{NotFound, Forbidden, Exists, GeneralFailure}
use Rattle.dav_core.specs.declared.errors.DavError.{DavError}
use Rattle.dav_core.specs.declared.errors.DavError.TheVariants as dav
use Rattle.dav_core.specs.declared.fs.DavMetaData.{DavMetaData}
use Rattle.dav_core.specs.declared.method.DavMethod.TheVariants as method
use Rattle.dav_core.specs.Asking.{Call, Answer, StoreState, Asks, meaning, Metadata, Open}
use Rattle.dav_core.specs.Calls.{metadata, open_at}
use Rattle.dav_core.specs.Handle.{Handle, Opening, opened}
use Rattle.dav_core.specs.Locks.{Lock, is_grantable, named_lock, refreshed, refreshed_lock, unlocked}
use Rattle.dav_core.specs.Meaning.{Meaning}
use Rattle.dav_core.specs.Path.{Path, PathText, names, parent_of}
use Rattle.dav_core.specs.World.{World, Node, File, node_at, is_folder, is_folder_node, is_folder_kind, is_missing, with_new, last_number}
use Rattle.dav_core.proofs.Theorems.{taken_back as back_again, went_on, found, left}
use Rattle.dav_headers.specs.ETagList.{TagList, star, tags, IsTagList}
use Rattle.dav_engine.specs.declared.request.Body.{Body}
use Rattle.dav_engine.specs.Caller.{Caller, requester}
use Rattle.dav_engine.specs.Conditions.{Conditions, is_star, http_conditions, dav_if_match, if_holds, if_match, submitted}
use Rattle.dav_engine.specs.Delete.{whole_depth}
use Rattle.dav_engine.specs.Folder.{closed, is_folder_found, path_found, location_found}
use Rattle.dav_engine.specs.Headers.{Headers, Decodes}
use Rattle.dav_engine.specs.Lock.{one_token, token_to_refresh, keep_refreshed, refresh, refreshed_reply, lock_again, lock_of, asked_lock, grant, taken_back, empty_opening, empty_error, create_or_unlock, make_empty, granted_reply, lock_new, is_absent, lock, is_lock}
use Rattle.dav_engine.specs.LockHeaders.{LockHeaders, AreLockHeaders, refreshed_for}
use Rattle.dav_engine.specs.LockInfo.{LockInfo, lock_info}
use Rattle.dav_engine.specs.LockLaws.{GrantsLock, with_empty, LockGrants, RefreshesLock, LockRefreshes, IsUnused, IsRefusedFile, RefusedLockLeavesAll, UnrefusedLockLeavesAll}
use Rattle.dav_engine.specs.Method.{MethodPlan, then as followed_by, ◌>>=◌, require_free, required, unless_status, gives, fails, require_parent}
use Rattle.dav_engine.specs.Plan.{Plan, Locks, Done, Keep, CallStep, Ran, ran_done, ran_ask, ran_look, ran_keep}
use Rattle.dav_engine.specs.RefusedCalls.{AsksAnswered, opens_file}
use Rattle.dav_engine.specs.Reply.{Header, Reply}
use Rattle.dav_engine.proofs.CallWorlds.{stays, means, did, did_leave}
use Rattle.dav_engine.proofs.ChildLemmas.{names_closed}
use Rattle.dav_engine.proofs.DeletedWorlds.{told_dir}
use Rattle.dav_engine.proofs.LockPlans.{only_asked, only_token, required_is}
use Rattle.dav_engine.proofs.PutWorld.{look_reads}
use Rattle.dav_engine.proofs.RunLemmas.{finish, gave, parts}
use Rattle.dav_engine.proofs.SurvivorLemmas.{answered}
use Rattle.dav_engine.proofs.WorldPlans.{only_reads, reading_leaves, ran_split}

-- ---- parts

-- an outcome, and what follows it to a good end
then_ran : {A B : Type 0} (r : Result A DavError) (f : A → MethodPlan B) {old new : StoreState} {ls ms : Locks} {b : B} → Ran Asks (followed_by r f) old ls (Ok b) new ms
    → (a : A) × (r ≡ Ok a) × Ran Asks (f a) old ls (Ok b) new ms
then_ran (Ok a) f ran = (a, refl, ran)
then_ran (Err e) f ran = absurd (let ends = finish ran in let is = ends.0 in cc)

-- a plan that is done comes to its own end
finish_of : {step : CallStep} {A : Type 0} {a b : A} {old new : StoreState} {ls ms : Locks} → Ran step (Done a) old ls b new ms → (b ≡ a) × (new ≡ old) × (ms ≡ ls)
finish_of ran_done = (refl, refl, refl)

-- and to no other
no_error : {step : CallStep} {A : Type 0} {a : A} {e : DavError} {old new : StoreState} {ls ms : Locks} {X : Type 0} → Ran step (gives a) old ls (Err e) new ms → X
no_error ran = absurd (let ends = finish_of ran in let is = ends.0 in cc)

no_good : {A : Type 0} {a : A} {e : DavError} {old new : StoreState} {ls ms : Locks} {X : Type 0} → Ran Asks (fails {A = A} e) old ls (Ok a) new ms → X
no_good ran = absurd (let ends = finish ran in let is = ends.0 in cc)

-- the world and the list are left
abbrev Leaves : World → Locks → World → Locks → Type 0
Leaves w ls v ms = (v ≡ w) × (ms ≡ ls)

ended : {step : CallStep} {A : Type 0} {a b : A} {old new : StoreState} {ls ms : Locks} → Ran step (Done a) old ls b new ms → Leaves old.world ls new.world ms
ended ran = let ends = finish_of ran in (ap (λ (s : StoreState). s.world) ends.1, ends.2)

leaves_on : {u v w : World} {ls ks ms : Locks} → Leaves u ls v ks → Leaves v ks w ms → Leaves u ls w ms
leaves_on one two = (two.0 ∙ one.0, two.1 ∙ one.1)

-- a run from an equal list of locks
run_from : {step : CallStep} {A : Type 0} {plan : MethodPlan A} {old new : StoreState} {ls ks ms : Locks} {a : Result A DavError} → ks ≡ ls → Ran step plan old ks a new ms → Ran step plan old ls a new ms
run_from {step} {plan = plan} {old} {new} {ms = ms} {a} same ran = subst (λ (l : Locks). Ran step plan old l a new ms) same ran

-- each step is one of a lawful store
abbrev IsAsking : CallStep → Type 0
IsAsking step = (c : Call) (old : StoreState) (answer : Result (Answer c) FsError) (new : StoreState) → step c old answer new → Asks c old answer new

ran_as : {step : CallStep} {A : Type 0} {plan : Plan A} {old new : StoreState} {ls ms : Locks} {a : A} → IsAsking step → Ran step plan old ls a new ms → Ran Asks plan old ls a new ms
ran_as asks ran_done = ran_done
ran_as asks (ran_ask {c = c} {old = old} {mid = mid} {answer = answer} one more) = ran_ask (asks c old answer mid one) (ran_as asks more)
ran_as asks (ran_look more) = ran_look (ran_as asks more)
ran_as asks (ran_keep more) = ran_keep (ran_as asks more)

-- the world is left, and for this reason the list too
abbrev LeavesFor : Type 0 → World → Locks → World → Locks → Type 0
LeavesFor X w ls v ms = (v ≡ w) × (X → ms ≡ ls)

leaves_for : {X : Type 0} {w v : World} {ls ms : Locks} → Leaves w ls v ms → LeavesFor X w ls v ms
leaves_for leaves = (leaves.0, λ reason. leaves.1)

leaves_after : {X : Type 0} {u v w : World} {ls ms : Locks} → v ≡ u → LeavesFor X v ls w ms → LeavesFor X u ls w ms
leaves_after same leaves = (leaves.0 ∙ same, leaves.1)

-- ---- the lock that is asked for

record AskedFor (h : LockHeaders) (p : PathText) (content : Body) (who : Caller) (l : Lock) : Type 0 where
  deep : Bool
  info : LockInfo
  token : List ℕ
  depth : whole_depth h.depth ≡ Ok deep
  body : lock_info content ≡ Some info
  own : who.token ≡ Some token
  is : l ≡ lock_of h p who deep info token

asked_ran : (h : LockHeaders) (p : PathText) (content : Body) (who : Caller) (found : Option DavMetaData) {l : Lock} {old new : StoreState} {ls ms : Locks}
    → Ran Asks (asked_lock h p content who found) old ls (Ok l) new ms → AskedFor h p content who l
asked_ran h p content who found ran =
    let (deep, depth, one) = then_ran (whole_depth h.depth) _ ran in
    let two = parts (if_match method.Lock h.conditions found) _ one in
    let three = parts (unless_status two.value) _ two.more in
    let (info, body, four) = then_ran (required (lock_info content) dav.XmlParseError) _ three.more in
    let (token, own, five) = then_ran (required who.token (dav.Status 500)) _ four in
    let six = parts (require_parent (is_none found) (requester who (submitted h.conditions.lists)) (names p) (dav.Status 423)) _ five in
    record {
      deep = deep;
      info = info;
      token = token;
      depth = depth;
      body = required_is (lock_info content) dav.XmlParseError info body;
      own = required_is who.token (dav.Status 500) token own;
      is = (gave six.more).0;
    }

no_status : (o : Option ℕ) {u : Unit {0}} {old new : StoreState} {ls ms : Locks} → Ran Asks (unless_status o) old ls (Ok u) new ms → o ≡ None
no_status None ran = refl
no_status (Some status) ran = no_good ran

-- where nothing was found, an If-Match that is `*` fails
no_star : (match other : Option TagList) (holds : Bool) → (if holds then http_conditions method.Lock match other None else Some 412) ≡ None → is_star match ≡ false
no_star None other holds is = refl
no_star (Some (tags ts)) other holds is = refl
no_star (Some star) other true is = absurd (cc)
no_star (Some star) other false is = absurd (cc)

-- so the empty file may be made
asked_makes : (h : LockHeaders) (p : PathText) (content : Body) (who : Caller) (found : Option DavMetaData) {l : Lock} {old new : StoreState} {ls ms : Locks}
    → Ran Asks (asked_lock h p content who found) old ls (Ok l) new ms → found ≡ None → is_star h.conditions.if_match ≡ false
asked_makes h p content who found ran missing =
    let (deep, depth, one) = then_ran (whole_depth h.depth) _ ran in
    let two = parts (if_match method.Lock h.conditions found) _ one in
    let three = parts (unless_status two.value) _ two.more in
    let four = parts (if_holds h.conditions.lists) _ two.one in
    no_star h.conditions.if_match h.conditions.if_none_match four.value
    (subst (λ (m : Option DavMetaData). (if four.value then http_conditions method.Lock h.conditions.if_match h.conditions.if_none_match m else Some 412) ≡ None) missing
    (sym (gave four.more).0 ∙ no_status two.value three.one))

asked_leaves : (h : LockHeaders) (p : PathText) (content : Body) (who : Caller) (found : Option DavMetaData) {r : Result Lock DavError} {old new : StoreState} {ls ms : Locks}
    → Ran Asks (asked_lock h p content who found) old ls r new ms → Leaves old.world ls new.world ms
asked_leaves h p content who found ran = reading_leaves (only_reads look_reads (only_asked h p content who found)) ran

-- ---- the list after a lock was taken back

back_by : (new : Lock) (p : Path) (ls : List Lock) → names new.path ≡ p → All (λ l. l.token ≢ new.token) ls → taken_back new.token p (ls ++ new ∷ []) ≡ ls
back_by new p ls at others =
    ap (λ q. unwrap_or (unlocked new.token q (ls ++ new ∷ [])) (ls ++ new ∷ [])) (sym at) ∙ ap (λ o. unwrap_or o (ls ++ new ∷ [])) (back_again new ls others)

-- ---- errors

-- what follows a lock that was granted
abbrev files : Opening → List ℕ → Path → ℕ → Option DavMetaData → Reply → MethodPlan Reply
files how token p now found reply = do
  _ ← make_empty how token p now found
  gives reply

refused_open : {p : Path} {how : Opening} {now : ℕ} {old new : StoreState} {e : FsError} → Asks (Open p how now) old (Err e) new → new.world ≡ old.world
refused_open one = elim (did one) [
  | stays d is same ↦ same
  | means r h is after ↦ cc
]

abbrev grants_by : Bool → List Lock → Lock → (Unit {0} → MethodPlan Reply) → MethodPlan Reply
grants_by b ls new f = (if b then Keep (ls ++ new ∷ []) (gives tt) else fails (dav.Status 423)) >>= f

-- what follows the lock that is asked for
abbrev granting : LockHeaders → PathText → List Header → Body → Caller → Option DavMetaData → Lock → MethodPlan Reply
granting h p location content who found new = do
  _ ← grant new
  files (empty_opening h.conditions) new.token (names p) who.moment found (granted_reply (is_some found) location new)

-- what follows the lock that was meant, and the list with it
abbrev renewing : Option Lock → Option (List Lock) → (Lock → Reply) → MethodPlan Reply
renewing l left reply = do
  m ← keep_refreshed l left
  gives (reply m)

kept_leaves : (l : Option Lock) (left : Option (List Lock)) (reply : Lock → Reply) {old end : StoreState} {ls ms : Locks} {d : DavError} → Ran Asks (renewing l left reply) old ls (Err d) end ms → Leaves old.world ls end.world ms
kept_leaves None left reply ran = ended ran
kept_leaves (Some l) None reply ran = ended ran
kept_leaves (Some l) (Some after) reply (ran_keep ran) = no_error ran

module _ (h : LockHeaders) (p : PathText) (location : List Header) (who : Caller) where
  abbrev refreshing : List ℕ → MethodPlan Reply
  refreshing token = do
    l ← refresh token (names p) (refreshed_for h.timeout) who.moment
    gives (refreshed_reply location l)

  refreshing_leaves : (token : List ℕ) (ls : List Lock) {old end : StoreState} {ms : Locks} {d : DavError} → Ran Asks (refreshing token) old (Some ls) (Err d) end ms → Leaves old.world (Some ls) end.world ms
  refreshing_leaves token ls (ran_look ran) =
      kept_leaves (option_map (refreshed_lock (refreshed_for h.timeout) who.moment) (named_lock token (names p) ls)) (refreshed token (names p) (refreshed_for h.timeout) who.moment ls) (refreshed_reply location) ran

  again_leaves_by : (outcome : Result (List ℕ) DavError) (ls : List Lock) {w : World} {mid end : StoreState} {ks ms : Locks} {d : DavError}
      → Leaves w (Some ls) mid.world ks → Ran Asks (followed_by outcome refreshing) mid ks (Err d) end ms → Leaves w (Some ls) end.world ms
  again_leaves_by (Err e) ls first more = leaves_on first (ended more)
  again_leaves_by (Ok token) ls first more = leaves_on (first.0, refl) (refreshing_leaves token ls (run_from first.1 more))

  again_leaves : (ls : List Lock) {old end : StoreState} {ms : Locks} {d : DavError} → Ran Asks (lock_again h p location who) old (Some ls) (Err d) end ms → Leaves old.world (Some ls) end.world ms
  again_leaves ls ran =
      let s = ran_split (token_to_refresh h (names p) who) refreshing ran in
      again_leaves_by s.outcome ls (reading_leaves (only_reads look_reads (only_token h (names p) who)) s.first) s.rest

-- no lock of the list has the token that the client handed in
abbrev TokenIsUnused : Caller → Locks → Type 0
TokenIsUnused who ls = (token : List ℕ) → who.token ≡ Some token → IsUnused token ls

-- Why a LOCK of this client, with these headers, that ends in this error leaves the list: where it asked for a file, no lock of the list
-- has its token.
module _ (step : CallStep) (asks : IsAsking step) (h : LockHeaders) (who : Caller) (ls : List Lock) (d : DavError) (X : Type 0)
    (unused : (p : Path) (old new : StoreState) (e : FsError) → step (Open p (empty_opening h.conditions) who.moment) old (Err e) new → is_star h.conditions.if_match ≡ false
    → d ≡ empty_error (empty_opening h.conditions) e → X → TokenIsUnused who (Some ls)) where
  abbrev how : Opening
  how = empty_opening h.conditions

  back_leaves : (new : Lock) (p : Path) (e : FsError) (reply : Reply) {mid end : StoreState} {ms : Locks} → names new.path ≡ p → who.token ≡ Some new.token
      → (d ≡ empty_error how e → X → TokenIsUnused who (Some ls))
      → Ran step (create_or_unlock how new.token p (Err e) >>= (λ u. gives reply)) mid (Some (ls ++ new ∷ [])) (Err d) end ms → LeavesFor X mid.world (Some ls) end.world ms
  back_leaves new p e reply at own others (ran_look (ran_keep ran)) =
      let (is, state, locks) = finish_of ran in
      let same : d ≡ empty_error how e = cc in
      (ap (λ (s : StoreState). s.world) state, λ reason. locks ∙ ap (λ (l : List Lock). Some l) (back_by new p ls at (others same reason new.token own)))

  files_leave : (new : Lock) (p : Path) (found : Option DavMetaData) (reply : Reply) {old end : StoreState} {ms : Locks} → names new.path ≡ p → who.token ≡ Some new.token
      → (found ≡ None → is_star h.conditions.if_match ≡ false)
      → Ran step (files how new.token p who.moment found reply) old (Some (ls ++ new ∷ [])) (Err d) end ms → LeavesFor X old.world (Some ls) end.world ms
  files_leave new p (Some m) reply at own makes ran = no_error ran
  files_leave new p None reply at own makes (ran_ask {answer = Ok file} one ran) = no_error ran
  files_leave new p None reply at own makes (ran_ask {old = old} {mid = mid} {answer = Err e} one ran) =
      leaves_after (refused_open (asks (Open p how who.moment) old (Err e) mid one)) (back_leaves new p e reply at own (unused p old mid e one (makes refl)) ran)

  grant_leaves : (b : Bool) (new : Lock) (p : Path) (found : Option DavMetaData) (reply : Reply) {old end : StoreState} {ms : Locks} → names new.path ≡ p → who.token ≡ Some new.token
      → (found ≡ None → is_star h.conditions.if_match ≡ false)
      → Ran step (grants_by b ls new (λ u. files how new.token p who.moment found reply)) old (Some ls) (Err d) end ms → LeavesFor X old.world (Some ls) end.world ms
  grant_leaves true new p found reply at own makes (ran_keep ran) = files_leave new p found reply at own makes ran
  grant_leaves false new p found reply at own makes ran = leaves_for (ended ran)

  granting_leaves : (p : PathText) (location : List Header) (content : Body) (found : Option DavMetaData) (new : Lock) (asked : AskedFor h p content who new) {old end : StoreState} {ms : Locks}
      → (found ≡ None → is_star h.conditions.if_match ≡ false)
      → Ran step (granting h p location content who found new) old (Some ls) (Err d) end ms → LeavesFor X old.world (Some ls) end.world ms
  granting_leaves p location content found new asked makes (ran_look ran) =
      grant_leaves (is_grantable new ls) new (names p) found (granted_reply (is_some found) location new) (ap (λ (l : Lock). names l.path) asked.is)
      (asked.own ∙ sym (ap (λ (l : Lock). Some l.token) asked.is)) makes ran

  new_leaves_by : (p : PathText) (location : List Header) (content : Body) (found : Option DavMetaData) (outcome : Result Lock DavError) {old mid end : StoreState} {ks ms : Locks}
      → Ran Asks (asked_lock h p content who found) old (Some ls) outcome mid ks → Ran step (followed_by outcome (granting h p location content who found)) mid ks (Err d) end ms → LeavesFor X old.world (Some ls) end.world ms
  new_leaves_by p location content found (Err e) one more = leaves_for (leaves_on (asked_leaves h p content who found one) (ended more))
  new_leaves_by p location content found (Ok new) one more =
      let first = asked_leaves h p content who found one in
      leaves_after first.0 (granting_leaves p location content found new (asked_ran h p content who found one) (asked_makes h p content who found one) (run_from first.1 more))

  new_leaves : (p : PathText) (location : List Header) (content : Body) (found : Option DavMetaData) {old end : StoreState} {ms : Locks}
      → Ran step (lock_new h p location content who found) old (Some ls) (Err d) end ms → LeavesFor X old.world (Some ls) end.world ms
  new_leaves p location content found ran =
      let s = ran_split (asked_lock h p content who found) (granting h p location content who found) ran in
      new_leaves_by p location content found s.outcome (ran_as asks s.first) s.rest

  by_body : (b : Bool) (one other : MethodPlan Reply) {old end : StoreState} {ms : Locks}
      → (Ran step one old (Some ls) (Err d) end ms → LeavesFor X old.world (Some ls) end.world ms) → (Ran step other old (Some ls) (Err d) end ms → LeavesFor X old.world (Some ls) end.world ms)
      → Ran step (if b then one else other) old (Some ls) (Err d) end ms → LeavesFor X old.world (Some ls) end.world ms
  by_body true one other is also ran = is ran
  by_body false one other is also ran = also ran

  refused_leaves : (p : PathText) (body : Body) {old end : StoreState} {ms : Locks} → Ran step (lock h p body who) old (Some ls) (Err d) end ms → LeavesFor X old.world (Some ls) end.world ms
  refused_leaves p body (ran_look (ran_ask {old = old} {mid = mid} {answer = answer} one ran)) =
      let q : PathText = path_found (result_ok answer) p in
      let location : List Header = location_found (result_ok answer) p in
      leaves_after (did_leave (Metadata (names p)) old.world mid.world answer tt (did (asks (Metadata (names p)) old answer mid one)))
      (by_body (is_absent body) (lock_again h q location who) (lock_new h q location body who (result_ok answer))
      (λ r. leaves_for (again_leaves h q location who ls (ran_as asks r))) (λ r. new_leaves q location body (result_ok answer) r) ran)

-- the error where the file isn't opened is such a one
status_by : (headers : Headers) (b : Bool) (list : Option TagList) → Decodes IsTagList (get_all headers (codes "if-none-match")) list → b ≡ false
    → IsRefusedFile headers (dav.Status (if not (not b) || is_star list then 412 else 409))
status_by headers true list said only = absurd (true≢false only)
status_by headers false None said only = inl refl
status_by headers false (Some star) said only = inr (refl, said)
status_by headers false (Some (tags ts)) said only = inl refl

is_refused_file : (headers : Headers) (c : Conditions) → Decodes IsTagList (get_all headers (codes "if-none-match")) c.if_none_match → is_star c.if_match ≡ false
    → (e : FsError) → IsRefusedFile headers (empty_error (empty_opening c) e)
is_refused_file headers c said only NotFound = status_by headers (is_star c.if_match) c.if_none_match said only
is_refused_file headers c said only Exists = status_by headers (is_star c.if_match) c.if_none_match said only
is_refused_file headers c said only e = tt

-- the token is unused, or the error is of another kind
abbrev Early : Headers → Caller → Locks → DavError → Type 0
Early headers who ls d = TokenIsUnused who ls ⊎ (¬ IsRefusedFile headers d)

is_unused : (headers : Headers) (who : Caller) (ls : Locks) (d e : DavError) → d ≡ e → IsRefusedFile headers e → Early headers who ls d → TokenIsUnused who ls
is_unused headers who ls d e same refused (inl unused) = unused
is_unused headers who ls d e same refused (inr other) = absurd (other (subst (IsRefusedFile headers) (sym same) refused))

-- a LOCK that an error ends leaves all
pub refused_lock_leaves_all : RefusedLockLeavesAll
refused_lock_leaves_all headers p body who plan old new None ms e (is_lock h are) (ran_look ran) = leaves_for (ended ran)
refused_lock_leaves_all headers p body who plan old new (Some ls) ms e (is_lock h are) ran =
    refused_leaves Asks (λ c old answer new one. one) h who ls e (Early headers who (Some ls) e)
    (λ q before after refusal one only same reason. is_unused headers who (Some ls) e (empty_error (empty_opening h.conditions) refusal) same (is_refused_file headers h.conditions are.conditions.none_match only refusal) reason)
    p body ran

-- so does one to which the store refuses no file
pub unrefused_lock_leaves_all : UnrefusedLockLeavesAll
unrefused_lock_leaves_all headers p body who plan old new None ms e (is_lock h are) (ran_look ran) = ended ran
unrefused_lock_leaves_all headers p body who plan old new (Some ls) ms e (is_lock h are) ran =
    let leaves = refused_leaves (AsksAnswered opens_file) (λ c old answer new one. one.0) h who ls e ⊤ (λ q before after refusal one only same reason. absurd (true≢false (sym (one.1 refl)))) p body ran in
    (leaves.0, leaves.1 tt)

-- ---- a refresh

ok_is : (ts : List (List ℕ)) (token : List ℕ) → one_token ts ≡ Ok token → ts ≡ token ∷ []
ok_is [] token is = absurd (cc)
ok_is (t ∷ []) token is = let same : t ≡ token = cc in ap (λ x. x ∷ []) same
ok_is (t ∷ u ∷ more) token is = absurd (cc)

-- the token is the only one that is submitted
token_ran : (h : LockHeaders) (p : Path) (who : Caller) {token : List ℕ} {old new : StoreState} {ls ms : Locks} → Ran Asks (token_to_refresh h p who) old ls (Ok token) new ms → submitted h.conditions.lists ≡ token ∷ []
token_ran h p who {token} ran =
    let one = parts (dav_if_match h.conditions.lists) _ ran in
    let two = parts (if_holds h.conditions.lists) _ one.one in
    let (said, only, three) = then_ran (one_token one.value.1) _ one.more in
    let four = parts (require_free false (requester who (said ∷ [])) p (dav.Status 412)) _ three in
    let same : token ≡ said = (gave four.more).0 in
    let tokens : one.value.1 ≡ submitted h.conditions.lists = ap (λ (x : Bool × List (List ℕ)). x.1) (gave two.more).0 in
    sym tokens ∙ ok_is one.value.1 said only ∙ ap (λ (t : List ℕ). t ∷ []) (sym same)

kept_by : (l : Option Lock) (left : Option (List Lock)) (reply : Lock → Reply) {old end : StoreState} {ls : List Lock} {ms : Locks} {r : Reply} → Ran Asks (renewing l left reply) old (Some ls) (Ok r) end ms
    → (after : List Lock) × (left ≡ Some after) × (end.world ≡ old.world) × (ms ≡ Some after)
kept_by None left reply ran = absurd (let ends = finish ran in let is = ends.0 in cc)
kept_by (Some l) None reply ran = absurd (let ends = finish ran in let is = ends.0 in cc)
kept_by (Some l) (Some after) reply (ran_keep ran) = let (world, locks) = ended ran in (after, refl, world, locks)

refreshed_ran : (h : LockHeaders) (p : PathText) (location : List Header) (who : Caller) (token : List ℕ) (ls : List Lock) {old end : StoreState} {ms : Locks} {r : Reply} → Ran Asks (refreshing h p location who token) old (Some ls) (Ok r) end ms
    → (after : List Lock) × (refreshed token (names p) (refreshed_for h.timeout) who.moment ls ≡ Some after) × (end.world ≡ old.world) × (ms ≡ Some after)
refreshed_ran h p location who token ls (ran_look ran) =
    kept_by (option_map (refreshed_lock (refreshed_for h.timeout) who.moment) (named_lock token (names p) ls)) (refreshed token (names p) (refreshed_for h.timeout) who.moment ls) (refreshed_reply location) ran

again_refreshes : (headers : Headers) (h : LockHeaders) (p q : PathText) (location : List Header) (who : Caller) (ls : List Lock) {old end : StoreState} {ms : Locks} {r : Reply} → AreLockHeaders headers p h → names q ≡ names p
    → Ran Asks (lock_again h q location who) old (Some ls) (Ok r) end ms → (end.world ≡ old.world) × RefreshesLock headers p who (Some ls) ms
again_refreshes headers h p q location who ls are same ran =
    let s = parts (token_to_refresh h (names q) who) (refreshing h q location who) ran in
    let first = reading_leaves (only_reads look_reads (only_token h (names q) who)) s.one in
    let (after, renewed, world, locks) = refreshed_ran h q location who s.value ls (run_from first.1 s.more) in (
      world ∙ first.0,
      record {
        asked = h;
        token = s.value;
        before = ls;
        after = after;
        said = are;
        only = token_ran h (names q) who s.one;
        was = refl;
        renewed = ap (λ (x : Path). refreshed s.value x (refreshed_for h.timeout) who.moment ls) (sym same) ∙ renewed;
        is = locks;
      },
    )

chosen : (b c : Bool) (one other : MethodPlan Reply) {old end : StoreState} {ls ms : Locks} {r : Reply} → b ≡ c → Ran Asks (if b then one else other) old ls (Ok r) end ms → Ran Asks (if c then one else other) old ls (Ok r) end ms
chosen b c one other {old} {end} {ls} {ms} {r} is ran = subst (λ (x : Bool). Ran Asks (if x then one else other) old ls (Ok r) end ms) is ran

pub lock_refreshes : LockRefreshes
lock_refreshes headers p body who plan old new None ms r other without (is_lock h are) (ran_look ran) = absurd (let ends = finish ran in let is = ends.0 in cc)
lock_refreshes headers p body who plan old new (Some ls) ms r other without (is_lock h are) (ran_look (ran_ask {mid = mid} {answer = answer} one ran)) =
    let q : PathText = path_found (result_ok answer) p in
    let location : List Header = location_found (result_ok answer) p in
    let (world, renewed) = again_refreshes headers h p q location who ls are (names_closed (is_folder_found (result_ok answer)) p other)
    (chosen (is_absent body) true (lock_again h q location who) (lock_new h q location body who (result_ok answer)) without ran) in
    (world ∙ did_leave (Metadata (names p)) old.world mid.world answer tt (did one), renewed)

-- ---- a new lock

-- a file that is opened: no folder is there, and where nothing is it is made
if_left : {A : Type 0} (b : Bool) (m : Meaning A) (a : A) (w : World) (r : A × World) → b ≡ false → (if b then m else Ok (a, w)) ≡ Ok r → r.1 ≡ w
if_left true m a w r is h = cc
if_left false m a w r is h = left a w r h

open_at_is : (w : World) (p : Path) (how : Opening) (now : ℕ) (o : Option Node) (r : Handle × World) → how.truncate ≡ false → open_at w p how now o ≡ Ok r
    → (is_folder_node o ≡ false) × (r.1 ≡ (if is_none o then with_new w p (File []) [] now else w))
open_at_is w p how now None r whole h =
    let (create, h1) = went_on (not (how.create || how.create_new)) NotFound _ r h in
    let (dir, h2) = went_on (not (is_folder w (parent_of p))) NotFound _ r h1 in
    let (room, h3) = went_on (w.next == last_number) GeneralFailure _ r h2 in
    (refl, left (opened w.next how) (with_new w p (File []) [] now) r h3)
open_at_is w p how now (Some n) r whole h =
    let (file, h1) = went_on (is_folder_kind n.kind) Forbidden _ r h in
    let (fresh, h2) = went_on how.create_new Exists _ r h1 in
    (file, if_left how.truncate _ (opened n.made how) w r whole h2)

open_is : (w : World) (p : Path) (how : Opening) (now : ℕ) (r : Handle × World) → how.truncate ≡ false → meaning (Open p how now) w ≡ Ok r → (is_folder w p ≡ false) × (r.1 ≡ with_empty p now w)
unfolding meaning
open_is w p how now r whole h = open_at_is w p how now (node_at w p) r whole h

opened_is : {p : Path} {how : Opening} {now : ℕ} {old new : StoreState} {file : Handle} → how.truncate ≡ false → Asks (Open p how now) old (Ok file) new → (is_folder old.world p ≡ false) × (new.world ≡ with_empty p now old.world)
opened_is {p} {how} {now} {old} whole one =
    let (r, h, is, after) = answered one in
    let (file, made) = open_is old.world p how now r whole h in
    (file, after ∙ made)

metadata_there : (w : World) (p : Path) (r : DavMetaData × World) → metadata w p ≡ Ok r → is_missing w p ≡ false
metadata_there w p r h = let (n, stood, told) = found (node_at w p) _ r h in ap is_none stood

told_there : {p : Path} {old new : StoreState} {m : DavMetaData} → Asks (Metadata p) old (Ok m) new → is_missing old.world p ≡ false
unfolding meaning
told_there {p} {old} one = let (r, h, is, after) = answered one in metadata_there old.world p r h

with_none : (p : Path) (now : ℕ) (w : World) → is_missing w p ≡ false → w ≡ with_empty p now w
with_none p now w there = ap (λ b. if b then with_new w p (File []) [] now else w) (sym there)

-- What a grant left of the world: where nothing was found, a file was opened.
abbrev FileMade : Path → ℕ → Option DavMetaData → World → World → Type 0
FileMade p now (Some m) w v = v ≡ w
FileMade p now None w v = (is_folder w p ≡ false) × (v ≡ with_empty p now w)

record Granted (new : Lock) (p : Path) (now : ℕ) (found : Option DavMetaData) (ls : List Lock) (w v : World) (ms : Locks) : Type 0 where
  free : is_grantable new ls ≡ true
  is : ms ≡ Some (ls ++ new ∷ [])
  made : FileMade p now found w v

files_ran : (how : Opening) (token : List ℕ) (p : Path) (now : ℕ) (found : Option DavMetaData) (reply : Reply) {old end : StoreState} {ls ms : Locks} {r : Reply} → how.truncate ≡ false
    → Ran Asks (files how token p now found reply) old ls (Ok r) end ms → FileMade p now found old.world end.world × (ms ≡ ls)
files_ran how token p now (Some m) reply whole ran = ended ran
files_ran how token p now None reply {old} {end} whole (ran_ask {mid = mid} {answer = Ok file} one ran) =
    let (world, locks) = ended ran in
    let (off, made) = opened_is whole one in
    ((off, world ∙ made), locks)
files_ran how token p now None reply {ls = Some ls} whole (ran_ask {answer = Err e} one (ran_look (ran_keep ran))) = absurd (let ends = finish ran in let is = ends.0 in cc)
files_ran how token p now None reply {ls = None} whole (ran_ask {answer = Err e} one (ran_look ran)) = absurd (let ends = finish ran in let is = ends.0 in cc)

grant_ran : (b : Bool) (how : Opening) (new : Lock) (p : Path) (now : ℕ) (found : Option DavMetaData) (reply : Reply) {old end : StoreState} {ls : List Lock} {ms : Locks} {r : Reply} → how.truncate ≡ false
    → is_grantable new ls ≡ b → Ran Asks (grants_by b ls new (λ u. files how new.token p now found reply)) old (Some ls) (Ok r) end ms → Granted new p now found ls old.world end.world ms
grant_ran true how new p now found reply whole may (ran_keep ran) =
    let (made, locks) = files_ran how new.token p now found reply whole ran in
    record { free = may; is = locks; made = made }
grant_ran false how new p now found reply whole may ran = absurd (let ends = finish ran in let is = ends.0 in cc)

granting_ran : (h : LockHeaders) (p : PathText) (location : List Header) (content : Body) (who : Caller) (found : Option DavMetaData) (new : Lock) (ls : List Lock) {old end : StoreState} {ms : Locks} {r : Reply}
    → Ran Asks (granting h p location content who found new) old (Some ls) (Ok r) end ms → Granted new (names p) who.moment found ls old.world end.world ms
granting_ran h p location content who found new ls (ran_look ran) =
    grant_ran (is_grantable new ls) (empty_opening h.conditions) new (names p) who.moment found (granted_reply (is_some found) location new) refl refl ran

-- the path of what was found is that of the folder that is there, or of what isn't one
new_grants : (headers : Headers) (h : LockHeaders) (p q : PathText) (location : List Header) (content : Body) (who : Caller) (found : Option DavMetaData) (ls : List Lock) (w : World) {old end : StoreState} {ms : Locks} {r : Reply}
    → AreLockHeaders headers p h → old.world ≡ w → (FileMade (names q) who.moment found w end.world → (q ≡ closed (is_folder w (names p)) p) × (end.world ≡ with_empty (names p) who.moment w))
    → Ran Asks (lock_new h q location content who found) old (Some ls) (Ok r) end ms → (end.world ≡ with_empty (names p) who.moment w) × GrantsLock headers p content who w (Some ls) ms
new_grants headers h p q location content who found ls w {old} {end} {ms} are was told ran =
    let s = parts (asked_lock h q content who found) (granting h q location content who found) ran in
    let asked = asked_ran h q content who found s.one in
    let first = asked_leaves h q content who found s.one in
    let granted = granting_ran h q location content who found s.value ls (run_from first.1 s.more) in
    let (path, world) = told (subst (λ (x : World). FileMade (names q) who.moment found x end.world) (first.0 ∙ was) granted.made) in
    let same : s.value ≡ lock_of h (closed (is_folder w (names p)) p) who asked.deep asked.info asked.token = asked.is ∙ ap (λ (x : PathText). lock_of h x who asked.deep asked.info asked.token) path in (
      world,
      record {
        asked = h;
        deep = asked.deep;
        info = asked.info;
        token = asked.token;
        before = ls;
        said = are;
        depth = asked.depth;
        body = asked.body;
        own = asked.own;
        was = refl;
        free = ap (λ (l : Lock). is_grantable l ls) (sym same) ∙ granted.free;
        is = granted.is ∙ ap (λ (l : Lock). Some (ls ++ l ∷ [])) same;
      },
    )

-- what was found says whether a folder is there
told_path : (p : PathText) (now : ℕ) (answer : Result DavMetaData FsError) (v : World) {old mid : StoreState} → Asks (Metadata (names p)) old answer mid → FileMade (names (path_found (result_ok answer) p)) now (result_ok answer) old.world v
    → (path_found (result_ok answer) p ≡ closed (is_folder old.world (names p)) p) × (v ≡ with_empty (names p) now old.world)
told_path p now (Ok m) v {old} one made = (ap (λ (d : Bool). closed d p) (told_dir one).0, made ∙ with_none (names p) now old.world (told_there one))
told_path p now (Err e) v one (off, made) = (ap (λ (d : Bool). closed d p) (sym off), made)

pub lock_grants : LockGrants
lock_grants headers p body who plan old new None ms r has (is_lock h are) (ran_look ran) = absurd (let ends = finish ran in let is = ends.0 in cc)
lock_grants headers p body who plan old new (Some ls) ms r has (is_lock h are) (ran_look (ran_ask {mid = mid} {answer = answer} one ran)) =
    let q : PathText = path_found (result_ok answer) p in
    let location : List Header = location_found (result_ok answer) p in
    new_grants headers h p q location body who (result_ok answer) ls old.world are (did_leave (Metadata (names p)) old.world mid.world answer tt (did one)) (told_path p who.moment answer new.world one)
    (chosen (is_absent body) false (lock_again h q location who) (lock_new h q location body who (result_ok answer)) has ran)
