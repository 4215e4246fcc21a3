-- The plans of a holder's requests go along with themselves.
use Rattle.std.proofs.Common.{◌≡◌, ◌≢◌, ℕ, codes, Result, Ok, refl, sym, subst, ◌∙◌, ap, true}
use Rattle.http_header.specs.HeaderMap.{get_all}
use Rattle.dav_core.specs.declared.errors.DavError.{DavError}
use Rattle.dav_core.specs.declared.method.DavMethod.{DavMethod}
use Rattle.dav_core.specs.declared.method.DavMethod.TheVariants.{Get, Head, Put, Patch, Options, Copy, Move, Unlock}
use Rattle.dav_core.specs.Locks.{Lock}
use Rattle.dav_core.specs.Path.{Path, PathText, names, star}
use Rattle.dav_engine.specs.declared.request.Body.{Body}
use Rattle.dav_engine.specs.declared.request.Body.TheVariants as body
use Rattle.dav_engine.specs.Alongside.{side_err}
use Rattle.dav_engine.specs.IsolatedPlans.{SubmitsAlone, IsIsolatedPlan}
use Rattle.dav_engine.specs.Conditions.{Conditions}
use Rattle.dav_engine.specs.CopyMove.{DestinationNames}
use Rattle.dav_engine.specs.Guard.{IsGuard, IsInReach, IsInside}
use Rattle.dav_engine.specs.Headers.{Headers}
use Rattle.dav_engine.specs.LockToken.{SaysLockToken}
use Rattle.dav_engine.specs.Method.{MethodPlan}
use Rattle.dav_engine.specs.Reply.{Reply}
use Rattle.dav_engine.proofs.Theorems.{holders, in_reach, only_lists, put_goes_along, mkcol_goes_along, copymove_goes_along, one_place, delete_goes_along, options_goes_along, lock_goes_along, unlock_goes_along, propfind_goes_along, proppatch_goes_along}
use Rattle.dav_server.specs.Get.{get, is_get}
use Rattle.dav_server.specs.Head.{Request, IsHead}
use Rattle.dav_server.specs.Headers.{headers_of}
use Rattle.dav_server.specs.Holder.{HasDestinationInside, StaysInFolder, IsHolderRequest, unlocks, acts}
use Rattle.dav_server.specs.Isolation.{GetIsIsolated}
use Rattle.dav_server.specs.Machine.{Settings, Exchange, caller, PlanOf, gets, heads, puts, patches, makes, deletes, copies, moves, offers, finds_properties, sets_properties, locks, releases, MeansOf, not_allowed, no_path, no_body, method, Means, no_head, no_method, known, body_for, taken_by}
use Rattle.dav_server.specs.Method.{GivesServed}
use Rattle.dav_server.specs.Target.{TargetNames}
use Rattle.dav_server.proofs.AlongsideGet.{side_get}
use Rattle.dav_server.proofs.HeadLemmas.{one_head}
use Rattle.dav_server.proofs.MeansWorld.{one_method}
use Rattle.dav_server.proofs.TargetLemmas.{one_outcome, target_is_path}
use Rattle.dav_engine.specs.Lock.{is_absent}

-- what is known of a holder's request with this head and path
record Holds (h : Lock) (x : Exchange) (r : Request) (m : DavMethod) (p : PathText) : Type 0 where
  within : IsInReach h (names p)
  alone : SubmitsAlone (headers_of r.fields) p h
  may : StaysInFolder h x (headers_of r.fields) p m

one_path : (a b : PathText) → ◌≡◌ {A = Result PathText DavError} (Ok a) (Ok b) → a ≡ b
one_path a b same = cc

holds : (s : Settings) (h : Lock) (x : Exchange) (r : Request) (m : DavMethod) (p : PathText) → IsHolderRequest s h x → IsHead x.head r → GivesServed r.method (Ok m) → TargetNames s.prefix m r.target (Ok p) → ¬ (Unlock ≡ m) → Holds h x r m p
holds s h x r m p (unlocks r' p' principal for reach says) head gives named other =
    let heads : r' ≡ r = one_head x.head r' r for.head head in
    absurd (other (one_method r.method Unlock m (subst (λ (q : Request). GivesServed q.method (Ok Unlock)) heads for.method) gives))
holds s h x r m p (acts r' m' p' principal for reach may alone range) head gives named other =
    let heads : r' ≡ r = one_head x.head r' r for.head head in
    let methods : m' ≡ m = one_method r.method m' m (subst (λ (q : Request). GivesServed q.method (Ok m')) heads for.method) gives in
    let target : TargetNames s.prefix m r.target (Ok p') = subst (λ (n : DavMethod). TargetNames s.prefix n r.target (Ok p')) methods (subst (λ (q : Request). TargetNames s.prefix m' q.target (Ok p')) heads for.target) in
    let paths : p' ≡ p = one_path p' p (one_outcome s.prefix m r.target (Ok p') (Ok p) target named) in
    let held : StaysInFolder h x (headers_of r'.fields) p' m = subst (λ (n : DavMethod). StaysInFolder h x (headers_of r'.fields) p' n) methods may in
    subst (Holds h x r m) paths (subst (λ (q : Request). Holds h x q m p') heads (record { within = reach; alone = alone; may = held }))

-- what is known of a holder's UNLOCK with this head and path
record HoldsUnlock (h : Lock) (r : Request) (p : PathText) : Type 0 where
  within : IsInReach h (names p)
  says : SaysLockToken (headers_of r.fields) h.token

may_unlock : (h : Lock) (x : Exchange) (headers : Headers) (p : PathText) (m : DavMethod) → m ≡ Unlock → ¬ StaysInFolder h x headers p m
may_unlock h x headers p m is may = subst (λ (n : DavMethod). StaysInFolder h x headers p n) is may

holds_unlock : (s : Settings) (h : Lock) (x : Exchange) (r : Request) (m : DavMethod) (p : PathText) → IsHolderRequest s h x → IsHead x.head r → GivesServed r.method (Ok m) → TargetNames s.prefix m r.target (Ok p) → Unlock ≡ m → HoldsUnlock h r p
holds_unlock s h x r m p (unlocks r' p' principal for reach says) head gives named is =
    let heads : r' ≡ r = one_head x.head r' r for.head head in
    let target : TargetNames s.prefix m r.target (Ok p') = subst (λ (n : DavMethod). TargetNames s.prefix n r.target (Ok p')) is (subst (λ (q : Request). TargetNames s.prefix Unlock q.target (Ok p')) heads for.target) in
    let paths : p' ≡ p = one_path p' p (one_outcome s.prefix m r.target (Ok p') (Ok p) target named) in
    subst (HoldsUnlock h r) paths (subst (λ (q : Request). HoldsUnlock h q p') heads (record { within = reach; says = says }))
holds_unlock s h x r m p (acts r' m' p' principal for reach may alone range) head gives named is =
    let heads : r' ≡ r = one_head x.head r' r for.head head in
    let methods : m' ≡ m = one_method r.method m' m (subst (λ (q : Request). GivesServed q.method (Ok m')) heads for.method) gives in
    absurd (may_unlock h x (headers_of r'.fields) p' m' (methods ∙ sym is) may)

-- a destination is inside, however it is read: it has one reading
near_for : (h : Lock) (headers : Headers) (p : PathText) → HasDestinationInside h headers p
    → (d : PathText) → DestinationNames p.prefix (get_all headers (codes "destination")) (Ok d) → IsInside h (names d)
near_for h headers p (d, named, reach) e also =
    subst (λ (q : PathText). IsInside h (names q)) (one_path d e (one_place p.prefix (get_all headers (codes "destination")) named also)) reach

absent_by : (content : Body) → ◌≡◌ {A = Result Body DavError} (Ok body.None) (Ok content) → is_absent content ≡ true
absent_by content is = let same : body.None ≡ content = cc in ap is_absent (sym same)

pub get_goes_along : GetIsIsolated
get_goes_along h m headers p now plan guard within alone (is_get c are) =
    let (rest, at) = in_reach h (names p) within in
    subst (λ (d : Conditions). IsIsolatedPlan h (get m d (names p) now)) (sym (only_lists alone c are))
    (subst (λ (q : Path). IsIsolatedPlan h (get m (holders alone.lists) q now)) (sym at) (side_get h guard rest m now alone.only))

module _ (h : Lock) (guard : IsGuard h) where
  plan_goes_along : (x : Exchange) (r : Request) {allowed : ℕ} {m : DavMethod} {p : PathText} {body : Body} {plan : MethodPlan Reply}
      → (¬ (Unlock ≡ m) → Holds h x r m p) → (Unlock ≡ m → HoldsUnlock h r p) → (m ≢ Options → p.bytes ≢ star) → body_for (taken_by m) x.body ≡ Ok body → PlanOf allowed (headers_of r.fields) p body (caller x) m plan → IsIsolatedPlan h plan
  plan_goes_along x r {p = p} {plan = plan} k u below good (gets is) = let known = k (λ e. cc) in get_goes_along h Get (headers_of r.fields) p (caller x).moment plan guard known.within known.alone is
  plan_goes_along x r {p = p} {plan = plan} k u below good (heads is) = let known = k (λ e. cc) in get_goes_along h Head (headers_of r.fields) p (caller x).moment plan guard known.within known.alone is
  plan_goes_along x r {p = p} {body} {plan} k u below good (puts is) = let known = k (λ e. cc) in put_goes_along h Put (headers_of r.fields) p body (caller x) plan guard known.may known.alone is
  plan_goes_along x r {p = p} {body} {plan} k u below good (patches is) = let known = k (λ e. cc) in put_goes_along h Patch (headers_of r.fields) p body (caller x) plan guard known.may known.alone is
  plan_goes_along x r {p = p} {plan = plan} k u below good (makes is) = let known = k (λ e. cc) in mkcol_goes_along h (headers_of r.fields) p (caller x) plan guard known.may known.alone is
  plan_goes_along x r {p = p} {plan = plan} k u below good (deletes is) = let known = k (λ e. cc) in delete_goes_along h (headers_of r.fields) p (caller x) plan guard (below (λ e. cc)) known.may known.alone is
  plan_goes_along x r {p = p} {plan = plan} k u below good (copies is) =
      let known = k (λ e. cc) in
      copymove_goes_along h Copy (headers_of r.fields) p (caller x) plan guard (below (λ e. cc)) (λ e. cc) known.within (near_for h (headers_of r.fields) p known.may) known.alone is
  plan_goes_along x r {p = p} {plan = plan} k u below good (moves is) =
      let known = k (λ e. cc) in
      copymove_goes_along h Move (headers_of r.fields) p (caller x) plan guard (below (λ e. cc)) (λ e. known.may.0) known.within (near_for h (headers_of r.fields) p known.may.1) known.alone is
  plan_goes_along x r {allowed} {p = p} k u below good offers = let known = k (λ e. cc) in options_goes_along h allowed p known.within
  plan_goes_along x r {p = p} {body} {plan} k u below good (finds_properties is) = let known = k (λ e. cc) in propfind_goes_along h (headers_of r.fields) p body (caller x) plan known.within is
  plan_goes_along x r {p = p} {body} {plan} k u below good (sets_properties is) = let known = k (λ e. cc) in proppatch_goes_along h (headers_of r.fields) p body (caller x) plan guard known.within known.alone is
  plan_goes_along x r {p = p} {body} {plan} k u below good (locks is) = let known = k (λ e. cc) in lock_goes_along h (headers_of r.fields) p body (caller x) plan guard known.within (absent_by body (sym known.may ∙ good)) known.alone is
  plan_goes_along x r {p = p} {plan = plan} k u below good (releases is) = let known = u refl in unlock_goes_along h (headers_of r.fields) p (caller x) plan guard known.within known.says is

  of_goes_along : (s : Settings) (x : Exchange) (r : Request) {m : DavMethod} {plan : MethodPlan Reply} → IsHolderRequest s h x → IsHead x.head r → GivesServed r.method (Ok m) → MeansOf s x r m plan → IsIsolatedPlan h plan
  of_goes_along s x r holder head gives (not_allowed out) = side_err
  of_goes_along s x r holder head gives (no_path e has none) = side_err
  of_goes_along s x r holder head gives (no_body p e has named bad) = side_err
  of_goes_along s x r {m} holder head gives (method p body has named good plan) = plan_goes_along x r (holds s h x r m p holder head gives named) (holds_unlock s h x r m p holder head gives named) (target_is_path named) good plan

  -- a holder's plan is isolated
  pub means_along : (s : Settings) (x : Exchange) {plan : MethodPlan Reply} → IsHolderRequest s h x → Means s x plan → IsIsolatedPlan h plan
  means_along s x holder (no_head out) = side_err
  means_along s x holder (no_method r e head gives) = side_err
  means_along s x holder (known r m head gives means) = of_goes_along s x r holder head gives means
