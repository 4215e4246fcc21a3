-- Where memory runs out, a LOCK that asks for a new lock was granted none.
use Rattle.std.proofs.Common.{◌≡◌, ◌≢◌, ◌⊎◌, Bool, true, false, if◌then◌else◌, [], ◌∷◌, Ok, Err, inl, inr, refl, sym, ap, subst, ◌∙◌}
use Rattle.dav_core.specs.declared.errors.DavError.{DavError}
use Rattle.dav_core.specs.declared.errors.DavError.TheVariants as dav
use Rattle.dav_core.specs.declared.method.DavMethod.{DavMethod}
use Rattle.dav_core.specs.declared.method.DavMethod.TheVariants.{Put, Patch, Lock as LockMethod}
use Rattle.dav_core.specs.Element.{ElementTree}
use Rattle.dav_core.specs.World.{World}
use Rattle.dav_engine.specs.declared.request.Body.{Body}
use Rattle.dav_engine.specs.declared.request.Body.TheVariants as body
use Rattle.dav_engine.specs.Follows.{followed, gave_up, Serves, served, not_begun}
use Rattle.dav_engine.specs.Lock.{is_absent}
use Rattle.dav_engine.specs.Plan.{Locks, ServerState}
use Rattle.dav_server.specs.Head.{Request, IsHead}
use Rattle.dav_server.specs.Leaving.{SameContent, AsksForLock, GrantsNothing, IsWriteRequest}
use Rattle.dav_server.specs.Machine.{Exchange, Settings, Means, TakesTree, body_for, taken_by}
use Rattle.dav_server.specs.Method.{GivesServed}
use Rattle.dav_server.specs.Server.{HandlerView}
use Rattle.dav_server.specs.WriteLaws.{IsLockRequest}
use Rattle.dav_server.proofs.ErrorLemmas.{errors_leave}
use Rattle.dav_server.proofs.MeansWorld.{asks_one}
use Rattle.dav_server.proofs.NotModified.{one_value}

-- ---- the body

-- a body that a method with a tree is handed is none, or is there
handed_tree : (b : Body) (c : Bool) (tree : ElementTree) → (if c then Err (dav.Status 400) else Ok (body.Tree tree)) ≡ Ok b → is_absent b ≡ false
handed_tree b true tree is = absurd (cc)
handed_tree b false tree is = subst (λ (it : Body). is_absent it ≡ false) (one_value is) refl

handed : (given b : Body) → body_for TakesTree given ≡ Ok b → (b ≡ body.None) ⊎ (is_absent b ≡ false)
handed body.None b is = inl (sym (one_value is))
handed (body.Bytes []) b is = inl (sym (one_value is))
handed (body.Bytes (c ∷ bytes)) b is = inr (subst (λ (it : Body). is_absent it ≡ false) (one_value is) refl)
handed (body.Tree tree) b is = inr (handed_tree b _ tree is)
handed body.Malformed b is = inr (subst (λ (it : Body). is_absent it ≡ false) (one_value is) refl)

-- a LOCK that asks for a new lock is handed a body
pub lock_body : (given : Body) {b : Body} {m : DavMethod} → Ok b ≡ body_for (taken_by m) given → m ≡ LockMethod → (body_for (taken_by LockMethod) given ≢ Ok body.None) → is_absent b ≡ false
lock_body given {b} {m} is lock has =
    let same : body_for TakesTree given ≡ Ok b = ap (λ (k : DavMethod). body_for (taken_by k) given) (sym lock) ∙ sym is in
    elim (handed given b same) [
      | inl none ↦ absurd (has (same ∙ ap Ok none))
      | inr there ↦ there
    ]

-- ---- the method

-- the method of a LOCK is LOCK
pub lock_method : (x : Exchange) {r : Request} {m : DavMethod} → AsksForLock x → IsHead x.head r → GivesServed r.method (Ok m) → m ≡ LockMethod
lock_method x (lock, has) head gives = asks_one x LockMethod lock head gives

-- ---- the handler

-- what was left from the state of a handler was left from that of an equal one
pub same_held : {F L : Type 0} {one other : HandlerView F L} {w : World} {ms : Locks} → one ≡ other
    → (w ≡ one.server.state.store.world) × (ms ≡ one.server.state.locks) → (w ≡ other.server.state.store.world) × (ms ≡ other.server.state.locks)
same_held same (world, locks) = (world ∙ ap (λ h. h.server.state.store.world) same, locks ∙ ap (λ h. h.server.state.locks) same)

-- memory ran out, or it didn't
is_memory : (e : DavError) → (e ≡ dav.Memory) ⊎ (e ≢ dav.Memory)
is_memory dav.XmlParseError = inr (λ same. cc)
is_memory dav.InvalidPath = inr (λ same. cc)
is_memory dav.ForbiddenPath = inr (λ same. cc)
is_memory dav.IllegalPath = inr (λ same. cc)
is_memory dav.UnknownDavMethod = inr (λ same. cc)
is_memory dav.ChanError = inr (λ same. cc)
is_memory (dav.Status status) = inr (λ same. cc)
is_memory (dav.StatusClose status) = inr (λ same. cc)
is_memory (dav.FsError refusal) = inr (λ same. cc)
is_memory dav.Memory = inl refl

no_write : (x : Exchange) → IsLockRequest x → IsWriteRequest x → ⊥
no_write x lock (inl (r, head, gives)) = let same : Put ≡ LockMethod = asks_one x LockMethod lock head gives in absurd (cc)
no_write x lock (inr (r, head, gives)) = let same : Patch ≡ LockMethod = asks_one x LockMethod lock head gives in absurd (cc)

module _ (s : Settings) (x : Exchange) (old new : ServerState) (e : DavError) where
  other_error : e ≢ dav.Memory → Serves (Means s x) old (Err e) new → GrantsNothing x old new
  other_error other (served plan means (followed ran)) (lock, has) unused =
      let (world, list) = errors_leave s x plan old.store new.store old.locks new.locks e (λ writes. absurd (no_write x lock writes)) means ran in
      (world, list (λ is. inl unused))
  other_error other (served plan means (gave_up is front)) asks unused = absurd (other (cc))
  other_error other (not_begun is same kept) asks unused = absurd (other (cc))

  -- whatever error ended it, memory ran out or not
  pub grants_nothing : Serves (Means s x) old (Err e) new → (e ≡ dav.Memory → AsksForLock x → SameContent old new) → GrantsNothing x old new
  grants_nothing done memory asks unused = elim (is_memory e) [
    | inl is ↦ memory is asks
    | inr other ↦ other_error other done asks unused
  ]
