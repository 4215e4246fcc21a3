-- How code follows an UNLOCK.
use Rattle.std.proofs.Common.{◌≡◌, ℕ, List, Bool, true, false, Option, Some, None, Result, Ok, Err, refl, sym, ap, subst, ◌∙◌}
use Rattle.std.specs.Option.{is_some, option_map}
use Rattle.std.specs.Result.{result_ok}
use Rattle.dav_core.specs.declared.errors.FsError.{FsError}
use Rattle.dav_core.specs.declared.errors.DavError.{DavError}
use Rattle.dav_core.specs.declared.errors.DavError.TheVariants as dav
use Rattle.dav_core.specs.declared.fs.DavMetaData.{DavMetaData}
use Rattle.dav_core.specs.Asking.{StoreState, Asks, Metadata}
use Rattle.dav_core.specs.Locks.{Lock, unlocked}
use Rattle.dav_core.specs.Path.{PathText, names}
use Rattle.dav_engine.specs.Folder.{location_found}
use Rattle.dav_engine.specs.Follows.{as_is, Follows, followed}
use Rattle.dav_engine.specs.Method.{MethodPlan, ◌>>=◌, has_locks, gives}
use Rattle.dav_engine.specs.Plan.{Locks}
use Rattle.dav_engine.specs.Reply.{Reply}
use Rattle.dav_engine.specs.Unlock.{keep_left, unlocked_reply, end_lock, unlock}
use Rattle.dav_engine.proofs.Following.{ran_at, follows_done, follows_ask, follows_up_to}
use Rattle.dav_engine.proofs.GuardLemmas.{follows_look}
use Rattle.dav_engine.proofs.LaterLemmas.{follows_keep}

module _ (p : PathText) (token : List ℕ) (answer : Result DavMetaData FsError) {old mid : StoreState} (asks : Asks (Metadata (names p)) old answer mid) where
  -- memory ran out after the store was asked
  pub end_short : {ls : Locks} → Follows as_is (end_lock p token) old ls (Err dav.Memory) mid ls
  end_short = follows_ask asks follows_up_to

  -- there is no list
  pub end_nowhere : {ls : Locks} → ls ≡ None → Follows as_is (end_lock p token) old ls (Err (dav.Status 405)) mid ls
  end_nowhere none =
      subst (λ ls. Follows as_is (end_lock p token) old ls (Err (dav.Status 405)) mid ls) (sym none) (follows_ask asks (follows_look (follows_done refl)))

  -- what follows where a list is left, or none is
  abbrev left_by : Option (List Lock) → MethodPlan Reply
  left_by left = do
    _ ← keep_left left
    gives (unlocked_reply (location_found (result_ok answer) p))

  -- no lock is meant
  pub end_unknown : {ls ms : List Lock} → unlocked token (names p) ls ≡ None → ms ≡ ls → Follows as_is (end_lock p token) old (Some ls) (Err (dav.Status 409)) mid (Some ms)
  end_unknown {ls} {ms} none same =
      subst (λ ks. Follows as_is (end_lock p token) old (Some ls) (Err (dav.Status 409)) mid (Some ks)) (sym same)
      (follows_ask asks (follows_look (subst (λ left. Follows as_is (left_by left) mid (Some ls) (Err (dav.Status 409)) mid (Some ls)) (sym none) (follows_done refl))))

  -- the lock ends
  pub end_known : (found : Option DavMetaData) (reply : Reply) {ls left : List Lock} → unlocked token (names p) ls ≡ Some left → found ≡ result_ok answer → reply ≡ unlocked_reply (location_found found p)
      → Follows as_is (end_lock p token) old (Some ls) (Ok reply) mid (Some left)
  end_known found reply {ls} {left} some same is =
      let told : reply ≡ unlocked_reply (location_found (result_ok answer) p) = is ∙ ap (λ f. unlocked_reply (location_found f p)) same in
      follows_ask asks (follows_look (subst (λ o. Follows as_is (left_by o) mid (Some ls) (Ok reply) mid (Some left)) (sym some) (follows_keep (followed (ran_at (ap Ok told))))))

-- ---- the whole

-- whether there is a list of locks
pub lists : {L : Type 0} (locks : L → List Lock) (held : Option L) (b : Bool) → is_some held ≡ b → has_locks (option_map locks held) ≡ b
lists locks None b is = is
lists locks (Some l) b is = is

-- there is none
pub unlock_nowhere : (token : Option (List ℕ)) (p : PathText) {s : StoreState} {ls : Locks} → has_locks ls ≡ false → Follows as_is (unlock token p) s ls (Err (dav.Status 405)) s ls
unlock_nowhere token p {ls = None} none = follows_look (follows_done refl)
unlock_nowhere token p {ls = Some ls} none = absurd (cc)

-- there is no token
pub unlock_nothing : (p : PathText) (token : Option (List ℕ)) {s : StoreState} {ls : Locks} → has_locks ls ≡ true → token ≡ None → Follows as_is (unlock token p) s ls (Err (dav.Status 400)) s ls
unlock_nothing p token {s} {ls = Some ls} some none = subst (λ t. Follows as_is (unlock t p) s (Some ls) (Err (dav.Status 400)) s (Some ls)) (sym none) (follows_look (follows_done refl))
unlock_nothing p token {ls = None} some none = absurd (cc)

-- there is one
pub unlock_by : (p : PathText) (said : Option (List ℕ)) (token : List ℕ) {r : Result Reply DavError} {old new : StoreState} {ls ms : Locks}
    → has_locks ls ≡ true → said ≡ Some token → Follows as_is (end_lock p token) old ls r new ms → Follows as_is (unlock said p) old ls r new ms
unlock_by p said token {r} {old} {new} {ls = Some ls} {ms} some is done = subst (λ t. Follows as_is (unlock t p) old (Some ls) r new ms) (sym is) (follows_look done)
unlock_by p said token {ls = None} some is done = absurd (cc)
