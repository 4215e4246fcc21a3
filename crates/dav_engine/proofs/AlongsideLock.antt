-- A holder's LOCK goes side by side with itself.
use Rattle.std.proofs.Common.{◌≡◌, ℕ, ◌++◌, bytes_eq, Bool, true, false, true≢false, if◌then◌else◌, List, [], ◌∷◌, Option, Some, None, Result, Ok, Err, refl, sym, ap, subst, ◌∙◌}
use Rattle.std.specs.Option.{option_map}
use Rattle.std.specs.Result.{result_ok}
use Rattle.std.proofs.lemmas.Slice.Eq.{bytes_eq-Decides}
use Rattle.dav_core.specs.declared.errors.FsError.{FsError}
use Rattle.dav_core.specs.declared.errors.DavError.TheVariants as dav
use Rattle.dav_core.specs.declared.fs.DavMetaData.{DavMetaData}
use Rattle.dav_core.specs.Asking.{Metadata}
use Rattle.dav_core.specs.Locks.{Lock, named_lock, refreshed, refreshed_lock}
use Rattle.dav_core.specs.Path.{Path, PathText, names, names_in, star}
use Rattle.dav_engine.specs.declared.request.Body.{Body}
use Rattle.dav_engine.specs.Alongside.{SameResult, SameMetadata, Alongside, side_ok, side_err, side_asks, side_look, side_keep, SameAnswers}
use Rattle.dav_engine.specs.IsolatedPlans.{LockIsIsolated}
use Rattle.dav_engine.specs.AnswerParts.{answers_of}
use Rattle.dav_engine.specs.Caller.{Caller, requester}
use Rattle.dav_engine.specs.Conditions.{Conditions, Addressed, submitted}
use Rattle.dav_engine.specs.Folder.{closed, location_found}
use Rattle.dav_engine.specs.Guard.{folder_of, IsGuard, IsInReach, Guards, SubmitOnly, no_list, a_list}
use Rattle.dav_engine.specs.Lock.{one_token, token_to_refresh, keep_refreshed, lock_again, is_absent, lock_found, lock, is_lock}
use Rattle.dav_engine.specs.LockHeaders.{LockHeaders, refreshed_for}
use Rattle.dav_engine.specs.Method.{MethodPlan, then as followed_by, ◌>>=◌, require_free, gives}
use Rattle.dav_engine.specs.Reply.{Header, Reply}
use Rattle.dav_engine.proofs.IsolatedPlans.{AtBoth, holders, in_reach, only_lists, side_bind, side_lists, side_free}
use Rattle.dav_engine.proofs.ChildLemmas.{names_closed}
use Rattle.dav_engine.proofs.GuardChanges.{guard_refreshed}

-- ---- a path that gets a slash stays in the folder

empty_front : (a b : Path) → a ++ b ≡ [] → a ≡ []
empty_front [] b is = refl
empty_front (x ∷ a) b is = cc

module _ (h : Lock) (p : PathText) (within : IsInReach h (names p)) where
  closed_by : (dir b : Bool) → bytes_eq p.bytes star ≡ b → (rest : Path) × (names (closed dir p) ≡ folder_of h ++ rest)
  closed_by dir true is =
      let (rest, at) = in_reach h (names p) within in
      let none : names p ≡ [] = ap (λ b. if b then [] else names_in p.bytes) is in
      (names (closed dir p), ap (λ (front : Path). front ++ names (closed dir p)) (sym (empty_front (folder_of h) rest (sym at ∙ none))))
  closed_by dir false is =
      let (rest, at) = in_reach h (names p) within in
      (rest, names_closed dir p (λ same. true≢false (sym ((bytes_eq-Decides p.bytes star).1 same) ∙ is)) ∙ at)

  pub closed_in : (dir : Bool) → (rest : Path) × (names (closed dir p) ≡ folder_of h ++ rest)
  closed_in dir = closed_by dir (bytes_eq p.bytes star) refl

module _ (h : Lock) (guard : IsGuard h) where
  abbrev SidePart : {A : Type 0} → (A → A → Type 0) → MethodPlan A → MethodPlan A → Type 0
  SidePart Q plan plan' = Alongside h false (AtBoth None Q) None plan plan'

  abbrev SideWhole : MethodPlan Reply → MethodPlan Reply → Type 0
  SideWhole plan plan' = Alongside h true (λ file. SameAnswers) None plan plan'

  -- ---- the guard is refreshed

  side_kept : (a b : Option Lock) (c d : Option (List Lock)) (l : Lock) (left right : List Lock) (reply : Lock → Reply) → a ≡ Some l → b ≡ Some l → c ≡ Some left → d ≡ Some right → Guards h left → Guards h right
      → SideWhole (keep_refreshed a c >>= (λ m. gives (reply m))) (keep_refreshed b d >>= (λ m. gives (reply m)))
  side_kept (Some x) (Some y) (Some ls) (Some ks) l left right reply one two three four g g' =
      let first : x ≡ l = cc in
      let second : y ≡ l = cc in
      let third : ls ≡ left = cc in
      let fourth : ks ≡ right = cc in
      side_keep (subst (Guards h) (sym third) g) (subst (Guards h) (sym fourth) g') (side_ok (ap (λ (m : Lock). answers_of (reply m)) (first ∙ sym second)))
  side_kept None b c d l left right reply one two three four g g' = cc
  side_kept (Some x) None c d l left right reply one two three four g g' = cc
  side_kept (Some x) (Some y) None d l left right reply one two three four g g' = cc
  side_kept (Some x) (Some y) (Some ls) None l left right reply one two three four g g' = cc

  module _ (token : List ℕ) (q : Path) (rest : Path) (timeout : Option ℕ) (now : ℕ) (own : token ≡ h.token) (at : q ≡ folder_of h ++ rest) where
    found_as : (ls : List Lock) → option_map (refreshed_lock timeout now) (named_lock h.token (folder_of h ++ rest) ls) ≡ Some (refreshed_lock timeout now h)
        → option_map (refreshed_lock timeout now) (named_lock token q ls) ≡ Some (refreshed_lock timeout now h)
    found_as ls is = ap (λ t. option_map (refreshed_lock timeout now) (named_lock t q ls)) own ∙ ap (λ x. option_map (refreshed_lock timeout now) (named_lock h.token x ls)) at ∙ is

    left_as : (ls left : List Lock) → refreshed h.token (folder_of h ++ rest) timeout now ls ≡ Some left → refreshed token q timeout now ls ≡ Some left
    left_as ls left is = ap (λ t. refreshed t q timeout now ls) own ∙ ap (λ x. refreshed h.token x timeout now ls) at ∙ is

  side_renewed : (t u : List ℕ) (q : Path) (rest : Path) (timeout : Option ℕ) (now : ℕ) (reply : Lock → Reply) (ls ks : List Lock) → t ≡ h.token → u ≡ h.token → q ≡ folder_of h ++ rest → Guards h ls → Guards h ks
      → SideWhole (keep_refreshed (option_map (refreshed_lock timeout now) (named_lock t q ls)) (refreshed t q timeout now ls) >>= (λ m. gives (reply m)))
      (keep_refreshed (option_map (refreshed_lock timeout now) (named_lock u q ks)) (refreshed u q timeout now ks) >>= (λ m. gives (reply m)))
  side_renewed t u q rest timeout now reply ls ks own also at g g' =
      let (left, named, is, guards) = guard_refreshed h timeout now rest ls g in
      let (right, named', is', guards') = guard_refreshed h timeout now rest ks g' in
      side_kept (option_map (refreshed_lock timeout now) (named_lock t q ls)) (option_map (refreshed_lock timeout now) (named_lock u q ks)) (refreshed t q timeout now ls) (refreshed u q timeout now ks)
      (refreshed_lock timeout now h) left right reply (found_as t q rest timeout now own at ls named) (found_as u q rest timeout now also at ks named')
      (left_as t q rest timeout now own at ls left is) (left_as u q rest timeout now also at ks right is') guards guards'

  side_first : (b : Bool) (one one' other other' : MethodPlan Reply) → b ≡ true → SideWhole one one' → SideWhole (if b then one else other) (if b then one' else other')
  side_first true one one' other other' is side = side
  side_first false one one' other other' is side = absurd (true≢false (sym is))

  module _ (k : LockHeaders) {lists : List Addressed} (conditions : k.conditions ≡ holders lists) (only : SubmitOnly h lists) (content : Body) (who : Caller) where
    -- what follows the tokens that are submitted
    abbrev with_token : Path → List ℕ → MethodPlan (List ℕ)
    with_token q token = do
      _ ← require_free false (requester who (token ∷ [])) q (dav.Status 412)
      gives token

    abbrev AreOwn : List ℕ → List ℕ → Type 0
    AreOwn t u = (t ≡ h.token) × (u ≡ h.token)

    side_one : {ls : List Addressed} (q rest : Path) → q ≡ folder_of h ++ rest → SubmitOnly h ls
        → SidePart AreOwn (followed_by (one_token (submitted (Some ls))) (with_token q)) (followed_by (one_token (submitted (Some ls))) (with_token q))
    side_one q rest at no_list = side_err
    side_one q rest at (a_list r no_list) =
        side_bind _ _
        (subst (λ (x : Path). SidePart (λ x y. x ≡ y) (require_free false (requester who (h.token ∷ [])) x (dav.Status 412)) (require_free false (requester who (h.token ∷ [])) x (dav.Status 412))) (sym at)
        (side_free h guard false who rest (dav.Status 412) (h.token ∷ []) (h.token ∷ []) refl))
        (λ u v _. side_ok (refl, (refl, refl)))
    side_one q rest at (a_list r (a_list s more)) = side_err

    side_said : (q rest : Path) → q ≡ folder_of h ++ rest → (ts us : List (List ℕ)) → ts ≡ submitted (Some lists) → us ≡ submitted (Some lists)
        → SidePart AreOwn (followed_by (one_token ts) (with_token q)) (followed_by (one_token us) (with_token q))
    side_said q rest at ts us same also =
        subst (λ (x : List (List ℕ)). SidePart AreOwn (followed_by (one_token x) (with_token q)) (followed_by (one_token us) (with_token q))) (sym same)
        (subst (λ (x : List (List ℕ)). SidePart AreOwn (followed_by (one_token (submitted (Some lists))) (with_token q)) (followed_by (one_token x) (with_token q))) (sym also) (side_one q rest at only))

    abbrev headers : Conditions → LockHeaders
    headers c = record k { conditions = c }

    side_token : (q rest : Path) → q ≡ folder_of h ++ rest → SidePart AreOwn (token_to_refresh (headers (holders lists)) q who) (token_to_refresh (headers (holders lists)) q who)
    side_token q rest at =
        side_bind {Q = λ (x y : Bool × List (List ℕ)). (x.1 ≡ submitted (Some lists)) × (y.1 ≡ submitted (Some lists))} _ _
        (side_bind _ _ (side_lists h guard only) (λ a b same. side_ok (refl, (refl, refl)))) (λ x y said. side_said q rest at x.1 y.1 said.0 said.1)

    side_again : (q : PathText) (rest : Path) (location : List Header) → names q ≡ folder_of h ++ rest → SideWhole (lock_again k q location who) (lock_again k q location who)
    side_again q rest location at =
        subst (λ (c : Conditions). SideWhole (lock_again (headers c) q location who) (lock_again (headers c) q location who)) (sym conditions)
        (side_bind _ _ (side_token (names q) rest at) (λ t u own. side_look (λ ls ks g g'.
        side_renewed t u (names q) rest (refreshed_for k.timeout) who.moment _ ls ks own.0 own.1 at g g')))

    -- ---- the whole

    module _ (absent : is_absent content ≡ true) where
      side_found : (p : PathText) → IsInReach h (names p) → (a b : Result DavMetaData FsError) → SameResult SameMetadata a b → SideWhole (lock_found k p content who (result_ok a)) (lock_found k p content who (result_ok b))
      side_found p within (Ok m) (Ok n) same =
          let (rest, at) = closed_in h p within m.dir in
          side_first (is_absent content) _ _ _ _ absent
          (subst (λ (d : Bool). SideWhole (lock_again k (closed m.dir p) (location_found (Some m) p) who) (lock_again k (closed d p) (location_found (Some (record m { dir = d })) p) who)) same.dir
          (side_again (closed m.dir p) rest (location_found (Some m) p) at))
      side_found p within (Err e) (Err f) same =
          let (rest, at) = in_reach h (names p) within in
          side_first (is_absent content) _ _ _ _ absent (side_again p rest [] at)
      side_found p within (Ok m) (Err f) same = absurd same
      side_found p within (Err e) (Ok n) same = absurd same

      side_lock : (p : PathText) → IsInReach h (names p) → SideWhole (lock k p content who) (lock k p content who)
      side_lock p within = side_look (λ ls ks g g'. side_asks {c = Metadata (names p)} (in_reach h (names p) within) (λ a b told. side_found p within a b told))

pub lock_goes_along : LockIsIsolated
lock_goes_along h headers p body who plan guard within absent alone (is_lock k are) = side_lock h guard k (only_lists alone k.conditions are.conditions) alone.only body who absent p within
