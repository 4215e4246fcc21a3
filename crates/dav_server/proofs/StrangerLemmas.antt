-- Requests that don't name a lock as its principal spare what it covers, and pass no exclusive lock.
use Rattle.std.proofs.Common.{◌≡◌, ◌≢◌, ◌++◌, ◌≤◌, ℕ, Bool, true, false, List, [], ◌∷◌, codes, bytes_eq, Option, Some, None, refl, sym, ap, subst, ◌∙◌}
use Rattle.std.specs.List.{list_any, flat_map}
use Rattle.std.proofs.lemmas.Bool.{and_parts}
use Rattle.std.proofs.lemmas.Slice.Eq.{bytes_eq-Decides}
use Rattle.std.proofs.lemmas.Map.Views.{Contains-from_any}
use Rattle.std.proofs.lemmas.List.Elements.{All-head}
use Rattle.http_header.specs.HeaderMap.{get_all}
use Rattle.dav_core.specs.declared.method.DavMethod.{DavMethod}
use Rattle.dav_core.specs.declared.method.DavMethod.TheVariants.{Get, Head, Put, Patch, Options, Copy, Move}
use Rattle.dav_core.specs.Locks.{Lock, covers, is_held, is_same_principal}
use Rattle.dav_core.specs.Path.{Path, PathText, names, star}
use Rattle.dav_core.specs.World.{World, IsWorld, last_moment}
use Rattle.dav_headers.specs.If.{ConditionList, tokens_in, tokens_of}
use Rattle.dav_engine.specs.declared.request.Body.{Body}
use Rattle.dav_engine.specs.Caller.{requester}
use Rattle.dav_engine.specs.Conditions.{Conditions, Addressed, AreConditions, AreAddressed, SaysLists, submitted}
use Rattle.dav_engine.specs.Headers.{Decodes}
use Rattle.dav_core.specs.Asking.{StoreState}
use Rattle.dav_engine.specs.Guard.{IsGuard, Stands}
use Rattle.dav_engine.specs.Method.{MethodPlan}
use Rattle.dav_engine.specs.Options.{options}
use Rattle.dav_engine.specs.Plan.{Locks}
use Rattle.dav_engine.specs.Reply.{Reply}
use Rattle.dav_engine.specs.Sparing.{SparesLock, SparesGuard, spares_err, Spared}
use Rattle.dav_engine.specs.SparingPlans.{IsStranger, SparesBoth}
use Rattle.dav_engine.proofs.Theorems.{sparing_leaves_covered, sparing_leaves_covered_cut, options_only_reads, reading_spares, put_spares, mkcol_spares, copymove_spares, delete_spares, lock_spares, unlock_spares, propfind_only_reads, proppatch_spares}
use Rattle.dav_server.specs.EachRequest.{RunStep}
use Rattle.dav_server.specs.Get.{get, is_get}
use Rattle.dav_server.specs.Head.{Request, IsHead}
use Rattle.dav_server.specs.Headers.{headers_of}
use Rattle.dav_server.specs.Machine.{Settings, Exchange, caller, PlanOf, gets, heads, puts, patches, makes, deletes, copies, moves, offers, finds_properties, sets_properties, locks, releases, MeansOf, not_allowed, no_path, no_body, method, Means, no_head, no_method, known, StepCut, untouched, cut, steps}
use Rattle.dav_server.specs.Naming.{NamesLock, by_if}
use Rattle.dav_server.specs.Passing.{NoLockIsPassed, NoLockIsPassedCut}
use Rattle.dav_server.specs.Promises.{passed, Keeps, step_of}
use Rattle.dav_server.specs.Run.{Turn, begun}
use Rattle.dav_server.specs.Server.{Server}
use Rattle.dav_server.specs.TagLaws.{MomentsAreDates}
use Rattle.dav_server.proofs.GetWorld.{get_is_reading}
use Rattle.dav_server.proofs.MeansWorld.{means_proper, begun_world, run_keeps, all_front, all_back}
use Rattle.dav_server.proofs.TargetLemmas.{target_is_path}

-- the tokens that conditions submit are those of the header
tokens_alike : (prefix : List ℕ) (own : Path) (ls : List ConditionList) (lists : List Addressed) → AreAddressed prefix own ls lists → submitted (Some lists) ≡ tokens_of ls
tokens_alike prefix own [] lists is = ap (λ (l : List Addressed). submitted (Some l)) is
tokens_alike prefix own (l ∷ ls) lists (q, more, speaks, is, rest) =
    ap (λ (l : List Addressed). submitted (Some l)) is ∙ ap (λ (ts : List (List ℕ)). flat_map (λ c. tokens_in c.item) l.conditions ++ ts) (tokens_alike prefix own ls more rest)

same_principal : (a b : Option (List ℕ)) → is_same_principal a b ≡ true → b ≡ a
same_principal None None h = refl
same_principal (Some x) (Some y) h = ap (λ (z : List ℕ). Some z) (sym ((bytes_eq-Decides x y).0 h))
same_principal None (Some y) h = cc
same_principal (Some x) None h = cc

module _ (h : Lock) (x : Exchange) (r : Request) (head : IsHead x.head r) where
  held_by_lists : (prefix : List ℕ) (own : Path) (o : Option (List Addressed)) → Decodes (SaysLists prefix own) (get_all (headers_of r.fields) (codes "if")) o
      → is_held (requester (caller x) (submitted o)) h ≡ true → NamesLock h x
  held_by_lists prefix own None says held = cc
  held_by_lists prefix own (Some lists) (ls, is_if, are) held =
      let (named, principal) = and_parts _ _ held in
      record {
        token = by_if r head (ls, is_if, Contains-from_any (λ a b. (bytes_eq-Decides a b).0) h.token (tokens_of ls) (ap (list_any (bytes_eq h.token)) (sym (tokens_alike prefix own ls lists are)) ∙ named));
        principal = same_principal h.principal x.principal principal;
      }

  unheld_by : (c : Conditions) (prefix : List ℕ) (own : Path) → AreConditions (headers_of r.fields) prefix own c → ¬ NamesLock h x → (b : Bool) → is_held (requester (caller x) (submitted c.lists)) h ≡ b → b ≡ false
  unheld_by c prefix own are other false held = refl
  unheld_by c prefix own are other true held = absurd (other (held_by_lists prefix own c.lists are.lists held))

  -- one that doesn't name the lock's token as its principal doesn't hold it
  pub is_stranger : (p : PathText) → ¬ NamesLock h x → IsStranger (headers_of r.fields) p (caller x) h
  is_stranger p other c are = unheld_by c p.prefix (names p) are other (is_held (requester (caller x) (submitted c.lists)) h) refl

-- ---- plans of strangers

-- the plan spares what the lock covers, and the folder of a guard with another token
abbrev Spares : Lock → Exchange → MethodPlan Reply → Type 0
Spares h x plan = SparesLock h plan × (IsGuard h → x.token ≢ Some h.token → SparesGuard h plan)

both : (h : Lock) (x : Exchange) (plan : MethodPlan Reply) → SparesBoth h plan → Spares h x plan
both h x plan spares = (spares.0, λ guard own. spares.1)

module _ (h : Lock) (exclusive : h.shared ≡ false) (x : Exchange) (other : ¬ NamesLock h x) where
  plan_spares : (r : Request) → IsHead x.head r → {allowed : ℕ} {p : PathText} {body : Body} {m : DavMethod} {plan : MethodPlan Reply} → (m ≢ Options → p.bytes ≢ star) → PlanOf allowed (headers_of r.fields) p body (caller x) m plan → Spares h x plan
  plan_spares r head {p = p} below (gets (is_get c are)) = both h x (get Get c (names p) (caller x).moment) (reading_spares h (get Get c (names p) (caller x).moment) (get_is_reading Get c (names p) (caller x).moment))
  plan_spares r head {p = p} below (heads (is_get c are)) = both h x (get Head c (names p) (caller x).moment) (reading_spares h (get Head c (names p) (caller x).moment) (get_is_reading Head c (names p) (caller x).moment))
  plan_spares r head {p} {body} {plan = plan} below (puts is) = both h x plan (put_spares h Put (headers_of r.fields) p body (caller x) plan exclusive (is_stranger h x r head p other) is)
  plan_spares r head {p} {body} {plan = plan} below (patches is) = both h x plan (put_spares h Patch (headers_of r.fields) p body (caller x) plan exclusive (is_stranger h x r head p other) is)
  plan_spares r head {p = p} {plan = plan} below (makes is) = both h x plan (mkcol_spares h (headers_of r.fields) p (caller x) plan exclusive (is_stranger h x r head p other) is)
  plan_spares r head {p = p} {plan = plan} below (deletes is) = both h x plan (delete_spares h (headers_of r.fields) p (caller x) plan exclusive (below (λ e. cc)) (is_stranger h x r head p other) is)
  plan_spares r head {p = p} {plan = plan} below (copies is) = both h x plan (copymove_spares h Copy (headers_of r.fields) p (caller x) plan exclusive (below (λ e. cc)) (is_stranger h x r head p other) is)
  plan_spares r head {p = p} {plan = plan} below (moves is) = both h x plan (copymove_spares h Move (headers_of r.fields) p (caller x) plan exclusive (below (λ e. cc)) (is_stranger h x r head p other) is)
  plan_spares r head {allowed} {p} below offers = both h x (options allowed p) (reading_spares h (options allowed p) (options_only_reads allowed p))
  plan_spares r head {p = p} {body} {plan = plan} below (finds_properties is) = both h x plan (reading_spares h plan (propfind_only_reads (headers_of r.fields) p body (caller x) plan is))
  plan_spares r head {p = p} {body} {plan = plan} below (sets_properties is) = both h x plan (proppatch_spares h (headers_of r.fields) p body (caller x) plan exclusive (is_stranger h x r head p other) is)
  plan_spares r head {p = p} {body} {plan = plan} below (locks is) = lock_spares h (headers_of r.fields) p body (caller x) plan exclusive is
  plan_spares r head {p = p} {plan = plan} below (releases is) = both h x plan (unlock_spares h (headers_of r.fields) p (caller x) plan is)

  of_spares : (r : Request) → IsHead x.head r → {s : Settings} {m : DavMethod} {plan : MethodPlan Reply} → MeansOf s x r m plan → Spares h x plan
  of_spares r head (not_allowed out) = (spares_err, λ guard own. spares_err)
  of_spares r head (no_path e has none) = (spares_err, λ guard own. spares_err)
  of_spares r head (no_body p e has named bad) = (spares_err, λ guard own. spares_err)
  of_spares r head (method p body has named good plan) = plan_spares r head (target_is_path named) plan

  pub means_spares : {s : Settings} {plan : MethodPlan Reply} → Means s x plan → Spares h x plan
  means_spares (no_head out) = (spares_err, λ guard own. spares_err)
  means_spares (no_method r e head gives) = (spares_err, λ guard own. spares_err)
  means_spares (known r m head gives means) = of_spares r head means

-- ---- passing

pub no_lock_is_passed : NoLockIsPassed
no_lock_is_passed s x old new ls ms reply h exclusive stands other small world (steps plan outcome means ran) =
    sparing_leaves_covered h plan old new ls ms outcome (means_spares h exclusive x other means).0 (means_proper small means) ran stands world

cut_spares : (s : Settings) (x : Exchange) (old : StoreState) (ls : Locks) (h : Lock) {new : StoreState} {ms : Locks} → h.shared ≡ false → Stands h ls → ¬ NamesLock h x → x.moment ≤ last_moment → IsWorld old.world
    → StepCut s x old ls new ms → Spared (covers h) old.world new.world
cut_spares s x old ls h exclusive stands other small world untouched = record { same = λ q within. refl; above = λ p q up within folder. folder }
cut_spares s x old ls h exclusive stands other small world (cut plan {new} {ms} means some) =
    sparing_leaves_covered_cut h plan old new ls ms (means_spares h exclusive x other means).0 (means_proper small means) some stands world

pub no_lock_is_passed_cut : NoLockIsPassedCut
no_lock_is_passed_cut s x old new ls ms h exclusive stands other small world stops = cut_spares s x old ls h exclusive stands other small world stops

-- of a run, each request
pub passes_no_lock : (old : Server) (ts : List Turn) (replies : List Reply) → MomentsAreDates ts → IsWorld old.state.store.world → (u : RunStep old ts replies) → Keeps passed (step_of u)
passes_no_lock old ts replies small world u h exclusive stands other =
    let P = λ (t : Turn). t.asked.moment ≤ last_moment in
    let all : MomentsAreDates (u.front ++ u.turn ∷ u.back) = subst MomentsAreDates u.turns_are small in
    let kept = run_keeps world (all_front P u.front (u.turn ∷ u.back) all) u.earlier in
    let moment = All-head P u.turn u.back (all_back P u.front (u.turn ∷ u.back) all) in
    let same : (begun u.turn.refusals u.was.store).world ≡ u.was.store.world = begun_world u.turn.refusals u.was.store in
    subst (λ (w : World). Spared (covers h) w u.now.store.world) same
    (no_lock_is_passed old.settings u.turn.asked (begun u.turn.refusals u.was.store) u.now.store u.was.locks u.now.locks u.reply h exclusive stands other moment (subst IsWorld (sym same) kept.world) u.stepped)
