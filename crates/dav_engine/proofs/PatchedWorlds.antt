-- What a PROPPATCH leaves.
use Rattle.std.proofs.Common.{◌≡◌, ◌≢◌, ℕ, ◌==◌, ◌||◌, arith, Bool, true, false, true≢false, not, if◌then◌else◌, List, [], ◌∷◌, map, Option, Some, None, Result, Ok, Err, refl, sym, ap, subst, ◌∙◌}
use Rattle.std.proofs.lemmas.Bool.{eqb-true, eqb-false}
use Rattle.std.proofs.lemmas.List.Elements.{All-nil, All-cons, All-head}
use Rattle.std.specs.Option.{unwrap_or}
use Rattle.std.specs.Result.{result_ok}
use Rattle.std.specs.Bool.{⊤}
use Rattle.dav_core.specs.declared.errors.FsError.{FsError}
use Rattle.dav_core.specs.declared.errors.DavError.{DavError}
use Rattle.dav_core.specs.declared.errors.DavError.TheVariants as dav
use Rattle.dav_core.specs.declared.fs.DavMetaData.{DavMetaData}
use Rattle.dav_core.specs.declared.method.DavMethod.TheVariants as method
use Rattle.dav_core.specs.Asking.{Call, Answer, StoreState, Asks, meaning, Metadata, HaveProps, PatchProps}
use Rattle.dav_core.specs.Calls.{repatched}
use Rattle.dav_core.specs.Path.{Path, PathText, names}
use Rattle.dav_core.specs.Property.{Property, Patch, patched_property, without_xml}
use Rattle.dav_core.specs.World.{World, node_at, adjust}
use Rattle.dav_core.proofs.Theorems.{errors_leave_worlds, found}
use Rattle.dav_engine.specs.declared.request.Body.{Body}
use Rattle.dav_engine.specs.Caller.{Caller, requester}
use Rattle.dav_engine.specs.Conditions.{Conditions, guarded}
use Rattle.dav_engine.specs.Folder.{closed, location_found}
use Rattle.dav_engine.specs.Method.{MethodPlan, then as followed_by, ◌>>=◌, require_free, required, gives, refused_as}
use Rattle.dav_engine.specs.Plan.{Done, Ask, Look, Locks, Ran, ran_done, ran_ask, ran_look}
use Rattle.dav_engine.specs.Proppatch.{Change, changes_in, as_patch, Told, element_by_name, property_by_name, answered_at_once, to_store, has_refused, failed_status, all_failed, all_done, change_all, proppatch_reply, patch_properties, proppatch_found, proppatch, is_proppatch}
use Rattle.dav_engine.specs.ProppatchLaws.{RefusedProppatchLeavesAll, AreDone, AreMade, IsPatched, ProppatchMakesAllOrNone}
use Rattle.dav_engine.specs.Reply.{Header, Reply}
use Rattle.dav_engine.specs.WorldLaws.{OnlyReads}
use Rattle.dav_engine.proofs.CallWorlds.{Did, stays, means, did, did_leave}
use Rattle.dav_engine.proofs.PutWorld.{IsLook, look_reads, only_guarded, only_free}
use Rattle.dav_engine.proofs.RemovalReports.{Gives, gives_done, never_errs}
use Rattle.dav_engine.proofs.WorldPlans.{Only, only_done, only_ask, only_look, only_reads, reading_leaves, ran_split, ran_outcome}

-- ---- an error

-- Errors come before any change: after a call that changes something and is answered, there is none.
data ErrsFirst {A : Type 0} : MethodPlan A → Type 0 where
  errs_done : {r : Result A DavError} → ErrsFirst (Done r)
  errs_ask : {c : Call} {go : Result (Answer c) FsError → MethodPlan A} → OnlyReads c → ((answer : Result (Answer c) FsError) → ErrsFirst (go answer)) → ErrsFirst (Ask c go)
  errs_look : {go : Locks → MethodPlan A} → ((ls : Locks) → ErrsFirst (go ls)) → ErrsFirst (Look go)
  errs_last : {c : Call} {go : Result (Answer c) FsError → MethodPlan A} → ((a : Answer c) → Gives (λ x. ⊤) (go (Ok a))) → ((e : FsError) → ErrsFirst (go (Err e))) → ErrsFirst (Ask c go)

errs_leave : {A : Type 0} {plan : MethodPlan A} {old new : StoreState} {ls ms : Locks} {e : DavError} → ErrsFirst plan → Ran Asks plan old ls (Err e) new ms → (new.world ≡ old.world) × (ms ≡ ls)
errs_leave errs_done ran_done = (refl, refl)
errs_leave (errs_ask {c = c} only more) (ran_ask {old = old} {mid = mid} {answer = answer} one rest) =
    let (world, locks) = errs_leave (more answer) rest in
    (world ∙ did_leave c old.world mid.world answer only (did one), locks)
errs_leave (errs_look more) (ran_look {ls = ls} rest) = errs_leave (more ls) rest
errs_leave (errs_last {c = c} more failed) (ran_ask {answer = Ok a} one rest) = absurd (never_errs (more a) rest)
errs_leave (errs_last {c = c} more failed) (ran_ask {old = old} {mid = mid} {answer = Err e} one rest) =
    let (world, locks) = errs_leave (failed e) rest in
    (world ∙ errors_leave_worlds c old e mid one, locks)

errs_then : {A B : Type 0} (r : Result A DavError) (f : A → MethodPlan B) → ((a : A) → ErrsFirst (f a)) → ErrsFirst (followed_by r f)
errs_then (Ok a) f more = more a
errs_then (Err e) f more = errs_done

-- what only looks, and what follows it
errs_after : {A B : Type 0} {plan : MethodPlan A} (f : A → MethodPlan B) → Only IsLook plan → ((a : A) → ErrsFirst (f a)) → ErrsFirst (plan >>= f)
errs_after f (only_done {a = r}) more = errs_then r f more
errs_after f (only_ask {c = c} is next) more = errs_ask {c = c} (look_reads c is) (λ answer. errs_after f (next answer) more)
errs_after f (only_look next) more = errs_look (λ ls. errs_after f (next ls) more)

errs_changed : (p : PathText) (location : List Header) (refused : Bool) (answers : List (ℕ × Change)) (stored : List Change)
    → ErrsFirst (change_all p refused answers stored >>= (λ told. gives (proppatch_reply location p told)))
errs_changed p location true answers stored = errs_done
errs_changed p location false answers [] = errs_done
errs_changed p location false answers (c ∷ cs) = errs_last {c = PatchProps (names p) (map as_patch (c ∷ cs))} (λ done. gives_done tt) (λ e. errs_done)

errs_patch : (p : PathText) (location : List Header) (changes : List Change) → ErrsFirst (patch_properties p location changes)
errs_patch p location changes = errs_ask {c = HaveProps (names p)} tt (λ answer. errs_changed p location _ _ _)

errs_found : (c : Conditions) (p : PathText) (location : List Header) (content : Body) (who : Caller) (found : DavMetaData) → ErrsFirst (proppatch_found c p location content who found)
errs_found c p location content who found =
    errs_after _ (only_guarded dav.Status method.PropPatch c (Some found)) (λ tokens.
    errs_after _ (only_free false (requester who tokens) (names p) (dav.Status 423)) (λ free.
    errs_then (required (changes_in content) dav.XmlParseError) _ (λ changes. errs_patch p location changes)))

errs_proppatch : (c : Conditions) (p : PathText) (content : Body) (who : Caller) → ErrsFirst (proppatch c p content who)
errs_proppatch c p content who = errs_ask {c = Metadata (names p)} tt (λ answer.
    errs_then (refused_as dav.FsError answer) _ (λ found. errs_found c (closed found.dir p) (location_found (Some found) p) content who found))

pub refused_proppatch_leaves_all : RefusedProppatchLeavesAll
refused_proppatch_leaves_all headers p content who plan old new ls ms e (is_proppatch c are) ran = errs_leave (errs_proppatch c p content who) ran

-- ---- all changes or none

refused_first : (status : ℕ) (b : Bool) → (status == 200) ≡ b → (if b then 424 else status) ≢ 200
refused_first status true is same = absurd (omega (arith, same))
refused_first status false is same = eqb-false status 200 is same

-- where one was refused, each is answered otherwise
none_done : (answers : List (ℕ × Change)) (stored : List Change) → has_refused answers ≡ true → ¬ AreDone (all_failed answers stored)
none_done [] stored refused done = true≢false (sym refused)
none_done (a ∷ answers) stored refused done =
    refused_first a.0 (a.0 == 200) refl
    (All-head (λ (t : Told). t.0 ≡ 200) (failed_status a.0, element_by_name a.1.property) (all_failed answers stored) done)

passed_by : (status : ℕ) (b more : Bool) → (status == 200) ≡ b → (not b || more) ≡ false → (status ≡ 200) × (more ≡ false)
passed_by status true more is none = (eqb-true status 200 is, none)
passed_by status false more is none = absurd (true≢false none)

answers_done : (answers : List (ℕ × Change)) (stored : List (ℕ × Property)) → has_refused answers ≡ false → AreDone (map (λ (a : ℕ × Property). (a.0, property_by_name a.1)) stored) → AreDone (all_done answers stored)
answers_done [] stored none done = done
answers_done (a ∷ answers) stored none done =
    let (here, rest) = passed_by a.0 (a.0 == 200) (has_refused answers) refl none in
    All-cons (λ (t : Told). t.0 ≡ 200) (a.0, element_by_name a.1.property) (all_done answers stored) here (answers_done answers stored rest done)

patches_done : (patches : List Patch) → AreDone (map (λ (a : ℕ × Property). (a.0, property_by_name a.1)) (map (λ patch. (200, without_xml (patched_property patch))) patches))
patches_done [] = All-nil (λ (t : Told). t.0 ≡ 200)
patches_done (patch ∷ patches) =
    All-cons (λ (t : Told). t.0 ≡ 200) (200, property_by_name (without_xml (patched_property patch)))
    (map (λ (a : ℕ × Property). (a.0, property_by_name a.1)) (map (λ patch. (200, without_xml (patched_property patch))) patches)) refl (patches_done patches)

-- what the store answers to changes, and what it holds then
patched_by_store : (w v : World) (p : Path) (patches : List Patch) (done : List (ℕ × Property)) → Did (meaning (PatchProps p patches) w) w (Ok done) v
    → (done ≡ map (λ patch. (200, without_xml (patched_property patch))) patches) × (v ≡ record w { nodes = adjust p (repatched patches) w.nodes })
unfolding meaning
patched_by_store w v p patches done (stays e failed is) = cc
patched_by_store w v p patches done (means r h gave is) =
    let (n, there, end) = found (node_at w p) _ r h in
    let result : r ≡ (map (λ patch. (200, without_xml (patched_property patch))) patches, record w { nodes = adjust p (repatched patches) w.nodes }) = cc in
    ((let same : done ≡ r.0 = cc in same ∙ ap (λ x. x.0) result), is ∙ ap (λ x. x.1) result)

module _ (q : PathText) (location : List Header) where
  -- what was told, and what was done
  abbrev Told_of : Bool → List Change → World → World → Reply → Type 0
  Told_of refused stored w v r = (told : List Told) × (r ≡ proppatch_reply location q told) × AreMade refused (names q) stored told w v

  made_by : (refused : Bool) (answers : List (ℕ × Change)) (stored : List Change) {old new : StoreState} {ls ms : Locks} {r : Reply} → has_refused answers ≡ refused
      → Ran Asks (change_all q refused answers stored >>= (λ told. gives (proppatch_reply location q told))) old ls (Ok r) new ms → Told_of refused stored old.world new.world r × (ms ≡ ls)
  made_by true answers stored is ran_done = ((all_failed answers stored, refl, (none_done answers stored is, refl)), refl)
  made_by false answers [] is ran_done = ((all_done answers [], refl, (answers_done answers [] is (All-nil (λ (t : Told). t.0 ≡ 200)), refl)), refl)
  made_by false answers (c ∷ cs) is (ran_ask {answer = Err e} one ran) = absurd (let clash = ran_outcome ran in cc)
  made_by false answers (c ∷ cs) is (ran_ask {old = old} {mid = mid} {answer = Ok done} one ran_done) =
      let (said, left) = patched_by_store old.world mid.world (names q) (map as_patch (c ∷ cs)) done (did one) in
      let told : AreDone (all_done answers done) =
      answers_done answers done is (subst (λ (ds : List (ℕ × Property)). AreDone (map (λ (a : ℕ × Property). (a.0, property_by_name a.1)) ds)) (sym said) (patches_done (map as_patch (c ∷ cs)))) in
      ((all_done answers done, refl, (told, left)), refl)

module _ (p : PathText) (content : Body) (new : StoreState) (ms : Locks) (r : Reply) where
  abbrev Done_from : StoreState → Locks → Type 0
  Done_from old ls = IsPatched p content r old.world new.world × (ms ≡ ls)

  carried_back : (old mid : StoreState) (ls ks : Locks) → mid.world ≡ old.world → ks ≡ ls → Done_from mid ks → Done_from old ls
  carried_back old mid ls ks world locks (made, same) = (subst (λ (w : World). IsPatched p content r w new.world) world made, same ∙ locks)

  patch_made : (dir : Bool) (location : List Header) (changes : List Change) {old : StoreState} {ls : Locks} → changes_in content ≡ Some changes
      → Ran Asks (patch_properties (closed dir p) location changes) old ls (Ok r) new ms → Done_from old ls
  patch_made dir location changes {old} {ls} asked (ran_ask {mid = mid} {answer = answer} one ran) =
      let has : Bool = unwrap_or (result_ok answer) false in
      let ((told, is, made), locks) = made_by (closed dir p) location (has_refused (answered_at_once has changes)) (answered_at_once has changes) (to_store has changes) refl ran in
      carried_back old mid ls ls (did_leave (HaveProps (names (closed dir p))) old.world mid.world answer tt (did one)) refl
      (record { dir = dir; has = has; location = location; changes = changes; told = told; asked = asked; reply = is; made = made }, locks)

  asked_made : (dir : Bool) (location : List Header) (o : Option (List Change)) {old : StoreState} {ls : Locks} → changes_in content ≡ o
      → Ran Asks (followed_by (required o dav.XmlParseError) (λ changes. patch_properties (closed dir p) location changes)) old ls (Ok r) new ms → Done_from old ls
  asked_made dir location None is ran = absurd (let clash = ran_outcome ran in cc)
  asked_made dir location (Some changes) is ran = patch_made dir location changes is ran

  free_made : (dir : Bool) (location : List Header) (o : Result (Unit {0}) DavError) {old : StoreState} {ls : Locks}
      → Ran Asks (followed_by o (λ u. Done (required (changes_in content) dav.XmlParseError) >>= (λ changes. patch_properties (closed dir p) location changes))) old ls (Ok r) new ms → Done_from old ls
  free_made dir location (Ok u) ran = asked_made dir location (changes_in content) refl ran
  free_made dir location (Err e) ran = absurd (let clash = ran_outcome ran in cc)

  tokens_made : (who : Caller) (dir : Bool) (location : List Header) (o : Result (List (List ℕ)) DavError) {old : StoreState} {ls : Locks}
      → Ran Asks (followed_by o (λ tokens. require_free false (requester who tokens) (names (closed dir p)) (dav.Status 423)
      >>= (λ u. Done (required (changes_in content) dav.XmlParseError) >>= (λ changes. patch_properties (closed dir p) location changes)))) old ls (Ok r) new ms → Done_from old ls
  tokens_made who dir location (Err e) ran = absurd (let clash = ran_outcome ran in cc)
  tokens_made who dir location (Ok tokens) {old} {ls} ran =
      let s = ran_split (require_free false (requester who tokens) (names (closed dir p)) (dav.Status 423)) _ ran in
      let (world, locks) = reading_leaves (only_reads look_reads (only_free false (requester who tokens) (names (closed dir p)) (dav.Status 423))) s.first in
      carried_back old s.mid ls s.ks world locks (free_made dir location s.outcome s.rest)

  found_made : (c : Conditions) (who : Caller) (found : Result DavMetaData FsError) {old : StoreState} {ls : Locks}
      → Ran Asks (followed_by (refused_as dav.FsError found) (λ m. proppatch_found c (closed m.dir p) (location_found (Some m) p) content who m)) old ls (Ok r) new ms → Done_from old ls
  found_made c who (Err e) ran = absurd (let clash = ran_outcome ran in cc)
  found_made c who (Ok m) {old} {ls} ran =
      let s = ran_split (guarded dav.Status method.PropPatch c (Some m)) _ ran in
      let (world, locks) = reading_leaves (only_reads look_reads (only_guarded dav.Status method.PropPatch c (Some m))) s.first in
      carried_back old s.mid ls s.ks world locks (tokens_made who m.dir (location_found (Some m) p) s.outcome s.rest)

  all_or_none : (c : Conditions) (who : Caller) {old : StoreState} {ls : Locks} → Ran Asks (proppatch c p content who) old ls (Ok r) new ms → Done_from old ls
  all_or_none c who {old} {ls} (ran_ask {mid = mid} {answer = answer} one ran) =
      carried_back old mid ls ls (did_leave (Metadata (names p)) old.world mid.world answer tt (did one)) refl (found_made c who answer ran)

pub proppatch_makes_all_or_none : ProppatchMakesAllOrNone
proppatch_makes_all_or_none headers p content who plan old new ls ms r (is_proppatch c are) ran = all_or_none p content new ms r c who ran
