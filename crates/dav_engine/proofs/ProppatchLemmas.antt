-- How code follows a PROPPATCH.
use Rattle.std.proofs.Common.{◌≡◌, ◌<◌, ◌==◌, ℕ, Bool, true, false, List, [], ◌∷◌, map, length, string_bytes, String, Option, Some, None, Result, Ok, Err, refl, sym, subst, ap, ◌∙◌, arith}
use Rattle.std.proofs.lemmas.Bool.Decides.{nat_tests}
use Rattle.std.specs.Global.{Vec, Global}
use Rattle.std.specs.Option.{unwrap_or}
use Rattle.std.specs.Result.{result_ok, result_unwrap_or}
use Rattle.dav_core.specs.declared.errors.FsError.{FsError}
use Rattle.dav_core.specs.declared.errors.DavError.{DavError}
use Rattle.dav_core.specs.declared.errors.DavError.TheVariants as dav
use Rattle.dav_core.specs.declared.fs.DavMetaData.{DavMetaData}
use Rattle.dav_core.specs.declared.method.DavMethod.TheVariants.{PropPatch}
use Rattle.dav_core.specs.Asking.{StoreState, Asks, HaveProps, PatchProps}
use Rattle.dav_core.specs.Locks.{requester_of}
use Rattle.dav_core.specs.Path.{PathText, names}
use Rattle.dav_core.specs.Property.{Property, Patch}
use Rattle.dav_engine.specs.declared.request.Body.{Body}
use Rattle.dav_engine.specs.Caller.{Caller, requester}
use Rattle.dav_engine.specs.ConditionView.{texts_of, tokens_or_status}
use Rattle.dav_engine.specs.Conditions.{Conditions, if_match_get_tokens}
use Rattle.dav_engine.specs.Folder.{closed, location_found}
use Rattle.dav_engine.specs.Follows.{as_is, Follows, viewed, or_memory}
use Rattle.dav_engine.specs.Method.{MethodPlan, ◌>>=◌, require_free, is_open, refused_as, gives, required}
use Rattle.dav_engine.specs.Plan.{Locks}
use Rattle.dav_engine.specs.Proppatch.{Change, Told, changes_in, answered_at_once, to_store, has_refused, all_failed, all_done, as_patch, store_changes, change_all, change_properties, patch_properties, patch_body, proppatch_reply, proppatch_found, proppatch_at}
use Rattle.dav_engine.specs.Reply.{Reply, Header}
use Rattle.dav_engine.proofs.Following.{follows_done, follows_ask, follows_then, follows_err, follows_up_to}
use Rattle.dav_engine.proofs.GuardLemmas.{follows_ok, follows_fails, guard_passed, guard_failed, guard_short, open_to, free_goes, locked_out}

-- ---- the store

none_long : (cs : List Change) → (length cs == 0) ≡ true → length cs ≡ 0
none_long cs none = grind (arith, nat_tests)

some_long : (cs : List Change) → (length cs == 0) ≡ false → 0 < length cs
some_long cs some = grind (arith, nat_tests)

-- there is nothing to store
pub stored_none : {X : Type 0} {view : X → List (ℕ × Property)} (p : PathText) (cs : List Change) {s : StoreState} {ls : Locks} {r : Result X DavError}
    → (length cs == 0) ≡ true → viewed view r ≡ Ok [] → Follows view (store_changes p cs) s ls r s ls
stored_none p [] none same = follows_done same
stored_none p (c ∷ cs) none same = absurd (let long = none_long (c ∷ cs) none in omega arith)

stored_by : {X : Type 0} {view : X → List (ℕ × Property)} (p : PathText) (cs : List Change) (answer : Result (List (ℕ × Property)) FsError) {old new : StoreState} {ls : Locks} {r : Result X DavError}
    → 0 < length cs → Asks (PatchProps (names p) (map as_patch cs)) old answer new → viewed view r ≡ refused_as dav.FsError answer → Follows view (store_changes p cs) old ls r new ls
stored_by p [] answer some asks same = absurd (omega arith)
stored_by p (c ∷ cs) answer some asks same = follows_ask asks (follows_done same)

-- the store was asked
pub stored_some : {X : Type 0} {view : X → List (ℕ × Property)} (p : PathText) (cs : List Change) (patches : List Patch) (answer : Result (List (ℕ × Property)) FsError) {old new : StoreState} {ls : Locks} {r : Result X DavError}
    → (length cs == 0) ≡ false → patches ≡ map as_patch cs → Asks (PatchProps (names p) patches) old answer new → viewed view r ≡ refused_as dav.FsError answer → Follows view (store_changes p cs) old ls r new ls
stored_some p cs patches answer {old} {new} some is asks same =
    stored_by p cs answer (some_long cs some) (subst (λ (ps : List Patch). Asks (PatchProps (names p) ps) old answer new) is asks) same

-- ---- all changes, or none

same_had : (answer : Result Bool FsError) → result_unwrap_or answer false ≡ unwrap_or (result_ok answer) false
same_had (Ok has) = refl
same_had (Err e) = refl

-- what follows once it is known whether the store keeps properties
abbrev all_or_none : PathText → List Change → Bool → MethodPlan (List Told)
all_or_none p cs has = change_all p (has_refused (answered_at_once has cs)) (answered_at_once has cs) (to_store has cs)

-- it was asked whether it does
pub had : {X : Type 0} {view : X → List Told} (p : PathText) (cs : List Change) (answer : Result Bool FsError) (has : Bool) {old mid new : StoreState} {ls ms : Locks} {r : Result X DavError}
    → Asks (HaveProps (names p)) old answer mid → has ≡ result_unwrap_or answer false → Follows view (all_or_none p cs has) mid ls r new ms
    → Follows view (change_properties p cs) old ls r new ms
had {view = view} p cs answer has {old} {mid} {new} {ls} {ms} {r} asks is rest =
    follows_ask asks (subst (λ (b : Bool). Follows view (all_or_none p cs b) mid ls r new ms) (is ∙ same_had answer) rest)

-- the changes were judged
pub were_judged : {X : Type 0} {view : X → List Told} (p : PathText) (cs : List Change) (has : Bool) (answers : List (ℕ × Change)) (stored : List Change) {old new : StoreState} {ls ms : Locks} {r : Result X DavError}
    → answers ≡ answered_at_once has cs → stored ≡ to_store has cs → Follows view (change_all p (has_refused answers) answers stored) old ls r new ms
    → Follows view (all_or_none p cs has) old ls r new ms
were_judged {view = view} p cs has answers stored {old} {new} {ls} {ms} {r} is left rest =
    subst (λ (given : List (ℕ × Change)). Follows view (change_all p (has_refused given) given (to_store has cs)) old ls r new ms) is
    (subst (λ (ss : List Change). Follows view (change_all p (has_refused answers) answers ss) old ls r new ms) left rest)

-- whether one is refused, as code finds it
pub refused_is : (lent answers : List (ℕ × Change)) (b v : Bool) → lent ≡ answers → b ≡ has_refused lent → b ≡ v → has_refused answers ≡ v
refused_is lent answers b v one is same = ap has_refused (sym one) ∙ sym is ∙ same

-- one is refused
pub none_made : {X : Type 0} {view : X → List Told} (p : PathText) (answers : List (ℕ × Change)) (stored : List Change) {s : StoreState} {ls : Locks} {r : Result X DavError}
    → has_refused answers ≡ true → viewed view r ≡ Ok (all_failed answers stored) → Follows view (change_all p (has_refused answers) answers stored) s ls r s ls
none_made {view = view} p answers stored {s} {ls} {r} refused same =
    subst (λ (b : Bool). Follows view (change_all p b answers stored) s ls r s ls) (sym refused) (follows_done same)

-- what follows the store
abbrev tells : List (ℕ × Change) → List (ℕ × Property) → MethodPlan (List Told)
tells answers done = gives (all_done answers done)

-- the store refuses, or memory runs out
pub not_made : {X Y : Type 0} {view : X → List Told} {kept : Y → List (ℕ × Property)} (p : PathText) (answers : List (ℕ × Change)) (stored : List Change) (e : DavError) {old new : StoreState} {ls : Locks}
    → has_refused answers ≡ false → Follows kept (store_changes p stored) old ls (Err e) new ls → Follows view (change_all p (has_refused answers) answers stored) old ls (Err e) new ls
not_made {view = view} p answers stored e {old} {new} {ls} passed one =
    subst (λ (b : Bool). Follows view (change_all p b answers stored) old ls (Err e) new ls) (sym passed) (follows_err (tells answers) e one)

-- all are made, and told
pub all_made : {X Y : Type 0} {view : X → List Told} {kept : Y → List (ℕ × Property)} (p : PathText) (answers : List (ℕ × Change)) (stored : List Change) (done : Y) {old new : StoreState} {ls : Locks} {r : Result X DavError}
    → has_refused answers ≡ false → Follows kept (store_changes p stored) old ls (Ok done) new ls → viewed view r ≡ Ok (all_done answers (kept done))
    → Follows view (change_all p (has_refused answers) answers stored) old ls r new ls
all_made {view = view} p answers stored done {old} {new} {ls} {r} passed one same =
    subst (λ (b : Bool). Follows view (change_all p b answers stored) old ls r new ls) (sym passed) (follows_then (tells answers) one (follows_done same))

-- all are made, and memory for what is told lacks
pub made_untold : {X Y : Type 0} {view : X → List Told} {kept : Y → List (ℕ × Property)} (p : PathText) (answers : List (ℕ × Change)) (stored : List Change) (done : Y) {old new : StoreState} {ls : Locks}
    → has_refused answers ≡ false → Follows kept (store_changes p stored) old ls (Ok done) new ls
    → Follows view (change_all p (has_refused answers) answers stored) old ls (Err dav.Memory) new ls
made_untold {view = view} p answers stored done {old} {new} {ls} passed one =
    subst (λ (b : Bool). Follows view (change_all p b answers stored) old ls (Err dav.Memory) new ls) (sym passed) (follows_then (tells answers) one follows_up_to)

-- ---- the body

-- what follows the changes
abbrev replies : PathText → List Header → List Told → MethodPlan Reply
replies p location told = gives (proppatch_reply location p told)

-- a body that tells no changes
pub no_changes : (p : PathText) (location : List Header) (content : Body) {s : StoreState} {ls : Locks}
    → None ≡ changes_in content → Follows as_is (patch_body p location content) s ls (Err dav.XmlParseError) s ls
no_changes p location content is = follows_fails _ dav.XmlParseError (patch_properties p location) (ap (λ (o : Option (List Change)). required o dav.XmlParseError) (sym is)) refl

-- a body that tells changes
pub these_changes : (p : PathText) (location : List Header) (content : Body) (cs : List Change) {old new : StoreState} {ls ms : Locks} {r : Result Reply DavError}
    → Some cs ≡ changes_in content → Follows as_is (patch_properties p location cs) old ls r new ms → Follows as_is (patch_body p location content) old ls r new ms
these_changes p location content cs is rest = follows_ok _ cs (patch_properties p location) (ap (λ (o : Option (List Change)). required o dav.XmlParseError) (sym is)) rest

pub changes_err : {X : Type 0} {view : X → List Told} (p : PathText) (location : List Header) (cs : List Change) (e : DavError) {old new : StoreState} {ls : Locks}
    → Follows view (change_properties p cs) old ls (Err e) new ls → Follows as_is (patch_properties p location cs) old ls (Err e) new ls
changes_err p location cs e one = follows_err (replies p location) e one

pub changes_short : {X : Type 0} {view : X → List Told} (p : PathText) (location : List Header) (cs : List Change) (told : X) {old new : StoreState} {ls : Locks}
    → Follows view (change_properties p cs) old ls (Ok told) new ls → Follows as_is (patch_properties p location cs) old ls (Err dav.Memory) new ls
changes_short p location cs told one = follows_then (replies p location) one follows_up_to

pub changes_told : {X : Type 0} {view : X → List Told} (p : PathText) (location : List Header) (cs : List Change) (told : X) (reply : Reply) {old new : StoreState} {ls : Locks}
    → Follows view (change_properties p cs) old ls (Ok told) new ls → reply ≡ proppatch_reply location p (view told) → Follows as_is (patch_properties p location cs) old ls (Ok reply) new ls
changes_told p location cs told reply one is = follows_then (replies p location) one (follows_done (ap Ok is))

-- ---- conditions and locks

-- what follows the conditions
abbrev after : PathText → List Header → Body → Caller → List (List ℕ) → MethodPlan Reply
after p location content who tokens = do
  _ ← require_free false (requester who tokens) (names p) (dav.Status 423)
  patch_body p location content

-- the path that was closed
pub at_closed : (c : Conditions) (p q : PathText) (content : Body) (who : Caller) (found : DavMetaData) {old new : StoreState} {ls ms : Locks} {r : Result Reply DavError}
    → q ≡ closed found.dir p → Follows as_is (proppatch_found c q (location_found (Some found) p) content who found) old ls r new ms
    → Follows as_is (proppatch_at c p content who found) old ls r new ms
at_closed c p q content who found {old} {new} {ls} {ms} {r} is rest =
    subst (λ (o : PathText). Follows as_is (proppatch_found c o (location_found (Some found) p) content who found) old ls r new ms) is rest

pub patch_short : {E : Type 0} (c : Conditions) (p : PathText) (location : List Header) (content : Body) (who : Caller) (found : DavMetaData) (before : Option DavMetaData) (r : Result (Result (Vec (String Global)) ℕ) E) (e : E) {old new : StoreState} {ls : Locks}
    → before ≡ Some found → r ≡ Err e → Follows tokens_or_status (if_match_get_tokens PropPatch c before) old ls (or_memory r) new ls
    → Follows as_is (proppatch_found c p location content who found) old ls (Err dav.Memory) new ls
patch_short c p location content who found before r e same was one = guard_short dav.Status PropPatch c before (Some found) (after p location content who) r e same was one

pub patch_failed : {E : Type 0} (c : Conditions) (p : PathText) (location : List Header) (content : Body) (who : Caller) (found : DavMetaData) (before : Option DavMetaData) (r : Result (Result (Vec (String Global)) ℕ) E) (verdict : Result (Vec (String Global)) ℕ) (status : ℕ) {old new : StoreState} {ls : Locks}
    → before ≡ Some found → r ≡ Ok verdict → verdict ≡ Err status → Follows tokens_or_status (if_match_get_tokens PropPatch c before) old ls (or_memory r) new ls
    → Follows as_is (proppatch_found c p location content who found) old ls (Err (dav.Status status)) new ls
patch_failed c p location content who found before r verdict status same was is one = guard_failed dav.Status PropPatch c before (Some found) (after p location content who) r verdict status same was is one

pub patch_free : {E : Type 0} (c : Conditions) (p : PathText) (location : List Header) (content : Body) (who : Caller) (found : DavMetaData) (before : Option DavMetaData) (r : Result (Result (Vec (String Global)) ℕ) E) (verdict : Result (Vec (String Global)) ℕ) (tokens : Vec (String Global))
    (lent : List (String Global)) (b : Bool) {old mid new : StoreState} {ls : Locks} {end : Result Reply DavError}
    → before ≡ Some found → r ≡ Ok verdict → verdict ≡ Ok tokens → Follows tokens_or_status (if_match_get_tokens PropPatch c before) old ls (or_memory r) mid ls
    → lent ≡ tokens.items → b ≡ is_open false (requester_of (map string_bytes lent) false who.principal) (names p) ls → b ≡ true
    → Follows as_is (patch_body p location content) mid ls end new ls
    → Follows as_is (proppatch_found c p location content who found) old ls end new ls
patch_free c p location content who found before r verdict tokens lent b {ls = ls} same was is one tells looked freed rest =
    guard_passed dav.Status PropPatch c before (Some found) (after p location content who) r verdict tokens same was is one
    (free_goes false (requester who (texts_of tokens)) (names p) (dav.Status 423) (λ _. patch_body p location content) b (open_to tokens lent who.principal false (names p) ls b tells looked) freed rest)

pub patch_locked : {E : Type 0} (c : Conditions) (p : PathText) (location : List Header) (content : Body) (who : Caller) (found : DavMetaData) (before : Option DavMetaData) (r : Result (Result (Vec (String Global)) ℕ) E) (verdict : Result (Vec (String Global)) ℕ) (tokens : Vec (String Global))
    (lent : List (String Global)) (b : Bool) {old new : StoreState} {ls : Locks}
    → before ≡ Some found → r ≡ Ok verdict → verdict ≡ Ok tokens → Follows tokens_or_status (if_match_get_tokens PropPatch c before) old ls (or_memory r) new ls
    → lent ≡ tokens.items → b ≡ is_open false (requester_of (map string_bytes lent) false who.principal) (names p) ls → b ≡ false
    → Follows as_is (proppatch_found c p location content who found) old ls (Err (dav.Status 423)) new ls
patch_locked c p location content who found before r verdict tokens lent b {ls = ls} same was is one tells looked shut =
    guard_passed dav.Status PropPatch c before (Some found) (after p location content who) r verdict tokens same was is one
    (locked_out false (requester who (texts_of tokens)) (names p) (dav.Status 423) (λ _. patch_body p location content) b (open_to tokens lent who.principal false (names p) ls b tells looked) shut refl)
