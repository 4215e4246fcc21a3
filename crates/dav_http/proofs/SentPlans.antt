-- Plans whose replies may be sent, on stores and lists of locks of which all may be sent.
use Rattle.std.proofs.Common.{◌≡◌, ℕ, Bool, true, false, if◌then◌else◌, List, map, Some, None, Result, Ok, Err, refl, sym, subst}
use Rattle.std.specs.Bool.{⊤}
use Rattle.std.specs.Prelude.{IfOk}
use Rattle.std.specs.List.{AllByRecursion}
use Rattle.dav_core.specs.declared.errors.FsError.{FsError}
use Rattle.dav_core.specs.declared.errors.DavError.{DavError}
use Rattle.dav_core.specs.declared.fs.DavMetaData.{DavMetaData}
use Rattle.dav_core.specs.Asking.{Call, Metadata, EntryMetadata, PatchProps, GetProps, GetProp, Answer, meaning, StoreState, Asks}
use Rattle.dav_core.specs.CallLaws.{TimesAreDates}
use Rattle.dav_core.specs.Element.{ElementTree}
use Rattle.dav_core.specs.Locks.{Lock}
use Rattle.dav_core.specs.Path.{Path}
use Rattle.dav_core.specs.Property.{Property, PropertyKey, Patch, without_xml, patched_property}
use Rattle.dav_core.specs.World.{World, IsWorld}
use Rattle.dav_core.proofs.KeptLemmas.{times_are_shown}
use Rattle.dav_engine.specs.Method.{MethodPlan, then as followed_by, ◌>>=◌, require}
use Rattle.dav_engine.specs.Plan.{Done, Ask, Look, Keep, Locks, Ran, ran_done, ran_ask, ran_look, ran_keep, kept}
use Rattle.dav_engine.specs.WorldLaws.{IsProperPlan, proper_ask, proper_look, proper_keep}
use Rattle.dav_engine.proofs.CallWorlds.{Did, stays, means, did, asks_keep, asks_tell}
use Rattle.dav_engine.proofs.PutWorld.{IsLook, looks}
use Rattle.dav_engine.proofs.WorldPlans.{Only, only_done, only_ask, only_look}
use Rattle.dav_xml.specs.Sendable.{IsSendable}
use Rattle.dav_http.specs.Sent.{IsSendableIfAny, IsSendableLock, AreSendableLocks, KeepsSendable}
use Rattle.dav_http.proofs.StoredTrees.{SetsFit, call_fits, told_one, told_all, told_patched}

-- a call that sets what may be sent
abbrev pub SetsSendable : Call → Type 0
SetsSendable call = SetsFit IsSendableIfAny call

-- What a store that holds a world answers whose properties may be sent.
abbrev pub Says : (call : Call) → Result (Answer call) FsError → Type 0
Says (Metadata p) (Ok m) = TimesAreDates m
Says (EntryMetadata p) (Ok m) = TimesAreDates m
Says (PatchProps p patches) (Ok answers) = answers ≡ map (λ patch. (200, without_xml (patched_property patch))) patches
Says (GetProps p content) (Ok ps) = AllByRecursion (λ property. IsSendableIfAny property.xml) ps
Says (GetProp p key) (Ok tree) = IsSendable tree
Says _ _ = ⊤

say_met : (p : Path) (w new : World) (answer : Result DavMetaData FsError) → IsWorld w → Did (meaning (Metadata p) w) w answer new → Says (Metadata p) answer
say_met p w new answer world (stays e is same) = subst (Says (Metadata p)) (sym is) tt
say_met p w new answer world (means r h is after) = subst (Says (Metadata p)) (sym is) (times_are_shown (Metadata p) w r world h)

say_entry : (p : Path) (w new : World) (answer : Result DavMetaData FsError) → IsWorld w → Did (meaning (EntryMetadata p) w) w answer new → Says (EntryMetadata p) answer
say_entry p w new answer world (stays e is same) = subst (Says (EntryMetadata p)) (sym is) tt
say_entry p w new answer world (means r h is after) = subst (Says (EntryMetadata p)) (sym is) (times_are_shown (EntryMetadata p) w r world h)

say_patched : (p : Path) (patches : List Patch) (w new : World) (answer : Result (List (ℕ × Property)) FsError) → Did (meaning (PatchProps p patches) w) w answer new → Says (PatchProps p patches) answer
unfolding meaning
say_patched p patches w new answer (stays e is same) = subst (Says (PatchProps p patches)) (sym is) tt
say_patched p patches w new answer (means r h is after) = subst (Says (PatchProps p patches)) (sym is) (told_patched IsSendableIfAny p patches w r h)

say_all : (p : Path) (content : Bool) (w new : World) (answer : Result (List Property) FsError) → KeepsSendable w → Did (meaning (GetProps p content) w) w answer new → Says (GetProps p content) answer
unfolding meaning
say_all p content w new answer keeps (stays e is same) = subst (Says (GetProps p content)) (sym is) tt
say_all p content w new answer keeps (means r h is after) = subst (Says (GetProps p content)) (sym is) (told_all IsSendableIfAny tt p content w keeps r h)

say_one : (p : Path) (key : PropertyKey) (w new : World) (answer : Result ElementTree FsError) → KeepsSendable w → Did (meaning (GetProp p key) w) w answer new → Says (GetProp p key) answer
unfolding meaning
say_one p key w new answer keeps (stays e is same) = subst (Says (GetProp p key)) (sym is) tt
say_one p key w new answer keeps (means r h is after) = subst (Says (GetProp p key)) (sym is) (told_one IsSendableIfAny p key w keeps r h)

did_say : (c : Call) (w new : World) (answer : Result (Answer c) FsError) → IsWorld w → KeepsSendable w → Did (meaning c w) w answer new → Says c answer
did_say (Metadata p) w new answer world keeps one = say_met p w new answer world one
did_say (EntryMetadata p) w new answer world keeps one = say_entry p w new answer world one
did_say (PatchProps p patches) w new answer world keeps one = say_patched p patches w new answer one
did_say (GetProps p content) w new answer world keeps one = say_all p content w new answer keeps one
did_say (GetProp p key) w new answer world keeps one = say_one p key w new answer keeps one
did_say _ w new answer world keeps one = tt

did_keep : (c : Call) (w new : World) (answer : Result (Answer c) FsError) → SetsSendable c → KeepsSendable w → Did (meaning c w) w answer new → KeepsSendable new
did_keep c w new answer sets keeps (stays e is same) = subst KeepsSendable (sym same) keeps
did_keep c w new answer sets keeps (means r h is after) = subst KeepsSendable (sym after) (call_fits IsSendableIfAny c w sets keeps r h)

-- ---- plans

-- Where the store answers so, and the list of locks may be sent, whatever value the plan gives is such; and what the plan sets may be sent.
pub data Sends {A : Type 0} (P : A → Type 0) : MethodPlan A → Type 0 where
  sends_ok : {a : A} → P a → Sends P (Done (Ok a))
  sends_err : {e : DavError} → Sends P (Done (Err e))
  sends_ask : {c : Call} {go : Result (Answer c) FsError → MethodPlan A} → SetsSendable c → ((answer : Result (Answer c) FsError) → Says c answer → Sends P (go answer)) → Sends P (Ask c go)
  sends_look : {go : Locks → MethodPlan A} → ((ls : Locks) → AreSendableLocks ls → Sends P (go ls)) → Sends P (Look go)
  sends_keep : {locks : List Lock} {rest : MethodPlan A} → AllByRecursion IsSendableLock locks → Sends P rest → Sends P (Keep locks rest)

-- what a run of it leaves
pub record Sent {A : Type 0} (P : A → Type 0) (outcome : Result A DavError) (new : StoreState) (ms : Locks) : Type 0 where
  pub gives : IfOk outcome P
  pub world : KeepsSendable new.world
  pub locks : AreSendableLocks ms

kept_sendable : (ls : Locks) (locks : List Lock) → AllByRecursion IsSendableLock locks → AreSendableLocks (kept ls locks)
kept_sendable None locks all = tt
kept_sendable (Some old) locks all = all

pub sends_ran : {A : Type 0} {P : A → Type 0} {plan : MethodPlan A} {old new : StoreState} {ls ms : Locks} {outcome : Result A DavError}
    → Sends P plan → IsProperPlan plan → IsWorld old.world → KeepsSendable old.world → AreSendableLocks ls → Ran Asks plan old ls outcome new ms → Sent P outcome new ms
sends_ran (sends_ok p) proper world keeps locks ran_done = record { gives = p; world = keeps; locks = locks }
sends_ran sends_err proper world keeps locks ran_done = record { gives = tt; world = keeps; locks = locks }
sends_ran (sends_ask {c = c} sets more) (proper_ask is next) world keeps locks (ran_ask {old = old} {mid = mid} {answer = answer} one rest) =
    sends_ran (more answer (did_say c old.world mid.world answer world keeps (did one))) (next answer (asks_tell world one)) (asks_keep is world one).world
    (did_keep c old.world mid.world answer sets keeps (did one)) locks rest
sends_ran (sends_look more) (proper_look next) world keeps locks (ran_look {ls = ls} rest) = sends_ran (more ls locks) (next ls) world keeps locks rest
sends_ran (sends_keep {locks = list} all more) (proper_keep next) world keeps locks (ran_keep {ls = ls} rest) = sends_ran more next world keeps (kept_sendable ls list all) rest

pub sends_outcome : {A : Type 0} {P : A → Type 0} (r : Result A DavError) → IfOk r P → Sends P (Done r)
sends_outcome (Ok a) is = sends_ok is
sends_outcome (Err e) is = sends_err

pub sends_then : {A B : Type 0} {P : B → Type 0} (r : Result A DavError) (f : A → MethodPlan B) → ((a : A) → r ≡ Ok a → Sends P (f a)) → Sends P (followed_by r f)
sends_then (Ok a) f more = more a refl
sends_then (Err e) f more = sends_err

pub sends_bind : {A B : Type 0} {Q : A → Type 0} {P : B → Type 0} {plan : MethodPlan A} (f : A → MethodPlan B) → Sends Q plan → ((a : A) → Q a → Sends P (f a)) → Sends P (plan >>= f)
sends_bind f (sends_ok {a = a} q) more = more a q
sends_bind f sends_err more = sends_err
sends_bind f (sends_ask {c = c} sets next) more = sends_ask {c = c} sets (λ answer says. sends_bind f (next answer says) more)
sends_bind f (sends_look next) more = sends_look (λ ls all. sends_bind f (next ls all) more)
sends_bind f (sends_keep all next) more = sends_keep all (sends_bind f next more)

-- a part that only looks
pub sends_looked : {A B : Type 0} {P : B → Type 0} {plan : MethodPlan A} (f : A → MethodPlan B) → Only IsLook plan → ((a : A) → Sends P (f a)) → Sends P (plan >>= f)
sends_looked f (only_done {a = Ok a}) more = more a
sends_looked f (only_done {a = Err e}) more = sends_err
sends_looked f (only_ask {c = c} looks next) more = sends_ask {c = c} tt (λ answer says. sends_looked f (next answer) more)
sends_looked f (only_look next) more = sends_look (λ ls all. sends_looked f (next ls) more)

pub sends_either : {A : Type 0} {P : A → Type 0} (b : Bool) (one other : MethodPlan A) → Sends P one → Sends P other → Sends P (if b then one else other)
sends_either true one other is is' = is
sends_either false one other is is' = is'

pub sends_required : {B : Type 0} {P : B → Type 0} (b : Bool) (e : DavError) (f : Unit {0} → MethodPlan B) → Sends P (f tt) → Sends P (require b e >>= f)
sends_required true e f is = is
sends_required false e f is = sends_err
