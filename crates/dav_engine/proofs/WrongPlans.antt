-- Plans that the two laws of locked folders refuse, and an href that leads nowhere.
use Rattle.std.proofs.Common.{◌≡◌, ◌≢◌, inl, inr, ℕ, ◌<◌, ◌++◌, All, Bool, true, false, true≢false, if◌then◌else◌, List, [], ◌∷◌, get_or, codes, not, Option, Some, None, Result, Ok, Err, refl, sym, ap, ◌∙◌, arith}
use Rattle.std.proofs.lemmas.List.Elements.{All-nil, All-cons}
use Rattle.std.specs.Option.{unwrap_or}
use Rattle.dav_core.specs.declared.errors.FsError.{FsError}
use Rattle.dav_core.specs.declared.errors.DavError.{DavError}
use Rattle.dav_core.specs.declared.errors.DavError.TheVariants as dav
use Rattle.dav_core.specs.declared.fs.DavMetaData.{DavMetaData}
use Rattle.dav_core.specs.Asking.{Metadata, CreateDir, PatchProps, Open}
use Rattle.dav_core.specs.Element.{element, no_trees}
use Rattle.dav_core.specs.Handle.{Handle, Opening}
use Rattle.dav_core.specs.Locks.{Lock, Requester, requester_of, covers, is_free_for, is_grantable}
use Rattle.dav_core.specs.Path.{Path, PathText, names, IsName, IsCut, at_start, at_slash, at_end}
use Rattle.dav_core.specs.Target.{Reads}
use Rattle.dav_core.specs.UrlText.{url_text}
use Rattle.dav_core.proofs.Theorems.{Reads-one, names_again}
use Rattle.dav_core.specs.Property.{Property, Patch}
use Rattle.dav_engine.specs.declared.methods.put.headers.Writing.{Writing}
use Rattle.dav_engine.specs.declared.reply.ReplyBody.TheVariants as body
use Rattle.dav_engine.specs.Alongside.{Alongside, BothOpen, side_ok, side_asks, side_look, SameAnswers}
use Rattle.dav_engine.specs.IsolatedPlans.{IsIsolatedPlan}
use Rattle.dav_engine.specs.AnswerParts.{AnswerParts}
use Rattle.dav_engine.specs.Conditions.{is_star}
use Rattle.dav_engine.specs.Guard.{folder_of, listed_here, Guards, guards_here, guards_later, no_others, another, IsElsewhere, StillGuards}
use Rattle.dav_engine.specs.Lock.{grant}
use Rattle.dav_engine.specs.Method.{MethodPlan, ◌>>=◌, require, require_free, is_open, ask_or, change_locks, gives, fails}
use Rattle.dav_engine.specs.Mkcol.{create_error}
use Rattle.dav_engine.specs.Plan.{Done, Ask, Keep}
use Rattle.dav_engine.specs.PropfindLaws.{IsTarget}
use Rattle.dav_engine.specs.Proppatch.{Change, patch_properties}
use Rattle.dav_engine.specs.Put.{PutHeaders, put_opening, open_error, store}
use Rattle.dav_engine.specs.Reply.{Header, Reply}
use Rattle.dav_engine.specs.Sparing.{Sparing, Anything, SparesLock, SparesGuard, spares_reads, spares_call, spares_opens, spares_look, spares_keep, spares_last}

-- ---- the plans of strangers

-- a plan that begins with an opening that may create a file, where it is covered, spares nothing
opens_first : {h : Lock} {how : Opening} {p : Path} {now : ℕ} {go : Result Handle FsError → MethodPlan Reply} → how.create ≡ true → covers h p ≡ true → ¬ SparesLock h (Ask (Open p how now) go)
opens_first creates within (spares_reads only more) = true≢false (sym creates ∙ only.1)
opens_first creates within (spares_call out more) = out
opens_first creates within (spares_opens out more failed) = true≢false (sym within ∙ out)

-- a PUT that opens without asking for the list of locks
pub put_without_a_look : (h : Lock) (how : Opening) (place : Option ℕ) (p : Path) (bytes : List ℕ) (now : ℕ) (found : Bool)
    → how.create ≡ true → covers h p ≡ true → ¬ SparesLock h (store how place p bytes now found)
put_without_a_look h how place p bytes now found creates within = opens_first creates within

-- a PATCH that opens before it asks
abbrev pub patch_by_a_late_look : PutHeaders → Writing → Requester → Path → ℕ → Reply → MethodPlan Reply
patch_by_a_late_look headers w who p now reply = do
  file ← ask_or (open_error (put_opening headers w)) (Open p (put_opening headers w) now)
  _ ← require_free false who p (dav.StatusClose 423)
  gives reply

pub late_look_spares_nothing : (h : Lock) (headers : PutHeaders) (w : Writing) (who : Requester) (p : Path) (now : ℕ) (reply : Reply)
    → is_star headers.conditions.if_match ≡ false → covers h p ≡ true → ¬ SparesLock h (patch_by_a_late_look headers w who p now reply)
late_look_spares_nothing h headers w who p now reply other within = opens_first (ap not other) within

-- a MKCOL that asks for the parent alone
abbrev pub mkcol_by_parent : Requester → Path → Path → ℕ → Reply → MethodPlan Reply
mkcol_by_parent who parent p now reply = do
  _ ← require_free false who parent (dav.Status 423)
  _ ← ask_or create_error (CreateDir p now)
  gives reply

makes_covered : {h : Lock} {p : Path} {now : ℕ} {go : Result (Unit {0}) FsError → MethodPlan Reply} → covers h p ≡ true → ¬ SparesLock h (Ask (CreateDir p now) go)
makes_covered within (spares_reads only more) = only
makes_covered within (spares_call out more) = true≢false (sym within ∙ out)

passed : (h : Lock) (b : Bool) (p : Path) (now : ℕ) (reply : Reply) → b ≡ true → covers h p ≡ true
    → ¬ SparesLock h (require b (dav.Status 423) >>= (λ _. ask_or create_error (CreateDir p now) >>= (λ _. gives reply)))
passed h true p now reply is within spares = makes_covered within spares
passed h false p now reply is within spares = true≢false (sym is)

by_parent : (h : Lock) (who : Requester) (parent p : Path) (now : ℕ) (reply : Reply) → is_free_for false who parent (h ∷ []) ≡ true → covers h p ≡ true
    → ¬ SparesLock h (mkcol_by_parent who parent p now reply)
by_parent h who parent p now reply free within (spares_look next) = passed h (is_open false who parent (Some (h ∷ []))) p now reply free within (next (h ∷ []) (listed_here refl))

-- a PROPPATCH that sets one property without asking for the list of locks
abbrev pub one_change : Change
one_change = record { is_set = true; property = element (codes "a") None None [] no_trees }

patches_first : {h : Lock} {p : Path} {changes : List Patch} {go : Result (List (ℕ × Property)) FsError → MethodPlan Reply} → covers h p ≡ true → ¬ SparesLock h (Ask (PatchProps p changes) go)
patches_first within (spares_reads only more) = only
patches_first within (spares_call out more) = true≢false (sym within ∙ out)

pub proppatch_without_a_look : (h : Lock) (p : PathText) (location : List Header) → covers h (names p) ≡ true → ¬ SparesLock h (patch_properties p location (one_change ∷ []))
proppatch_without_a_look h p location within (spares_reads only more) = patches_first within (more (Ok true))
proppatch_without_a_look h p location within (spares_call out more) = out

-- a lock on the path /a/b alone, and a client without tokens
abbrev pub on_b : Lock
on_b = record {
  token = codes "urn:t:1";
  path = record { prefix = []; bytes = codes "/a/b" };
  principal = None;
  owner = None;
  timeout_at = None;
  timeout = None;
  shared = false;
  deep = false;
}

pub mkcol_by_parent_spares_nothing : (now : ℕ) (reply : Reply) → ¬ SparesLock on_b (mkcol_by_parent (requester_of [] false None) (codes "a" ∷ []) (codes "a" ∷ codes "b" ∷ []) now reply)
mkcol_by_parent_spares_nothing now reply = by_parent on_b (requester_of [] false None) (codes "a" ∷ []) (codes "a" ∷ codes "b" ∷ []) now reply refl refl

-- ---- the plans of holders

-- a lock that guards the folder /a, and a lock of Depth 0 on the folder above it
abbrev pub on_a : Lock
on_a = record on_b { path = record { prefix = []; bytes = codes "/a" }; deep = true }

abbrev pub above : Lock
above = record on_b { token = codes "urn:t:2"; path = record { prefix = []; bytes = codes "/" } }

above_elsewhere : IsElsewhere on_a above
above_elsewhere = record { token = λ same. let e : ◌≡◌ {A = ℕ} 50 49 = ap (λ (t : List ℕ). get_or t 6 0) same in omega (arith, e); apart = λ rest. refl }

-- a PUT of the holder that is refused where the parent of the folder is locked
abbrev pub put_by_parent : MethodPlan Reply
put_by_parent = do
  _ ← require_free false (requester_of (on_a.token ∷ []) false None) [] (dav.StatusClose 423)
  gives (record { status = 201; headers = []; body = body.Nothing })

not_both : {h : Lock} {R : Option BothOpen → Reply → Reply → Type 0} {a : Reply} {e : DavError} → ¬ Alongside h true R None (Done (Ok a)) (Done (Err e))
not_both s = elim s [ ]

pub lock_above_is_no_reason : ¬ IsIsolatedPlan on_a put_by_parent
lock_above_is_no_reason (side_look next) = not_both (next (on_a ∷ []) (above ∷ on_a ∷ []) (guards_here refl no_others) (guards_later above_elsewhere (guards_here refl no_others)))

-- a reply that shows the change number of what is there
abbrev pub number_reply : DavMetaData → Reply
number_reply m = record { status = 200; headers = []; body = body.Bytes (unwrap_or m.number 0 ∷ []) }

abbrev pub shows_number : Path → MethodPlan Reply
shows_number p = do
  found ← ask_or dav.FsError (Metadata p)
  gives (number_reply found)

-- a file that was last changed under this number
abbrev pub changed : ℕ → DavMetaData
changed n = record { len = 0; dir = false; created = 0; modified = 0; number = Some n }

told_apart : ¬ Alongside on_a true (λ file. SameAnswers) None (gives (number_reply (changed 1))) (gives (number_reply (changed 2)))
told_apart (side_ok same) = let e : ◌≡◌ {A = ℕ} 1 2 = ap (λ (a : AnswerParts). get_or (unwrap_or a.bytes []) 0 0) same in omega (arith, e)

numbers_apart : (p q : Path) → ¬ Alongside on_a true (λ file. SameAnswers) None (shows_number p) (shows_number q)
numbers_apart p q (side_asks inside next) = told_apart (next (Ok (changed 1)) (Ok (changed 2)) (record { len = refl; dir = refl; numbered = refl }))

pub numbers_are_not_told : (p : Path) → ¬ IsIsolatedPlan on_a (shows_number p)
numbers_are_not_told p side = numbers_apart p p side

-- ---- new locks

module _ (h new : Lock) (rest : Path) (over : covers new (folder_of h ++ rest) ≡ true) where
  -- beside a lock that covers a path in the folder nothing guards it
  not_guarded : ¬ Guards h (h ∷ new ∷ [])
  not_guarded (guards_here is (another off no_others)) = true≢false (sym over ∙ off.apart rest)
  not_guarded (guards_later off more) = off.token refl

  abbrev Whole : MethodPlan Reply → Type 0
  Whole plan = Sparing (covers h) (Guards h) (StillGuards h) true Anything None plan

  sets_unguarded : (reply : Reply) → ¬ Whole (Keep (h ∷ new ∷ []) (gives reply))
  sets_unguarded reply (spares_keep g more) = not_guarded g
  sets_unguarded reply (spares_last is e) = not_guarded (e (listed_here refl))

  granted_unguarded : (reply : Reply) (b : Bool) → b ≡ true → ¬ Whole ((if b then Keep (h ∷ new ∷ []) (gives tt) else fails (dav.Status 423)) >>= (λ (u : Unit {0}). gives reply))
  granted_unguarded reply true may spares = sets_unguarded reply spares
  granted_unguarded reply false may spares = true≢false (sym may)

-- a LOCK that is granted whatever the list is
abbrev pub lock_unasked : Lock → Reply → MethodPlan Reply
lock_unasked new reply = do
  _ ← change_locks (λ ls. ls ++ new ∷ [])
  gives reply

-- a lock of infinite depth above the folder
abbrev pub over_all : Lock
over_all = record above { deep = true }

pub lock_unasked_leaves_no_guard : (reply : Reply) → ¬ SparesGuard on_a (lock_unasked over_all reply)
lock_unasked_leaves_no_guard reply (spares_look next) = sets_unguarded on_a over_all [] refl reply (next (on_a ∷ []) (guards_here refl no_others))

-- a lock below one of Depth 0, beside which it may be granted
abbrev pub below_b : Lock
below_b = record on_b { token = codes "urn:t:2"; path = record { prefix = []; bytes = codes "/a/b/c" } }

-- so a lock of Depth 0 doesn't go on guarding its folder
pub lock_of_depth_0_is_no_guard : (reply : Reply) → ¬ SparesGuard on_b (grant below_b >>= (λ u. gives reply))
lock_of_depth_0_is_no_guard reply (spares_look next) =
    granted_unguarded on_b below_b (codes "c" ∷ []) refl reply (is_grantable below_b (on_b ∷ [])) refl (next (on_b ∷ []) (guards_here refl no_others))

-- ---- hrefs

abbrev named_f : Path
named_f = codes "f" ∷ []

is_name_f : IsName (codes "f")
is_name_f = record {
  clean = All-cons (λ b. (b ≢ 0) × (b ≢ 47)) 102 [] (λ e. absurd (omega (arith, e)), λ e. absurd (omega (arith, e))) (All-nil (λ b. (b ≢ 0) × (b ≢ 47)));
  not_blank = λ blank. elim blank [ inl e ↦ cc | inr e ↦ absurd (let same : ◌≡◌ {A = ℕ} 102 46 = ap (λ t. get_or t 0 0) e in omega (arith, same)) ];
  not_parent = λ e. absurd (let same : ◌≡◌ {A = ℕ} 102 46 = ap (λ t. get_or t 0 0) e in omega (arith, same));
}

f_reads : Reads (codes "/f") (codes "/f")
unfolding url_text
f_reads = names_again named_f false (All-cons IsName (codes "f") [] is_name_f (All-nil IsName))
    (All-cons (All (λ b. b < 256)) (codes "f") [] (All-cons (λ b. b < 256) 102 [] (omega arith) (All-nil (λ b. b < 256))) (All-nil (All (λ b. b < 256))))

no_cut : (bytes : List ℕ) (p : PathText) → bytes ≡ codes "/f" → ¬ IsCut (codes "/d") bytes p
no_cut bytes p is (at_start empty same) = cc
no_cut bytes p is (at_slash {rest} whole same) = absurd (let second : ◌≡◌ {A = ℕ} 102 100 = ap (λ t. get_or t 1 0) (sym is ∙ whole) in omega (arith, second))
no_cut bytes p is (at_end some whole same) = absurd (let second : ◌≡◌ {A = ℕ} 102 100 = ap (λ t. get_or t 1 0) (sym is ∙ whole) in omega (arith, second))

-- an href without the prefix leads to no path of the server
pub unprefixed_leads_nowhere : (p : PathText) → ¬ IsTarget (codes "/d") (codes "/f") p
unprefixed_leads_nowhere p (other, (bytes, reads, cut)) = no_cut bytes p (Reads-one (codes "/f") bytes (codes "/f") reads f_reads) cut
