-- How code follows a DELETE.
use Rattle.std.proofs.Common.{◌≡◌, ◌⊎◌, inl, inr, ℕ, Bool, true, false, List, [], ◌∷◌, ◌++◌, map, string_bytes, String, Option, Some, None, Result, Ok, Err, refl, sym, ap, subst, ◌∙◌}
use Rattle.std.specs.Prelude.{IfOk, IfErr}
use Rattle.std.specs.Global.{Vec, Global}
use Rattle.std.specs.Option.{option_copied, option_map}
use denote.Ref.{Bor}
use Rattle.dav_core.specs.declared.errors.FsError.{FsError}
use Rattle.dav_core.specs.declared.errors.DavError.{DavError}
use Rattle.dav_core.specs.declared.errors.DavError.TheVariants as dav
use Rattle.dav_core.specs.declared.fs.DavMetaData.{DavMetaData}
use Rattle.dav_core.specs.declared.method.DavMethod.TheVariants.{Delete}
use Rattle.dav_core.specs.Asking.{StoreState, Asks, Metadata}
use Rattle.dav_core.specs.Lists.{is_empty}
use Rattle.dav_core.specs.Locks.{Lock, deleted, requester_of}
use Rattle.dav_core.specs.Path.{PathText, names}
use Rattle.dav_headers.specs.declared.depth.Depth.{Depth}
use Rattle.dav_engine.specs.Caller.{Caller, requester}
use Rattle.dav_engine.specs.Plan.{Locks, Done, Ran}
use Rattle.dav_engine.specs.Method.{MethodPlan, ◌>>=◌, require_member, ask_for}
use Rattle.dav_engine.specs.Follows.{as_is, Follows, FollowsOnLocks, followed, gave_up, or_memory}
use Rattle.dav_engine.specs.Folder.{closed}
use Rattle.dav_engine.specs.Conditions.{Conditions, if_match_get_tokens}
use Rattle.dav_engine.specs.ConditionView.{locks_in, tokens_or_status}
use Rattle.dav_engine.specs.Delete.{delete_allowed, delete_found, deleting, whole_depth, drop_if_gone, delete_reply}
use Rattle.dav_engine.specs.Multistatus.{PathStatus, multi_reply, status_reply}
use Rattle.dav_engine.specs.Removal.{Fault, report_of, removal}
use Rattle.dav_engine.specs.Reply.{Reply}
use Rattle.dav_engine.specs.Walked.{Walked, walked, StoppedIn}
use Rattle.dav_engine.proofs.CutPlans.{cut_in}
use Rattle.dav_engine.proofs.Following.{ran_at, follows_done, follows_ask, follows_then, follows_err, follows_up_to}
use Rattle.dav_engine.proofs.GuardLemmas.{follows_ok, follows_fails, guard_passed, guard_failed, guard_short, member_for}
use Rattle.dav_engine.proofs.LaterLemmas.{follows_keep, follows_look_from}

-- ---- the checks

-- what follows the conditions
abbrev checks : PathText → Caller → List (List ℕ) → MethodPlan (Unit {0})
checks p who tokens = require_member true true (requester who tokens) (names p) (dav.Status 423)

pub delete_short : {E : Type 0} (c : Conditions) (p : PathText) (who : Caller) (found : DavMetaData) (before : Option DavMetaData) (r : Result (Result (Vec (String Global)) ℕ) E) (e : E) {old new : StoreState} {ls : Locks}
    → before ≡ Some found → r ≡ Err e → Follows tokens_or_status (if_match_get_tokens Delete c before) old ls (or_memory r) new ls
    → Follows (λ (u : Unit {0}). u) (delete_allowed c p who found) old ls (Err dav.Memory) new ls
delete_short c p who found before r e same was one = guard_short dav.Status Delete c before (Some found) (checks p who) r e same was one

pub delete_failed : {E : Type 0} (c : Conditions) (p : PathText) (who : Caller) (found : DavMetaData) (before : Option DavMetaData) (r : Result (Result (Vec (String Global)) ℕ) E) (verdict : Result (Vec (String Global)) ℕ) (status : ℕ) {old new : StoreState} {ls : Locks}
    → before ≡ Some found → r ≡ Ok verdict → verdict ≡ Err status → Follows tokens_or_status (if_match_get_tokens Delete c before) old ls (or_memory r) new ls
    → Follows (λ (u : Unit {0}). u) (delete_allowed c p who found) old ls (Err (dav.Status status)) new ls
delete_failed c p who found before r verdict status same was is one = guard_failed dav.Status Delete c before (Some found) (checks p who) r verdict status same was is one

-- the conditions hold, and then the locks were checked
pub delete_checked : {E : Type 0} (c : Conditions) (p : PathText) (who : Caller) (found : DavMetaData) (before : Option DavMetaData) (r : Result (Result (Vec (String Global)) ℕ) E) (verdict : Result (Vec (String Global)) ℕ) (tokens : Vec (String Global))
    (lent : List (String Global)) (end : Result (Unit {0}) DavError) {old new : StoreState} {ls : Locks}
    → before ≡ Some found → r ≡ Ok verdict → verdict ≡ Ok tokens → Follows tokens_or_status (if_match_get_tokens Delete c before) old ls (or_memory r) new ls
    → lent ≡ tokens.items → FollowsOnLocks (λ (u : Unit {0}). u) (require_member true true (requester_of (map string_bytes lent) false who.principal) (names p) (dav.Status 423)) ls end ls
    → Follows (λ (u : Unit {0}). u) (delete_allowed c p who found) old ls end new ls
delete_checked c p who found before r verdict tokens lent end {new = new} same was is one tells done =
    guard_passed dav.Status Delete c before (Some found) (checks p who) r verdict tokens same was is one
    (member_for true true true tokens lent who.principal (names p) (dav.Status 423) refl tells done new)

-- what was followed with borrowed locks was followed with the locks themselves
pub held_locks : {L B Y : Type 0} {view : Y → B} (locks : L → List Lock) (lent : Option (Bor L)) (held : Option L) (plan : MethodPlan B) {old new : StoreState} {r : Result Y DavError}
    → option_copied lent ≡ held → Follows view plan old (locks_in locks lent) r new (locks_in locks lent) → Follows view plan old (option_map locks held) r new (option_map locks held)
held_locks {view = view} locks lent held plan {old} {new} {r} same one = subst (λ l. Follows view plan old (option_map locks l) r new (option_map locks l)) same one

-- ---- the removal

-- what follows the checks
abbrev removes : Bool → PathText → Caller → DavMetaData → Unit {0} → MethodPlan Reply
removes deep p who found _ = do
  faults ← removal deep who.moment p found.dir
  _ ← drop_if_gone p faults
  Done (delete_reply p faults)

-- the end of it
abbrev ends : PathText → List Fault → MethodPlan Reply
ends p faults = do
  _ ← drop_if_gone p faults
  Done (delete_reply p faults)

-- the checks ended in an error
pub found_refused : (deep : Bool) (c : Conditions) (p : PathText) (who : Caller) (found : DavMetaData) (e : DavError) {old new : StoreState} {ls : Locks}
    → Follows (λ (u : Unit {0}). u) (delete_allowed c p who found) old ls (Err e) new ls → Follows as_is (delete_found deep c p who found) old ls (Err e) new ls
found_refused deep c p who found e one = follows_err (removes deep p who found) e one

-- memory ran out in the removal
pub found_stopped : (deep : Bool) (c : Conditions) (p : PathText) (who : Caller) (found : DavMetaData) {old mid new : StoreState} {ls : Locks}
    → Follows (λ (u : Unit {0}). u) (delete_allowed c p who found) old ls (Ok tt) mid ls → StoppedIn (removal deep who.moment p found.dir) mid new
    → Follows as_is (delete_found deep c p who found) old ls (Err dav.Memory) new ls
found_stopped deep c p who found {ls = ls} one stop = follows_then (removes deep p who found) one (gave_up refl (cut_in (ends p) (stop ls) refl))

then_followed : {A : Type 0} {plan : MethodPlan A} (f : A → MethodPlan Reply) {a : A} {old mid new : StoreState} {ls ms : Locks} {r : Result Reply DavError}
    → Ran Asks plan old ls (Ok a) mid ls → Follows as_is (f a) mid ls r new ms → Follows as_is (plan >>= f) old ls r new ms
then_followed f {a = a} one more = follows_then {view = λ x. x} f (followed one) more

-- everything was removed
gone_by : (p : PathText) (ls : Locks) (faults : List Fault) (reply : Reply) {s : StoreState} → true ≡ is_empty faults → reply ≡ status_reply 204
    → Follows as_is (ends p faults) s ls (Ok reply) s (option_map (deleted (names p)) ls)
gone_by p None [] reply clean is = follows_look_from (follows_done (ap Ok is))
gone_by p (Some locks) [] reply clean is = follows_look_from (follows_keep (followed (ran_at (ap Ok is))))
gone_by p ls (f ∷ faults) reply clean is = absurd (cc)

pub found_gone : (deep : Bool) (c : Conditions) (p : PathText) (who : Caller) (found : DavMetaData) (reply : Reply) {old mid new : StoreState} {ls ms : Locks} {before after : List PathStatus}
    → Follows (λ (u : Unit {0}). u) (delete_allowed c p who found) old ls (Ok tt) mid ls → Walked report_of is_empty (removal deep who.moment p found.dir) mid before after true new
    → ms ≡ option_map (deleted (names p)) ls → reply ≡ status_reply 204 → Follows as_is (delete_found deep c p who found) old ls (Ok reply) new ms
found_gone deep c p who found reply {old} {new = new} {ls = ls} one (walked faults run is clean) dropped same =
    subst (λ ms. Follows as_is (delete_found deep c p who found) old ls (Ok reply) new ms) (sym dropped)
    (follows_then (removes deep p who found) one (then_followed (ends p) (run ls) (gone_by p ls faults reply clean same)))

-- something stays
answers : (outcome : Result Reply DavError) (r : Result Reply DavError) {s : StoreState} {ls : Locks} → IfOk r (λ reply. outcome ≡ Ok reply) → IfErr r (λ e. (e ≡ dav.Memory) ⊎ (outcome ≡ Err e))
    → Follows as_is (Done outcome) s ls r s ls
answers outcome (Ok reply) ok err = follows_done (sym ok)
answers outcome (Err e) {s} {ls} ok (inl memory) = subst (λ w. Follows as_is (Done outcome) s ls (Err w) s ls) (sym memory) follows_up_to
answers outcome (Err e) ok (inr is) = follows_done (sym is)

stays_by : (p : PathText) (faults : List Fault) (items : List PathStatus) (r : Result Reply DavError) {s : StoreState} {ls : Locks} → false ≡ is_empty faults → items ≡ map report_of faults
    → IfOk r (λ reply. multi_reply p items ≡ Ok reply) → IfErr r (λ e. (e ≡ dav.Memory) ⊎ (multi_reply p items ≡ Err e)) → Follows as_is (ends p faults) s ls r s ls
stays_by p [] items r dirty is ok err = absurd (cc)
stays_by p (f ∷ faults) items r {s} {ls} dirty is ok err = subst (λ o. Follows as_is (Done (multi_reply p o)) s ls r s ls) is (answers (multi_reply p items) r ok err)

pub found_stays : (deep : Bool) (c : Conditions) (p : PathText) (who : Caller) (found : DavMetaData) (items : List PathStatus) (r : Result Reply DavError) {old mid new : StoreState} {ls : Locks} {before after : List PathStatus}
    → Follows (λ (u : Unit {0}). u) (delete_allowed c p who found) old ls (Ok tt) mid ls → Walked report_of is_empty (removal deep who.moment p found.dir) mid before after false new
    → before ≡ [] → items ≡ after → IfOk r (λ reply. multi_reply p items ≡ Ok reply) → IfErr r (λ e. (e ≡ dav.Memory) ⊎ (multi_reply p items ≡ Err e))
    → Follows as_is (delete_found deep c p who found) old ls r new ls
found_stays deep c p who found items r {ls = ls} one (walked faults run is dirty) none same ok err =
    follows_then (removes deep p who found) one (then_followed (ends p) (run ls)
    (stays_by p faults items r dirty (same ∙ is ∙ ap (λ b. b ++ map report_of faults) none) ok err))

-- ---- the whole

-- what follows the depth, and then what was found
abbrev finds : Conditions → PathText → Caller → Bool → MethodPlan Reply
finds c p who deep = do
  found ← ask_for (Metadata (names p))
  delete_found deep c (closed found.dir p) who found

-- the depth is refused
pub depth_refused : (c : Conditions) (depth : Option Depth) (p : PathText) (who : Caller) (e : DavError) {s : StoreState} {ls : Locks}
    → whole_depth depth ≡ Err e → Follows as_is (deleting c depth p who) s ls (Err e) s ls
depth_refused c depth p who e is = follows_fails (whole_depth depth) e (finds c p who) is refl

-- the store doesn't report what is there
pub metadata_refused : (c : Conditions) (depth : Option Depth) (p : PathText) (who : Caller) (deep : Bool) (e : FsError) {old new : StoreState} {ls : Locks}
    → whole_depth depth ≡ Ok deep → Asks (Metadata (names p)) old (Err e) new → Follows as_is (deleting c depth p who) old ls (Err (dav.FsError e)) new ls
metadata_refused c depth p who deep e is one = follows_ok (whole_depth depth) deep (finds c p who) is (follows_ask one (follows_done refl))

-- memory ran out after it did
pub metadata_short : (c : Conditions) (depth : Option Depth) (p : PathText) (who : Caller) (deep : Bool) (found : DavMetaData) {old new : StoreState} {ls : Locks}
    → whole_depth depth ≡ Ok deep → Asks (Metadata (names p)) old (Ok found) new → Follows as_is (deleting c depth p who) old ls (Err dav.Memory) new ls
metadata_short c depth p who deep found is one = follows_ok (whole_depth depth) deep (finds c p who) is (follows_ask one follows_up_to)

-- what was found is removed, or not
pub was_found : (c : Conditions) (depth : Option Depth) (p q : PathText) (who : Caller) (deep : Bool) (found : DavMetaData) (r : Result Reply DavError) {old mid new : StoreState} {ls ms : Locks}
    → whole_depth depth ≡ Ok deep → Asks (Metadata (names p)) old (Ok found) mid → q ≡ closed found.dir p → Follows as_is (delete_found deep c q who found) mid ls r new ms
    → Follows as_is (deleting c depth p who) old ls r new ms
was_found c depth p q who deep found r {mid = mid} {new = new} {ls = ls} {ms = ms} is one path more =
    follows_ok (whole_depth depth) deep (finds c p who) is
    (follows_ask one (subst (λ o. Follows as_is (delete_found deep c o who found) mid ls r new ms) path more))

-- ---- the moment of a client

pub walked_for : {one who : Caller} (deep : Bool) (p : PathText) (dir : Bool) {old new : StoreState} {before after : List PathStatus} {clean : Bool}
    → one ≡ who → Walked report_of is_empty (removal deep one.moment p dir) old before after clean new → Walked report_of is_empty (removal deep who.moment p dir) old before after clean new
walked_for deep p dir {old} {new} {before} {after} {clean} same walk = subst (λ w. Walked report_of is_empty (removal deep w.moment p dir) old before after clean new) same walk

pub stopped_for : {one who : Caller} (deep : Bool) (p : PathText) (dir : Bool) {old new : StoreState}
    → one ≡ who → StoppedIn (removal deep one.moment p dir) old new → StoppedIn (removal deep who.moment p dir) old new
stopped_for deep p dir {old} {new} same stop = subst (λ w. StoppedIn (removal deep w.moment p dir) old new) same stop
