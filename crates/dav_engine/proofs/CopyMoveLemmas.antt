-- How code follows a COPY or MOVE.
use Rattle.std.proofs.Common.{◌≡◌, ◌≢◌, ◌⊎◌, inl, inr, ℕ, ◌&&◌, ◌||◌, zero, suc, not, if◌then◌else◌, Bool, true, false, List, [], ◌∷◌, ◌++◌, map, string_bytes, String, Option, Some, None, Result, Ok, Err, refl, sym, ap, subst, ◌∙◌}
use Rattle.std.specs.Prelude.{IfOk, IfErr, ⊤}
use Rattle.std.specs.Global.{Vec, Global}
use Rattle.std.specs.List.{last_or}
use Rattle.std.specs.Option.{option_map, is_some, unwrap_or}
use Rattle.std.specs.Result.{is_ok, result_ok}
use Rattle.dav_core.specs.declared.errors.FsError.{FsError}
use Rattle.dav_core.specs.declared.errors.DavError.{DavError}
use Rattle.dav_core.specs.declared.errors.DavError.TheVariants as dav
use Rattle.dav_core.specs.declared.fs.DavMetaData.{DavMetaData}
use Rattle.dav_core.specs.declared.method.DavMethod.{DavMethod}
use Rattle.dav_core.specs.Asking.{Call, StoreState, Asks, Metadata, Rename}
use Rattle.dav_core.specs.Lists.{is_empty}
use Rattle.dav_core.specs.Locks.{Requester, deleted, requester_of}
use Rattle.dav_core.specs.Path.{Path, PathText, names, parent_of, is_at_or_under, star}
use Rattle.http_header.specs.FieldValue.{FieldValue}
use Rattle.dav_engine.specs.Caller.{Caller, requester}
use Rattle.dav_engine.specs.Conditions.{Conditions, if_match_get_tokens}
use Rattle.dav_engine.specs.ConditionView.{texts_of, tokens_or_status}
use Rattle.dav_engine.specs.Copied.{FollowsLater}
use Rattle.dav_engine.specs.Copying.{CopyFault, copy_report, last_refusal, CopyWalk, copy_seen, copy_members, copy_listed, copy_inside, copy_kind, copy_looked, copy, copying, renaming}
use Rattle.dav_engine.specs.CopyMove.{CopyHeaders, AreCopyHeaders, DestinationNames, is_move, copy_depth, destination_found, paths_free, folders_free, copy_free, copy_allowed, changes_members, is_replaced, clearing, drop_if, drop_if_moved, copied_status, copy_reply, transfer_reply, transfer_if_cleared, copy_found, copy_or_move}
use Rattle.dav_engine.specs.Folder.{closed, room_at, is_folder_found}
use Rattle.dav_engine.specs.Follows.{as_is, Follows, FollowsFrom, followed, gave_up, FollowsOnStore, FollowsOnLocks, or_memory}
use Rattle.dav_engine.specs.Headers.{Headers}
use Rattle.dav_engine.specs.Method.{MethodPlan, ◌>>=◌, require, require_free, require_parent, is_open, answer_of, ask_for, gives}
use Rattle.dav_engine.specs.Multistatus.{PathStatus, multi_reply, status_reply}
use Rattle.dav_engine.specs.Plan.{Done, Locks, Ran, refused_done}
use Rattle.dav_engine.specs.Removal.{Fault, report_of, removal}
use Rattle.dav_engine.specs.Reply.{Reply}
use Rattle.dav_engine.specs.Walked.{Walked, walked, Walks, StoppedIn}
use Rattle.dav_engine.proofs.CopyHeaderLemmas.{place_by, plain_other}
use Rattle.dav_engine.proofs.CutPlans.{cut_in}
use Rattle.dav_engine.proofs.Following.{ran_at, follows_done, follows_ask, follows_then, follows_err, follows_on, follows_out, follows_up_to}
use Rattle.dav_engine.proofs.GuardLemmas.{follows_ok, follows_fails, guard_passed, guard_failed, guard_short, free_goes, locked_out, ends_free, ends_locked}
use Rattle.dav_engine.proofs.LaterLemmas.{follows_keep, follows_look_from, follows_ask_from, follows_refused, follows_then_from, LeavesList, only_quits, cut_only}
use Rattle.dav_engine.proofs.RemovalLemmas.{none_walked}
use Rattle.dav_engine.proofs.WorldPlans.{Only, only_done, only_ask, only_bind}

-- ---- what is found at the destination

module _ (overwrite : Option Bool) (d : PathText) where
  abbrev with_there : Result DavMetaData FsError → MethodPlan (Option DavMetaData)
  with_there there = require (unwrap_or overwrite true || not (is_ok there)) (dav.Status 412) >>= (λ u. gives (result_ok there))

  abbrev with_folder : Unit {0} → MethodPlan (Option DavMetaData)
  with_folder u = answer_of (Metadata (names d)) >>= with_there

  abbrev Finds : StoreState → Result (Option DavMetaData) DavError → StoreState → Type 0
  Finds old r new = FollowsOnStore (as_is {A = Option DavMetaData}) (destination_found overwrite d) old r new

  pub parent_short : (s : StoreState) → Finds s (Err dav.Memory) s
  parent_short s ls = follows_up_to

  some_is : (r : Result DavMetaData FsError) → is_some (result_ok r) ≡ is_ok r
  some_is (Ok m) = refl
  some_is (Err e) = refl

  module _ (q : Path) (above : Result DavMetaData FsError) (seen : Option DavMetaData) {old mid : StoreState} (at : q ≡ parent_of (names d)) (one : Asks (Metadata q) old above mid) (is : seen ≡ result_ok above) where
    asked : Asks (Metadata (parent_of (names d))) old above mid
    asked = subst (λ (x : Path). Asks (Metadata x) old above mid) at one

    pub no_folder : (b : Bool) → b ≡ is_folder_found seen → b ≡ false → Finds old (Err (dav.Status 409)) mid
    no_folder b folder none ls =
        follows_ask asked (follows_out (is_folder_found (result_ok above)) (dav.Status 409) with_folder (ap is_folder_found (sym is) ∙ sym folder ∙ none) refl)

    module _ (b : Bool) (folder : b ≡ is_folder_found seen) (some : b ≡ true) (there : Result DavMetaData FsError) (found : Option DavMetaData) {new : StoreState} (two : Asks (Metadata (names d)) mid there new) (same : found ≡ result_ok there) (c : Bool) (may : c ≡ (unwrap_or overwrite true || not (is_some found))) where
      test_is : c ≡ (unwrap_or overwrite true || not (is_ok there))
      test_is = may ∙ ap (λ x. unwrap_or overwrite true || not x) (ap is_some same ∙ some_is there)

      behind : {r : Result (Option DavMetaData) DavError} {ls : Locks} → Follows (as_is {A = Option DavMetaData}) (with_there there) new ls r new ls → Follows (as_is {A = Option DavMetaData}) (destination_found overwrite d) old ls r new ls
      behind more = follows_ask asked (follows_on (is_folder_found (result_ok above)) (dav.Status 409) with_folder (ap is_folder_found (sym is) ∙ sym folder ∙ some) (follows_ask two more))

      pub is_kept : c ≡ false → Finds old (Err (dav.Status 412)) new
      is_kept shut ls = behind (follows_out (unwrap_or overwrite true || not (is_ok there)) (dav.Status 412) (λ u. gives (result_ok there)) (sym test_is ∙ shut) refl)

      pub is_there : c ≡ true → Finds old (Ok found) new
      is_there allowed ls = behind (follows_on (unwrap_or overwrite true || not (is_ok there)) (dav.Status 412) (λ u. gives (result_ok there)) (sym test_is ∙ allowed) (follows_done (ap Ok same)))

-- ---- conditions and locks

and_one : (a b : Bool) → (a && b) ≡ true → a ≡ true
and_one true b h = refl
and_one false b h = cc

and_two : (a b : Bool) → (a && b) ≡ true → b ≡ true
and_two true b h = h
and_two false b h = cc

abbrev checks : Bool → PathText → PathText → Caller → List (List ℕ) → MethodPlan (Unit {0})
checks moves p d who ts = paths_free moves who ts p d

abbrev open_at : Caller → List (List ℕ) → Locks → PathText → Bool
open_at who ts ls q = is_open true (requester who ts) (names q) ls

module _ (p d : PathText) (who : Caller) (ts : List (List ℕ)) (s : StoreState) (ls : Locks) where
  abbrev Checked : Bool → Result (Unit {0}) DavError → Type 0
  Checked moves r = Follows (λ (u : Unit {0}). u) (checks moves p d who ts) s ls r s ls

  last_free : open_at who ts ls d ≡ true → Follows (λ (u : Unit {0}). u) (require_free true (requester who ts) (names d) (dav.Status 423)) s ls (Ok tt) s ls
  last_free h = ends_free true (requester who ts) (names d) (dav.Status 423) (open_at who ts ls d) refl h refl

  last_locked : open_at who ts ls d ≡ false → Follows (λ (u : Unit {0}). u) (require_free true (requester who ts) (names d) (dav.Status 423)) s ls (Err (dav.Status 423)) s ls
  last_locked h = ends_locked true (requester who ts) (names d) (dav.Status 423) (open_at who ts ls d) refl h refl

  checked_free : (moves : Bool) → ((if moves then open_at who ts ls p else true) && open_at who ts ls d) ≡ true → Checked moves (Ok tt)
  checked_free false h = last_free h
  checked_free true h =
      free_goes true (requester who ts) (names p) (dav.Status 423) (λ u. require_free true (requester who ts) (names d) (dav.Status 423)) (open_at who ts ls p) refl
      (and_one (open_at who ts ls p) (open_at who ts ls d) h) (last_free (and_two (open_at who ts ls p) (open_at who ts ls d) h))

  locked_by : (b : Bool) → open_at who ts ls p ≡ b → (b && open_at who ts ls d) ≡ false → Checked true (Err (dav.Status 423))
  locked_by false is h = locked_out true (requester who ts) (names p) (dav.Status 423) (λ u. require_free true (requester who ts) (names d) (dav.Status 423)) (open_at who ts ls p) refl is refl
  locked_by true is h = free_goes true (requester who ts) (names p) (dav.Status 423) (λ u. require_free true (requester who ts) (names d) (dav.Status 423)) (open_at who ts ls p) refl is (last_locked h)

  checked_locked : (moves : Bool) → ((if moves then open_at who ts ls p else true) && open_at who ts ls d) ≡ false → Checked moves (Err (dav.Status 423))
  checked_locked false h = last_locked h
  checked_locked true h = locked_by (open_at who ts ls p) refl h

-- and the folders above

module _ (moves changes : Bool) (who : Requester) (p d : PathText) {ls : Locks} where
  pub folders_out : (e : DavError) → FollowsOnLocks (λ (u : Unit {0}). u) (require_parent moves who (names p) (dav.Status 423)) ls (Err e) ls → FollowsOnLocks (λ (u : Unit {0}). u) (folders_free moves changes who p d) ls (Err e) ls
  folders_out e one s = follows_err (λ _. require_parent changes who (names d) (dav.Status 423)) e (one s)

  pub folders_on : {r : Result (Unit {0}) DavError} → FollowsOnLocks (λ (u : Unit {0}). u) (require_parent moves who (names p) (dav.Status 423)) ls (Ok tt) ls
      → FollowsOnLocks (λ (u : Unit {0}). u) (require_parent changes who (names d) (dav.Status 423)) ls r ls → FollowsOnLocks (λ (u : Unit {0}). u) (folders_free moves changes who p d) ls r ls
  folders_on one two s = follows_then (λ _. require_parent changes who (names d) (dav.Status 423)) (one s) (two s)

folders_for : (moves kind changes wanted : Bool) (tokens : Vec (String Global)) (lent : List (String Global)) (principal : Option (List ℕ)) (p d : PathText) {ls : Locks} {r : Result (Unit {0}) DavError}
    → moves ≡ kind → changes ≡ wanted → lent ≡ tokens.items
    → FollowsOnLocks (λ (u : Unit {0}). u) (folders_free moves changes (requester_of (map string_bytes lent) false principal) p d) ls r ls
    → FollowsOnLocks (λ (u : Unit {0}). u) (folders_free kind wanted (requester_of (texts_of tokens) false principal) p d) ls r ls
folders_for moves kind changes wanted tokens lent principal p d {ls} {r} one two tells done =
    subst (λ m. FollowsOnLocks (λ (u : Unit {0}). u) (folders_free m wanted (requester_of (texts_of tokens) false principal) p d) ls r ls) one
    (subst (λ b. FollowsOnLocks (λ (u : Unit {0}). u) (folders_free moves b (requester_of (texts_of tokens) false principal) p d) ls r ls) two
    (subst (λ (l : List (String Global)). FollowsOnLocks (λ (u : Unit {0}). u) (folders_free moves changes (requester_of (map string_bytes l) false principal) p d) ls r ls) tells done))

module _ {E : Type 0} (m : DavMethod) (deep : Bool) (c : Conditions) (p d : PathText) (who : Caller) (found : DavMetaData) (there : Option DavMetaData) (before : Option DavMetaData) (r : Result (Result (Vec (String Global)) ℕ) E) {old new : StoreState} {ls : Locks}
    (same : before ≡ Some found) (one : Follows tokens_or_status (if_match_get_tokens m c before) old ls (or_memory r) new ls) where
  abbrev then_folders : List (List ℕ) → Unit {0} → MethodPlan (Unit {0})
  then_folders ts u = folders_free (is_move m) (changes_members (is_move m) deep there) (requester who ts) p d

  abbrev with_tokens : List (List ℕ) → MethodPlan (Unit {0})
  with_tokens ts = checks (is_move m) p d who ts >>= then_folders ts

  abbrev Judged : Result (Unit {0}) DavError → Type 0
  Judged o = Follows (λ (u : Unit {0}). u) (copy_free m deep c p d who found there) old ls o new ls

  pub free_short : (e : E) → r ≡ Err e → Judged (Err dav.Memory)
  free_short e was = guard_short dav.Status m c before (Some found) with_tokens r e same was one

  pub free_failed : (verdict : Result (Vec (String Global)) ℕ) (status : ℕ) → r ≡ Ok verdict → verdict ≡ Err status → Judged (Err (dav.Status status))
  free_failed verdict status was is = guard_failed dav.Status m c before (Some found) with_tokens r verdict status same was is one

  module _ (verdict : Result (Vec (String Global)) ℕ) (tokens : Vec (String Global)) (lent : List (String Global)) (moves b : Bool) (was : r ≡ Ok verdict) (is : verdict ≡ Ok tokens) (tells : lent ≡ tokens.items) (kind : moves ≡ is_move m)
      (looked : b ≡ ((if moves then is_open true (requester_of (map string_bytes lent) false who.principal) (names p) ls else true) && is_open true (requester_of (map string_bytes lent) false who.principal) (names d) ls)) where
    looked_is : b ≡ ((if is_move m then is_open true (requester who (texts_of tokens)) (names p) ls else true) && is_open true (requester who (texts_of tokens)) (names d) ls)
    looked_is =
        looked ∙ ap (λ (l : List (String Global)). (if moves then is_open true (requester_of (map string_bytes l) false who.principal) (names p) ls else true) && is_open true (requester_of (map string_bytes l) false who.principal) (names d) ls) tells
        ∙ ap (λ (k : Bool). (if k then is_open true (requester who (texts_of tokens)) (names p) ls else true) && is_open true (requester who (texts_of tokens)) (names d) ls) kind

    pub free_then : (changes : Bool) (seen : Option DavMetaData) (again : List (String Global)) (o : Result (Unit {0}) DavError) → changes ≡ changes_members moves deep seen → seen ≡ there → again ≡ tokens.items → b ≡ true
        → FollowsOnLocks (λ (u : Unit {0}). u) (folders_free moves changes (requester_of (map string_bytes again) false who.principal) p d) ls o ls → Judged o
    free_then changes seen again o wanted shown same_tokens freed done =
        let wants : changes ≡ changes_members (is_move m) deep there = wanted ∙ ap (λ k. changes_members k deep seen) kind ∙ ap (changes_members (is_move m) deep) shown in
        guard_passed dav.Status m c before (Some found) with_tokens r verdict tokens same was is one
        (follows_then (then_folders (texts_of tokens)) (checked_free p d who (texts_of tokens) new ls (is_move m) (sym looked_is ∙ freed))
        (folders_for moves (is_move m) changes (changes_members (is_move m) deep there) tokens again who.principal p d kind wants same_tokens done new))

    pub free_locked : b ≡ false → Judged (Err (dav.Status 423))
    free_locked shut =
        guard_passed dav.Status m c before (Some found) with_tokens r verdict tokens same was is one
        (follows_err (then_folders (texts_of tokens)) (dav.Status 423) (checked_locked p d who (texts_of tokens) new ls (is_move m) (sym looked_is ∙ shut)))

-- ---- all checks

not_false : {b : Bool} → b ≡ false → not b ≡ true
not_false h = ap not h

not_true : {b : Bool} → b ≡ true → not b ≡ false
not_true h = ap not h

module _ (m : DavMethod) (deep : Bool) (h : CopyHeaders) (p d : PathText) (who : Caller) (found : DavMetaData) where
  abbrev with_place : Option DavMetaData → MethodPlan (Option DavMetaData)
  with_place there = do
    _ ← require (not (is_at_or_under (names p) (names d))) (dav.Status 403)
    _ ← copy_free m deep h.conditions p d who found there
    gives there

  abbrev if_free : Option DavMetaData → Unit {0} → MethodPlan (Option DavMetaData)
  if_free there u = copy_free m deep h.conditions p d who found there >>= (λ v. gives there)

  abbrev Allows : StoreState → Locks → Result (Option DavMetaData) DavError → StoreState → Type 0
  Allows old ls r new = Follows (as_is {A = Option DavMetaData}) (copy_allowed m deep h p d who found) old ls r new ls

  pub allowed_nowhere : (e : DavError) {old new : StoreState} {ls : Locks} → FollowsOnStore (as_is {A = Option DavMetaData}) (destination_found h.overwrite d) old (Err e) new → Allows old ls (Err e) new
  allowed_nowhere e {ls = ls} one = follows_err with_place e (one ls)

  module _ (there : Option DavMetaData) (b : Bool) {old mid : StoreState} (one : FollowsOnStore (as_is {A = Option DavMetaData}) (destination_found h.overwrite d) old (Ok there) mid) (is : b ≡ is_at_or_under (names p) (names d)) where
    pub allowed_above : b ≡ true → {ls : Locks} → Allows old ls (Err (dav.Status 403)) mid
    allowed_above above {ls} = follows_then with_place (one ls) (follows_out (not (is_at_or_under (names p) (names d))) (dav.Status 403) (if_free there) (not_true (sym is ∙ above)) refl)

    module _ (apart : b ≡ false) {new : StoreState} {ls : Locks} where
      beyond : {r : Result (Option DavMetaData) DavError} → Follows (as_is {A = Option DavMetaData}) (if_free there tt) mid ls r new ls → Allows old ls r new
      beyond more = follows_then with_place (one ls) (follows_on (not (is_at_or_under (names p) (names d))) (dav.Status 403) (if_free there) (not_false (sym is ∙ apart)) more)

      pub allowed_unfree : (e : DavError) → Follows (λ (u : Unit {0}). u) (copy_free m deep h.conditions p d who found there) mid ls (Err e) new ls → Allows old ls (Err e) new
      allowed_unfree e two = beyond (follows_err (λ v. gives there) e two)

      pub allowed_free : Follows (λ (u : Unit {0}). u) (copy_free m deep h.conditions p d who found there) mid ls (Ok tt) new ls → Allows old ls (Ok there) new
      allowed_free two = beyond (follows_then (λ v. gives there) two (follows_done refl))

-- ---- what is at the destination is removed

module _ (deep : Bool) (now : ℕ) (d : PathText) (there : Option DavMetaData) (b : Bool) (is : b ≡ is_replaced deep there) where
  abbrev Clears : Bool → MethodPlan (List Fault)
  Clears c = if c then removal true now d (is_folder_found there) else gives []

  pub nothing_cleared : {s : StoreState} {before : List PathStatus} → b ≡ false → Walked report_of is_empty (clearing deep now d there) s before before true s
  nothing_cleared {s} {before} none = subst (λ c. Walked report_of is_empty (Clears c) s before before true s) (sym none ∙ is) (none_walked {X = Unit {0}} (λ u. gives []))

  pub all_cleared : {E : Type 0} {dir : Bool} (r : Result Bool E) (old new : StoreState) (before after : List PathStatus) → b ≡ true → dir ≡ is_folder_found there
      → Walks report_of is_empty (removal true now d dir) old before after r new → Walks report_of is_empty (clearing deep now d there) old before after r new
  all_cleared {dir = dir} r old new before after some kind one =
      subst (λ c. Walks report_of is_empty (Clears c) old before after r new) (sym some ∙ is) (subst (λ k. Walks report_of is_empty (removal true now d k) old before after r new) kind one)

-- ---- what is reported

-- where nothing was refused there is no fault, and else there is one
no_fault : (faults : List CopyFault) → None ≡ last_refusal faults → faults ≡ []
no_fault [] is = refl
no_fault (f ∷ faults) is = some_last f faults is where
  some_last : (f : CopyFault) (faults : List CopyFault) → None ≡ option_map (λ (x : CopyFault). x.1) (last_or (Some f) faults) → f ∷ faults ≡ []
  some_last f [] is = cc
  some_last f (g ∷ faults) is = absurd (let same = some_last g faults is in cc)

abbrev IsSome : {X : Type 0} → Option X → Type 0
IsSome o = is_some o ≡ true

-- the result of a reply that reports statuses
answers_from : {first : Locks} (outcome : Result Reply DavError) (r : Result Reply DavError) {s : StoreState} {ls : Locks} → IfOk r (λ reply. outcome ≡ Ok reply) → IfErr r (λ e. (e ≡ dav.Memory) ⊎ (outcome ≡ Err e))
    → FollowsFrom first as_is (Done outcome) s ls r s ls
answers_from outcome (Ok reply) ok err = followed (ran_at (sym ok))
answers_from {first} outcome (Err e) {s} {ls} ok (inl memory) = subst (λ w. FollowsFrom first as_is (Done outcome) s ls (Err w) s ls) (sym memory) (follows_refused refused_done)
answers_from outcome (Err e) ok (inr is) = followed (ran_at (sym is))

reported_from : {first : Locks} (p : PathText) (status : ℕ) (faults : List CopyFault) (items : List PathStatus) (r : Result Reply DavError) {s : StoreState} {ls : Locks} → is_some (last_refusal faults) ≡ true → items ≡ map copy_report faults
    → IfOk r (λ reply. multi_reply p items ≡ Ok reply) → IfErr r (λ e. (e ≡ dav.Memory) ⊎ (multi_reply p items ≡ Err e)) → FollowsFrom first as_is (Done (copy_reply p status faults)) s ls r s ls
reported_from p status [] items r some is ok err = cc
reported_from {first} p status (f ∷ faults) items r {s} {ls} some is ok err = subst (λ o. FollowsFrom first as_is (Done (multi_reply p o)) s ls r s ls) is (answers_from (multi_reply p items) r ok err)

-- ---- a move

module _ (deep : Bool) (now : ℕ) (p d : PathText) (status : ℕ) where
  abbrev with_moved : List CopyFault → MethodPlan (List CopyFault)
  with_moved faults = drop_if_moved p faults >>= (λ u. gives faults)

  abbrev replies : List CopyFault → MethodPlan Reply
  replies faults = Done (copy_reply p status faults)

  abbrev Moves : StoreState → Locks → Result Reply DavError → StoreState → Locks → Type 0
  Moves old ls r new ms = FollowsLater as_is (transfer_reply true deep now p d status) old ls r new ms

  went : {first : Locks} (faults : List CopyFault) {old new : StoreState} {ls ms : Locks} {r : Result Reply DavError}
      → Ran Asks (renaming now p d) old ls (Ok faults) new ls → FollowsFrom first (λ (x : List CopyFault). x) (with_moved faults) new ls (Ok faults) new ms → FollowsFrom first as_is (replies faults) new ms r new ms
      → FollowsFrom first as_is (transfer_reply true deep now p d status) old ls r new ms
  went faults run drop more = follows_then_from replies (follows_then_from {view = λ (x : List CopyFault). x} with_moved (followed run) drop) more

  drops : {first : Locks} (ls : Locks) {s : StoreState} → FollowsFrom first (λ (x : List CopyFault). x) (with_moved []) s ls (Ok []) s (option_map (deleted (names p)) ls)
  drops None = follows_look_from (followed (ran_at refl))
  drops (Some locks) = follows_look_from (follows_keep (followed (ran_at refl)))

  stays : {first : Locks} (faults : List CopyFault) {s : StoreState} {ls : Locks} → is_some (last_refusal faults) ≡ true → FollowsFrom first (λ (x : List CopyFault). x) (with_moved faults) s ls (Ok faults) s ls
  stays [] some = cc
  stays (f ∷ faults) some = followed (ran_at refl)

  -- all of it was moved
  pub move_done : (last : Option FsError) (reply : Reply) {old new : StoreState} {ls ms : Locks} {before after : List PathStatus}
      → is_some last ≡ false → Walked copy_report last_refusal (renaming now p d) old before after last new → ms ≡ option_map (deleted (names p)) ls → reply ≡ status_reply status → Moves old ls (Ok reply) new ms
  move_done last reply {old} {new} {ls} {ms} none (walked faults run is why) dropped same first =
      let empty : faults ≡ [] = no_fault faults (none_is last none ∙ why) in
      subst (λ ks. FollowsFrom first as_is (transfer_reply true deep now p d status) old ls (Ok reply) new ks) (sym dropped)
      (went [] (subst (λ (fs : List CopyFault). Ran Asks (renaming now p d) old ls (Ok fs) new ls) empty (run ls)) (drops ls) (followed (ran_at (ap Ok same)))) where
        none_is : {X : Type 0} (o : Option X) → is_some o ≡ false → None ≡ o
        none_is None h = refl
        none_is (Some x) h = cc

  -- it stays
  pub move_left : (last : Option FsError) (items : List PathStatus) (r : Result Reply DavError) {old new : StoreState} {ls : Locks} {before after : List PathStatus}
      → is_some last ≡ true → Walked copy_report last_refusal (renaming now p d) old before after last new → before ≡ [] → items ≡ after
      → IfOk r (λ reply. multi_reply p items ≡ Ok reply) → IfErr r (λ e. (e ≡ dav.Memory) ⊎ (multi_reply p items ≡ Err e)) → Moves old ls r new ls
  move_left last items r {ls = ls} some (walked faults run is why) none same ok err first =
      let fault : is_some (last_refusal faults) ≡ true = ap is_some (sym why) ∙ some in
      went faults (run ls) (stays faults fault) (reported_from p status faults items r fault (same ∙ is ∙ ap (λ b. b ++ map copy_report faults) none) ok err)

  -- memory ran out after the store refused it
  pub move_short : (e : FsError) {old new : StoreState} {ls : Locks} → Asks (Rename (names p) (names d) now) old (Err e) new → Moves old ls (Err dav.Memory) new ls
  move_short e one first = follows_ask_from one (follows_refused refused_done)

-- ---- a copy

abbrev pub AnyCall : Call → Type 0
AnyCall c = ⊤

only_copy_seen : (walk : CopyWalk) (s d : PathText) (name : List ℕ) (rest : MethodPlan (List CopyFault)) (seen : Result DavMetaData FsError) → ((a b : PathText) → Only AnyCall (walk a b)) → Only AnyCall rest → Only AnyCall (copy_seen walk s d name rest seen)
only_copy_seen walk s d name rest (Err e) more left = only_done
only_copy_seen walk s d name rest (Ok m) more left = only_bind _ _ (more _ _) (λ faults. only_bind rest _ left (λ others. only_done))

only_copy_members : (walk : CopyWalk) (s d : PathText) (entries : List (List ℕ × Bool)) → ((a b : PathText) → Only AnyCall (walk a b)) → Only AnyCall (copy_members walk s d entries)
only_copy_members walk s d [] more = only_done
only_copy_members walk s d (entry ∷ entries) more = only_ask tt (λ seen. only_copy_seen walk s d entry.0 (copy_members walk s d entries) seen more (only_copy_members walk s d entries more))

only_copy_listed : (walk : CopyWalk) (s d : PathText) (listed : Result (List (List ℕ × Bool)) FsError) → ((a b : PathText) → Only AnyCall (walk a b)) → Only AnyCall (copy_listed walk s d listed)
only_copy_listed walk s d (Err e) more = only_done
only_copy_listed walk s d (Ok entries) more = only_copy_members walk s d entries more

only_copy_inside : (walk : CopyWalk) (s d : PathText) (made : Result (Unit {0}) FsError) → ((a b : PathText) → Only AnyCall (walk a b)) → Only AnyCall (copy_inside walk s d made)
only_copy_inside walk s d (Err e) more = only_done
only_copy_inside walk s d (Ok u) more = only_ask tt (λ listed. only_copy_listed walk s d listed more)

only_copy_kind : (deep dir : Bool) (walk : CopyWalk) (now : ℕ) (s d : PathText) → ((a b : PathText) → Only AnyCall (walk a b)) → Only AnyCall (copy_kind deep dir walk now s d)
only_copy_kind true true walk now s d more = only_ask tt (λ made. only_copy_inside walk s d made more)
only_copy_kind false true walk now s d more = only_ask tt (λ made. only_done)
only_copy_kind deep false walk now s d more = only_ask tt (λ answer. only_done)

only_copy_looked : (deep : Bool) (walk : CopyWalk) (now : ℕ) (s d : PathText) (found : Result DavMetaData FsError) → ((a b : PathText) → Only AnyCall (walk a b)) → Only AnyCall (copy_looked deep walk now s d found)
only_copy_looked deep walk now s d (Err e) more = only_done
only_copy_looked deep walk now s d (Ok m) more = only_copy_kind deep m.dir walk now s d more

only_if : {A : Type 0} (b : Bool) (one other : MethodPlan A) → Only AnyCall one → Only AnyCall other → Only AnyCall (if b then one else other)
only_if true one other is is' = is
only_if false one other is is' = is'

-- a copy makes calls alone, and leaves the list of locks
pub only_copy : (room : ℕ) (deep : Bool) (now : ℕ) (top s d : PathText) → Only AnyCall (copy room deep now top s d)
only_copy zero deep now top s d = only_done
only_copy (suc room) deep now top s d =
    only_if _ _ _ only_done (only_ask tt (λ found. only_copy_looked deep (λ a b. copy room deep now top a b) now s d found (λ a b. only_copy room deep now top a b)))

module _ (deep : Bool) (now : ℕ) (p d : PathText) (status : ℕ) where
  abbrev CopiesTo : StoreState → Result Reply DavError → StoreState → Type 0
  CopiesTo old r new = (ls : Locks) → FollowsLater as_is (transfer_reply false deep now p d status) old ls r new ls

  pub copy_done : (last : Option FsError) (reply : Reply) {old new : StoreState} {before after : List PathStatus}
      → is_some last ≡ false → Walked copy_report last_refusal (copying deep now d p d) old before after last new → reply ≡ status_reply status → CopiesTo old (Ok reply) new
  copy_done last reply {old} {new} none (walked faults run is why) same ls first =
      let empty : faults ≡ [] = no_fault faults (none_is last none ∙ why) in
      follows_then_from {view = λ (x : List CopyFault). x} (replies deep now p d status) (followed (subst (λ (fs : List CopyFault). Ran Asks (copying deep now d p d) old ls (Ok fs) new ls) empty (run ls))) (followed (ran_at (ap Ok same))) where
        none_is : {X : Type 0} (o : Option X) → is_some o ≡ false → None ≡ o
        none_is None h = refl
        none_is (Some x) h = cc

  pub copy_left : (last : Option FsError) (items : List PathStatus) (r : Result Reply DavError) {old new : StoreState} {before after : List PathStatus}
      → is_some last ≡ true → Walked copy_report last_refusal (copying deep now d p d) old before after last new → before ≡ [] → items ≡ after
      → IfOk r (λ reply. multi_reply p items ≡ Ok reply) → IfErr r (λ e. (e ≡ dav.Memory) ⊎ (multi_reply p items ≡ Err e)) → CopiesTo old r new
  copy_left last items r some (walked faults run is why) none same ok err ls first =
      let fault : is_some (last_refusal faults) ≡ true = ap is_some (sym why) ∙ some in
      follows_then_from {view = λ (x : List CopyFault). x} (replies deep now p d status) (followed (run ls)) (reported_from p status faults items r fault (same ∙ is ∙ ap (λ b. b ++ map copy_report faults) none) ok err)

  leaves : (ls : Locks) → LeavesList (replies deep now p d status) ls
  leaves ls (Ok faults) = only_quits {P = AnyCall} ls only_done
  leaves ls (Err e) = only_quits {P = AnyCall} ls only_done

  pub copy_short : {old new : StoreState} → StoppedIn (copying deep now d p d) old new → CopiesTo old (Err dav.Memory) new
  copy_short stop ls first = gave_up refl (cut_only (replies deep now p d status) (only_copy (room_at p) deep now d p d) (leaves ls) (stop ls))

-- ---- both, behind the locks of what was replaced

module _ (moves deep : Bool) (now : ℕ) (p d : PathText) (there : Option DavMetaData) where
  abbrev with_locks : Unit {0} → MethodPlan Reply
  with_locks u = transfer_reply moves deep now p d (copied_status there)

  behind_drop : (b : Bool) (ls : Locks) {old new : StoreState} {ms : Locks} {r : Result Reply DavError}
      → FollowsFrom ls as_is (with_locks tt) old (if b then option_map (deleted (names d)) ls else ls) r new ms → FollowsFrom ls as_is (drop_if b d >>= with_locks) old ls r new ms
  behind_drop false ls more = more
  behind_drop true None more = follows_look_from more
  behind_drop true (Some locks) more = follows_look_from (follows_keep more)

  pub brings : (kind b : Bool) (status : ℕ) {old new : StoreState} {ls ks ms : Locks} {r : Result Reply DavError}
      → kind ≡ moves → b ≡ is_replaced deep there → ks ≡ (if b then option_map (deleted (names d)) ls else ls) → status ≡ copied_status there
      → FollowsLater as_is (transfer_reply kind deep now p d status) old ks r new ms → Follows as_is (transfer_if_cleared moves deep now p d there []) old ls r new ms
  brings kind b status {old} {new} {ls} {ks} {ms} {r} is replaced dropped same later =
      behind_drop (is_replaced deep there) ls
      (subst (λ (c : Bool). FollowsFrom ls as_is (with_locks tt) old (if c then option_map (deleted (names d)) ls else ls) r new ms) replaced
      (subst (λ x. FollowsFrom ls as_is (with_locks tt) old x r new ms) dropped
      (subst (λ n. FollowsFrom ls as_is (transfer_reply moves deep now p d n) old ks r new ms) same
      (subst (λ k. FollowsFrom ls as_is (transfer_reply k deep now p d status) old ks r new ms) is (later ls)))))

-- ---- what was found

module _ (m : DavMethod) (deep : Bool) (h : CopyHeaders) (p d : PathText) (who : Caller) (found : DavMetaData) where
  abbrev with_found : Option DavMetaData → MethodPlan Reply
  with_found there = do
    faults ← clearing deep who.moment d there
    transfer_if_cleared (is_move m) deep who.moment p d there faults

  abbrev if_clear : Option DavMetaData → List Fault → MethodPlan Reply
  if_clear there faults = transfer_if_cleared (is_move m) deep who.moment p d there faults

  abbrev Answers : StoreState → Locks → Result Reply DavError → StoreState → Locks → Type 0
  Answers old ls r new ms = Follows as_is (copy_found m deep h p d who found) old ls r new ms

  pub found_refused : (e : DavError) {old new : StoreState} {ls : Locks} → Allows m deep h p d who found old ls (Err e) new → Answers old ls (Err e) new ls
  found_refused e one = follows_err with_found e one

  module _ (there : Option DavMetaData) {old mid : StoreState} {ls : Locks} (one : Allows m deep h p d who found old ls (Ok there) mid) where
    pub found_stopped : {new : StoreState} → StoppedIn (clearing deep who.moment d there) mid new → Answers old ls (Err dav.Memory) new ls
    found_stopped stop = follows_then with_found one (gave_up refl (cut_in (if_clear there) (stop ls) refl))

    stays_by : (faults : List Fault) (items : List PathStatus) (r : Result Reply DavError) {s : StoreState} → false ≡ is_empty faults → items ≡ map report_of faults
        → IfOk r (λ reply. multi_reply p items ≡ Ok reply) → IfErr r (λ e. (e ≡ dav.Memory) ⊎ (multi_reply p items ≡ Err e)) → Follows as_is (if_clear there faults) s ls r s ls
    stays_by [] items r dirty is ok err = absurd (cc)
    stays_by (f ∷ faults) items r {s} dirty is ok err = subst (λ o. Follows as_is (Done (multi_reply p o)) s ls r s ls) is (answers_from (multi_reply p items) r ok err)

    -- something stays at the destination
    pub found_stays : (items : List PathStatus) (r : Result Reply DavError) {new : StoreState} {before after : List PathStatus}
        → Walked report_of is_empty (clearing deep who.moment d there) mid before after false new → before ≡ [] → items ≡ after
        → IfOk r (λ reply. multi_reply p items ≡ Ok reply) → IfErr r (λ e. (e ≡ dav.Memory) ⊎ (multi_reply p items ≡ Err e)) → Answers old ls r new ls
    found_stays items r (walked faults run is dirty) none same ok err =
        follows_then with_found one (follows_then {view = λ (x : List Fault). x} (if_clear there) (followed (run ls)) (stays_by faults items r dirty (same ∙ is ∙ ap (λ b. b ++ map report_of faults) none) ok err))

    clear_by : (faults : List Fault) (moves : Bool) (now : ℕ) {s new : StoreState} {ms : Locks} {r : Result Reply DavError} → true ≡ is_empty faults → moves ≡ is_move m → now ≡ who.moment
        → Follows as_is (transfer_if_cleared moves deep now p d there []) s ls r new ms → Follows as_is (if_clear there faults) s ls r new ms
    clear_by [] moves now {s} {new} {ms} {r} clean kind same more =
        subst (λ n. Follows as_is (transfer_if_cleared (is_move m) deep n p d there []) s ls r new ms) same (subst (λ k. Follows as_is (transfer_if_cleared k deep now p d there []) s ls r new ms) kind more)
    clear_by (f ∷ faults) moves now clean kind same more = absurd (cc)

    -- the destination is clear
    pub found_clear : (moves : Bool) (now : ℕ) {mid' new : StoreState} {ms : Locks} {r : Result Reply DavError} {before after : List PathStatus}
        → Walked report_of is_empty (clearing deep who.moment d there) mid before after true mid' → moves ≡ is_move m → now ≡ who.moment
        → Follows as_is (transfer_if_cleared moves deep now p d there []) mid' ls r new ms → Answers old ls r new ms
    found_clear moves now (walked faults run is clean) kind same more =
        follows_then with_found one (follows_then {view = λ (x : List Fault). x} (if_clear there) (followed (run ls)) (clear_by faults moves now clean kind same more))

-- ---- the whole

module _ (m : DavMethod) (h : CopyHeaders) (p : PathText) (who : Caller) where
  abbrev to : Bool → PathText → MethodPlan Reply
  to deep d = do
    found ← ask_for (Metadata (names p))
    copy_found m deep h (closed found.dir p) d who found

  abbrev places : Bool → MethodPlan Reply
  places deep = Done h.destination >>= to deep

  abbrev Serves : StoreState → Locks → Result Reply DavError → StoreState → Locks → Type 0
  Serves old ls r new ms = Follows as_is (copy_or_move m h p who) old ls r new ms

  pub depth_refused : (e : DavError) {s : StoreState} {ls : Locks} → copy_depth (is_move m) h.depth ≡ Err e → Serves s ls (Err e) s ls
  depth_refused e is = follows_fails (copy_depth (is_move m) h.depth) e places is refl

  module _ (deep : Bool) (depth : copy_depth (is_move m) h.depth ≡ Ok deep) where
    pub nowhere : (e : DavError) {s : StoreState} {ls : Locks} → h.destination ≡ Err e → Serves s ls (Err e) s ls
    nowhere e is = follows_ok (copy_depth (is_move m) h.depth) deep places depth (follows_fails h.destination e (to deep) is refl)

    module _ (d : PathText) (named : h.destination ≡ Ok d) where
      headed : {old new : StoreState} {ls ms : Locks} {r : Result Reply DavError} → Follows as_is (to deep d) old ls r new ms → Serves old ls r new ms
      headed more = follows_ok (copy_depth (is_move m) h.depth) deep places depth (follows_ok h.destination d (to deep) named more)

      pub source_refused : (e : FsError) {old new : StoreState} {ls : Locks} → Asks (Metadata (names p)) old (Err e) new → Serves old ls (Err (dav.FsError e)) new ls
      source_refused e one = headed (follows_ask one (follows_done refl))

      pub source_short : (found : DavMetaData) {old new : StoreState} {ls : Locks} → Asks (Metadata (names p)) old (Ok found) new → Serves old ls (Err dav.Memory) new ls
      source_short found one = headed (follows_ask one follows_up_to)

      pub source_found : (q : PathText) (found : DavMetaData) (r : Result Reply DavError) {old mid new : StoreState} {ls ms : Locks}
          → Asks (Metadata (names p)) old (Ok found) mid → q ≡ closed found.dir p → Follows as_is (copy_found m deep h q d who found) mid ls r new ms → Serves old ls r new ms
      source_found q found r {mid = mid} {new = new} {ls = ls} {ms = ms} one path more =
          headed (follows_ask one (subst (λ (o : PathText). Follows as_is (copy_found m deep h o d who found) mid ls r new ms) path more))

-- ---- with equal arguments

pub clearing_walked : (deep : Bool) (now : ℕ) (d : PathText) {seen there : Option DavMetaData} {old new : StoreState} {before after : List PathStatus} {clean : Bool}
    → seen ≡ there → Walked report_of is_empty (clearing deep now d seen) old before after clean new → Walked report_of is_empty (clearing deep now d there) old before after clean new
clearing_walked deep now d {old = old} {new} {before} {after} {clean} is walk = subst (λ (o : Option DavMetaData). Walked report_of is_empty (clearing deep now d o) old before after clean new) is walk

pub clearing_stops : (deep : Bool) (now : ℕ) (d : PathText) {seen there : Option DavMetaData} {old new : StoreState} → seen ≡ there → StoppedIn (clearing deep now d seen) old new → StoppedIn (clearing deep now d there) old new
clearing_stops deep now d {old = old} {new} is stop = subst (λ (o : Option DavMetaData). StoppedIn (clearing deep now d o) old new) is stop

pub brings_as : (moves deep : Bool) (now : ℕ) (p d : PathText) {seen there : Option DavMetaData} {old new : StoreState} {ls ms : Locks} {r : Result Reply DavError}
    → seen ≡ there → Follows as_is (transfer_if_cleared moves deep now p d seen []) old ls r new ms → Follows as_is (transfer_if_cleared moves deep now p d there []) old ls r new ms
brings_as moves deep now p d {old = old} {new} {ls} {ms} {r} is more = subst (λ (o : Option DavMetaData). Follows as_is (transfer_if_cleared moves deep now p d o []) old ls r new ms) is more

-- what Destination names isn't the star path
pub destination_other : {h k : CopyHeaders} (d : PathText) → h ≡ k → h.destination ≡ Ok d → IfOk k.destination (λ q. q.bytes ≢ star) → d.bytes ≢ star
destination_other {h} {k} d same is other =
    subst (λ (r : Result PathText DavError). IfOk r (λ q. q.bytes ≢ star)) (sym (ap (λ (x : CopyHeaders). x.destination) same) ∙ is) other

any_other : {prefix : List ℕ} {values : List FieldValue} (r : Result PathText DavError) → DestinationNames prefix values r → IfOk r (λ q. q.bytes ≢ star)
any_other (Ok d) named = plain_other d (place_by d named refl).plain
any_other (Err e) named = tt

pub headers_other : {headers : Headers} {p : PathText} (h : CopyHeaders) → AreCopyHeaders headers p h → IfOk h.destination (λ q. q.bytes ≢ star)
headers_other h are = any_other h.destination are.destination
