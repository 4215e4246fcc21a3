-- What plans give where the store answers as one that holds a world; and which paths a removal and a copy report.
use Rattle.std.proofs.Common.{◌≡◌, ◌⊎◌, ◌<◌, ℕ, zero, suc, Bool, true, false, if◌then◌else◌, List, [], ◌∷◌, ◌++◌, All, Contains, None, Result, Ok, Err, inl, inr, refl, sym, ap, subst}
use Rattle.std.specs.Prelude.{IfOk}
use Rattle.std.proofs.lemmas.List.Elements.{All-nil, All-cons, All-head, All-tail, All-append, All-weaker, All-contains_itself, All-contains, Contains-push}
use Rattle.dav_core.specs.declared.errors.FsError.{FsError}
use Rattle.dav_core.specs.declared.errors.FsError.TheVariants as fs
use Rattle.dav_core.specs.declared.errors.DavError.{DavError}
use Rattle.dav_core.specs.declared.fs.DavMetaData.{DavMetaData}
use Rattle.dav_core.specs.Asking.{Call, Answer, StoreState, Asks, meaning, Metadata, ReadDir, EntryMetadata, CreateDir, RemoveDir, RemoveFile, Copy}
use Rattle.dav_core.specs.CallLaws.{IsProper, IsStorable}
use Rattle.dav_core.specs.Locks.{Lock}
use Rattle.dav_core.specs.Meaning.{Meaning}
use Rattle.dav_core.specs.Path.{Path, PathText, IsName, names, are_equal}
use Rattle.dav_core.specs.Status.{fs_status}
use Rattle.dav_core.specs.World.{World, IsWorld, is_missing, is_file, members}
use Rattle.dav_core.proofs.Theorems.{went_on, lists_what_stands}
use Rattle.dav_engine.specs.Copying.{CopyFault, CopyWalk, refused_at, faults_at_depth_0, copy_seen, copy_members, copy_listed, copy_inside, copy_kind, copy_looked, copy as copy_walk}
use Rattle.dav_engine.specs.Folder.{child_of, room_at}
use Rattle.dav_engine.specs.Method.{MethodPlan, then as followed_by, ◌>>=◌}
use Rattle.dav_engine.specs.Plan.{Done, Ask, Look, Keep, Locks, Ran, ran_done, ran_ask, ran_look, ran_keep}
use Rattle.dav_engine.specs.Removal.{Fault, Stays, StaysWhole, StaysWith, Walk, fault_path, refused_by, emptied_status, each, removal, remove, remove_emptied, remove_found, remove_listed, remove_member}
use Rattle.dav_engine.specs.WorldLaws.{MayTell, IsProperPlan, proper_done, proper_ask, proper_look, proper_keep}
use Rattle.dav_engine.proofs.Theorems.{Did, stays, means, did, proper_keeps}
use Rattle.dav_server.proofs.HrefLemmas.{Reached, reached_child}

-- ---- what a store that holds a world answers

stored_name : (p : Path) (name : List ℕ) → IsStorable (p ++ name ∷ []) → IsStorable (name ∷ [])
stored_name p name storable =
    let last = Contains-push p name in (
      All-cons IsName name [] (All-contains IsName (p ++ name ∷ []) name storable.0 last) (All-nil IsName),
      All-cons (All (λ b. b < 256)) name [] (All-contains (All (λ b. b < 256)) (p ++ name ∷ []) name storable.1 last) (All-nil (All (λ b. b < 256))),
    )

listed_name : (p : Path) (w : World) → IsWorld w → (e : List ℕ × Bool) → Contains (members p w.nodes) e → IsStorable (e.0 ∷ [])
listed_name p w world (name, dir) there =
    let (n, stands, kind) = (lists_what_stands p name dir w world).0 there in
    let sound = world.sound (p ++ name ∷ []) n stands in
    stored_name p name (sound.names, sound.bytes)

abbrev Storable : List ℕ × Bool → Type 0
Storable e = IsStorable (e.0 ∷ [])

all_listed : (p : Path) (w : World) → IsWorld w → All Storable (members p w.nodes)
all_listed p w world = All-weaker (Contains (members p w.nodes)) Storable (listed_name p w world) (members p w.nodes) (All-contains_itself (members p w.nodes))

answer_is : {A : Type 0} (a : A) (w : World) (r : A × World) → ◌≡◌ {A = Meaning A} (Ok (a, w)) (Ok r) → r.0 ≡ a
answer_is a w r h = let same : (a, w) ≡ r = cc in sym (ap (λ x. x.0) same)

tell_listed : (p : Path) (w new : World) (answer : Result (List (List ℕ × Bool)) FsError) → IsWorld w → Did (meaning (ReadDir p) w) w answer new → MayTell (ReadDir p) answer
unfolding meaning
tell_listed p w new answer world (stays e is same) = subst (MayTell (ReadDir p)) (sym is) tt
tell_listed p w new answer world (means r h is after) =
    let (some, more) = went_on (is_missing w p) fs.NotFound _ r h in
    let (folder, end) = went_on (is_file w p) fs.Forbidden _ r more in
    subst (MayTell (ReadDir p)) (sym is) (subst (All Storable) (sym (answer_is (members p w.nodes) w r end)) (all_listed p w world))

did_tell : (c : Call) (w new : World) (answer : Result (Answer c) FsError) → IsWorld w → Did (meaning c w) w answer new → MayTell c answer
did_tell (ReadDir p) w new answer world one = tell_listed p w new answer world one
did_tell _ w new answer world one = tt

asks_tell : (c : Call) (old new : StoreState) (answer : Result (Answer c) FsError) → IsWorld old.world → Asks c old answer new → MayTell c answer
asks_tell c old new answer world one = did_tell c old.world new.world answer world (did one)

-- one call that a caller may make
kept_by : (c : Call) (old new : StoreState) (answer : Result (Answer c) FsError) → IsProper c → IsWorld old.world → Asks c old answer new → IsWorld new.world
kept_by c old new answer proper world one =
    (proper_keeps {plan = Ask c (λ a. Done a)} {ls = None} {ms = None} {a = answer} (proper_ask proper (λ a may. proper_done)) world (ran_ask {c = c} {answer = answer} one ran_done)).world

-- ---- what plans give

-- Where the store answers so, whatever value the plan gives is such.
pub data Tells {A : Type 0} (P : A → Type 0) : MethodPlan A → Type 0 where
  tells_ok : {a : A} → P a → Tells P (Done (Ok a))
  tells_err : {e : DavError} → Tells P (Done (Err e))
  tells_ask : {c : Call} {go : Result (Answer c) FsError → MethodPlan A} → ((answer : Result (Answer c) FsError) → MayTell c answer → Tells P (go answer)) → Tells P (Ask c go)
  tells_look : {go : Locks → MethodPlan A} → ((ls : Locks) → Tells P (go ls)) → Tells P (Look go)
  tells_keep : {locks : List Lock} {rest : MethodPlan A} → Tells P rest → Tells P (Keep locks rest)

-- so is what a run of it gives, from a world on
pub tells_ran : {A : Type 0} {P : A → Type 0} {plan : MethodPlan A} {old new : StoreState} {ls ms : Locks} {outcome : Result A DavError}
    → Tells P plan → IsProperPlan plan → IsWorld old.world → Ran Asks plan old ls outcome new ms → IfOk outcome P
tells_ran (tells_ok p) proper world ran_done = p
tells_ran tells_err proper world ran_done = tt
tells_ran (tells_ask {c = c} more) (proper_ask is next) world (ran_ask {old = old} {mid = mid} {answer = answer} one rest) =
    let may = asks_tell c old mid answer world one in
    tells_ran (more answer may) (next answer may) (kept_by c old mid answer is world one) rest
tells_ran (tells_look more) (proper_look next) world (ran_look {ls = ls} rest) = tells_ran (more ls) (next ls) world rest
tells_ran (tells_keep more) (proper_keep next) world (ran_keep rest) = tells_ran more next world rest

pub tells_outcome : {A : Type 0} {P : A → Type 0} (r : Result A DavError) → IfOk r P → Tells P (Done r)
tells_outcome (Ok a) is = tells_ok is
tells_outcome (Err e) is = tells_err

pub tells_then : {A B : Type 0} {P : B → Type 0} (r : Result A DavError) (f : A → MethodPlan B) → ((a : A) → r ≡ Ok a → Tells P (f a)) → Tells P (followed_by r f)
tells_then (Ok a) f more = more a refl
tells_then (Err e) f more = tells_err

pub tells_bind : {A B : Type 0} {Q : A → Type 0} {P : B → Type 0} {plan : MethodPlan A} (f : A → MethodPlan B) → Tells Q plan → ((a : A) → Q a → Tells P (f a)) → Tells P (plan >>= f)
tells_bind f (tells_ok {a = a} q) more = more a q
tells_bind f tells_err more = tells_err
tells_bind f (tells_ask {c = c} next) more = tells_ask {c = c} (λ answer may. tells_bind f (next answer may) more)
tells_bind f (tells_look next) more = tells_look (λ ls. tells_bind f (next ls) more)
tells_bind f (tells_keep next) more = tells_keep (tells_bind f next more)

-- whatever the first part gives
pub tells_after : {A B : Type 0} {P : B → Type 0} (plan : MethodPlan A) (f : A → MethodPlan B) → ((a : A) → Tells P (f a)) → Tells P (plan >>= f)
tells_after (Done r) f more = tells_then r f (λ a is. more a)
tells_after (Ask c go) f more = tells_ask {c = c} (λ answer may. tells_after (go answer) f more)
tells_after (Look go) f more = tells_look (λ ls. tells_after (go ls) f more)
tells_after (Keep locks rest) f more = tells_keep (tells_after rest f more)

pub tells_either : {A : Type 0} {P : A → Type 0} (b : Bool) (one other : MethodPlan A) → Tells P one → Tells P other → Tells P (if b then one else other)
tells_either true one other is is' = is
tells_either false one other is is' = is'

-- ---- a removal

module _ (prefix : List ℕ) (top : Path) where
  -- a fault names a path at the top of the removal or below it
  abbrev pub Names : Fault → Type 0
  Names f = Reached prefix top (fault_path f)

  one_fault : (f : Fault) → Names f → All Names (f ∷ [])
  one_fault f at = All-cons Names f [] at (All-nil Names)

  refused_names : {A : Type 0} (fault : FsError → Fault) (r : Result A FsError) → ((e : FsError) → Names (fault e)) → All Names (refused_by fault r)
  refused_names fault (Ok a) all = All-nil Names
  refused_names fault (Err e) all = one_fault (fault e) (all e)

  module _ (walk : Walk) (walks : (q : PathText) (dir : Bool) → Reached prefix top q → Tells (All Names) (walk q dir)) where
    tells_found : (p : PathText) (name : List ℕ) (seen : Result DavMetaData FsError) → Reached prefix top p → IsStorable (name ∷ []) → Tells (All Names) (remove_found walk p name seen)
    tells_found p name (Ok m) at one = walks (child_of p name m.dir) m.dir (reached_child prefix top p name m.dir one at)
    tells_found p name (Err e) at one = tells_ok (one_fault (StaysWith p name (fs_status e)) at)

    tells_members : (p : PathText) (entries : List (List ℕ × Bool)) → Reached prefix top p → All Storable entries → Tells (All Names) (each (remove_member walk p) entries)
    tells_members p [] at all = tells_ok (All-nil Names)
    tells_members p (entry ∷ entries) at all =
        tells_ask {c = EntryMetadata (names p ++ entry.0 ∷ [])} (λ seen _.
        tells_bind _ (tells_found p entry.0 seen at (All-head Storable entry entries all)) (λ faults are.
        tells_bind _ (tells_members p entries at (All-tail Storable entry entries all)) (λ others too. tells_ok (All-append Names faults others are too))))

    tells_emptied : (now : ℕ) (p : PathText) (faults : List Fault) → Reached prefix top p → All Names faults → Tells (All Names) (remove_emptied now p faults)
    tells_emptied now p [] at are = tells_ask {c = RemoveDir (names p) now} (λ answer _. tells_ok (refused_names (λ e. Stays p (emptied_status e)) answer (λ e. at)))
    tells_emptied now p (f ∷ faults) at are = tells_ok are

    tells_listed : (now : ℕ) (p : PathText) (listed : Result (List (List ℕ × Bool)) FsError) → Reached prefix top p → MayTell (ReadDir (names p)) listed → Tells (All Names) (remove_listed walk now p listed)
    tells_listed now p (Err e) at may = tells_ok (one_fault (StaysWhole p (fs_status e)) at)
    tells_listed now p (Ok entries) at may = tells_bind _ (tells_members p entries at may) (λ faults are. tells_emptied now p faults at are)

  tells_remove : (room now : ℕ) (p : PathText) (dir : Bool) → Reached prefix top p → Tells (All Names) (remove room now p dir)
  tells_remove room now p false at = tells_ask {c = RemoveFile (names p) now} (λ answer _. tells_ok (refused_names (λ e. Stays p (fs_status e)) answer (λ e. at)))
  tells_remove zero now p true at = tells_ok (one_fault (StaysWhole p (fs_status fs.PathTooLong)) at)
  tells_remove (suc room) now p true at =
      tells_ask {c = ReadDir (names p)} (λ listed may. tells_listed (λ q dir. remove room now q dir) (λ q dir here. tells_remove room now q dir here) now p listed at may)

  pub tells_removal : (deep : Bool) (now : ℕ) (p : PathText) (dir : Bool) → Reached prefix top p → Tells (All Names) (removal deep now p dir)
  tells_removal true now p dir at = tells_remove (room_at p) now p dir at
  tells_removal false now p true at = tells_ask {c = RemoveDir (names p) now} (λ answer _. tells_ok (refused_names (λ e. StaysWhole p (fs_status e)) answer (λ e. at)))
  tells_removal false now p false at = tells_ask {c = RemoveFile (names p) now} (λ answer _. tells_ok (refused_names (λ e. Stays p (fs_status e)) answer (λ e. at)))

-- ---- a copy

module _ (prefix : List ℕ) (source place : Path) where
  -- a fault names a path at the source or below it, or at the place of the copy or below it
  abbrev pub Concerns : CopyFault → Type 0
  Concerns f = Reached prefix source f.0 ⊎ Reached prefix place f.0

  one_concern : (q : PathText) (e : FsError) → Reached prefix source q ⊎ Reached prefix place q → All Concerns ((q, e) ∷ [])
  one_concern q e at = All-cons Concerns (q, e) [] at (All-nil Concerns)

  pub refused_concerns : {A : Type 0} (q : PathText) (r : Result A FsError) → Reached prefix source q → All Concerns (refused_at q r)
  refused_concerns q (Ok a) at = All-nil Concerns
  refused_concerns q (Err e) at = one_concern q e (inl at)

  alone_concerns : (q : PathText) (r : Result (Unit {0}) FsError) → Reached prefix place q → All Concerns (faults_at_depth_0 q r)
  alone_concerns q (Ok made) at = All-nil Concerns
  alone_concerns q (Err fs.Exists) at = All-nil Concerns
  alone_concerns q (Err fs.NotImplemented) at = one_concern q fs.NotImplemented (inr at)
  alone_concerns q (Err fs.GeneralFailure) at = one_concern q fs.GeneralFailure (inr at)
  alone_concerns q (Err fs.NotFound) at = one_concern q fs.NotFound (inr at)
  alone_concerns q (Err fs.Forbidden) at = one_concern q fs.Forbidden (inr at)
  alone_concerns q (Err fs.InsufficientStorage) at = one_concern q fs.InsufficientStorage (inr at)
  alone_concerns q (Err fs.LoopDetected) at = one_concern q fs.LoopDetected (inr at)
  alone_concerns q (Err fs.PathTooLong) at = one_concern q fs.PathTooLong (inr at)
  alone_concerns q (Err fs.TooLarge) at = one_concern q fs.TooLarge (inr at)
  alone_concerns q (Err fs.IsRemote) at = one_concern q fs.IsRemote (inr at)

  module _ (walk : CopyWalk) (walks : (a b : PathText) → Reached prefix source a → Reached prefix place b → Tells (All Concerns) (walk a b)) where
    tells_copy_seen : (s d : PathText) (name : List ℕ) (rest : MethodPlan (List CopyFault)) (seen : Result DavMetaData FsError) → Reached prefix source s → Reached prefix place d → IsStorable (name ∷ []) → Tells (All Concerns) rest
        → Tells (All Concerns) (copy_seen walk s d name rest seen)
    tells_copy_seen s d name rest (Err e) from to one more = tells_ok (one_concern s e (inl from))
    tells_copy_seen s d name rest (Ok m) from to one more =
        tells_bind _ (walks (child_of s name m.dir) (child_of d name m.dir) (reached_child prefix source s name m.dir one from) (reached_child prefix place d name m.dir one to)) (λ faults are.
        tells_bind _ more (λ others too. tells_ok (All-append Concerns faults others are too)))

    tells_copy_members : (s d : PathText) (entries : List (List ℕ × Bool)) → Reached prefix source s → Reached prefix place d → All Storable entries → Tells (All Concerns) (copy_members walk s d entries)
    tells_copy_members s d [] from to all = tells_ok (All-nil Concerns)
    tells_copy_members s d (entry ∷ entries) from to all =
        tells_ask {c = EntryMetadata (names s ++ entry.0 ∷ [])} (λ seen _.
        tells_copy_seen s d entry.0 (copy_members walk s d entries) seen from to (All-head Storable entry entries all) (tells_copy_members s d entries from to (All-tail Storable entry entries all)))

    tells_copy_listed : (s d : PathText) (listed : Result (List (List ℕ × Bool)) FsError) → Reached prefix source s → Reached prefix place d → MayTell (ReadDir (names s)) listed → Tells (All Concerns) (copy_listed walk s d listed)
    tells_copy_listed s d (Err e) from to may = tells_ok (one_concern s e (inl from))
    tells_copy_listed s d (Ok entries) from to may = tells_copy_members s d entries from to may

    tells_copy_inside : (s d : PathText) (made : Result (Unit {0}) FsError) → Reached prefix source s → Reached prefix place d → Tells (All Concerns) (copy_inside walk s d made)
    tells_copy_inside s d (Err e) from to = tells_ok (one_concern d e (inr to))
    tells_copy_inside s d (Ok made) from to = tells_ask {c = ReadDir (names s)} (λ listed may. tells_copy_listed s d listed from to may)

    tells_copy_kind : (deep dir : Bool) (now : ℕ) (s d : PathText) → Reached prefix source s → Reached prefix place d → Tells (All Concerns) (copy_kind deep dir walk now s d)
    tells_copy_kind true true now s d from to = tells_ask {c = CreateDir (names d) now} (λ made _. tells_copy_inside s d made from to)
    tells_copy_kind false true now s d from to = tells_ask {c = CreateDir (names d) now} (λ made _. tells_ok (alone_concerns d made to))
    tells_copy_kind deep false now s d from to = tells_ask {c = Copy (names s) (names d) now} (λ copied _. tells_ok (refused_concerns s copied from))

    tells_copy_looked : (deep : Bool) (now : ℕ) (s d : PathText) (found : Result DavMetaData FsError) → Reached prefix source s → Reached prefix place d → Tells (All Concerns) (copy_looked deep walk now s d found)
    tells_copy_looked deep now s d (Err e) from to = tells_ok (one_concern s e (inl from))
    tells_copy_looked deep now s d (Ok m) from to = tells_copy_kind deep m.dir now s d from to

  pub tells_copy : (room : ℕ) (deep : Bool) (now : ℕ) (target s d : PathText) → Reached prefix source s → Reached prefix place d → Tells (All Concerns) (copy_walk room deep now target s d)
  tells_copy zero deep now target s d from to = tells_ok (one_concern s fs.PathTooLong (inl from))
  tells_copy (suc room) deep now target s d from to =
      tells_either (are_equal s target) _ _ (tells_ok (All-nil Concerns))
      (tells_ask {c = Metadata (names s)} (λ found _. tells_copy_looked (λ a b. copy_walk room deep now target a b) (λ a b here there. tells_copy room deep now target a b here there) deep now s d found from to))
