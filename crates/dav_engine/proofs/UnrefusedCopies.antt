-- A copy of which no call is refused copies all.
use Rattle.std.proofs.Common.{◌≡◌, ℕ, zero, suc, ◌+◌, ◌-◌, ◌^◌, ◌≤◌, if◌then◌else◌, Bool, true, false, List, [], ◌∷◌, ◌++◌, length, All, Result, Ok, Err, refl, sym, ap, subst, ◌∙◌, arith}
use Rattle.std.specs.Result.{is_ok}
use Rattle.std.proofs.lemmas.List.Elements.{All-nil, All-cons, All-head, All-tail, All-append}
use Rattle.dav_core.specs.declared.errors.FsError.{FsError}
use Rattle.dav_core.specs.declared.errors.FsError.TheVariants as fs
use Rattle.dav_core.specs.declared.errors.DavError.{DavError}
use Rattle.dav_core.specs.declared.fs.DavMetaData.{DavMetaData}
use Rattle.dav_core.specs.Asking.{Call, Answer, Metadata, ReadDir, EntryMetadata, CreateDir, Copy, StoreState}
use Rattle.dav_core.specs.CallLaws.{IsStorable}
use Rattle.dav_core.specs.Path.{PathText, names, are_equal}
use Rattle.dav_core.specs.World.{last_moment, IsWorld}
use Rattle.dav_engine.specs.Copied.{IsPlain}
use Rattle.dav_engine.specs.Copying.{CopyFault, CopyWalk, refused_at, faults_at_depth_0, copy_inside, copy_listed, copy_members, copy_seen, copy_kind, copy_looked, copy}
use Rattle.dav_engine.specs.CopyLaws.{AnswersAll, UnrefusedCopiesCopyAll}
use Rattle.dav_engine.specs.Folder.{child_of, room_at}
use Rattle.dav_engine.specs.Method.{MethodPlan, then as followed_by, ◌>>=◌, gives}
use Rattle.dav_engine.specs.Plan.{Plan, Ask, Done, Locks, Ran, ran_done, ran_ask}
use Rattle.dav_engine.proofs.CallWorlds.{asks_keep, asks_tell}
use Rattle.dav_engine.proofs.CopiedLemmas.{child_names, one_name, storable_more}
use Rattle.dav_engine.proofs.PlainLemmas.{plain_child}
use Rattle.dav_engine.proofs.RoomLemmas.{length_more}
use Rattle.dav_engine.proofs.WorldPlans.{ran_split}

-- ---- runs in parts

-- a run that begins with a call: its answer, and the rest
record First {A : Type 0} (c : Call) (go : Result (Answer c) FsError → Plan A) (old : StoreState) (ls : Locks) (a : A) (new : StoreState) (ms : Locks) : Type 0 where
  answer : Result (Answer c) FsError
  mid : StoreState
  one : AnswersAll c old answer mid
  more : Ran AnswersAll (go answer) mid ls a new ms

first : {A : Type 0} {c : Call} {go : Result (Answer c) FsError → Plan A} {old new : StoreState} {ls ms : Locks} {a : A} → Ran AnswersAll (Ask c go) old ls a new ms → First c go old ls a new ms
first (ran_ask {mid = mid} {answer = answer} one more) = record { answer = answer; mid = mid; one = one; more = more }

finish : {A : Type 0} {a b : A} {old new : StoreState} {ls ms : Locks} → Ran AnswersAll (Done a) old ls b new ms → (b ≡ a) × (new ≡ old)
finish ran_done = (refl, refl)

gave : {X : Type 0} {x y : X} {old new : StoreState} {ls ms : Locks} → Ran AnswersAll (gives x) old ls (Ok y) new ms → (y ≡ x) × (new ≡ old)
gave {x = x} {y = y} ran = let ends = finish ran in let is = ends.0 in let same : y ≡ x = cc in (same, ends.1)

record Parts {A B : Type 0} (plan : MethodPlan A) (f : A → MethodPlan B) (old : StoreState) (ls : Locks) (b : B) (new : StoreState) (ms : Locks) : Type 0 where
  value : A
  mid : StoreState
  ks : Locks
  one : Ran AnswersAll plan old ls (Ok value) mid ks
  more : Ran AnswersAll (f value) mid ks (Ok b) new ms

parts_by : {A B : Type 0} (plan : MethodPlan A) (f : A → MethodPlan B) {old mid new : StoreState} {ls ks ms : Locks} {b : B} (r : Result A DavError)
    → Ran AnswersAll plan old ls r mid ks → Ran AnswersAll (followed_by r f) mid ks (Ok b) new ms → Parts plan f old ls b new ms
parts_by plan f {mid = mid} {ks = ks} (Ok a) one more = record { value = a; mid = mid; ks = ks; one = one; more = more }
parts_by plan f (Err e) one more = let ends = finish more in let is = ends.0 in cc

parts : {A B : Type 0} (plan : MethodPlan A) (f : A → MethodPlan B) {old new : StoreState} {ls ms : Locks} {b : B} → Ran AnswersAll (plan >>= f) old ls (Ok b) new ms → Parts plan f old ls b new ms
parts plan f ran = let s = ran_split plan f ran in parts_by plan f s.outcome s.first s.rest

-- ---- the walk

module _ (limit now : ℕ) (small : now ≤ last_moment) where
  -- a path of so many names
  abbrev Long : CopyFault → Type 0
  Long f = limit ≤ length (names f.0)

  -- only such paths are reported, and the world stays one
  record Whole (faults : List CopyFault) (new : StoreState) : Type 0 where
    long : All Long faults
    world : IsWorld new.world

  -- a walk that copies all, where the paths may still get so many names
  abbrev Works : ℕ → CopyWalk → Type 0
  Works room walk =
      (s d : PathText) → IsPlain s → IsPlain d → IsStorable (names d) → limit ≤ room + length (names s)
      → (old new : StoreState) (ls ms : Locks) (faults : List CopyFault) → IsWorld old.world → Ran AnswersAll (walk s d) old ls (Ok faults) new ms → Whole faults new

  none_by : (faults : List CopyFault) (mid new : StoreState) → (faults ≡ []) × (new ≡ mid) → IsWorld mid.world → Whole faults new
  none_by faults mid new ends world = record { long = subst (All Long) (sym ends.0) (All-nil Long); world = subst (λ (st : StoreState). IsWorld st.world) (sym ends.1) world }

  module _ (room : ℕ) (walk : CopyWalk) (works : Works room walk) (s d : PathText) (plain : IsPlain s) (place : IsPlain d) (storable : IsStorable (names d)) (reach : limit ≤ suc room + length (names s)) where
    seen_by : (x : List ℕ) (es : List (List ℕ × Bool)) → IsStorable (x ∷ []) → (mid new : StoreState) (ls ms : Locks) (faults : List CopyFault) (answer : Result DavMetaData FsError) → is_ok answer ≡ true → IsWorld mid.world
        → ((from to : StoreState) (ks ns : Locks) (is : List CopyFault) → IsWorld from.world → Ran AnswersAll (copy_members walk s d es) from ks (Ok is) to ns → Whole is to)
        → Ran AnswersAll (copy_seen walk s d x (copy_members walk s d es) answer) mid ls (Ok faults) new ms → Whole faults new
    seen_by x es one mid new ls ms faults (Err e) ok world more ran = cc
    seen_by x es one mid new ls ms faults (Ok m) ok world more ran =
        let from : names (child_of s x m.dir) ≡ names s ++ x ∷ [] = child_names s x m.dir plain one in
        let to : names (child_of d x m.dir) ≡ names d ++ x ∷ [] = child_names d x m.dir place one in
        let count : length (names (child_of s x m.dir)) ≡ suc (length (names s)) = ap length from ∙ length_more (names s) x in
        let a = parts (walk (child_of s x m.dir) (child_of d x m.dir)) (λ faults. copy_members walk s d es >>= (λ more. gives (faults ++ more))) ran in
        let b = parts (copy_members walk s d es) (λ more. gives (a.value ++ more)) a.more in
        let inside = works (child_of s x m.dir) (child_of d x m.dir) (plain_child s x m.dir plain (one_name x one)) (plain_child d x m.dir place (one_name x one))
        (subst IsStorable (sym to) (storable_more (names d) x storable one)) (omega (arith, count, reach)) mid a.mid ls a.ks a.value world a.one in
        let others = more a.mid b.mid a.ks b.ks b.value inside.world b.one in
        let ends = gave b.more in
        record {
          long = subst (All Long) (sym ends.0) (All-append Long a.value b.value inside.long others.long);
          world = subst (λ (st : StoreState). IsWorld st.world) (sym ends.1) others.world;
        }

    copied_members : (entries : List (List ℕ × Bool)) → All (λ e. IsStorable (e.0 ∷ [])) entries → (old new : StoreState) (ls ms : Locks) (faults : List CopyFault) → IsWorld old.world
        → Ran AnswersAll (copy_members walk s d entries) old ls (Ok faults) new ms → Whole faults new
    copied_members [] all old new ls ms faults world ran = none_by faults old new (gave ran) world
    copied_members (e ∷ es) all old new ls ms faults world ran =
        let f = first {c = EntryMetadata (names s ++ e.0 ∷ [])} {go = λ seen. copy_seen walk s d e.0 (copy_members walk s d es) seen} ran in
        let kept = asks_keep {c = EntryMetadata (names s ++ e.0 ∷ [])} tt world f.one.0 in
        let others = All-tail (λ e. IsStorable (e.0 ∷ [])) e es all in
        seen_by e.0 es (All-head (λ e. IsStorable (e.0 ∷ [])) e es all) f.mid new ls ms faults f.answer f.one.1 kept.world
        (λ from to ks ns is there run. copied_members es others from to ks ns is there run) f.more

    listed_by : (old mid new : StoreState) (ls ms : Locks) (faults : List CopyFault) (answer : Result (List (List ℕ × Bool)) FsError) → IsWorld old.world → AnswersAll (ReadDir (names s)) old answer mid
        → Ran AnswersAll (copy_listed walk s d answer) mid ls (Ok faults) new ms → Whole faults new
    listed_by old mid new ls ms faults (Err e) world one ran = let ok = one.1 in cc
    listed_by old mid new ls ms faults (Ok entries) world one ran =
        let kept = asks_keep {c = ReadDir (names s)} tt world one.0 in
        copied_members entries (asks_tell world one.0) mid new ls ms faults kept.world ran

    made_by : (mid new : StoreState) (ls ms : Locks) (faults : List CopyFault) (made : Result (Unit {0}) FsError) → is_ok made ≡ true → IsWorld mid.world
        → Ran AnswersAll (copy_inside walk s d made) mid ls (Ok faults) new ms → Whole faults new
    made_by mid new ls ms faults (Err e) ok world ran = cc
    made_by mid new ls ms faults (Ok u) ok world ran =
        let f = first {c = ReadDir (names s)} {go = λ answer. copy_listed walk s d answer} ran in
        listed_by mid f.mid new ls ms faults f.answer world f.one f.more

    alone_by : (mid new : StoreState) (ls ms : Locks) (faults : List CopyFault) (made : Result (Unit {0}) FsError) → is_ok made ≡ true → IsWorld mid.world
        → Ran AnswersAll (gives (faults_at_depth_0 d made)) mid ls (Ok faults) new ms → Whole faults new
    alone_by mid new ls ms faults (Err e) ok world ran = cc
    alone_by mid new ls ms faults (Ok u) ok world ran = none_by faults mid new (gave ran) world

    file_by : (mid new : StoreState) (ls ms : Locks) (faults : List CopyFault) (made : Result (Unit {0}) FsError) → is_ok made ≡ true → IsWorld mid.world
        → Ran AnswersAll (gives (refused_at s made)) mid ls (Ok faults) new ms → Whole faults new
    file_by mid new ls ms faults (Err e) ok world ran = cc
    file_by mid new ls ms faults (Ok u) ok world ran = none_by faults mid new (gave ran) world

    kind_by : (deep dir : Bool) (old new : StoreState) (ls ms : Locks) (faults : List CopyFault) → IsWorld old.world
        → Ran AnswersAll (copy_kind deep dir walk now s d) old ls (Ok faults) new ms → Whole faults new
    kind_by true true old new ls ms faults world ran =
        let f = first {c = CreateDir (names d) now} {go = λ made. copy_inside walk s d made} ran in
        let kept = asks_keep {c = CreateDir (names d) now} (storable, small) world f.one.0 in
        made_by f.mid new ls ms faults f.answer f.one.1 kept.world f.more
    kind_by false true old new ls ms faults world ran =
        let f = first {c = CreateDir (names d) now} {go = λ made. gives (faults_at_depth_0 d made)} ran in
        let kept = asks_keep {c = CreateDir (names d) now} (storable, small) world f.one.0 in
        alone_by f.mid new ls ms faults f.answer f.one.1 kept.world f.more
    kind_by deep false old new ls ms faults world ran =
        let f = first {c = Copy (names s) (names d) now} {go = λ made. gives (refused_at s made)} ran in
        let kept = asks_keep {c = Copy (names s) (names d) now} (storable, small) world f.one.0 in
        file_by f.mid new ls ms faults f.answer f.one.1 kept.world f.more

    looked_by : (deep : Bool) (mid new : StoreState) (ls ms : Locks) (faults : List CopyFault) (answer : Result DavMetaData FsError) → is_ok answer ≡ true → IsWorld mid.world
        → Ran AnswersAll (copy_looked deep walk now s d answer) mid ls (Ok faults) new ms → Whole faults new
    looked_by deep mid new ls ms faults (Err e) ok world ran = cc
    looked_by deep mid new ls ms faults (Ok m) ok world ran = kind_by deep m.dir mid new ls ms faults world ran

    tested : (deep b : Bool) (old new : StoreState) (ls ms : Locks) (faults : List CopyFault) → IsWorld old.world
        → Ran AnswersAll (if b then gives [] else Ask (Metadata (names s)) (λ found. copy_looked deep walk now s d found)) old ls (Ok faults) new ms → Whole faults new
    tested deep true old new ls ms faults world ran = none_by faults old new (gave ran) world
    tested deep false old new ls ms faults world ran =
        let f = first {c = Metadata (names s)} {go = λ found. copy_looked deep walk now s d found} ran in
        let kept = asks_keep {c = Metadata (names s)} tt world f.one.0 in
        looked_by deep f.mid new ls ms faults f.answer f.one.1 kept.world f.more

  copied_by : (deep : Bool) (top : PathText) (room : ℕ) → Works room (λ s d. copy room deep now top s d)
  copied_by deep top zero s d plain place storable reach old new ls ms faults world ran =
      let ends = gave ran in
      record {
        long = subst (All Long) (sym ends.0) (All-cons Long (s, fs.PathTooLong) [] (omega (arith, reach)) (All-nil Long));
        world = subst (λ (st : StoreState). IsWorld st.world) (sym ends.1) world;
      }
  copied_by deep top (suc room) s d plain place storable reach old new ls ms faults world ran =
      tested room (λ a b. copy room deep now top a b) (λ a b. copied_by deep top room a b) s d plain place storable reach deep (are_equal s top) old new ls ms faults world ran

enough : (limit n : ℕ) → limit ≤ (limit - n) + n
enough limit n = omega arith

room_enough : (p : PathText) → 2 ^ 64 ≤ room_at p + length (names p)
unfolding room_at
room_enough p = enough (2 ^ 64) (length (names p))

pub unrefused_copies_copy_all : UnrefusedCopiesCopyAll
unrefused_copies_copy_all deep now s d old new ls ms faults world small plain place storable ran =
    let done = copied_by (2 ^ 64) now small deep d (room_at s) s d plain place storable (room_enough s) old new ls ms faults world ran in done.long
